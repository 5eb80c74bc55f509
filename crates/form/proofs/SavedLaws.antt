-- The claim of saving and loading, from the law of all forms, the laws of the table and those of a chip.
-- Assumes nothing.
use Prim.Native.Nat.{ℕ, suc, ◌+◌, ◌<◌, ◌≤◌}
use native.Mathlib.Nat.{add-zero}
use native.Mathlib.Omega.{arith}
use mathlib.Core.Path.{◌≡◌, refl, sym, ap, subst, ◌∙◌}
use mathlib.Core.Logic.{◌⊎◌, inl, inr, ⊎_elim, ◌↔◌}
use mathlib.Core.Bool.{true, false, not}
use mathlib.Core.List.{List, [], ◌∷◌, ◌++◌, append-nil, cons-ne-nil}
use mathlib.Core.Option.{some}
use borrow.Author.Tests.{eq-eqb, eqb-true, ne_eqb, le-ltb, lt-ltb, not-false}
use lib.Dec.{eqb, ltb}
use lib.ListN.{length, take, drop, get_or, take-append-drop}
use lib.Seq.{take_at, drop_at, drop-drop, get_or-append-add, length-take-le}
use Rattle.base.specs.Words.{pick}
use Rattle.base.proofs.Tests.{by_cases, yes, no, pick_case, pick_when, neither, neither_left, neither_right, true_false}
use Rattle.record.specs.declared.Act.{Act}
use Rattle.record.specs.Fresh.{fresh_events}
use Rattle.record.specs.Part.{is_part, size_of, id_size, boots_of}
use Rattle.record.specs.Registers.{event_at}
use Rattle.record.specs.World.{World}
use Rattle.refusals.specs.InRange.{InRange}
use Rattle.refusals.specs.Refusal.{wrong_length, setup_refusal, refusal_of}
use Rattle.refusals.proofs.TableLaws.{setup_passed, setup_passes, by_setup}
use Rattle.refusals.proofs.KeepLaws.{events_in, beside, in_range_beside}
use Rattle.refusals.proofs.RangeLaws.{in_range_lem, out_of_range_lem}
use Rattle.text.specs.Bytes.{bytes_of}
use Rattle.text.specs.Decimal.{text_within, decimal_text}
use Rattle.form.specs.Lines.{followed, numbers_text, line_text, lines_in, joined}
use Rattle.form.specs.Form.{Loaded, loaded, bad, load, taken, texts, Saves, Begins, FirstBad, LoadsRight}
use Rattle.form.specs.Table.{Row, part_in, chip_events, older_rows, event_rows, later_groups, in_groups, rows, evls_row, evhs_row, edges_row, since_row, debounce_row, row_text, text_from, zeros_after, rows_form, groups_form, chip_form}
use Rattle.form.specs.Chip.{event_numbers, numbers_of, world_of, IsChip, form_text, saved_text, older_text, Sound}
use Rattle.form.specs.Save.{saves, save_refusal, written, not_saved, Loading, loading, load_answer, loads}
use Rattle.form.specs.Claim.{stilled, still_lines, TextOf, today, older, Begun, Entire, BadAfter, Room, SavedRight}
use Rattle.form.proofs.FormLaws.{texts_none, loads_right, saved_lines}
use Rattle.form.proofs.TableLaws.{cut_row, cut_from, place_after, good_rest, rows_taken, rows_took, rows_texts, text_split, text_local, GroupLines, groups_taken, groups_given}
use Rattle.form.proofs.LiveLaws.{events_zero, chip_live}
use Rattle.form.proofs.FactLaws.{good_facts, place_older}
use Rattle.form.proofs.EventLaws.{still_in}
use Rattle.form.proofs.ChipLaws.{sound_numbers, chip_sound, chip_numbers, world_back, part_back, events_last, front, in_two, front_long}

right : LoadsRight chip_form
right = loads_right chip_form chip_live

-- where the event inputs begin, and that they are at 0
abbrev events : List Row
events = event_rows chip_events

abbrev pub place : List ℕ → ℕ
place ns = place_after older_rows 0 ns

abbrev pub zeros : List ℕ
zeros = 0 ∷ 0 ∷ 0 ∷ 0 ∷ 0 ∷ []

unfoldable pub Still : List ℕ → Type 0
Still ns = ns ≡ take (place ns) ns ++ zeros

zeros_are : (b : List ℕ) → zeros_after (in_groups later_groups) b ≡ zeros
unfolding zeros_after evls_row evhs_row edges_row since_row debounce_row
zeros_are b = refl

-- the lines of good numbers, as the form has them: today's, and those of the older form
event_cut : List ℕ → List (List ℕ)
event_cut ns = cut_from events (place ns) ns ++ []

cut : List ℕ → List (List ℕ)
cut ns = cut_from older_rows 0 ns ++ event_cut ns

older_cut : List ℕ → List (List ℕ)
older_cut ns = cut_from older_rows 0 ns ++ []

-- which of them some lines are
data Lines (ls : List (List ℕ)) (ns : List ℕ) : Type 0 where
  now : ls ≡ cut ns → Lines ls ns
  early : Still ns → ls ≡ older_cut ns → Lines ls ns

-- lines behind those of the older form
behind_taken :
    (ns : List ℕ) (ls : List (List ℕ)) → IsChip ns → GroupLines later_groups (place ns) ns ls → taken chip_form (cut_from older_rows 0 ns ++ ls) ≡ some ns
unfolding chip_form rows
behind_taken ns ls g l =
    rows_taken (in_groups later_groups) (groups_form later_groups) older_rows 0 ns ls ns g
    (groups_taken later_groups (place ns) ns ls (good_rest older_rows (in_groups later_groups) 0 ns g) l)

today_lines : (ns : List ℕ) → GroupLines later_groups (place ns) ns (event_cut ns)
unfolding GroupLines event_cut cut_from cut_row evls_row
today_lines ns = inr (cons-ne-nil _ _, [], refl, refl)

which :
    (ls : List (List ℕ)) (ns : List ℕ) (after : List (List ℕ)) → ls ≡ cut_from older_rows 0 ns ++ after → GroupLines later_groups (place ns) ns after → Lines ls ns
unfolding GroupLines cut event_cut older_cut Still
which ls ns after c l =
    ⊎_elim
    (λ w. early (w.1 ∙ ap (λ (x : List ℕ). take (place ns) ns ++ x) (zeros_are (take (place ns) ns))) (c ∙ ap (λ (x : List (List ℕ)). cut_from older_rows 0 ns ++ x) w.0))
    (λ w. now (c ∙ ap (λ (x : List (List ℕ)). cut_from older_rows 0 ns ++ x) (w.2 ∙ ap (λ (x : List (List ℕ)). cut_from events (place ns) ns ++ x) w.3)))
    l

cut_taken : (ns : List ℕ) → IsChip ns → taken chip_form (cut ns) ≡ some ns
unfolding cut event_cut
cut_taken ns g = behind_taken ns (event_cut ns) g (today_lines ns)

older_taken : (ns : List ℕ) → IsChip ns → Still ns → taken chip_form (older_cut ns) ≡ some ns
unfolding older_cut Still GroupLines
older_taken ns g z = behind_taken ns [] g (inl (refl, z ∙ ap (λ (x : List ℕ). take (place ns) ns ++ x) (sym (zeros_are (take (place ns) ns)))))

older_joined : (ns : List ℕ) (ls : List (List ℕ)) → joined (texts chip_form (cut_from older_rows 0 ns ++ ls)) ≡ text_from older_rows 0 ns ++ joined (texts (rows_form events (groups_form []) (take (place ns) ns)) ls)
unfolding chip_form groups_form texts
older_joined ns ls = rows_texts older_rows (groups_form later_groups) 0 ns ls

cut_text : (ns : List ℕ) → joined (texts chip_form (cut ns)) ≡ form_text ns
unfolding cut event_cut form_text rows groups_form texts joined
cut_text ns =
    older_joined ns (event_cut ns)
    ∙ ap (λ (x : List ℕ). text_from older_rows 0 ns ++ x) (rows_texts events (groups_form []) (place ns) ns [] ∙ append-nil (text_from events (place ns) ns))
    ∙ sym (text_split older_rows events 0 ns)

older_text_lem : (ns : List ℕ) → joined (texts chip_form (older_cut ns)) ≡ text_from older_rows 0 ns
unfolding older_cut joined
older_text_lem ns =
    older_joined ns []
    ∙ ap (λ (x : List (List ℕ)). text_from older_rows 0 ns ++ joined x) (texts_none (rows_form events (groups_form []) (take (place ns) ns)))
    ∙ append-nil (text_from older_rows 0 ns)

-- what the form took are the lines of good numbers
record Numbers (ls : List (List ℕ)) (ns : List ℕ) : Type 0 where
  good : IsChip ns
  lines : Lines ls ns

given : (ls : List (List ℕ)) (ns : List ℕ) → taken chip_form ls ≡ some ns → Numbers ls ns
unfolding chip_form rows
given ls ns e =
    let o = rows_took older_rows (groups_form later_groups) [] ls ns e in
    let r = groups_given later_groups (events_zero chip_events) o.x o.after ns o.rest in
    let p : length o.x ≡ place ns = sym (o.place r.goes.more) ∙ ap place (sym r.goes.whole) in
    let c : ls ≡ cut_from older_rows 0 ns ++ o.after = o.cut r.goes.more ∙ ap (λ (m : List ℕ). cut_from older_rows 0 m ++ o.after) (sym r.goes.whole) in
    record {
      good = (o.goes (in_groups later_groups) ns r.goes).good;
      lines = which ls ns o.after c (subst (λ (k : ℕ). GroupLines later_groups k ns o.after) p r.lines);
    }

-- The lines of today's text and of the older one.
module _ (ns : List ℕ) (g : IsChip ns) where
  cut_lines : lines_in (form_text ns) ≡ texts chip_form (cut ns)
  cut_lines = ap lines_in (sym (cut_text ns)) ∙ saved_lines chip_form chip_live (cut ns) ns (cut_taken ns g)

  older_lines_lem : Still ns → lines_in (text_from older_rows 0 ns) ≡ texts chip_form (older_cut ns)
  older_lines_lem z = ap lines_in (sym (older_text_lem ns)) ∙ saved_lines chip_form chip_live (older_cut ns) ns (older_taken ns g z)

  -- good numbers are loaded from their text
  pub text_loads : load chip_form (form_text ns) ≡ loaded ns
  text_loads = (right.value (form_text ns) ns).1 (record { numbers = cut ns; good = cut_taken ns g; bytes = sym (cut_text ns) })

  older_loads : Still ns → load chip_form (text_from older_rows 0 ns) ≡ loaded ns
  older_loads z = (right.value (text_from older_rows 0 ns) ns).1 (record { numbers = older_cut ns; good = older_taken ns g z; bytes = sym (older_text_lem ns) })

-- and a text from which numbers are loaded is theirs
pub data Text (ns text : List ℕ) : Type 0 where
  now : form_text ns ≡ text → Text ns text
  early : Still ns → text_from older_rows 0 ns ≡ text → Text ns text

pub loads_text : (text ns : List ℕ) → load chip_form text ≡ loaded ns → IsChip ns × Text ns text
loads_text text ns e =
    let s = (right.value text ns).0 e in
    let n = given s.numbers ns s.good in
    (n.good, of s.numbers s.bytes n.lines)
  where
    of : (ls : List (List ℕ)) → text ≡ joined (texts chip_form ls) → Lines ls ns → Text ns text
    of ls b (now l) = now (sym (cut_text ns) ∙ ap (λ (m : List (List ℕ)). joined (texts chip_form m)) (sym l) ∙ sym b)
    of ls b (early z l) = early z (sym (older_text_lem ns) ∙ ap (λ (m : List (List ℕ)). joined (texts chip_form m)) (sym l) ∙ sym b)

-- Event inputs at 0: of a list, and of its chip.
still_events : (ns : List ℕ) → IsChip ns → Still ns → (world_of ns).device.events ≡ fresh_events
unfolding world_of Still
still_events ns g z =
    let k = chip_events ns in
    let f = good_facts ns g in
    let p : take (place ns) ns ++ zeros ≡ take k ns ++ zeros = ap (λ (m : ℕ). take m ns ++ zeros) (place_older ns) in
    let l : length (take k ns) ≡ k = length-take-le k ns f.chip.reach in
    let at : (j : ℕ) → get_or ns (k + j) 0 ≡ get_or zeros j 0 =
    λ j. ap (λ (m : List ℕ). get_or m (k + j) 0) (z ∙ p) ∙ ap (λ (m : ℕ). get_or (take k ns ++ zeros) (m + j) 0) (sym l) ∙ get_or-append-add (take k ns) zeros j 0 in
    λ i.
    record {
      door = (ap (λ (m : ℕ). get_or ns m 0) (sym (add-zero k)) ∙ at 0) i;
      drum = at 1 i;
      edges = at 2 i;
      since = at 3 i;
      debounce = at 4 i;
    }

events_still : (ns : List ℕ) → IsChip ns → (world_of ns).device.events ≡ fresh_events → Still ns
unfolding world_of Still
events_still ns g e =
    let k = chip_events ns in
    let f = good_facts ns g in
    sym (take-append-drop k ns)
    ∙ ap (λ (x : List ℕ). take k ns ++ x) (sym (events_last ns k f.long) ∙ ap event_numbers e)
    ∙ ap (λ (m : ℕ). take m ns ++ zeros) (sym (place_older ns))

still_numbers : (part : ℕ) (w : World) → Sound part w → w.device.events ≡ fresh_events → Still (numbers_of part w)
still_numbers part w s e =
    events_still (numbers_of part w) (sound_numbers part w s) (ap (λ (v : World). v.device.events) (world_back part w s) ∙ e)

-- the texts of the chip of a list
text_of : (text ns : List ℕ) → IsChip ns → Text ns text → TextOf (part_in ns) (world_of ns) text
text_of text ns g (now e) = today (ap form_text (chip_numbers ns g) ∙ e)
text_of text ns g (early z e) = older (still_events ns g z) (ap (text_from older_rows 0) (chip_numbers ns g) ∙ e)

of_text : (part : ℕ) (w : World) (text : List ℕ) → Sound part w → TextOf part w text → load chip_form text ≡ loaded (numbers_of part w)
of_text part w text s (today e) = ap (load chip_form) (sym e) ∙ text_loads (numbers_of part w) (sound_numbers part w s)
of_text part w text s (older z e) =
    ap (load chip_form) (sym e) ∙ older_loads (numbers_of part w) (sound_numbers part w s) (still_numbers part w s z)

-- The words of the claim and those of the form.
entire : (ps : List (List ℕ)) → Saves chip_form ps → Entire ps
entire ps s =
    let ns = s.value in
    let n = given s.numbers ns s.good in
    of ns s.numbers n.good n.lines s.lines
  where
    of : (ns : List ℕ) (ls : List (List ℕ)) → IsChip ns → Lines ls ns → texts chip_form ls ≡ ps → Entire ps
    of ns ls g (now l) e =
        record {
          part = part_in ns;
          chip = world_of ns;
          in_range = chip_sound ns g;
          text = form_text ns;
          stands = text_of (form_text ns) ns g (now refl);
          lines = cut_lines ns g ∙ ap (texts chip_form) (sym l) ∙ e;
        }
    of ns ls g (early z l) e =
        record {
          part = part_in ns;
          chip = world_of ns;
          in_range = chip_sound ns g;
          text = text_from older_rows 0 ns;
          stands = text_of (text_from older_rows 0 ns) ns g (early z refl);
          lines = older_lines_lem ns g z ∙ ap (texts chip_form) (sym l) ∙ e;
        }

entirely : (ps : List (List ℕ)) → Entire ps → Saves chip_form ps
entirely ps e = of e.stands
  where
    ns : List ℕ
    ns = numbers_of e.part e.chip

    g : IsChip (numbers_of e.part e.chip)
    g = sound_numbers e.part e.chip e.in_range

    of : TextOf e.part e.chip e.text → Saves chip_form ps
    of (today t) = record { numbers = cut ns; value = ns; good = cut_taken ns g; lines = sym (cut_lines ns g) ∙ ap lines_in t ∙ e.lines }
    of (older z t) =
        let y = still_numbers e.part e.chip e.in_range z in
        record { numbers = older_cut ns; value = ns; good = older_taken ns g y; lines = sym (older_lines_lem ns g y) ∙ ap lines_in t ∙ e.lines }

begun : (ps : List (List ℕ)) → Begins chip_form ps → Begun ps
begun ps b =
    let e = entire (ps ++ b.rest) b.whole in
    record { part = e.part; chip = e.chip; in_range = e.in_range; text = e.text; stands = e.stands; rest = b.rest; lines = e.lines }

begins : (ps : List (List ℕ)) → Begun ps → Begins chip_form ps
begins ps b =
    record {
      rest = b.rest;
      whole = entirely (ps ++ b.rest) (record { part = b.part; chip = b.chip; in_range = b.in_range; text = b.text; stands = b.stands; lines = b.lines });
    }

bad_after : (ps : List (List ℕ)) (k : ℕ) → FirstBad chip_form ps k ↔ BadAfter ps k
bad_after ps k = (
  λ f.
      record {
        before = begun (take k ps) f.before;
        after = ⊎_elim (λ w. inl (w.0, λ b. w.1 (begins (take (suc k) ps) b))) (λ w. inr (w.0, λ e. w.1 (entirely ps e))) f.after;
      },
  λ f.
      record {
        before = begins (take k ps) f.before;
        after = ⊎_elim (λ w. inl (w.0, λ b. w.1 (begun (take (suc k) ps) b))) (λ w. inr (w.0, λ e. w.1 (entire ps e))) f.after;
      },
)

-- the lent memories fit, or not
fits : (part : ℕ) (v : World) → Room part v → wrong_length part (length v.eeprom) (length v.id) ≡ false
fits part v r = neither (ap not (eq-eqb (length v.eeprom) (size_of part) r.0)) (ap not (eq-eqb (length v.id) id_size r.1))

fits_not : (part : ℕ) (v : World) → wrong_length part (length v.eeprom) (length v.id) ≡ false → Room part v
fits_not part v e =
    let l = not (eqb (length v.eeprom) (size_of part)) in
    let m = not (eqb (length v.id) id_size) in (
      eqb-true (length v.eeprom) (size_of part) (not-false _ (neither_left l m e)),
      eqb-true (length v.id) id_size (not-false _ (neither_right l m e)),
    )

-- what an act would be refused for before it is looked at
abbrev suited_in : ℕ → World → ℕ
suited_in part w = setup_refusal part w.device (length w.eeprom) (length w.id)

sound_suited : (part : ℕ) (w : World) → Sound part w → suited_in part w ≡ 0
sound_suited part w s =
    setup_passes part w.device (length w.eeprom) (length w.id)
    (record { known = s.named; eeprom = s.shaped.eeprom; ids = s.shaped.id; ranged = out_of_range_lem part w.device s.range })

saved_there :
    (part : ℕ) (w : World) (room : List ℕ) → Sound part w → length (saved_text part w) ≤ length room → saves part w room ≡ written (saved_text part w) room
unfolding saves
saved_there part w room s h = simp (sound_suited part w s) (grind (arith, h))

cramped : (part : ℕ) (w : World) (room : List ℕ) → Sound part w → length room < length (saved_text part w) → saves part w room ≡ not_saved 8 room
unfolding saves
cramped part w room s h = rw (sound_suited part w s, lt-ltb (length room) (length (saved_text part w)) h)

unsaved :
    (part : ℕ) (w : World) (room : List ℕ) → ¬ ((is_part part ≡ true) × InRange part w.device × Room part w) → (act : Act) (n : ℕ)
    → saves part w room ≡ not_saved (refusal_of part act n w.device (length w.eeprom) (length w.id)) room
unfolding saves
unsaved part w room h act n =
    let not-suited : suited_in part w ≡ 0 → ⊥ =
    λ z.
    let s = setup_passed part w.device (length w.eeprom) (length w.id) z in
    h (s.known, in_range_lem part w.device s.ranged, (s.eeprom, s.ids)) in
    let e : eqb (suited_in part w) 0 ≡ false = ne_eqb (suited_in part w) 0 not-suited in
    let k : save_refusal part w (length room) ≡ suited_in part w =
    sym (no (pick (ltb (length room) (length (saved_text part w))) 8 0) (suited_in part w) e) in
    sym (no (written (saved_text part w) room) (not_saved (save_refusal part w (length room)) room) (ap (λ (m : ℕ). eqb m 0) k ∙ e))
    ∙ ap (λ (m : ℕ). not_saved m room) (k ∙ by_setup part act n w.device (length w.eeprom) (length w.id) not-suited)

-- a text that gives the numbers of a chip in range
chip_loaded :
    (part : ℕ) (w : World) → Sound part w → (text : List ℕ) → load chip_form text ≡ loaded (numbers_of part w) → (q : ℕ) (v : World) → Room part v
    → loads text q v ≡ loading 0 0 part w
unfolding loads
chip_loaded part w s text e q v r =
    let ns = numbers_of part w in
    let p = part_back part w s in
    ap (λ (l : Loaded (List ℕ)). load_answer l q v) e
    ∙ sym (no (loading 4 0 q v) (loading 0 0 (part_in ns) (world_of ns)) (ap (λ (n : ℕ). wrong_length n (length v.eeprom) (length v.id)) p ∙ fits part v r))
    ∙ (λ i. loading 0 0 (p i) (world_back part w s i))

loaded_back_lem : (part : ℕ) (w : World) → Sound part w → (q : ℕ) (v : World) → Room part v → loads (saved_text part w) q v ≡ loading 0 0 part w
loaded_back_lem part w s = chip_loaded part w s (saved_text part w) (text_loads (numbers_of part w) (sound_numbers part w s))

-- The chip with its event inputs at 0: it is in range, and has the same older text.
module _ (part : ℕ) (w : World) (s : Sound part w) where
  sound_stilled : Sound part (stilled w)
  sound_stilled =
      let z = s.shaped.sized in
      record {
        named = s.named;
        range = in_range_beside part w.device (stilled w).device s.range (beside w.device) (events_in (boots_of part) w.device s.range.clock fresh_events (still_in (get_or w.device.regs event_at 0)));
        shaped =
            record {
              sized = record { regs = z.regs; sram = z.sram; bytes = z.bytes; offsets = z.offsets; sram_bytes = z.sram_bytes; load_bytes = z.load_bytes };
              eeprom = s.shaped.eeprom;
              id = s.shaped.id;
              eeprom_bytes = s.shaped.eeprom_bytes;
              id_bytes = s.shaped.id_bytes;
            };
        carried = s.carried;
      }

  same_older : older_text part (stilled w) ≡ older_text part w
  unfolding numbers_of rows
  same_older =
      let ns = numbers_of part w in
      let p : take (place ns) ns ≡ front part w s =
      (λ i. take (place_older ns i) (in_two part w s (event_numbers w.device.events) i))
      ∙ take_at (front part w s) (event_numbers w.device.events) (chip_events ns) (front_long part w s) in
      ap (text_from older_rows 0) (in_two part w s zeros ∙ ap (λ (x : List ℕ). x ++ zeros) (sym p))
      ∙ text_local older_rows (in_groups later_groups) ns zeros (sound_numbers part w s)

  older_back_lem : (q : ℕ) (v : World) → Room part v → loads (older_text part w) q v ≡ loading 0 0 part (stilled w)
  older_back_lem =
      chip_loaded part (stilled w) sound_stilled (older_text part w)
      (of_text part (stilled w) (older_text part w) sound_stilled (older refl same_older))

  older_still_lem :
      (q : ℕ) (v : World) (part' : ℕ) (w' : World) → loads (older_text part w) q v ≡ loading 0 0 part' w' → w'.device.events ≡ fresh_events
  unfolding loads
  older_still_lem q v part' w' e =
      by_cases (wrong_length part (length v.eeprom) (length v.id))
      (λ t. absurd (let z = ap (λ (o : Loading). o.number) (sym (wrong t) ∙ e) in omega (arith, z)))
      (λ t. ap (λ (o : Loading). o.world.device.events) (sym e ∙ older_back_lem q v (fits_not part v t)))
    where
      wrong : wrong_length part (length v.eeprom) (length v.id) ≡ true → loads (older_text part w) q v ≡ loading 4 0 q v
      wrong t =
          let ns = numbers_of part (stilled w) in
          ap (λ (l : Loaded (List ℕ)). load_answer l q v) (of_text part (stilled w) (older_text part w) sound_stilled (older refl same_older))
          ∙ sym (yes (loading 4 0 q v) (loading 0 0 (part_in ns) (world_of ns)) (ap (λ (m : ℕ). wrong_length m (length v.eeprom) (length v.id)) (part_back part (stilled w) sound_stilled) ∙ t))

-- today's text of good numbers whose event inputs are at 0
still_lines_lem : (ns : List ℕ) → IsChip ns → Still ns → text_from events (place ns) ns ≡ still_lines
unfolding Still text_from row_text evls_row evhs_row edges_row since_row debounce_row line_text numbers_text followed decimal_text text_within
still_lines_lem ns g z =
    λ i.
    (line_text (bytes_of "evls") (at p 0 (sym (add-zero p)) i) ++ [])
    ++ ((line_text (bytes_of "evhs") (at (p + 1) 1 refl i) ++ [])
    ++ ((line_text (bytes_of "edges") (at (p + 1 + 1) 2 (on p) i) ++ [])
    ++ ((line_text (bytes_of "since") (at (p + 1 + 1 + 1) 3 (on_2 p) i) ++ [])
    ++ ((line_text (bytes_of "debounce") (at (p + 1 + 1 + 1 + 1) 4 (on_3 p) i) ++ []) ++ []))))
  where
    p : ℕ
    p = place ns

    on : (n : ℕ) → n + 1 + 1 ≡ n + 2
    on n = omega arith

    on_2 : (n : ℕ) → n + 1 + 1 + 1 ≡ n + 3
    on_2 n = omega arith

    on_3 : (n : ℕ) → n + 1 + 1 + 1 + 1 ≡ n + 4
    on_3 n = omega arith

    last : drop (place ns) ns ≡ zeros
    last =
        ap (drop (place ns)) z
        ∙ drop_at (take (place ns) ns) zeros (place ns)
        (length-take-le (place ns) ns (subst (λ (k : ℕ). k ≤ length ns) (sym (place_older ns)) (good_facts ns g).chip.reach))

    at : (m j : ℕ) → m ≡ place ns + j → take 1 (drop m ns) ≡ take 1 (drop j zeros)
    at m j e = ap (λ (k : ℕ). take 1 (drop k ns)) e ∙ ap (take 1) (sym (drop-drop j (place ns) ns) ∙ ap (drop j) last)

still_text : (ns : List ℕ) → IsChip ns → Still ns → form_text ns ≡ text_from older_rows 0 ns ++ still_lines
unfolding form_text rows
still_text ns g z = text_split older_rows events 0 ns ∙ ap (λ (x : List ℕ). text_from older_rows 0 ns ++ x) (still_lines_lem ns g z)

-- what a load is, by what the form gave
module _ (text : List ℕ) (q : ℕ) (v : World) where
  abbrev Back : Loading → Type 0
  Back a =
      a.number ≡ 0
      → Sound a.part a.world
      × ((saved_text a.part a.world ≡ text) ⊎ ((older_text a.part a.world ≡ text) × (saved_text a.part a.world ≡ text ++ still_lines)))

  again :
      (ns : List ℕ) → IsChip ns → Text ns text
      → (saved_text (part_in ns) (world_of ns) ≡ text) ⊎ ((older_text (part_in ns) (world_of ns) ≡ text) × (saved_text (part_in ns) (world_of ns) ≡ text ++ still_lines))
  again ns g (now e) = inl (ap form_text (chip_numbers ns g) ∙ e)
  again ns g (early z e) =
      inr (
        ap (text_from older_rows 0) (chip_numbers ns g) ∙ e,
        ap form_text (chip_numbers ns g) ∙ still_text ns g z ∙ ap (λ (t : List ℕ). t ++ still_lines) e,
      )

  back : (l : Loaded (List ℕ)) → load chip_form text ≡ l → Back (load_answer l q v)
  back (bad n) e = λ z. absurd (omega (arith, z))
  back (loaded ns) e =
      let t = loads_text text ns e in
      pick_when Back (wrong_length (part_in ns) (length v.eeprom) (length v.id)) (λ f z. absurd (omega (arith, z)))
      (λ f z. (chip_sound ns t.0, again ns t.0 t.1))

  refused_to : (l : Loaded (List ℕ)) (k : ℕ) → load chip_form text ≡ l → load_answer l q v ≡ loading 8 (suc k) q v → l ≡ bad (suc k)
  refused_to (bad n) k e a = ap (λ (o : Loading). bad o.line) a
  refused_to (loaded ns) k e a =
      absurd
      (pick_case (λ (o : Loading). o.number ≡ 8 → ⊥) (wrong_length (part_in ns) (length v.eeprom) (length v.id)) (λ z. omega arith) (λ z. omega arith)
      (ap (λ (o : Loading). o.number) a))

  refused_from : (k : ℕ) → load chip_form text ≡ bad (suc k) → loads text q v ≡ loading 8 (suc k) q v
  unfolding loads
  refused_from k e = ap (λ (l : Loaded (List ℕ)). load_answer l q v) e

  refused_exactly : (k : ℕ) → (loads text q v ≡ loading 8 (suc k) q v) ↔ BadAfter (lines_in text) k
  unfolding loads
  refused_exactly k = (
    λ a. (bad_after (lines_in text) k).0 ((right.refused text k).0 (refused_to (load chip_form text) k refl a)),
    λ b. refused_from k ((right.refused text k).1 ((bad_after (lines_in text) k).1 b)),
  )

  abbrev Misfit : Type 0
  Misfit = (part : ℕ) × (w : World) × Sound part w × TextOf part w text × ¬ Room part v

  misfit_to : (l : Loaded (List ℕ)) → load chip_form text ≡ l → load_answer l q v ≡ loading 4 0 q v → Misfit
  misfit_to (bad n) e a = absurd (let z = ap (λ (o : Loading). o.number) a in omega (arith, z))
  misfit_to (loaded ns) e a =
      let t = loads_text text ns e in
      by_cases (wrong_length (part_in ns) (length v.eeprom) (length v.id))
      (λ f. (
        part_in ns,
        world_of ns,
        chip_sound ns t.0,
        text_of text ns t.0 t.1,
        λ r. true_false f (fits (part_in ns) v r),
      ))
      (λ f.
      absurd
      (let z = ap (λ (o : Loading). o.number) (no (loading 4 0 q v) (loading 0 0 (part_in ns) (world_of ns)) f ∙ a) in omega (arith, z)))

  misfit_from : Misfit → loads text q v ≡ loading 4 0 q v
  unfolding loads
  misfit_from (part, w, s, e, n) =
      let ns = numbers_of part w in
      let p = part_back part w s in
      ap (λ (l : Loaded (List ℕ)). load_answer l q v) (of_text part w text s e)
      ∙ by_cases (wrong_length part (length v.eeprom) (length v.id))
      (λ t. sym (yes (loading 4 0 q v) (loading 0 0 (part_in ns) (world_of ns)) (ap (λ (m : ℕ). wrong_length m (length v.eeprom) (length v.id)) p ∙ t)))
      (λ f. absurd (n (fits_not part v f)))

once : (part : ℕ) (w : World) (part' : ℕ) (w' : World) → Sound part w → Sound part' w' → saved_text part w ≡ saved_text part' w' → (part ≡ part') × (w ≡ w')
once part w part' w' s s' e =
    let a = text_loads (numbers_of part w) (sound_numbers part w s) in
    let b = text_loads (numbers_of part' w') (sound_numbers part' w' s') in
    let m : numbers_of part w ≡ numbers_of part' w' = same_loaded (sym a ∙ ap (load chip_form) e ∙ b) in (
      sym (part_back part w s) ∙ ap part_in m ∙ part_back part' w' s',
      sym (world_back part w s) ∙ ap world_of m ∙ world_back part' w' s',
    )
  where
    numbers : Loaded (List ℕ) → List ℕ
    numbers (loaded ns) = ns
    numbers (bad n) = []

    same_loaded : {x y : List ℕ} → loaded x ≡ loaded y → x ≡ y
    same_loaded h = ap numbers h

pub saved_right : SavedRight
unfolding loads
saved_right =
    record {
      saved = saved_there;
      cramped = cramped;
      unsaved = unsaved;
      loaded_back = loaded_back_lem;
      older_back = older_back_lem;
      older_still = older_still_lem;
      saved_back = λ text q v. back text q v (load chip_form text) refl;
      refused = refused_exactly;
      misfit = λ text q v. (misfit_to text q v (load chip_form text) refl, misfit_from text q v);
      once = once;
    }
