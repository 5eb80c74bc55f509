-- Laws of what saving and loading answer, by the case that code is in.
-- Assumes nothing.
use mathlib.Core.Path.{◌≡◌, refl, sym, ap, subst, ◌∙◌}
use mathlib.Core.Logic.{◌≢◌}
use mathlib.Core.Bool.{Bool, true, false, not}
use mathlib.Core.List.{List, ◌∷◌, ◌++◌}
use Prim.Native.Nat.{ℕ, suc, ◌+◌, ◌<◌, ◌≤◌}
use native.Mathlib.Nat.{zero-add}
use native.Mathlib.Numerals.{add-one}
use native.Mathlib.Omega.{arith}
use borrow.Author.Tests.{eq-eqb, eqb-true, ne_eqb, lt-ltb, le-ltb, not-false}
use lib.Dec.{eqb, ltb}
use lib.ListN.{length, take, drop, length-append}
use lib.Seq.{sets-eq}
use Rattle.base.specs.Words.{pick, over}
use Rattle.base.proofs.Tests.{yes, no, neither_left, neither_right}
use Rattle.record.specs.declared.Device.{Device}
use Rattle.record.specs.Numbers.{stage_value}
use Rattle.record.specs.Part.{size_of, id_size}
use Rattle.record.specs.World.{World, world, Bytes, Sized}
use Rattle.record.proofs.PartLaws.{size_most}
use Rattle.std.specs.Prelude.{Result, Ok, Err}
use Rattle.std.specs.Result.{IsErrAnd}
use Rattle.refusals.specs.declared.Refusal.{Refusal}
use Rattle.refusals.specs.Refusal.{refusal_number, wrong_length, setup_refusal}
use Rattle.refusals.proofs.NumberLaws.{refusal_not_zero}
use Rattle.saved.specs.declared.SaveError.{SaveError}
use Rattle.saved.specs.declared.SaveError.TheVariants.{Refused}
use Rattle.saved.specs.Answer.{saving_of}
use Rattle.refusals.proofs.TableLaws.{Suited, setup_passed}
use Rattle.refusals.proofs.RangeLaws.{in_range_lem}
use Rattle.text.specs.Buffer.{Buffer, buffer, append}
use Rattle.form.specs.Form.{Loaded, loaded, bad, load}
use Rattle.form.specs.Table.{part_in, chip_events, chip_form}
use Rattle.text.proofs.BufferLaws.{put_place}
use Rattle.form.proofs.ChipLaws.{sound_numbers}
use Rattle.saved.proofs.KeyLaws.{put_first}
use Rattle.saved.proofs.SizeLaws.{text_long}
use Rattle.form.specs.Chip.{form_text, head_numbers, tail_numbers, event_numbers, numbers_of, device_from, world_of, IsChip, saved_text, Sound}
use Rattle.form.specs.Facts.{BytesFrom, RecordFacts, EventFacts}
use Rattle.form.specs.Save.{save_refusal, not_saved, written, saves, loading, load_answer, loads}
use Rattle.form.proofs.FactLaws.{good_facts}
use Rattle.form.proofs.SavedLaws.{loads_text}
use Rattle.numbers.specs.Tables.{number_limit}
use Rattle.numbers.proofs.ChipLaws.{reach}
use Rattle.record.specs.Fresh.{fresh}
use Rattle.saved.specs.Reading.{Reading, reading, Got, text_read, complete}
use Rattle.saved.proofs.ReadingLaws.{complete_at}
use Rattle.saved.specs.Place.{TextRead}
use Rattle.saved.proofs.RowLaws.{text_reads}

-- A chip that code holds and the table does not refuse is in range.
pub record Held (part : ℕ) (d : Device) (ee id : List ℕ) : Type 0 where
  pub passed : setup_refusal part d (length ee) (length id) ≡ 0
  pub sized : Sized d
  pub eeprom_bytes : Bytes ee
  pub id_bytes : Bytes id

module _ (part : ℕ) (d : Device) (ee id : List ℕ) (k : setup_refusal part d (length ee) (length id) ≡ 0) (s : Sized d) (be : Bytes ee) (bi : Bytes id) where
  suits : Suited part d (length ee) (length id)
  suits = setup_passed part d (length ee) (length id) k

  pub held_sound : stage_value d.frame.stage < 256 → Sound part (world d ee id)
  held_sound v =
      record {
        named = suits.known;
        range = in_range_lem part d suits.ranged;
        shaped = record { sized = s; eeprom = suits.eeprom; id = suits.ids; eeprom_bytes = be; id_bytes = bi };
        carried = v;
      }

  pub numbers_few : length (numbers_of part (world d ee id)) ≤ number_limit
  unfolding numbers_of
  numbers_few =
      few d.regs d.sram (head_numbers d) d.load.bytes (tail_numbers d.load d.cycle) ee id (event_numbers d.events) s.regs s.sram refl s.bytes refl
      suits.eeprom (size_most part) suits.ids refl
    where
      few :
          (r q h b t e i v : List ℕ) → length r ≡ 32 → length q ≡ 64 → length h ≡ 14 → length b ≡ 8 → length t ≡ 4 → length e ≡ size_of part → size_of part ≤ 256
          → length i ≡ 16 → length v ≡ 5 → length (part ∷ (r ++ (q ++ (h ++ (b ++ (t ++ (e ++ (i ++ v)))))))) ≤ 400
      few r q h b t e i v lr lq lh lb lt le ls li lv =
          omega (
            arith,
            lr,
            lq,
            lh,
            lb,
            lt,
            le,
            ls,
            li,
            lv,
            length-append r (q ++ (h ++ (b ++ (t ++ (e ++ (i ++ v)))))),
            length-append q (h ++ (b ++ (t ++ (e ++ (i ++ v))))),
            length-append h (b ++ (t ++ (e ++ (i ++ v)))),
            length-append b (t ++ (e ++ (i ++ v))),
            length-append t (e ++ (i ++ v)),
            length-append e (i ++ v),
            length-append i v,
          )

-- The list and the text that code puts of it, in its own buffers.
module _ (part : ℕ) (d : Device) (ee id : List ℕ) (h : Held part d ee id) where
  abbrev all : List ℕ
  all = numbers_of part (world d ee id)

  pub few_held : length all ≤ number_limit
  few_held = numbers_few part d ee id h.passed h.sized h.eeprom_bytes h.id_bytes

  pub list_put :
      (buf m x : List ℕ) (n : ℕ) → length buf ≡ number_limit → stage_value d.frame.stage < 256 → buffer m n ≡ append (buffer buf 0) all → x ≡ take n m
      → (x ≡ all) × IsChip x × (length (form_text x) ≤ 8000)
  list_put buf m x n l v e t =
      let g = sound_numbers part (world d ee id) (held_sound part d ee id h.passed h.sized h.eeprom_bytes h.id_bytes v) in
      let s : x ≡ all = t ∙ put_first buf m all n (room few_held l) e in
      (s, subst IsChip (sym s) g, subst (λ (y : List ℕ). length (form_text y) ≤ 8000) (sym s) (text_long all g))
    where
      room : {a b : ℕ} → a ≤ 400 → b ≡ 400 → 0 + a ≤ b
      room p q = omega (arith, p, q)

  pub text_put :
      (buf m x t : List ℕ) (n : ℕ) → length buf ≡ 8000 → (x ≡ all) × IsChip x × (length (form_text x) ≤ 8000) → buffer m n ≡ append (buffer buf 0) (form_text x)
      → t ≡ take n m → (n ≡ length (form_text all)) × (t ≡ form_text all)
  text_put buf m x t n l h e p =
      let s = ap form_text h.0 in (
        put_place (buffer buf 0) (form_text x) e ∙ zero-add (length (form_text x)) ∙ ap length s,
        p ∙ put_first buf m (form_text x) n (room h.2 l) e ∙ s,
      )
    where
      room : {a b : ℕ} → a ≤ 8000 → b ≡ 8000 → 0 + a ≤ b
      room p q = omega (arith, p, q)

-- What saving answers.
module _ (part : ℕ) (w : World) (room : List ℕ) where
  abbrev setup : ℕ
  setup = setup_refusal part w.device (length w.eeprom) (length w.id)

  pub save_refused : (k : ℕ) → k ≡ setup → k ≢ 0 → not_saved k room ≡ saves part w room
  unfolding saves
  save_refused k e h =
      let z : eqb setup 0 ≡ false = ne_eqb setup 0 (λ q. h (e ∙ q)) in
      let r : save_refusal part w (length room) ≡ setup = sym (no (pick (ltb (length room) (length (saved_text part w))) 8 0) setup z) in
      ap (λ (n : ℕ). not_saved n room) (e ∙ sym r)
      ∙ no (written (saved_text part w) room) (not_saved (save_refusal part w (length room)) room) (ap (λ (n : ℕ). eqb n 0) r ∙ z)

  module _ (z : setup ≡ 0) where
    fits_is : (t : Bool) → ltb (length room) (length (saved_text part w)) ≡ t → save_refusal part w (length room) ≡ pick t 8 0
    fits_is t e = sym (yes (pick (ltb (length room) (length (saved_text part w))) 8 0) setup (eq-eqb setup 0 z)) ∙ ap (λ (b : Bool). pick b 8 0) e

    pub save_short : (n : ℕ) → n ≡ length (saved_text part w) → length room < n → not_saved 8 room ≡ saves part w room
    unfolding saves
    save_short n e h =
        let r = fits_is true (lt-ltb (length room) (length (saved_text part w)) (subst (λ (c : ℕ). length room < c) e h)) in
        ap (λ (c : ℕ). not_saved c room) (sym r)
        ∙ no (written (saved_text part w) room) (not_saved (save_refusal part w (length room)) room) (ap (λ (c : ℕ). eqb c 0) r)

    pub save_done : length (saved_text part w) ≤ length room → written (saved_text part w) room ≡ saves part w room
    unfolding saves
    save_done h =
        let r = fits_is false (le-ltb (length room) (length (saved_text part w)) h) in
        yes (written (saved_text part w) room) (not_saved (save_refusal part w (length room)) room) (ap (λ (c : ℕ). eqb c 0) r)

-- what the refusal table answers, as `?` hands it on
pub save_denied :
    (part : ℕ) (w : World) (room : List ℕ) (k : Refusal) (r : Result ℕ SaveError) → IsErrAnd r (λ e. e ≡ Refused k)
    → refusal_number k ≡ setup_refusal part w.device (length w.eeprom) (length w.id) → saving_of r room ≡ saves part w room
save_denied part w room k (Ok n) h e = elim h [ ]
save_denied part w room k (Err x) h e = ap (λ (y : SaveError). saving_of (Err y) room) h ∙ save_refused part w room (refusal_number k) e (refusal_not_zero k)

-- a text put at the beginning of a room
pub put_over : (room m text : List ℕ) (at : ℕ) → 0 + length text ≤ length room → buffer m at ≡ append (buffer room 0) text → m ≡ over text room
unfolding append
put_over room m text at h e =
    ap (λ (o : Buffer). o.bytes) e ∙ sets-eq text room 0 h ∙ ap (λ (n : ℕ). text ++ drop n room) (zero-add (length text))

-- What loading answers: a bad line, and a text that was read.
pub load_stopped : (text : List ℕ) (part : ℕ) (w : World) (t : List ℕ) (n : ℕ) → reading t n true ≡ (text_read text).after → loading 8 (n + 1) part w ≡ loads text part w
unfolding loads complete
load_stopped text part w t n e =
    let g = text_reads text ∙ ap (λ (s : Reading). pick (complete s) (loaded (text_read text).numbers) (bad (suc s.lines))) (sym e) in
    sym (ap (λ (l : Loaded (List ℕ)). load_answer l part w) g ∙ ap (λ (k : ℕ). loading 8 k part w) (sym (add-one n)))

module _ (text : List ℕ) (part : ℕ) (w : World) (m : List ℕ) (at lines count : ℕ) (t : TextRead text m (reading (drop at text) lines false) count) where
  abbrev ns : List ℕ
  ns = take count m

  Gives : load chip_form text ≡ pick (complete (reading (drop at text) lines false)) (loaded ns) (bad (suc lines))
  Gives = text_reads text ∙ ap (λ (g : Got). pick (complete g.after) (loaded g.numbers) (bad (suc g.after.lines))) (sym t.whole)

  pub load_bad : at < length text → loading 8 (lines + 1) part w ≡ loads text part w
  unfolding loads
  load_bad h =
      let c : complete (reading (drop at text) lines false) ≡ false = complete_at text at lines false true (lt-ltb at (length text) h) in
      sym
      (ap (λ (l : Loaded (List ℕ)). load_answer l part w) (Gives ∙ sym (no (loaded ns) (bad (suc lines)) c))
      ∙ ap (λ (n : ℕ). loading 8 n part w) (sym (add-one lines)))

  module _ (h : length text ≤ at) where
    whole : load chip_form text ≡ loaded ns
    whole = Gives ∙ sym (yes (loaded ns) (bad (suc lines)) (complete_at text at lines false false (le-ltb at (length text) h)))

    pub chip_read : IsChip ns
    chip_read = (loads_text text ns whole).0

    pub record_read : RecordFacts ns
    record_read = (good_facts ns chip_read).chip.first

    pub events_read : (k : ℕ) → k ≡ chip_events ns → EventFacts k ns × (k + 5 ≤ length ns)
    events_read k e =
        let f = good_facts ns chip_read in
        (subst (λ (n : ℕ). EventFacts n ns) (sym e) f.events, room e f.long)
      where
        room : {a b n : ℕ} → a ≡ b → n ≡ b + 5 → a + 5 ≤ n
        room p q = omega (arith, p, q)

    pub load_misfit : wrong_length (part_in ns) (length w.eeprom) (length w.id) ≡ true → loading 4 0 part w ≡ loads text part w
    unfolding loads
    load_misfit e = sym (ap (λ (l : Loaded (List ℕ)). load_answer l part w) whole ∙ sym (yes (loading 4 0 part w) (loading 0 0 (part_in ns) (world_of ns)) e))

    module _ (e : wrong_length (part_in ns) (length w.eeprom) (length w.id) ≡ false) where
      abbrev l₁ : Bool
      l₁ = not (eqb (length w.eeprom) (size_of (part_in ns)))

      abbrev l₂ : Bool
      l₂ = not (eqb (length w.id) id_size)

      pub eeprom_long : length w.eeprom ≡ size_of (part_in ns)
      eeprom_long = eqb-true (length w.eeprom) (size_of (part_in ns)) (not-false _ (neither_left l₁ l₂ e))

      pub id_long : length w.id ≡ 16
      id_long = eqb-true (length w.id) id_size (not-false _ (neither_right l₁ l₂ e))

      pub eeprom_there : (123 + length w.eeprom ≤ length ns) × BytesFrom ns 123 (length w.eeprom)
      eeprom_there =
          let f = good_facts ns chip_read in
          (within f.chip.reach eeprom_long, subst (BytesFrom ns 123) (sym eeprom_long) f.chip.eeprom)
        where
          within : {n a s : ℕ} → 123 + s + 16 ≤ n → a ≡ s → 123 + a ≤ n
          within p q = omega (arith, p, q)

      pub id_there : (ee : ℕ) → ee ≡ length w.eeprom → (123 + ee + length w.id ≤ length ns) × BytesFrom ns (123 + ee) (length w.id)
      id_there ee q =
          let f = good_facts ns chip_read in
          let p : ee ≡ size_of (part_in ns) = q ∙ eeprom_long in (
            within f.chip.reach p id_long,
            subst (BytesFrom ns (123 + ee)) (sym id_long) (subst (λ (k : ℕ). BytesFrom ns (123 + k) 16) (sym p) f.chip.id),
          )
        where
          within : {n a s i : ℕ} → 123 + s + 16 ≤ n → a ≡ s → i ≡ 16 → 123 + a + i ≤ n
          within p q u = omega (arith, p, q, u)

      pub load_done :
          (ee id : List ℕ) (d : Device) (k : ℕ) → k ≡ length w.eeprom → ee ≡ take (length w.eeprom) (drop 123 ns)
          → id ≡ take (length w.id) (drop (123 + k) ns) → d ≡ device_from (chip_events ns) ns → loading 0 0 (part_in ns) (world d ee id) ≡ loads text part w
      unfolding loads world_of
      load_done ee id d k q ex ix dx =
          (λ z.
          loading 0 0 (part_in ns)
          (world (dx z) ((ex ∙ ap (λ (n : ℕ). take n (drop 123 ns)) eeprom_long) z)
          ((ix ∙ (λ y. take (id_long y) (drop (123 + (q ∙ eeprom_long) y) ns))) z)))
          ∙ sym (ap (λ (l : Loaded (List ℕ)). load_answer l part w) whole ∙ sym (no (loading 4 0 part w) (loading 0 0 (part_in ns) (world_of ns)) e))

-- What code knows of a list that a text gave, with the memories that are lent.
pub record ListRead (text l ee id : List ℕ) : Type 0 where
  pub some : 0 < length l
  pub facts : RecordFacts l
  pub events : (k : ℕ) → k ≡ chip_events l → EventFacts k l × (k + 5 ≤ length l)
  pub misfit : wrong_length (part_in l) (length ee) (length id) ≡ true → (part : ℕ) (d : Device) → loading 4 0 part (world d ee id) ≡ loads text part (world d ee id)
  pub eeprom : wrong_length (part_in l) (length ee) (length id) ≡ false → (123 + length ee ≤ length l) × BytesFrom l 123 (length ee)
  pub ids :
      wrong_length (part_in l) (length ee) (length id) ≡ false → (k : ℕ) → k ≡ length ee
      → (123 + k + length id ≤ length l) × BytesFrom l (123 + k) (length id)
  pub done :
      wrong_length (part_in l) (length ee) (length id) ≡ false → (ee' id' : List ℕ) (d' : Device) (k : ℕ) → k ≡ length ee → ee' ≡ take (length ee) (drop 123 l)
      → id' ≡ take (length id) (drop (123 + k) l) → d' ≡ device_from (chip_events l) l → (part : ℕ) (d : Device)
      → loading 0 0 (part_in l) (world d' ee' id') ≡ loads text part (world d ee id)

pub list_read :
    (text m : List ℕ) (at lines count : ℕ) → TextRead text m (reading (drop at text) lines false) count → length text ≤ at
    → (l ee id : List ℕ) → l ≡ take count m → ListRead text l ee id
list_read text m at lines count t h l ee id f =
    let w = world fresh ee id in
    subst (λ (y : List ℕ). ListRead text y ee id) (sym f)
    (record {
      some = past (reach _ (record_read text 0 w m at lines count t h));
      facts = record_read text 0 w m at lines count t h;
      events = events_read text 0 w m at lines count t h;
      misfit = λ e part d. load_misfit text part (world d ee id) m at lines count t h e;
      eeprom = λ e. eeprom_there text 0 w m at lines count t h e;
      ids = λ e. id_there text 0 w m at lines count t h e;
      done = λ e a b c k q x y z part d. load_done text part (world d ee id) m at lines count t h e a b c k q x y z;
    })
  where
    past : {n : ℕ} → 123 ≤ n → 0 < n
    past p = omega (arith, p)
