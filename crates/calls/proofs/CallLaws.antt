-- Laws of the calls, by the case that code is in.
-- Assumes nothing.
use mathlib.Core.Path.{◌≡◌, refl, sym, ap, ◌∙◌}
use mathlib.Core.Logic.{◌≢◌}
use mathlib.Core.Bool.{Bool, true, false, not}
use mathlib.Core.List.{List, [], ◌∷◌}
use Prim.Native.Nat.{ℕ, ◌%◌, ◌<◌, ◌≤◌}
use native.Mathlib.Omega.{arith}
use borrow.Author.Tests.{eq-eqb, ne_eqb, lt-ltb, le-ltb, leb-true, eqb-true, not-false}
use lib.Dec.{eqb, ltb, leb}
use lib.ListN.{length, replicate}
use Rattle.base.specs.Words.{pick}
use Rattle.base.proofs.Tests.{by_cases, true_false, yes, no, pick_when, row, both_right, neither_left, neither_right}
use Rattle.record.specs.declared.Act.{Act}
use Rattle.record.specs.declared.Device.{Device}
use Rattle.std.specs.Prelude.{None}
use Rattle.record.specs.Fresh.{fresh}
use Rattle.record.specs.Numbers.{act_count, act_of}
use Rattle.record.specs.Part.{is_part, size_of, id_size}
use Rattle.record.specs.World.{World, world}
use Rattle.refusals.specs.Range.{out_of_range}
use Rattle.refusals.specs.Refusal.{wrong_length, first_refusal, setup_refusal}
use Rattle.refusals.proofs.RangeLaws.{out_of_range_lem}
use Rattle.refusals.proofs.TableLaws.{Suited, setup_passes}
use Rattle.form.specs.Form.{Loaded, loaded, bad, load}
use Rattle.form.specs.Table.{part_in, chip_form}
use Rattle.form.specs.Chip.{device_of, is_record}
use Rattle.form.specs.Save.{Saving, saves, Loading, load_answer, loads}
use Rattle.form.specs.State.{array_numbers, state_bytes, is_state, state_of}
use Rattle.form.proofs.ChipLaws.{recorded_sound}
use Rattle.form.proofs.SavedLaws.{saved_right}
use Rattle.form.proofs.StateLaws.{low_at}
use Rattle.acts.specs.Act.{Outcome, performed}
use Rattle.arrays.specs.Arrays.{Arrays, arrays, arrays_of, part_of, arrays_refusal, state_refusal, answer_of, no_chip}
use Rattle.calls.specs.Calls.{Called, called, world_in, fresh_in, new_refusal, newly, told, no_act, acts, Wrote, wrote, wrote_of, saves_state, loaded_of, loads_state}
use Rattle.arrays.proofs.TestLaws.{state_short}

-- a part is a byte
part_byte : (part : ℕ) → is_part part ≡ true → part % 256 ≡ part
part_byte part t = low (leb-true part 4 (both_right (leb 1 part) (leb part 4) t))
  where
    low : part ≤ 4 → part % 256 ≡ part
    low h = omega (arith, h)

-- The rows that arrays which are not refused have passed.
module _ (part ee id k : ℕ) (there : Bool) (e : k ≡ arrays_refusal part ee id there) (z : k ≡ 0) where
  abbrev wrong : Bool
  wrong = wrong_length part ee id

  -- the rows that are left
  abbrev rest : Bool → ℕ
  rest t = first_refusal false t (not there) false false 0

  first_row : (not (is_part part) ≡ false) × (rest wrong ≡ 0)
  first_row = row (not (is_part part)) 3 (rest wrong) (omega arith) (sym e ∙ z)

  second_row : (wrong ≡ false) × (rest false ≡ 0)
  second_row = row wrong 4 (rest false) (omega arith) first_row.1

  pub named : is_part part ≡ true
  named = not-false _ first_row.0

  pub eeprom_fits : ee ≡ size_of part
  eeprom_fits = eqb-true ee (size_of part) (not-false _ (neither_left (not (eqb ee (size_of part))) (not (eqb id id_size)) second_row.0))

  pub id_fits : id ≡ id_size
  id_fits = eqb-true id id_size (not-false _ (neither_right (not (eqb ee (size_of part))) (not (eqb id id_size)) second_row.0))

  pub is_there : there ≡ true
  is_there = not-false _ (row (not there) 6 0 (omega arith) second_row.1).0

-- A fresh chip.
module _ (part k : ℕ) (a : Arrays) (e : k ≡ new_refusal part a) where
  pub new_refused : k ≢ 0 → called k [] a ≡ newly part a
  unfolding newly
  new_refused h =
      ap (λ (n : ℕ). called n [] a) e
      ∙ no (called 0 [] (fresh_in part a)) (called (new_refusal part a) [] a) (ne_eqb (new_refusal part a) 0 (λ q. h (e ∙ q)))

  module _ (z : k ≡ 0) where
    pub new_long : length a.state ≡ 142
    new_long = eqb-true _ _ (is_there part (length a.eeprom) (length a.id) k (eqb (length a.state) 142) e z)

    pub new_done :
        (state ee id : List ℕ) (d : Device) → state ≡ state_of part d → d ≡ fresh → ee ≡ replicate (length a.eeprom) 255
        → id ≡ replicate (length a.id) 255 → called 0 [] (arrays state ee id) ≡ newly part a
    unfolding newly
    new_done state ee id d s f p q =
        (λ i. called 0 [] (arrays ((s ∙ ap (state_of part) f) i) (p i) (q i)))
        ∙ yes (called 0 [] (fresh_in part a)) (called (new_refusal part a) [] a) (eq-eqb (new_refusal part a) 0 (sym e ∙ z))

-- What arrays say that are not refused.
module _ (bs : List ℕ) (ee id k : ℕ) (e : k ≡ arrays_refusal (part_of bs) ee id (is_state bs)) (z : k ≡ 0) where
  pub state_there : is_state bs ≡ true
  state_there = is_there (part_of bs) ee id k (is_state bs) e z

  pub state_long : length bs ≡ 142
  state_long = by_cases (eqb (length bs) 142) (λ t. eqb-true _ _ t) (λ t. absurd (true_false state_there (sym (state_short bs (λ q. true_false (eq-eqb _ _ q) t)))))

  pub part_there : part_of bs ≡ part_in (array_numbers bs)
  part_there = sym (low_at bs state_long 0 (omega arith))

  suited_there : Suited (part_of bs) (device_of (array_numbers bs)) ee id
  unfolding is_state
  suited_there =
      record {
        known = named (part_of bs) ee id k (is_state bs) e z;
        eeprom = eeprom_fits (part_of bs) ee id k (is_state bs) e z;
        ids = id_fits (part_of bs) ee id k (is_state bs) e z;
        ranged =
            ap (λ (p : ℕ). out_of_range p (device_of (array_numbers bs))) part_there
            ∙ out_of_range_lem (part_in (array_numbers bs)) (device_of (array_numbers bs)) (recorded_sound (array_numbers bs) (both_right (eqb (length bs) state_bytes) (is_record (array_numbers bs)) state_there)).range;
      }

  pub setup_there : (part : ℕ) (d : Device) → part ≡ part_of bs → d ≡ device_of (array_numbers bs) → setup_refusal part d ee id ≡ 0
  setup_there part d p f = (λ i. setup_refusal (p i) (f i) ee id) ∙ setup_passes (part_of bs) (device_of (array_numbers bs)) ee id suited_there

-- An act, and a save.
module _ (a : Arrays) (k : ℕ) (e : k ≡ arrays_refusal (part_of a.state) (length a.eeprom) (length a.id) (is_state a.state)) where
  refused_by_lem : k ≡ state_refusal a
  unfolding state_refusal
  refused_by_lem = e

  module _ (act arg : ℕ) where
    abbrev done : Called
    done = told (part_of a.state) (performed (part_of a.state) (act_of act) arg (world_in a))

    abbrev judging : Called
    judging = pick (ltb act act_count) done (no_act a)

    pub act_refused : k ≢ 0 → called k (no_chip k) a ≡ acts a act arg
    unfolding acts
    act_refused h =
        ap (λ (n : ℕ). called n (no_chip n) a) refused_by_lem
        ∙ no judging (called (state_refusal a) (no_chip (state_refusal a)) a) (ne_eqb (state_refusal a) 0 (λ q. h (refused_by_lem ∙ q)))

    module _ (z : k ≡ 0) where
      judged : judging ≡ acts a act arg
      unfolding acts
      judged = yes judging (called (state_refusal a) (no_chip (state_refusal a)) a) (eq-eqb (state_refusal a) 0 (sym refused_by_lem ∙ z))

      pub act_none :
          (answer : List ℕ) (d : Device) → act_count ≤ act → answer ≡ answer_of 3 None 0 d → d ≡ (world_in a).device → called 3 answer a ≡ acts a act arg
      act_none answer d h p q = (λ i. called 3 ((p ∙ ap (answer_of 3 None 0) q) i) a) ∙ no done (no_act a) (le-ltb act act_count h) ∙ judged

      pub act_told :
          (part : ℕ) (state answer : List ℕ) (d : Device) (code : Act) (o : Outcome) → part ≡ part_of a.state → act < act_count → code ≡ act_of act
          → d ≡ (world_in a).device
          → o ≡ performed part code arg (world d a.eeprom a.id) → state ≡ state_of part o.after.device
          → answer ≡ answer_of o.number o.reply o.count o.after.device → called o.number answer (arrays state o.after.eeprom o.after.id) ≡ acts a act arg
      act_told part state answer d code r pe h c q o s p =
          (λ i. called r.number (p i) (arrays (s i) r.after.eeprom r.after.id))
          ∙ ap (told part) (o ∙ (λ i. performed part (c i) arg (world (q i) a.eeprom a.id)))
          ∙ ap (λ (n : ℕ). told n (performed n (act_of act) arg (world_in a))) pe
          ∙ yes done (no_act a) (lt-ltb act act_count h)
          ∙ judged

  module _ (room : List ℕ) where
    abbrev saving : Wrote
    saving = wrote_of (saves (part_of a.state) (world_in a) room)

    pub save_refused : k ≢ 0 → wrote k (0 ∷ []) room ≡ saves_state a room
    unfolding saves_state
    save_refused h =
        ap (λ (n : ℕ). wrote n (0 ∷ []) room) refused_by_lem
        ∙ no saving (wrote (state_refusal a) (0 ∷ []) room) (ne_eqb (state_refusal a) 0 (λ q. h (refused_by_lem ∙ q)))

    pub save_done :
        k ≡ 0 → (s : Saving) (part : ℕ) (d : Device) → part ≡ part_of a.state → d ≡ (world_in a).device → s ≡ saves part (world d a.eeprom a.id) room
        → wrote_of s ≡ saves_state a room
    unfolding saves_state
    save_done z s part d pe q f =
        ap wrote_of (f ∙ (λ i. saves (pe i) (world (q i) a.eeprom a.id) room))
        ∙ yes saving (wrote (state_refusal a) (0 ∷ []) room) (eq-eqb (state_refusal a) 0 (sym refused_by_lem ∙ z))

-- a load that is refused leaves part, record and memories
refused_leaves : (text : List ℕ) (part : ℕ) (w : World) → (loads text part w).number ≢ 0 → (loads text part w).world ≡ w
unfolding loads
refused_leaves text part w h = by_loaded (load chip_form text) h
  where
    by_loaded : (l : Loaded (List ℕ)) → (load_answer l part w).number ≢ 0 → (load_answer l part w).world ≡ w
    by_loaded (bad n) g = refl
    by_loaded (loaded ns) g =
        pick_when (λ (x : Loading). x.number ≢ 0 → x.world ≡ w) (wrong_length (part_in ns) (length w.eeprom) (length w.id)) (λ t u. refl) (λ t u. absurd (u refl)) g

-- A load.
module _ (text : List ℕ) (a : Arrays) where
  abbrev reads : Loading
  reads = loads text 0 (world fresh a.eeprom a.id)

  pub load_short : length a.state ≢ 142 → called 6 (0 ∷ []) a ≡ loads_state text a
  unfolding loads_state
  load_short h = no (loaded_of reads a) (called 6 (0 ∷ []) a) (ne_eqb (length a.state) 142 h)

  module _ (l : length a.state ≡ 142) (r : Loading) (e : r ≡ reads) where
    long_enough : loaded_of reads a ≡ loads_state text a
    unfolding loads_state
    long_enough = yes (loaded_of reads a) (called 6 (0 ∷ []) a) (eq-eqb (length a.state) 142 l)

    -- a load that is refused leaves the memories
    left_alone : reads.number ≢ 0 → reads.world ≡ world fresh a.eeprom a.id
    left_alone h = refused_leaves text 0 (world fresh a.eeprom a.id) h

    pub load_refused : r.number ≢ 0 → called r.number (r.line ∷ []) (arrays a.state r.world.eeprom r.world.id) ≡ loads_state text a
    load_refused h =
        let g : reads.number ≢ 0 = λ q. h (ap (λ (x : Loading). x.number) e ∙ q) in
        let w = left_alone g in
        (λ i. called (e i).number ((e i).line ∷ []) (arrays a.state (e i).world.eeprom (e i).world.id))
        ∙ (λ i. called reads.number (reads.line ∷ []) (arrays a.state (w i).eeprom (w i).id))
        ∙ no (called 0 (reads.line ∷ []) (arrays_of reads.part reads.world)) (called reads.number (reads.line ∷ []) a) (ne_eqb reads.number 0 g)
        ∙ long_enough

    pub load_done :
        (state : List ℕ) → r.number ≡ 0 → state ≡ state_of (r.part % 256) r.world.device
        → called 0 (r.line ∷ []) (arrays state r.world.eeprom r.world.id) ≡ loads_state text a
    load_done state h s =
        let g : reads.number ≡ 0 = ap (λ (x : Loading). x.number) (sym e) ∙ h in
        let b = part_byte reads.part (saved_right.saved_back text 0 (world fresh a.eeprom a.id) g).0.named in
        (λ i. called 0 (r.line ∷ []) (arrays (s i) r.world.eeprom r.world.id))
        ∙ (λ i. called 0 ((e i).line ∷ []) (arrays (state_of ((e i).part % 256) (e i).world.device) (e i).world.eeprom (e i).world.id))
        ∙ (λ i. called 0 (reads.line ∷ []) (arrays (state_of (b i) reads.world.device) reads.world.eeprom reads.world.id))
        ∙ yes (called 0 (reads.line ∷ []) (arrays_of reads.part reads.world)) (called reads.number (reads.line ∷ []) a) (eq-eqb reads.number 0 g)
        ∙ long_enough
