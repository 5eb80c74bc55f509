-- What is claimed of a caller's arrays: each part by the laws of the form and of the acts.
-- Assumes nothing.
use mathlib.Core.Path.{◌≡◌, refl, sym, ap, subst, ◌∙◌}
use mathlib.Core.Logic.{◌≢◌}
use mathlib.Core.Bool.{Bool, true, false, not}
use mathlib.Core.List.{List, [], ◌∷◌}
use Prim.Native.Nat.{ℕ, ◌<◌}
use native.Mathlib.Omega.{arith}
use borrow.Author.Tests.{eq-eqb, ne_eqb, lt-ltb, le-ltb, eqb-true}
use lib.Dec.{eqb, ltb}
use lib.ListN.{length, get_or, replicate}
use Rattle.base.specs.Words.{pick}
use Rattle.base.proofs.Tests.{yes, no, pick_when, both_right, neither}
use Rattle.record.specs.declared.Act.{Act}
use Rattle.record.specs.declared.Act.TheVariants.{Select, Byte, End, Wait, Cut, Up, Set}
use Rattle.record.specs.declared.Pin.TheVariants.{Evls, Evhs}
use Rattle.std.specs.Prelude.{None}
use Rattle.record.specs.Fresh.{fresh}
use Rattle.record.specs.Numbers.{act_count, act_of, act_number}
use Rattle.record.specs.Part.{is_part, size_of, id_size}
use Rattle.record.specs.World.{World, world, Bytes, fresh_world}
use Rattle.record.proofs.NumberLaws.{act_back}
use Rattle.refusals.specs.InRange.{InRange}
use Rattle.refusals.specs.Refusal.{wrong_length, first_refusal}
use Rattle.form.specs.Table.{part_in}
use Rattle.form.specs.Chip.{is_record, device_of, Sound, SoundRecord}
use Rattle.form.specs.State.{array_numbers, state_bytes, is_state, state_of}
use Rattle.form.proofs.ChipLaws.{sound_record, recorded_sound}
use Rattle.form.proofs.StateLaws.{array_again, state_good, device_told, carried_in}
use Rattle.acts.specs.Act.{Outcome, refusal_in, accepted, performed}
use Rattle.acts.proofs.ValidLaws.{performed_valid}
use Rattle.run.specs.Claim.{Input, our_chip, world_after, memory_of}
use Rattle.run.specs.Begin.{DemandThreeFrom}
use Rattle.run.proofs.BeginAgrees.{demand_three_from}
use Rattle.ledger.specs.State.{Memory, eeprom, id}
use Rattle.arrays.specs.Arrays.{Arrays, arrays, arrays_of, part_of, arrays_refusal, state_refusal, answer_of, no_chip}
use Rattle.calls.specs.Calls.{Called, called, world_in, fresh_in, new_refusal, newly, told, no_act, acts}
use Rattle.export.specs.Claim.{ByteArrays, called_all, BytesAll, CallsRight}
use Rattle.calls.proofs.CallLaws.{named, eeprom_fits, id_fits, state_there, state_long, part_there}

-- the rows of arrays none of which holds
passes :
    (part ee ids : ℕ) (there : Bool) → is_part part ≡ true → ee ≡ size_of part → ids ≡ id_size → there ≡ true → arrays_refusal part ee ids there ≡ 0
passes part ee ids there p q r t = (λ i. first_refusal (not (p i)) (fits i) (not (t i)) false false 0)
  where
    fits : wrong_length part ee ids ≡ false
    fits = neither (ap not (eq-eqb ee (size_of part) q)) (ap not (eq-eqb ids id_size r))

act_below : (a : Act) → act_number a < act_count
act_below Select = omega arith
act_below Byte = omega arith
act_below End = omega arith
act_below Wait = omega arith
act_below Cut = omega arith
act_below Up = omega arith
act_below (Set Evls) = omega arith
act_below (Set Evhs) = omega arith

-- The arrays of a chip in range.
module _ (part : ℕ) (w : World) (s : Sound part w) where
  abbrev its : Arrays
  its = arrays_of part w

  sr : SoundRecord part w.device
  sr = sound_record part w s

  part_first : part_of its.state ≡ part
  unfolding state_of
  part_first = refl

  pub let_through : state_refusal its ≡ 0
  unfolding state_refusal
  let_through =
      ap (λ (p : ℕ). arrays_refusal p (length w.eeprom) (length w.id) (is_state its.state)) part_first
      ∙ passes part (length w.eeprom) (length w.id) (is_state its.state) s.named s.shaped.eeprom s.shaped.id (state_good part w.device sr)

  pub chip_in : world_in its ≡ w
  chip_in i = world (device_told part w.device sr i) w.eeprom w.id

  judged : (m n : ℕ) → pick (ltb m act_count) (told (part_of its.state) (performed (part_of its.state) (act_of m) n (world_in its))) (no_act its) ≡ acts its m n
  unfolding acts
  judged m n =
      yes (pick (ltb m act_count) (told (part_of its.state) (performed (part_of its.state) (act_of m) n (world_in its))) (no_act its))
      (called (state_refusal its) (no_chip (state_refusal its)) its) (eq-eqb (state_refusal its) 0 let_through)

  pub acted : (a : Act) (n : ℕ) → acts its (act_number a) n ≡ told part (performed part a n w)
  acted a n =
      sym (judged (act_number a) n)
      ∙ sym (yes (told (part_of its.state) (performed (part_of its.state) (act_of (act_number a)) n (world_in its))) (no_act its) (lt-ltb (act_number a) act_count (act_below a)))
      ∙ (λ i. told (part_first i) (performed (part_first i) (act_back a i) n (chip_in i)))

  pub unnamed : (m n : ℕ) → 7 < m → acts its m n ≡ called 3 (answer_of 3 None 0 w.device) its
  unnamed m n h =
      sym (judged m n)
      ∙ sym (no (told (part_of its.state) (performed (part_of its.state) (act_of m) n (world_in its))) (no_act its) (le-ltb m act_count (omega (arith, h))))
      ∙ (λ i. called 3 (answer_of 3 None 0 (chip_in i).device) its)

  -- after an act the chip is in range again, where its array is one of bytes
  pub sound_after : (a : Act) (n : ℕ) → Bytes (acts its (act_number a) n).after.state → Sound part (performed part a n w).after
  sound_after a n b =
      let v = performed_valid part a n w (record { range = s.range; shaped = s.shaped }) in
      let e : Bytes (state_of part (performed part a n w).after.device) = subst (λ (c : Called). Bytes c.after.state) (acted a n) b in
      record { named = s.named; range = v.range; shaped = v.shaped; carried = carried_in part (performed part a n w).after.device v.shaped.sized e }

-- Arrays that are let through are those of a chip in range.
module _ (a : Arrays) (b : Bytes a.state) (z : state_refusal a ≡ 0) where
  abbrev size : ℕ
  size = length a.eeprom

  abbrev ids : ℕ
  ids = length a.id

  zero_by : arrays_refusal (part_of a.state) size ids (is_state a.state) ≡ 0
  unfolding state_refusal
  zero_by = z

  there : is_state a.state ≡ true
  there = state_there a.state size ids 0 (sym zero_by) refl

  long : length a.state ≡ 142
  long = state_long a.state size ids 0 (sym zero_by) refl

  part_same : part_of a.state ≡ part_in (array_numbers a.state)
  part_same = part_there a.state size ids 0 (sym zero_by) refl

  pub again : arrays_of (part_of a.state) (world_in a) ≡ a
  again =
      (λ i. arrays (state_of (part_same i) (device_of (array_numbers a.state))) a.eeprom a.id)
      ∙ (λ i. arrays (array_again a.state long b there i) a.eeprom a.id)

  pub sound_in : ByteArrays a → Sound (part_of a.state) (world_in a)
  unfolding is_state
  sound_in bytes =
      let r = recorded_sound (array_numbers a.state) (both_right (eqb (length a.state) state_bytes) (is_record (array_numbers a.state)) there) in
      let p = part_of a.state in
      record {
        named = named p size ids 0 (is_state a.state) (sym zero_by) refl;
        range = subst (λ (n : ℕ). InRange n (world_in a).device) (sym part_same) r.range;
        shaped =
            record {
              sized = r.sized;
              eeprom = eeprom_fits p size ids 0 (is_state a.state) (sym zero_by) refl;
              id = id_fits p size ids 0 (is_state a.state) (sym zero_by) refl;
              eeprom_bytes = bytes.eeprom;
              id_bytes = bytes.id;
            };
        carried = r.carried;
      }

-- what is refused leaves the arrays
module _ (a : Arrays) (b : Bytes a.state) (m n : ℕ) where
  abbrev p : ℕ
  p = part_of a.state

  abbrev Keeps : Called → Type 0
  Keeps c = c.number ≢ 0 → c.after ≡ a

  -- a refused act leaves the chip
  told_keeps : (x : Act) → state_refusal a ≡ 0 → Keeps (told p (performed p x n (world_in a)))
  unfolding performed
  told_keeps x z =
      pick_when (λ (o : Outcome). Keeps (told p o)) (eqb (refusal_in p x n (world_in a)) 0)
      (λ t u. absurd (u (accepted_done x)))
      (λ t u. again a b z)
    where
      accepted_done : (y : Act) → (accepted p n (world_in a) y).number ≡ 0
      accepted_done Select = refl
      accepted_done Byte = refl
      accepted_done End = refl
      accepted_done Wait = refl
      accepted_done Cut = refl
      accepted_done Up = refl
      accepted_done (Set p) = refl

  pub kept : Keeps (acts a m n)
  unfolding acts
  kept =
      pick_when Keeps (eqb (state_refusal a) 0)
      (λ t.
      pick_when Keeps (ltb m act_count) {a = told p (performed p (act_of m) n (world_in a))} {b = no_act a}
      (λ u. told_keeps (act_of m) (eqb-true (state_refusal a) 0 t)) (λ u v. refl))
      (λ t v. refl)

-- two chips with the same arrays
same_chip : (part : ℕ) (w : World) (part' : ℕ) (w' : World) → Sound part w → Sound part' w' → arrays_of part w ≡ arrays_of part' w' → (part ≡ part') × (w ≡ w')
same_chip part w part' w' s t e =
    (sym (part_first part w s) ∙ ap (λ (a : Arrays). part_of a.state) e ∙ part_first part' w' t, sym (chip_in part w s) ∙ ap world_in e ∙ chip_in part' w' t)

-- calls in a row
row_on : (part : ℕ) (w : World) → Sound part w → (xs : List Input) → BytesAll (arrays_of part w) xs → called_all (arrays_of part w) xs ≡ arrays_of part (world_after our_chip part xs w)
unfolding called_all BytesAll world_after our_chip
row_on part w s [] b = refl
row_on part w s (x ∷ xs) b =
    let e = ap (λ (c : Called). c.after) (acted part w s x.act x.arg) in
    let next = (performed part x.act x.arg w).after in
    ap (λ (a : Arrays). called_all a xs) e
    ∙ row_on part next (sound_after part w s x.act x.arg (first_bytes _ xs b.1)) xs (subst (λ (a : Arrays). BytesAll a xs) e b.1)
  where
    first_bytes : (a : Arrays) (ys : List Input) → BytesAll a ys → Bytes a.state
    first_bytes a [] c = c.state
    first_bytes a (y ∷ ys) c = c.0.state

made : (part : ℕ) (a : Arrays) → is_part part ≡ true → length a.state ≡ 142 → length a.eeprom ≡ size_of part → length a.id ≡ id_size → newly part a ≡ called 0 [] (arrays_of part (fresh_world part))
unfolding newly
made part a p l e i =
    let z : new_refusal part a ≡ 0 = passes part (length a.eeprom) (length a.id) (eqb (length a.state) 142) p e i (eq-eqb (length a.state) 142 l) in
    sym (yes (called 0 [] (fresh_in part a)) (called (new_refusal part a) [] a) (eq-eqb (new_refusal part a) 0 z))
    ∙ (λ k. called 0 [] (arrays_of part (world fresh (replicate (e k) 255) (replicate (i k) 255))))

refused : (a : Arrays) → state_refusal a ≢ 0 → (m n : ℕ) → acts a m n ≡ called (state_refusal a) (no_chip (state_refusal a)) a
unfolding acts
refused a h m n =
    sym (no (pick (ltb m act_count) (told (part_of a.state) (performed (part_of a.state) (act_of m) n (world_in a))) (no_act a)) (called (state_refusal a) (no_chip (state_refusal a)) a) (ne_eqb (state_refusal a) 0 h))

memory_in : (m : Memory) (part : ℕ) (w : World) (q : ℕ) → get_or (memory_of m (world_in (arrays_of part w))) q 0 ≡ get_or (memory_of m w) q 0
memory_in eeprom part w q = refl
memory_in id part w q = refl

pub calls_right : CallsRight
unfolding DemandThreeFrom
calls_right =
    record {
      made = made;
      acted = acted;
      unnamed = unnamed;
      exactly = λ a b. (λ z. record { part = part_of a.state; chip = world_in a; in_range = sound_in a b.state z b; arrays = again a b.state z }, λ h. subst (λ (x : Arrays). state_refusal x ≡ 0) h.arrays (let_through h.part h.chip h.in_range));
      refused = refused;
      kept = kept;
      once = same_chip;
      in_row = row_on;
      accounted = λ part w s xs b m q h.
          ap (λ (a : Arrays). get_or (memory_of m (world_in a)) q 0) (row_on part w s xs b)
          ∙ memory_in m part (world_after our_chip part xs w) q
          ∙ demand_three_from part s.named w s.range s.shaped xs m q h;
    }
