-- A chip and a ledger that agree refuse the same acts, and on such a chip numbers 4 and 6 do not occur.
-- Assumes nothing.
use Prim.Native.Nat.{ℕ}
use mathlib.Core.Path.{◌≡◌, refl, sym, ap, ◌∙◌}
use mathlib.Core.Bool.{Bool, true, false, not, ◌||◌}
use mathlib.Core.Logic.{◌≢◌}
use borrow.Author.Tests.{eq-eqb}
use lib.Dec.{eqb, ltb}
use lib.ListN.{length}
use Rattle.base.specs.Words.{pick}
use Rattle.base.proofs.Tests.{pick_case, true_false}
use Rattle.record.specs.declared.Act.{Act}
use Rattle.record.specs.declared.Act.TheVariants.{Select, Byte, End, Wait, Cut, Up, Set}
use Rattle.record.specs.Part.{is_part, size_of, id_size}
use Rattle.record.specs.Stages.{selected}
use Rattle.refusals.specs.Refusal.{wrong_arg, wrong_power, wrong_select, refusal_of}
use Rattle.refusals.proofs.RangeLaws.{out_of_range_lem}
use Rattle.record.specs.World.{World}
use Rattle.acts.specs.Act.{refusal_in}
use Rattle.ledger.specs.State.{Ledger, select, byte, end, wait, cut, up}
use Rattle.ledger.specs.Steps.{refused}
use Rattle.run.proofs.Agree.{Agree}

-- what is left of the table for a part that is known, memories of its lengths and a record in range
abbrev pub short : Act → ℕ → Bool → Bool → ℕ
short act n power sel = pick (wrong_arg act n) 3 (pick (wrong_power act power) 5 (wrong_select act sel))

pub shortened :
    (s : World) (part : ℕ) (w : World) (l : Ledger) (act : Act) (n : ℕ) → is_part part ≡ true → Agree s part w l
    → refusal_in part act n w ≡ short act n w.device.power (selected w.device.frame.stage)
unfolding refusal_of
shortened s part w l act n p a =
    let e : eqb (length w.eeprom) (size_of part) ≡ true = eq-eqb _ _ a.valid.shaped.eeprom in
    let i : eqb (length w.id) id_size ≡ true = eq-eqb _ _ a.valid.shaped.id in
    simp (p, e, i, out_of_range_lem part w.device a.valid.range)

three : (x y z : Bool) → eqb (pick x 3 (pick y 5 (pick z 1 0))) 0 ≡ not (x || y || z)
three true y z = refl
three false true z = refl
three false false true = refl
three false false false = refl

three_not : (x y z : Bool) → eqb (pick x 3 (pick y 5 (pick z 0 2))) 0 ≡ not (x || y || not z)
three_not true y z = refl
three_not false true z = refl
three_not false false true = refl
three_not false false false = refl

two : (x y : Bool) → eqb (pick x 3 (pick y 5 0)) 0 ≡ not (x || y || false)
two true y = refl
two false true = refl
two false false = refl

-- what the ledger says to an act that it is told; of a pin it is told nothing, and the table has one row
abbrev pub refused_by : Act → ℕ → Ledger → Bool
refused_by Select n l = refused select n l
refused_by Byte n l = refused byte n l
refused_by End n l = refused end n l
refused_by Wait n l = refused wait n l
refused_by Cut n l = refused cut n l
refused_by Up n l = refused up n l
refused_by (Set p) n l = ltb 1 n || false || false

-- the ledger refuses by the same argument, power and selection
same_refusal : (act : Act) (n : ℕ) (l : Ledger) → eqb (short act n l.power l.selected) 0 ≡ not (refused_by act n l)
unfolding refused
same_refusal Select n l = three (not (eqb n 0)) (not l.power) l.selected
same_refusal Byte n l = three_not (ltb 255 n) (not l.power) l.selected
same_refusal End n l = three_not (ltb 7 n) (not l.power) l.selected
same_refusal Wait n l = two (ltb 16777216 n) false
same_refusal Cut n l = two (ltb 255 n) (not l.power)
same_refusal Up n l = two (not (eqb n 0)) l.power
same_refusal (Set p) n l = two (ltb 1 n) false

pub refusal_agrees :
    (s : World) (part : ℕ) (w : World) (l : Ledger) (act : Act) (n : ℕ) → is_part part ≡ true → Agree s part w l
    → eqb (refusal_in part act n w) 0 ≡ not (refused_by act n l)
refusal_agrees s part w l act n p a =
    ap (λ (k : ℕ). eqb k 0) (shortened s part w l act n p a)
    ∙ rw (← a.state.power, ← a.state.chosen) (same_refusal act n l)

-- no act of a run is answered 4 or 6; 7 is no act's number
last_small : (act : Act) (sel : Bool) (P : ℕ → Type 0) → P 0 → P 1 → P 2 → P (wrong_select act sel)
last_small Select sel P p q r = pick_case P sel q p
last_small Byte sel P p q r = pick_case P sel p r
last_small End sel P p q r = pick_case P sel p r
last_small Wait sel P p q r = p
last_small Cut sel P p q r = p
last_small Up sel P p q r = p
last_small (Set a) sel P p q r = p

pub never :
    (s : World) (part : ℕ) (w : World) (l : Ledger) (act : Act) (n k : ℕ) → is_part part ≡ true → Agree s part w l
    → (eqb k 0 || eqb k 1 || eqb k 2 || eqb k 3 || eqb k 5) ≡ false → refusal_in part act n w ≢ k
never s part w l act n k p a out e =
    let P : ℕ → Type 0 = λ j. j ≢ k in
    pick_case P (wrong_arg act n) (miss 3 refl)
    (pick_case P (wrong_power act w.device.power) (miss 5 refl)
    (last_small act (selected w.device.frame.stage) P (miss 0 refl) (miss 1 refl) (miss 2 refl)))
    (sym (shortened s part w l act n p a) ∙ e)
  where
    miss : (j : ℕ) → (eqb j 0 || eqb j 1 || eqb j 2 || eqb j 3 || eqb j 5) ≡ true → j ≢ k
    miss j t q = true_false (ap (λ (i : ℕ). eqb i 0 || eqb i 1 || eqb i 2 || eqb i 3 || eqb i 5) (sym q) ∙ t) out
