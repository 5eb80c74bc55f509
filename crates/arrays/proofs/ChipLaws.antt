-- The chip of a state array: by the array's length, else by the tests of code.
-- Assumes nothing.
use mathlib.Core.Path.{◌≡◌, refl, sym, ap, ◌∙◌}
use mathlib.Core.Logic.{◌≢◌}
use mathlib.Core.Bool.{Bool, true, false, not, ◌||◌}
use mathlib.Core.List.{List}
use Prim.Native.Nat.{ℕ}
use native.Mathlib.Omega.{arith}
use lib.ListN.{length, get_or}
use Rattle.std.specs.Prelude.{Result, Ok, Err}
use Rattle.std.specs.Result.{is_ok}
use Rattle.base.specs.Words.{pick}
use Rattle.base.proofs.Tests.{by_cases, yes, no}
use Rattle.record.specs.Part.{is_part}
use Rattle.refusals.specs.Refusal.{number_of, wrong_length}
use Rattle.record.specs.declared.Device.{Device}
use Rattle.record.specs.World.{Bytes}
use Rattle.refusals.specs.declared.Refusal.{Refusal}
use Rattle.refusals.specs.declared.Refusal.TheVariants.{Range}
use Rattle.form.specs.Chip.{device_of}
use Rattle.form.specs.State.{array_numbers, is_state, state_of}
use Rattle.form.proofs.StateLaws.{low_at, array_again}
use Rattle.arrays.specs.declared.Chip.{Chip}
use Rattle.arrays.specs.Arrays.{part_of, chip_in, chip_read, arrays_refusal}
use Rattle.arrays.specs.Tests.{clock_bad, frame_bad, events_bad}
use Rattle.arrays.proofs.ArrayLaws.{state_long}
use Rattle.arrays.proofs.TestLaws.{state_told, state_short}

-- none, or one
none_in : (bs : List ℕ) → is_state bs ≡ false → Err Range ≡ chip_read bs
none_in bs e = no (Ok (chip_in bs)) (Err Range) e

-- Code's tests, made of the same bytes, tell whether they are a chip's.
module _ (bs ys : List ℕ) {a b e : Bool} (p : ys ≡ bs) (l : length bs ≡ 142) (w : Bytes bs) (t : a ≡ clock_bad ys) (u : b ≡ frame_bad ys) (v : e ≡ events_bad ys) where
  judged : not (a || b || e) ≡ is_state bs
  judged = (λ i. not ((t ∙ ap clock_bad p) i || (u ∙ ap frame_bad p) i || (v ∙ ap events_bad p) i)) ∙ state_told bs l w

  pub good : (a || b || e) ≡ false → is_state ys ≡ true
  good f = ap is_state p ∙ sym judged ∙ ap not f

  pub bad : (a || b || e) ≡ true → Err Range ≡ chip_read bs
  bad f = none_in bs (sym judged ∙ ap not f)

  pub none_held : (a || b || e) ≡ true → false ≡ is_state bs
  none_held f = sym (ap not f) ∙ judged

pub short : (bs : List ℕ) → length bs ≢ 142 → Err Range ≡ chip_read bs
short bs n = none_in bs (sym (state_short bs n))

pub some_in :
    (bs ys : List ℕ) {d : Device} → ys ≡ bs → is_state ys ≡ true → d ≡ device_of (array_numbers ys)
    → ◌≡◌ {A = Result Chip Refusal} (Ok (record { part = get_or ys 0 0; device = d })) (chip_read bs)
some_in bs ys p t e =
    (λ i. Ok (record { part = get_or (p i) 0 0; device = (e ∙ ap (λ (x : List ℕ). device_of (array_numbers x)) p) i }))
    ∙ yes (Ok (chip_in bs)) (Err Range) (ap is_state (sym p) ∙ t)

-- whose array is the same again
pub again_in :
    (bs ys : List ℕ) {d : Device} → ys ≡ bs → Bytes bs → is_state ys ≡ true → d ≡ device_of (array_numbers ys) → state_of (get_or ys 0 0) d ≡ bs
again_in bs ys p w t e =
    let u : is_state bs ≡ true = ap is_state (sym p) ∙ t in
    let l = state_long bs u in
    (λ i. state_of (get_or (p i) 0 0) ((e ∙ ap (λ (x : List ℕ). device_of (array_numbers x)) p) i))
    ∙ ap (λ (n : ℕ). state_of n (device_of (array_numbers bs))) (sym (low_at bs l 0 (omega arith)))
    ∙ array_again bs l w u

-- The same of the chip as it is made of such bytes.
module _ (bs ys : List ℕ) {c : Chip} (p : ys ≡ bs) (t : is_state ys ≡ true) (e : c ≡ chip_in ys) where
  pub made_in : ◌≡◌ {A = Result Chip Refusal} (Ok c) (chip_read bs)
  made_in = (λ i. Ok (e i)) ∙ some_in bs ys p t refl

  pub made_again : Bytes bs → state_of c.part c.device ≡ bs
  made_again w = (λ i. state_of (e i).part (e i).device) ∙ again_in bs ys p w t refl

-- What is read where nothing is refused has the number of those arrays.
pub read_told :
    (bs : List ℕ) (r : Result Chip Refusal) (ok : Bool) (part ee id : ℕ) → r ≡ chip_read bs → ok ≡ is_ok r → part ≡ part_of bs
    → 0 ≡ arrays_refusal part ee id ok → number_of r ≡ arrays_refusal (part_of bs) ee id (is_state bs)
read_told bs r ok part ee id e o p z =
    ap number_of e ∙ by_case (is_state bs) (z ∙ (λ i. arrays_refusal (p i) ee id ((o ∙ ap is_ok e) i)))
  where
    not_there : 0 ≡ arrays_refusal (part_of bs) ee id false → ⊥
    not_there h =
        by_cases (is_part (part_of bs))
        (λ t. by_cases (wrong_length (part_of bs) ee id) (λ u. let k = simp (t, u) at h in omega (arith, k)) (λ u. let k = simp (t, u) at h in omega (arith, k)))
        (λ t. let k = simp t at h in omega (arith, k))

    by_case :
        (t : Bool) → 0 ≡ arrays_refusal (part_of bs) ee id (is_ok (pick t (Ok (chip_in bs)) (Err Range)))
        → number_of (pick t (Ok (chip_in bs)) (Err Range)) ≡ arrays_refusal (part_of bs) ee id t
    by_case true h = h
    by_case false h = absurd (not_there h)
