-- Laws of the time-stamps as registers: their masks, VBAT, what a copied one shows, what it and the clearing leave alone, and that both leave as many
-- registers.
-- Assumes nothing.
use Prim.Native.Nat.{ℕ, zero, suc, ◌+◌, ◌/◌, ◌%◌, ◌<◌, ◌≤◌}
use native.Mathlib.Nat.{suc_inj}
use native.Mathlib.Omega.{arith}
use mathlib.Core.Path.{◌≡◌, refl, ap, ◌∙◌}
use mathlib.Core.Bool.{true, false, or-true, and-false}
use mathlib.Core.Logic.{◌⊎◌, inl, ◌≢◌, ⊎_elim}
use mathlib.Core.List.{List, [], ◌∷◌}
use borrow.Author.Tests.{ltb-true, ltb-false}
use lib.Dec.{ltb}
use lib.ListN.{length, get_or, set, length-set}
use lib.Seq.{get_or-set_same, get_or-set_other}
use Rattle.base.proofs.StoreLaws.{set_each}
use Rattle.base.specs.Words.{bit, every}
use Rattle.base.proofs.BitLaws.{and_bit, or_bit}
use Rattle.base.proofs.Every.{same_below, same_from}
use Rattle.base.proofs.Tests.{by_cases}
use Rattle.record.specs.Registers.{vbat, minutes_at, day_at, date_at, power_down_at, power_up_at, writable, kept}
use Rattle.record.specs.Stamps.{stamp_at, stamp_hours, stamp_month, stamped, unstamped, with_vbat, without_vbat, NoStamps, Shows}

-- The bits that a register may hold: below the time-stamps those that a WRITE may change, of a time-stamp all.
pub same_masks : (k : ℕ) → k < power_down_at → get_or writable k 0 ≡ get_or kept k 0
unfolding every
same_masks k h = same_below (λ (n : ℕ). get_or writable n 0) (λ (n : ℕ). get_or kept n 0) power_down_at refl k h

pub stamp_mask : (k : ℕ) → power_down_at ≤ k → k < 32 → get_or kept k 0 ≡ 0xff
unfolding every
stamp_mask k l h = same_from (λ (n : ℕ). get_or kept n 0) 0xff power_down_at 8 refl k l (omega arith)

-- VBAT set, and cleared
pub with_vbat_lem : (regs : List ℕ) → day_at < length regs → vbat (with_vbat regs) ≡ true
with_vbat_lem regs l = ap (λ (n : ℕ). bit n 4) (get_or-set_same regs day_at _ 0 l) ∙ or_bit (get_or regs day_at 0) 0x10 4 ∙ or-true (bit (get_or regs day_at 0) 4)

pub without_vbat_lem : (regs : List ℕ) → day_at < length regs → vbat (without_vbat regs) ≡ false
without_vbat_lem regs l = ap (λ (n : ℕ). bit n 4) (get_or-set_same regs day_at _ 0 l) ∙ and_bit (get_or regs day_at 0) 0xef 4 ∙ and-false (bit (get_or regs day_at 0) 4)

-- What holds of each register and of each new one at its place, holds of each after a time-stamp is put there.
module _ (P : ℕ → ℕ → Type 0) (a : ℕ) where
  at_each :
      (m h t y : ℕ) (regs : List ℕ) → P a m → P (a + 1) h → P (a + 2) t → P (a + 3) y → ((k : ℕ) → P k (get_or regs k 0))
      → (k : ℕ) → P k (get_or (stamp_at a m h t y regs) k 0)
  at_each m h t y regs p q r s e =
      let l1 : List ℕ = set regs a m in
      let l2 : List ℕ = set l1 (a + 1) h in
      let l3 : List ℕ = set l2 (a + 2) t in
      set_each P l3 (a + 3) y s (set_each P l2 (a + 2) t r (set_each P l1 (a + 1) h q (set_each P regs a m p e)))

  pub stamped_each :
      (regs : List ℕ) → P a (get_or regs minutes_at 0) → P (a + 1) (stamp_hours regs) → P (a + 2) (get_or regs date_at 0)
      → P (a + 3) (stamp_month regs) → ((k : ℕ) → P k (get_or regs k 0))
      → (k : ℕ) → P k (get_or (stamped a regs) k 0)
  unfolding stamped
  stamped_each regs = at_each _ _ _ _ regs

-- the first of the two cleared
abbrev first : List ℕ → List ℕ
first regs = stamp_at power_down_at 0 0 0 0 regs

pub unstamped_each :
    (P : ℕ → ℕ → Type 0) (regs : List ℕ) → ((k : ℕ) → power_down_at ≤ k → k < 32 → P k 0) → ((k : ℕ) → P k (get_or regs k 0))
    → (k : ℕ) → P k (get_or (unstamped regs) k 0)
unfolding unstamped
unstamped_each P regs z e =
    at_each P power_up_at 0 0 0 0 (first regs) (z 0x1c (omega arith) (omega arith)) (z 0x1d (omega arith) (omega arith)) (z 0x1e (omega arith) (omega arith)) (z 0x1f (omega arith) (omega arith))
    (at_each P power_down_at 0 0 0 0 regs (z 0x18 (omega arith) (omega arith)) (z 0x19 (omega arith) (omega arith)) (z 0x1a (omega arith) (omega arith)) (z 0x1b (omega arith) (omega arith)) e)

-- A register beside the four stays.
at_other :
    (a m h t y : ℕ) (regs : List ℕ) (k : ℕ) → (k < a) ⊎ (a + 4 ≤ k) → get_or (stamp_at a m h t y regs) k 0 ≡ get_or regs k 0
at_other a m h t y regs k o =
    let l1 : List ℕ = set regs a m in
    let l2 : List ℕ = set l1 (a + 1) h in
    let l3 : List ℕ = set l2 (a + 2) t in
    let n : (j : ℕ) → j < 4 → k ≢ a + j = λ j b e. ⊎_elim (λ l. omega arith) (λ l. omega arith) o in
    get_or-set_other l3 (a + 3) k y 0 (n 3 (omega arith)) ∙ get_or-set_other l2 (a + 2) k t 0 (n 2 (omega arith))
    ∙ get_or-set_other l1 (a + 1) k h 0 (n 1 (omega arith)) ∙ get_or-set_other regs a k m 0 (λ e. n 0 (omega arith) (omega arith))

pub stamped_other : (a : ℕ) (regs : List ℕ) (k : ℕ) → (k < a) ⊎ (a + 4 ≤ k) → get_or (stamped a regs) k 0 ≡ get_or regs k 0
unfolding stamped
stamped_other a regs = at_other a _ _ _ _ regs

pub unstamped_other : (regs : List ℕ) (k : ℕ) → k < power_down_at → get_or (unstamped regs) k 0 ≡ get_or regs k 0
unfolding unstamped
unstamped_other regs k h = at_other power_up_at 0 0 0 0 (first regs) k (inl (omega arith)) ∙ at_other power_down_at 0 0 0 0 regs k (inl h)

-- A time-stamp of zeros is 0, however many registers there are.
zero_step : (l : List ℕ) (i k : ℕ) → (k ≢ i → get_or l k 0 ≡ 0) → get_or (set l i 0) k 0 ≡ 0
zero_step [] i k f = refl
zero_step (x ∷ xs) zero zero f = refl
zero_step (x ∷ xs) zero (suc k) f = f (λ e. omega arith)
zero_step (x ∷ xs) (suc i) zero f = f (λ e. omega arith)
zero_step (x ∷ xs) (suc i) (suc k) f = zero_step xs i k (λ n. f (λ e. n (suc_inj e)))

at_zero : (a : ℕ) (regs : List ℕ) (k : ℕ) → a ≤ k → k < a + 4 → get_or (stamp_at a 0 0 0 0 regs) k 0 ≡ 0
at_zero a regs k l h =
    let l1 : List ℕ = set regs a 0 in
    let l2 : List ℕ = set l1 (a + 1) 0 in
    let l3 : List ℕ = set l2 (a + 2) 0 in
    zero_step l3 (a + 3) k (λ n3. zero_step l2 (a + 2) k (λ n2. zero_step l1 (a + 1) k (λ n1. zero_step regs a k (λ n0. absurd (none n3 n2 n1 n0)))))
  where
    none : k ≢ a + 3 → k ≢ a + 2 → k ≢ a + 1 → k ≢ a → ⊥
    none n3 n2 n1 n0 = omega arith

pub unstamped_zero : (regs : List ℕ) → NoStamps (unstamped regs)
unfolding unstamped
unstamped_zero regs k l h =
    by_cases (ltb k power_up_at)
    (λ t. let g : k < power_up_at = ltb-true k power_up_at t in at_other power_up_at 0 0 0 0 (first regs) k (inl g) ∙ at_zero power_down_at regs k l (omega arith))
    (λ f. at_zero power_up_at (first regs) k (ltb-false k power_up_at f) (omega arith))

-- A list of registers has as many after it.
at_length : (a m h t y : ℕ) (regs : List ℕ) → length (stamp_at a m h t y regs) ≡ length regs
at_length a m h t y regs = simp length-set

pub stamped_length : (a : ℕ) (regs : List ℕ) → length (stamped a regs) ≡ length regs
unfolding stamped
stamped_length a regs = at_length a _ _ _ _ regs

pub unstamped_length : (regs : List ℕ) → length (unstamped regs) ≡ length regs
unfolding unstamped
unstamped_length regs = at_length power_up_at 0 0 0 0 (first regs) ∙ at_length power_down_at 0 0 0 0 regs

-- The four hold what was put there.
record Holds (a m h t y : ℕ) (regs : List ℕ) : Type 0 where
  minutes : get_or regs a 0 ≡ m
  hours : get_or regs (a + 1) 0 ≡ h
  date : get_or regs (a + 2) 0 ≡ t
  month : get_or regs (a + 3) 0 ≡ y

at_holds : (a m h t y : ℕ) (regs : List ℕ) → a + 3 < length regs → Holds a m h t y (stamp_at a m h t y regs)
at_holds a m h t y regs l =
    let l1 : List ℕ = set regs a m in
    let l2 : List ℕ = set l1 (a + 1) h in
    let l3 : List ℕ = set l2 (a + 2) t in
    let n1 : length l1 ≡ length regs = length-set regs a m in
    let n2 : length l2 ≡ length l1 = length-set l1 (a + 1) h in
    let n3 : length l3 ≡ length l2 = length-set l2 (a + 2) t in
    record {
      minutes =
          get_or-set_other l3 (a + 3) a y 0 (λ e. omega arith) ∙ get_or-set_other l2 (a + 2) a t 0 (λ e. omega arith)
          ∙ get_or-set_other l1 (a + 1) a h 0 (λ e. omega arith) ∙ get_or-set_same regs a m 0 (omega arith);
      hours =
          get_or-set_other l3 (a + 3) (a + 1) y 0 (λ e. omega arith) ∙ get_or-set_other l2 (a + 2) (a + 1) t 0 (λ e. omega arith)
          ∙ get_or-set_same l1 (a + 1) h 0 (omega arith);
      date = get_or-set_other l3 (a + 3) (a + 2) y 0 (λ e. omega arith) ∙ get_or-set_same l2 (a + 2) t 0 (omega arith);
      month = get_or-set_same l3 (a + 3) y 0 (omega arith);
    }

-- A time-stamp shows the time that was copied into it.
pub stamped_shows : (a : ℕ) (regs : List ℕ) → a + 3 < length regs → Shows a (stamped a regs) regs
unfolding stamped
stamped_shows a regs l =
    let p = at_holds a (get_or regs minutes_at 0) (stamp_hours regs) (get_or regs date_at 0) (stamp_month regs) regs l in
    record {
      minutes = p.minutes;
      hours = omega (arith, p.hours);
      date = p.date;
      month = omega (arith, p.month);
      day = omega (arith, p.month);
    }

-- it shows it as long as its four registers stay
pub shows_kept :
    (a : ℕ) (regs regs' time : List ℕ) → ((k : ℕ) → a ≤ k → k < a + 4 → get_or regs' k 0 ≡ get_or regs k 0) → Shows a regs time → Shows a regs' time
shows_kept a regs regs' time e s =
    let d = e (a + 3) (omega arith) (omega arith) in
    record {
      minutes = e a (omega arith) (omega arith) ∙ s.minutes;
      hours = e (a + 1) (omega arith) (omega arith) ∙ s.hours;
      date = e (a + 2) (omega arith) (omega arith) ∙ s.date;
      month = ap (λ (n : ℕ). n % 32) d ∙ s.month;
      day = ap (λ (n : ℕ). n / 32) d ∙ s.day;
    }
