-- A test that holds at each number below n, computed once, and the rule at each such number; and how a loop builds it.
-- Assumes nothing.
use mathlib.Core.Path.{◌≡◌, refl, sym, ap, subst, ◌∙◌}
use mathlib.Core.Bool.{Bool, true, false, beq, ◌&&◌, and-false, true≢false}
use mathlib.Core.Logic.{⊎_elim}
use Prim.Native.Nat.{ℕ, zero, suc, ◌+◌, ◌-◌, ◌<◌, ◌≤◌}
use native.Mathlib.Nat.{le_of_suc-le-suc, not-suc-le-zero, eq-or-lt_of_le}
use native.Mathlib.Numerals.{add-one}
use native.Mathlib.Omega.{arith}
use borrow.Author.Tests.{eqb-true, ltb-true}
use lib.Dec.{eqb, ltb}
use Rattle.base.specs.Words.{every}
use Rattle.base.proofs.Tests.{by_cases, both_left, both_right, same→eq, true_T}

-- the rule at a number below the bound
pub every_at : (f : ℕ → Bool) (n : ℕ) → every f n ≡ true → (k : ℕ) → k < n → f k ≡ true
unfolding every
every_at f zero t k h = absurd (not-suc-le-zero h)
every_at f (suc n) t k h =
    ⊎_elim (λ e. subst (λ (m : ℕ). f m ≡ true) (sym e) (both_right (every f n) (f n) t))
    (λ l. every_at f n (both_left (every f n) (f n) t) k l)
    (eq-or-lt_of_le (le_of_suc-le-suc h))

-- a number at which the test fails
pub every_false : (f : ℕ → Bool) (n k : ℕ) → k < n → f k ≡ false → every f n ≡ false
unfolding every
every_false f zero k h e = absurd (not-suc-le-zero h)
every_false f (suc n) k h e =
    ⊎_elim (λ q. ap (λ (m : ℕ). every f n && f m) (sym q) ∙ ap (λ (b : Bool). every f n && b) e ∙ and-false (every f n))
    (λ l. ap (λ (b : Bool). b && f n) (every_false f n k l e))
    (eq-or-lt_of_le (le_of_suc-le-suc h))

-- where it fails there is a number at which the test fails
pub every_miss : (f : ℕ → Bool) (n : ℕ) → every f n ≡ false → (k : ℕ) × (k < n) × (f k ≡ false)
unfolding every
every_miss f zero e = absurd (true≢false e)
every_miss f (suc n) e =
    by_cases (every f n)
    (λ p. (n, omega arith, rw p at e))
    (λ p. let m = every_miss f n p in (m.0, omega (arith, m.1), m.2))

-- how a loop that scans upwards builds it
pub every_none : (f : ℕ → Bool) → every f 0 ≡ true
unfolding every
every_none f = refl

pub every_more : (f : ℕ → Bool) (n : ℕ) → every f n ≡ true → f n ≡ true → every f (n + 1) ≡ true
unfolding every
every_more f n p q = rw add-one (simp (p, q))

-- what holds at each number below n is every
pub every_all : (f : ℕ → Bool) (n : ℕ) → ((k : ℕ) → k < n → f k ≡ true) → every f n ≡ true
unfolding every
every_all f zero h = refl
every_all f (suc n) h =
    let p : every f n ≡ true = every_all f n (λ k l. h k (omega arith)) in
    simp (p, h n (omega arith))

-- two functions to numbers agree below n where one computed test says so
pub same_below : (f g : ℕ → ℕ) (n : ℕ) → every (λ (k : ℕ). eqb (f k) (g k)) n ≡ true → (k : ℕ) → k < n → f k ≡ g k
same_below f g n t k h = eqb-true (f k) (g k) (every_at (λ (j : ℕ). eqb (f j) (g j)) n t k h)

-- and two tests
pub same_test_below : (f g : ℕ → Bool) (n : ℕ) → every (λ (k : ℕ). beq (f k) (g k)) n ≡ true → (k : ℕ) → k < n → f k ≡ g k
same_test_below f g n t k h = same→eq (f k) (g k) (true_T (beq (f k) (g k)) (every_at (λ (j : ℕ). beq (f j) (g j)) n t k h))

-- one value at each of n numbers from a on
pub same_from : (f : ℕ → ℕ) (v a n : ℕ) → every (λ (j : ℕ). eqb (f (a + j)) v) n ≡ true → (k : ℕ) → a ≤ k → k < a + n → f k ≡ v
same_from f v a n t k l h =
    let e : k ≡ a + (k - a) = omega arith in
    ap f e ∙ same_below (λ (j : ℕ). f (a + j)) (λ (j : ℕ). v) n t (k - a) (omega arith)

-- a bound that one computed test shows at each number below n
pub bound_below : (f : ℕ → ℕ) (m n : ℕ) → every (λ (k : ℕ). ltb (f k) m) n ≡ true → (k : ℕ) → k < n → f k < m
bound_below f m n t k h = ltb-true (f k) m (every_at (λ (j : ℕ). ltb (f j) m) n t k h)
