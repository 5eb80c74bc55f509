-- Laws of tests and choices: what a test that held or failed says, and what holds of both answers of a choice.
-- Assumes nothing.
use mathlib.Core.Path.{◌≡◌, refl, sym, ap, ◌∙◌}
use mathlib.Core.Bool.{Bool, true, false, not, ◌&&◌, ◌||◌, beq, false≢true, true≢false}
use mathlib.Core.Logic.{◌⊎◌, inl, inr, ⊎_elim}
use Prim.Native.Nat.{ℕ, ◌<◌}
use native.Mathlib.Omega.{arith}
use borrow.Author.Tests.{eq-eqb, ne_eqb, ltb-true, ltb-false}
use lib.Dec.{T, eqb, ltb}
use mathlib.Core.List.{List, [], ◌∷◌}
use Rattle.base.specs.Words.{pick, flag, first_of, all_of, any_after, any_of}

-- by the two cases of a test
pub by_cases : {P : Type 0} (b : Bool) → (b ≡ true → P) → (b ≡ false → P) → P
by_cases true f g = f refl
by_cases false f g = g refl

-- the answer of a test that held, and of one that failed
pub yes : {A : Type 0} {b : Bool} (x y : A) → b ≡ true → x ≡ pick b x y
yes x y e = rw e

pub no : {A : Type 0} {b : Bool} (x y : A) → b ≡ false → y ≡ pick b x y
no x y e = rw e

-- what holds of both answers of a choice holds of its answer
pub pick_case : {A : Type 0} (P : A → Type 0) (t : Bool) {a b : A} → P a → P b → P (pick t a b)
pick_case P true p q = p
pick_case P false p q = q

-- the same where each answer may use its test
pub pick_when : {A : Type 0} (P : A → Type 0) (t : Bool) {a b : A} → (t ≡ true → P a) → (t ≡ false → P b) → P (pick t a b)
pick_when P true p q = p refl
pick_when P false p q = q refl

-- the parts of a conjunction that holds
pub both_left : (a b : Bool) → (a && b) ≡ true → a ≡ true
both_left true b e = refl
both_left false b e = e

pub both_right : (a b : Bool) → (a && b) ≡ true → b ≡ true
both_right true b e = e
both_right false b e = absurd (false≢true e)

-- What holds of the value of each pair whose key passes, and of the last value, holds of the first match. That the table is good is one computed
-- test, so that a row more is no line here.
pub first_when :
    {K A : Type 0} (P : A → Type 0) (test : K → Bool) (good : K × A → Bool) (cs : List (K × A)) {last : A} → all_of good cs ≡ true
    → ((c : K × A) → good c ≡ true → test c.0 ≡ true → P c.1) → P last → P (first_of test cs last)
first_when P test good [] g p q = q
first_when P test good (c ∷ cs) g p q =
    pick_when P (test c.0) (λ t. p c (both_left (good c) (all_of good cs) g) t)
    (λ t. first_when P test good cs (both_right (good c) (all_of good cs) g) p q)

-- a choice between equals
pub pick_same : {A : Type 0} (t : Bool) (a : A) → pick t a a ≡ a
pick_same true a = refl
pick_same false a = refl

-- a function of a choice is the choice of its values
pub pick_map : {A B : Type 0} (f : A → B) (t : Bool) (a b : A) → f (pick t a b) ≡ pick t (f a) (f b)
pick_map f true a b = refl
pick_map f false a b = refl

-- a choice between a test that may be joined by another and the test alone
pub pick_or : (t x y : Bool) → pick t (x || y) x ≡ x || (t && y)
pick_or true x y = refl
pick_or false true y = refl
pick_or false false y = refl

-- a number that is not above 0 is 0
pub not_positive : (n : ℕ) → not (ltb 0 n) ≡ eqb n 0
not_positive n =
    by_cases (ltb 0 n)
    (λ t. ap not t ∙ sym (ne_eqb n 0 (λ e. omega (arith, ltb-true 0 n t))))
    (λ t. ap not t ∙ sym (eq-eqb n 0 (omega (arith, ltb-false 0 n t))))

-- a row of a chain of refusals that did not refuse
pub row : (t : Bool) (k x : ℕ) → 0 < k → pick t k x ≡ 0 → (t ≡ false) × (x ≡ 0)
row true k x h e = absurd (omega arith)
row false k x h e = (refl, e)

-- a conjunction of what holds
pub both_true : {a b : Bool} → a ≡ true → b ≡ true → (a && b) ≡ true
both_true p q = rw (p, q)

-- a disjunction that holds, and the parts of one that fails
pub either : (a b : Bool) → (a || b) ≡ true → (a ≡ true) ⊎ (b ≡ true)
either true b e = inl refl
either false b e = inr e

pub neither_left : (a b : Bool) → (a || b) ≡ false → a ≡ false
neither_left true b e = e
neither_left false b e = refl

pub neither_right : (a b : Bool) → (a || b) ≡ false → b ≡ false
neither_right true b e = absurd (true≢false e)
neither_right false b e = e

pub neither : {a b : Bool} → a ≡ false → b ≡ false → (a || b) ≡ false
neither p q = rw (p, q)

pub true_false : {b : Bool} → b ≡ true → b ≡ false → ⊥
true_false p q = let z : ◌≡◌ {A = ℕ} 0 1 = cc in omega arith

-- T and its equation
pub T_true : (b : Bool) → T b → b ≡ true
T_true true t = refl
T_true false t = absurd t

pub true_T : (b : Bool) → b ≡ true → T b
true_T true e = tt
true_T false e = absurd (true_false e refl)

-- two tests that agree
pub same→eq : (a b : Bool) → T (beq a b) → a ≡ b
same→eq true true t = refl
same→eq true false t = absurd t
same→eq false true t = absurd t
same→eq false false t = refl

-- the number of a test is 0 or 1
pub flag_below : (t : Bool) → flag t < 2
flag_below true = omega arith
flag_below false = omega arith

-- a list of tests of which none holds, and what each test of a list gives where it holds
abbrev pub None : List Bool → Type 0
None [] = Unit {0}
None (t ∷ ts) = (t ≡ false) × None ts

abbrev pub Given : Type 0 → List Bool → Type 0
Given P [] = Unit {0}
Given P (t ∷ ts) = (t ≡ true → P) × Given P ts

none_after : (t : Bool) (ts : List Bool) → any_after t ts ≡ false → None (t ∷ ts)
none_after t [] e = (e, tt)
none_after t (u ∷ us) e =
    let n = none_after (t || u) us e in
    (neither_left t u n.0, (neither_right t u n.0, n.1))

-- the one law of a list of tests: none holds, or one gives what it gives
pub none_holds : (ts : List Bool) → any_of ts ≡ false → None ts
none_holds [] e = tt
none_holds (t ∷ ts) e = none_after t ts e

some_after : {P : Type 0} (t : Bool) (ts : List Bool) → any_after t ts ≡ true → Given P (t ∷ ts) → P
some_after t [] e g = g.0 e
some_after t (u ∷ us) e g = some_after (t || u) us e (λ b. ⊎_elim g.0 g.1.0 (either t u b), g.1.1)

pub some_holds : {P : Type 0} (ts : List Bool) → any_of ts ≡ true → Given P ts → P
some_holds [] e g = absurd (false≢true e)
some_holds (t ∷ ts) e g = some_after t ts e g
