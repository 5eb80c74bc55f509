-- Laws of a store under a set: how a loop builds it, its length, what a byte is after it, a store into a part of a list, and how many
-- places it changes.
-- Assumes nothing.
use mathlib.Core.Path.{◌≡◌, refl, sym, ap, subst, ◌∙◌}
use mathlib.Core.Bool.{Bool, true, false}
use mathlib.Core.List.{List, [], ◌∷◌, ◌++◌}
use Prim.Native.Nat.{ℕ, zero, suc, ◌+◌, ◌<◌, ◌≤◌}
use native.Mathlib.Nat.{zero-add, suc-add, not-suc-le-zero, le_of_suc-le-suc}
use native.Mathlib.Numerals.{add-one}
use native.Mathlib.Omega.{arith}
use lib.ListN.{length, get_or, set, take, replicate, length-set}
use borrow.Author.Tests.{eq-eqb, ne_eqb}
use lib.Seq.{get_or-set_other, set-append_left}
use Rattle.base.specs.Words.{pick, bit, members, store_under, changes}
use Rattle.base.proofs.Tests.{by_cases, pick_case}

pub store_none : (m : List ℕ) (base s : ℕ) (bytes : List ℕ) → store_under m base s bytes 0 ≡ m
unfolding store_under
store_none m base s bytes = refl

pub store_more :
    (m : List ℕ) (base s : ℕ) (bytes : List ℕ) (n : ℕ)
    → store_under m base s bytes (n + 1) ≡ pick (bit s n) (set (store_under m base s bytes n) (base + n) (get_or bytes n 0)) (store_under m base s bytes n)
unfolding store_under
store_more m base s bytes n = rw add-one

pub store_length : (m : List ℕ) (base s : ℕ) (bytes : List ℕ) (n : ℕ) → length (store_under m base s bytes n) ≡ length m
unfolding store_under
store_length m base s bytes zero = refl
store_length m base s bytes (suc n) =
    pick_case (λ (l : List ℕ). length l ≡ length m) (bit s n)
    (length-set (store_under m base s bytes n) (base + n) (get_or bytes n 0) ∙ store_length m base s bytes n)
    (store_length m base s bytes n)

-- what holds of the stored value where it is read, and of the value that was there, holds of the value there after the store
pub set_case :
    (P : ℕ → Type 0) (l : List ℕ) (i k v : ℕ) → (k ≡ i → P v) → P (get_or l k 0) → P (get_or (set l i v) k 0)
set_case P [] i k v p q = q
set_case P (x ∷ xs) zero zero v p q = p refl
set_case P (x ∷ xs) zero (suc k) v p q = q
set_case P (x ∷ xs) (suc i) zero v p q = q
set_case P (x ∷ xs) (suc i) (suc k) v p q = set_case P xs i k v (λ e. p (ap suc e)) q

-- what holds of each place of a list holds of each after a store of a value of which it holds there
pub set_each :
    (P : ℕ → ℕ → Type 0) (l : List ℕ) (i v : ℕ) → P i v → ((k : ℕ) → P k (get_or l k 0)) → (k : ℕ) → P k (get_or (set l i v) k 0)
set_each P l i v p q k = set_case (P k) l i k v (λ e. subst (λ (j : ℕ). P j v) (sym e) p) (q k)

-- what holds of each byte that is stored and of each that was there holds of each after the store
pub store_each :
    (P : ℕ → Type 0) (m : List ℕ) (base s : ℕ) (bytes : List ℕ) (n : ℕ)
    → ((k : ℕ) → P (get_or bytes k 0)) → ((k : ℕ) → P (get_or m k 0)) → (k : ℕ) → P (get_or (store_under m base s bytes n) k 0)
unfolding store_under
store_each P m base s bytes zero p q = q
store_each P m base s bytes (suc n) p q =
    let r = store_each P m base s bytes n p q in
    pick_case (λ (l : List ℕ). (k : ℕ) → P (get_or l k 0)) (bit s n)
    (set_each (λ k v. P v) (store_under m base s bytes n) (base + n) (get_or bytes n 0) (p n) r) r

-- and of each of a list of one value, past its end too
pub replicate_each : (P : ℕ → Type 0) (n v : ℕ) → P v → P 0 → (k : ℕ) → P (get_or (replicate n v) k 0)
replicate_each P zero v p q k = q
replicate_each P (suc n) v p q zero = p
replicate_each P (suc n) v p q (suc k) = replicate_each P n v p q k

set_right : (x y : List ℕ) (i v : ℕ) → set (x ++ y) (length x + i) v ≡ x ++ set y i v
set_right [] y i v = ap (λ (k : ℕ). set y k v) (zero-add i)
set_right (b ∷ x) y i v = ap (λ (k : ℕ). set (b ∷ (x ++ y)) k v) (suc-add (length x) i) ∙ ap (λ (l : List ℕ). b ∷ l) (set_right x y i v)

pick_both : (f : List ℕ → List ℕ) (test : Bool) (u v u' v' : List ℕ) → u' ≡ f u → v' ≡ f v → pick test u' v' ≡ f (pick test u v)
pick_both f true u v u' v' p q = p
pick_both f false u v u' v' p q = q

-- what is stored into the bytes of a first part, and into those behind it
pub store_left :
    (x y : List ℕ) (s : ℕ) (bytes : List ℕ) (n : ℕ) → n ≤ length x → store_under (x ++ y) 0 s bytes n ≡ store_under x 0 s bytes n ++ y
unfolding store_under
store_left x y s bytes zero h = refl
store_left x y s bytes (suc n) h =
    let e = store_left x y s bytes n (omega arith) in
    let r = store_under x 0 s bytes n in
    let i : 0 + n < length r = omega (arith, store_length x 0 s bytes n) in
    pick_both (λ (l : List ℕ). l ++ y) (bit s n) (set r (0 + n) (get_or bytes n 0)) r _ _
    (ap (λ (l : List ℕ). set l (0 + n) (get_or bytes n 0)) e ∙ set-append_left r y (0 + n) (get_or bytes n 0) i)
    e

pub store_right :
    (x y : List ℕ) (s : ℕ) (bytes : List ℕ) (n : ℕ) → store_under (x ++ y) (length x) s bytes n ≡ x ++ store_under y 0 s bytes n
unfolding store_under
store_right x y s bytes zero = refl
store_right x y s bytes (suc n) =
    let e = store_right x y s bytes n in
    let r = store_under y 0 s bytes n in
    pick_both (λ (l : List ℕ). x ++ l) (bit s n) (set r (0 + n) (get_or bytes n 0)) r _ _
    (ap (λ (l : List ℕ). set l (length x + n) (get_or bytes n 0)) e ∙ set_right x r n (get_or bytes n 0)
    ∙ ap (λ (k : ℕ). x ++ set r k (get_or bytes n 0)) (sym (zero-add n)))
    e

-- At a place beyond the offsets nothing is stored.
store_beyond : (m : List ℕ) (base s : ℕ) (bytes : List ℕ) (n p : ℕ) → base + n ≤ p → get_or (store_under m base s bytes n) p 0 ≡ get_or m p 0
unfolding store_under
store_beyond m base s bytes zero p h = refl
store_beyond m base s bytes (suc n) p h =
    pick_case (λ (l : List ℕ). get_or l p 0 ≡ get_or m p 0) (bit s n)
    (get_or-set_other (store_under m base s bytes n) (base + n) p (get_or bytes n 0) 0 (λ e. omega arith) ∙ store_beyond m base s bytes n p (omega arith))
    (store_beyond m base s bytes n p (omega arith))

-- One place more differs where another value is put than the one that stood there.
changes_none : (m : List ℕ) → changes m m ≡ 0
unfolding changes
changes_none [] = refl
changes_none (x ∷ m) = rw (eq-eqb x x refl) (omega (arith, changes_none m))

changes_set :
    (m l : List ℕ) (i v : ℕ) → i < length m → length l ≡ length m → get_or l i 0 ≡ get_or m i 0 → (v ≡ get_or m i 0 → ⊥) → changes m (set l i v) ≡ changes m l + 1
unfolding changes
changes_set [] l i v h q e d = absurd (omega arith)
changes_set (x ∷ m) [] i v h q e d = absurd (omega arith)
changes_set (x ∷ m) (y ∷ l) zero v h q e d =
    rw (ne_eqb x v (λ t. d (sym t)), eq-eqb x y (sym e)) (omega arith)
changes_set (x ∷ m) (y ∷ l) (suc i) v h q e d = omega (arith, changes_set m l i v (omega arith) (omega arith) e d)

-- So many places differ as there are offsets in the set, where each byte is another than the one at its place.
pub store_changes :
    (m : List ℕ) (base s : ℕ) (bytes : List ℕ) (n : ℕ) → base + n ≤ length m → ((k : ℕ) → k < n → get_or bytes k 0 ≡ get_or m (base + k) 0 → ⊥)
    → changes m (store_under m base s bytes n) ≡ members s n
unfolding store_under members
store_changes m base s bytes zero h d = changes_none m
store_changes m base s bytes (suc n) h d =
    let e = store_changes m base s bytes n (omega arith) (λ k l. d k (omega arith)) in
    by_cases (bit s n)
    (λ t.
    rw t
    (changes_set m (store_under m base s bytes n) (base + n) (get_or bytes n 0) (omega arith) (store_length m base s bytes n)
    (store_beyond m base s bytes n (base + n) (omega arith)) (d n (omega arith)) ∙ ap (λ (k : ℕ). k + 1) e))
    (λ t. rw t (e ∙ omega arith))

pub take_replicate : (k n v : ℕ) → k ≤ n → take k (replicate n v) ≡ replicate k v
take_replicate zero n v h = refl
take_replicate (suc k) zero v h = absurd (not-suc-le-zero h)
take_replicate (suc k) (suc n) v h = ap (λ (s : List ℕ). v ∷ s) (take_replicate k n v (le_of_suc-le-suc h))
