-- Laws of a page stored into a lent memory: a turn of the loop that stores it, and the part of the memory that it is.
-- Assumes nothing.
use mathlib.Core.Path.{◌≡◌, sym, ap, ◌∙◌}
use mathlib.Core.List.{List, ◌++◌}
use Prim.Native.Nat.{ℕ, ◌+◌, ◌-◌, ◌/◌, ◌%◌, ◌^◌, ◌≤◌}
use native.Mathlib.Nat.{zero-add}
use native.Mathlib.Omega.{arith}
use borrow.Author.Tests.{eq-eqb, ne_eqb}
use lib.ListN.{length, get_or, set, take, drop, length-drop, take-append-drop}
use lib.Seq.{length-take-le}
use Rattle.base.specs.Words.{store_under}
use Rattle.base.proofs.StoreLaws.{store_more, store_left, store_right}

-- a turn of the loop that stores, and one that does not
pub stored :
    (m₀ m m' : List ℕ) (s : ℕ) (bytes : List ℕ) (k : ℕ) → m ≡ store_under m₀ 0 s bytes k → s / 2 ^ k % 2 ≡ 1
    → m' ≡ set m k (get_or bytes k 0) → m' ≡ store_under m₀ 0 s bytes (k + 1)
stored m₀ m m' s bytes k p t q = q ∙ simp (store_more, p, eq-eqb _ _ t, zero-add)

pub skipped :
    (m₀ m m' : List ℕ) (s : ℕ) (bytes : List ℕ) (k : ℕ) → m ≡ store_under m₀ 0 s bytes k → (s / 2 ^ k % 2 ≡ 1 → ⊥)
    → m' ≡ m → m' ≡ store_under m₀ 0 s bytes (k + 1)
skipped m₀ m m' s bytes k p t q = q ∙ simp (store_more, p, ne_eqb _ _ t)

-- a page that is lent, stored and given back is stored in its memory; the page's length is as the code has it
pub store_part :
    (m page : List ℕ) (base s : ℕ) (bytes : List ℕ) → base + 8 ≤ length m
    → page ≡ store_under (take (base + 8 - base) (drop base m)) 0 s bytes 8
    → take base m ++ (page ++ drop (base + 8 - base) (drop base m)) ≡ store_under m base s bytes 8
store_part m page base s bytes l p =
    let w = base + 8 - base in
    let x = take base m in
    let y = take w (drop base m) in
    let z = drop w (drop base m) in
    let b : length x ≡ base = length-take-le base m (omega arith) in
    let k : length y ≡ w = length-take-le w (drop base m) (omega (arith, length-drop base m)) in
    ap (λ (r : List ℕ). x ++ r) (ap (λ (r : List ℕ). r ++ z) p ∙ sym (store_left y z s bytes 8 (omega (arith, k))))
    ∙ sym (store_right x (y ++ z) s bytes 8)
    ∙ ap (λ (r : List ℕ). store_under r (length x) s bytes 8) (ap (λ (r : List ℕ). x ++ r) (take-append-drop w (drop base m)) ∙ take-append-drop base m)
    ∙ ap (λ (i : ℕ). store_under m i s bytes 8) b
