-- Laws of a list whose start is replaced: the start that it has already, a start of its length, a longer start over a shorter one, the start
-- read again, and the length.
-- Assumes nothing.
use mathlib.Core.Path.{◌≡◌, refl, sym, ap, ◌∙◌}
use mathlib.Core.List.{List, [], ◌∷◌, ◌++◌, append-nil}
use Prim.Native.Nat.{ℕ, zero, suc, ◌+◌, ◌-◌, ◌≤◌}
use native.Mathlib.Omega.{arith}
use lib.ListN.{length, take, drop, drop_of_length-le, length-append, length-drop}
use lib.Seq.{take_at, drop-append-add, drop-drop}
use Rattle.base.specs.Words.{over}

pub over_start : (n : ℕ) (l : List ℕ) → over (take n l) l ≡ l
over_start zero l = refl
over_start (suc n) [] = refl
over_start (suc n) (x ∷ l) = ap (λ (m : List ℕ). x ∷ m) (over_start n l)

pub over_whole : (x l : List ℕ) → length x ≡ length l → over x l ≡ x
over_whole x l e = ap (λ (m : List ℕ). x ++ m) (drop_of_length-le l {i = length x} (omega arith)) ∙ append-nil x

pub over_over : (x y l : List ℕ) → length x ≤ length y → over y (over x l) ≡ over y l
over_over x y l h =
    let k = length y - length x in
    let e : length x + k ≡ length y = omega arith in
    ap (λ (m : List ℕ). y ++ m)
    (ap (λ (n : ℕ). drop n (over x l)) (sym e) ∙ drop-append-add x (drop (length x) l) k ∙ drop-drop k (length x) l ∙ ap (λ (n : ℕ). drop n l) e)

pub take_over : (x l : List ℕ) (n : ℕ) → length x ≡ n → take n (over x l) ≡ x
take_over x l n e = take_at x (drop (length x) l) n e

pub length_over : (x l : List ℕ) → length x ≤ length l → length (over x l) ≡ length l
length_over x l h = length-append x (drop (length x) l) ∙ omega (arith, length-drop (length x) l)
