-- Laws of bits: a mask of one bit tests it, a mask of the lowest bits keeps what is below it, the count of ones is the number of members.
-- Assumes nothing.
use mathlib.Core.Path.{◌≡◌, refl, sym, ap, ◌∙◌}
use mathlib.Core.Bool.{false, beq, ◌&&◌, ◌||◌}
use mathlib.Core.List.{◌∷◌, ◌++◌}
use Prim.Native.Nat.{ℕ, zero, suc, ◌+◌, ◌-◌, ◌/◌, ◌%◌, ◌<◌, ◌≤◌, ◌^◌, min, max}
use native.Mathlib.Omega.{arith}
use lib.Dec.{eqb, ltb}
use borrow.Author.Tests.{eqb-true, eq-eqb, ltb-true, lt-ltb}
use lib.Arith.{bin_ind}
use lib.Bits.{bit_and, bit_or, and_step, and_shr, and_comm, and_le_l, or_step, or_shr, or_add_and}
use lib.Pow.{pow_pos, shr-shr}
use lib.Count.{ones, ones_in}
use Rattle.base.specs.Words.{every, bit, msb_first, members}
use Rattle.base.proofs.Tests.{same→eq, true_T, flag_below}
use Rattle.base.proofs.Every.{every_at, same_below, same_test_below}

-- how many ones a byte has is how many offsets are in the set
pub count_ones : (s : ℕ) → s < 256 → ones s ≡ members s 8
unfolding ones ones_in members every
count_ones s h = same_below ones (λ (n : ℕ). members n 8) 256 refl s h

-- a set has at most n members below n
pub members_most : (s n : ℕ) → members s n ≤ n
unfolding members
members_most s zero = omega arith
members_most s (suc n) = omega (arith, members_most s n, flag_below (bit s n))

-- a mask of the lowest k bits keeps a byte exactly where the byte has no bit above them
low_mask : (k : ℕ) → k < 9 → (b : ℕ) → b < 256 → eqb (bit_and b (2 ^ k - 1)) b ≡ ltb b (2 ^ k)
unfolding every
low_mask k hk b hb =
    same→eq (eqb (bit_and b (2 ^ k - 1)) b) (ltb b (2 ^ k))
    (true_T (beq (eqb (bit_and b (2 ^ k - 1)) b) (ltb b (2 ^ k)))
    (every_at (λ (n : ℕ). beq (eqb (bit_and n (2 ^ k - 1)) n) (ltb n (2 ^ k))) 256
    (every_at (λ (j : ℕ). every (λ (n : ℕ). beq (eqb (bit_and n (2 ^ j - 1)) n) (ltb n (2 ^ j))) 256) 9 refl k hk)
    b hb))

pub mask_below : (k : ℕ) → k < 9 → (b : ℕ) → b < 256 → bit_and b (2 ^ k - 1) ≡ b → b < 2 ^ k
mask_below k hk b hb e = ltb-true b (2 ^ k) (sym (low_mask k hk b hb) ∙ eq-eqb (bit_and b (2 ^ k - 1)) b e)

pub below_mask : (k : ℕ) → k < 9 → (b : ℕ) → b < 256 → b < 2 ^ k → bit_and b (2 ^ k - 1) ≡ b
below_mask k hk b hb h = eqb-true (bit_and b (2 ^ k - 1)) b (low_mask k hk b hb ∙ lt-ltb b (2 ^ k) h)

-- of three numbers it does not matter which two are taken together
low_digit : (a b : ℕ) → bit_and a b % 2 ≡ min (a % 2) (b % 2)
low_digit a b = omega (arith, and_step a b)

pub and_assoc : (a b c : ℕ) → bit_and (bit_and a b) c ≡ bit_and a (bit_and b c)
and_assoc =
    bin_ind (λ (a : ℕ). (b c : ℕ) → bit_and (bit_and a b) c ≡ bit_and a (bit_and b c)) (λ b c. refl)
    (λ a ih b c.
    let h : bit_and (bit_and a b / 2) (c / 2) ≡ bit_and (a / 2) (bit_and b c / 2) = simp (and_shr a b 1, and_shr b c 1) (ih (b / 2) (c / 2)) in
    and_step (bit_and a b) c ∙ omega (arith, h, low_digit a b, low_digit b c) ∙ sym (and_step a (bit_and b c)))

-- a number under a mask that lies inside another is inside the other
pub and_inside : (v w m : ℕ) → bit_and w m ≡ w → bit_and (bit_and v w) m ≡ bit_and v w
and_inside v w m e = and_assoc v w m ∙ ap (bit_and v) e

-- what is inside a mask is so under another one too
pub inside_and : (v c m : ℕ) → bit_and v m ≡ v → bit_and (bit_and v c) m ≡ bit_and v c
inside_and v c m e = and_assoc v c m ∙ ap (bit_and v) (and_comm c m) ∙ sym (and_assoc v m c) ∙ ap (λ (n : ℕ). bit_and n c) e

-- an and goes into both parts of an or
high_digit : (a b : ℕ) → bit_or a b % 2 ≡ max (a % 2) (b % 2)
high_digit a b = omega (arith, or_step a b)

pub and_or : (a b c : ℕ) → bit_and (bit_or a b) c ≡ bit_or (bit_and a c) (bit_and b c)
and_or =
    bin_ind (λ (a : ℕ). (b c : ℕ) → bit_and (bit_or a b) c ≡ bit_or (bit_and a c) (bit_and b c)) (λ b c. refl)
    (λ a ih b c.
    let h : bit_and (bit_or a b / 2) (c / 2) ≡ bit_or (bit_and a c / 2) (bit_and b c / 2) =
    simp (or_shr a b 1, and_shr a c 1, and_shr b c 1) (ih (b / 2) (c / 2)) in
    and_step (bit_or a b) c ∙ omega (arith, h, high_digit a b, low_digit a c, low_digit b c) ∙ sym (or_step (bit_and a c) (bit_and b c)))

-- so a number written over another under a mask is inside every mask that both lie inside
pub over_inside : (old v w c m : ℕ) → bit_and old m ≡ old → bit_and w m ≡ w → bit_and (bit_or (bit_and old c) (bit_and v w)) m ≡ bit_or (bit_and old c) (bit_and v w)
over_inside old v w c m e f =
    and_or (bit_and old c) (bit_and v w) m ∙ (λ i. bit_or (inside_and old c m e i) (and_inside v w m f i))

-- bits of 0 and of a power of two
pub zero_bit : (k : ℕ) → k < 8 → bit 0 k ≡ false
unfolding every
zero_bit k h = same_test_below (bit 0) (λ (n : ℕ). false) 8 refl k h

pub power_bit : (j k : ℕ) → j < 8 → k < 8 → bit (2 ^ j) k ≡ eqb k j
unfolding every
power_bit j k hj hk =
    same→eq (bit (2 ^ j) k) (eqb k j)
    (true_T (beq (bit (2 ^ j) k) (eqb k j))
    (every_at (λ (n : ℕ). beq (bit (2 ^ j) n) (eqb n j)) 8
    (every_at (λ (m : ℕ). every (λ (n : ℕ). beq (bit (2 ^ m) n) (eqb n m)) 8) 8 refl j hj) k hk))

-- of two digits, the larger is 1 where one of them is, and the smaller where both are
either_one : (x y : ℕ) → x < 2 → y < 2 → eqb (max x y) 1 ≡ eqb x 1 || eqb y 1
unfolding every
either_one x y hx hy =
    same→eq (eqb (max x y) 1) (eqb x 1 || eqb y 1)
    (true_T (beq (eqb (max x y) 1) (eqb x 1 || eqb y 1))
    (every_at (λ (n : ℕ). beq (eqb (max x n) 1) (eqb x 1 || eqb n 1)) 2
    (every_at (λ (m : ℕ). every (λ (n : ℕ). beq (eqb (max m n) 1) (eqb m 1 || eqb n 1)) 2) 2 refl x hx) y hy))

odd_or : (a b : ℕ) → eqb (bit_or a b % 2) 1 ≡ eqb (a % 2) 1 || eqb (b % 2) 1
odd_or a b =
    let e : bit_or a b % 2 ≡ max (a % 2) (b % 2) = omega (arith, or_step a b) in
    ap (λ (n : ℕ). eqb n 1) e ∙ either_one (a % 2) (b % 2) (omega arith) (omega arith)

-- a bit of an or
pub or_bit : (a b k : ℕ) → bit (bit_or a b) k ≡ bit a k || bit b k
or_bit a b k = ap (λ (n : ℕ). eqb (n % 2) 1) (or_shr a b k) ∙ odd_or (a / 2 ^ k) (b / 2 ^ k)

-- an or with a power of two is more than 0
pub or_some : (a j : ℕ) → 0 < bit_or a (2 ^ j)
or_some a j = omega (arith, or_add_and a (2 ^ j), and_le_l a (2 ^ j), pow_pos j)

both_one : (x y : ℕ) → x < 2 → y < 2 → eqb (min x y) 1 ≡ (eqb x 1 && eqb y 1)
unfolding every
both_one x y hx hy =
    same→eq (eqb (min x y) 1) (eqb x 1 && eqb y 1)
    (true_T (beq (eqb (min x y) 1) (eqb x 1 && eqb y 1))
    (every_at (λ (n : ℕ). beq (eqb (min x n) 1) (eqb x 1 && eqb n 1)) 2
    (every_at (λ (m : ℕ). every (λ (n : ℕ). beq (eqb (min m n) 1) (eqb m 1 && eqb n 1)) 2) 2 refl x hx) y hy))

-- a bit of an and
pub and_bit : (a b k : ℕ) → bit (bit_and a b) k ≡ (bit a k && bit b k)
and_bit a b k =
    ap (λ (n : ℕ). eqb (n % 2) 1) (and_shr a b k) ∙ ap (λ (n : ℕ). eqb n 1) (low_digit (a / 2 ^ k) (b / 2 ^ k))
    ∙ both_one (a / 2 ^ k % 2) (b / 2 ^ k % 2) (omega arith) (omega arith)

-- of k + m bits the first k are those of the number without its last m
pub msb_split : (k m b : ℕ) → msb_first (k + m) b ≡ msb_first k (b / 2 ^ m) ++ msb_first m b
unfolding msb_first
msb_split zero m b = ap (λ (n : ℕ). msb_first n b) (let e : 0 + m ≡ m = omega arith in e)
msb_split (suc k) m b =
    let s : suc k + m ≡ suc (k + m) = omega arith in
    let e : b / 2 ^ (k + m) ≡ b / 2 ^ m / 2 ^ k = ap (λ (n : ℕ). b / 2 ^ n) (let c : k + m ≡ m + k = omega arith in c) ∙ sym (shr-shr b m k) in
    ap (λ (n : ℕ). msb_first n b) s ∙ (λ i. eqb (e i % 2) 1 ∷ msb_split k m b i)
