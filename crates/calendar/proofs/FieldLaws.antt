-- Laws of one BCD field: what a valid value is, and what is known of a field after its step.
-- Assumes nothing.
use mathlib.Core.Path.{◌≡◌, ap}
use mathlib.Core.Bool.{Bool, true, false, ◌&&◌}
use Prim.Native.Nat.{ℕ, ◌+◌, ◌-◌, ◌*◌, ◌/◌, ◌%◌, ◌<◌, ◌≤◌}
use native.Mathlib.Omega.{arith}
use borrow.Author.Tests.{leb-true, le-leb, ltb-true, eqb-true, eqb-false}
use lib.Dec.{leb, ltb, eqb}
use Rattle.base.specs.Words.{is_bcd, bcd_value, bcd_byte}
use Rattle.base.proofs.Tests.{by_cases, both_left, both_right, pick_when}
use Rattle.calendar.specs.declared.Step.{Step}
use Rattle.calendar.specs.Field.{valid_field, next_field, on_carry, beside, beside_step}
use Rattle.std.proofs.Math.Nat.{mod-eq_of_lt}
use Rattle.std.proofs.lemmas.Nat.{div-add-mod', div_below, mul-le}

-- K7. What is known of a valid value: its two digits, and where it lies.
pub record Valid (first last x : ℕ) : Type 0 where
  pub tens : x / 16 ≤ 9
  pub units : x % 16 ≤ 9
  pub low : first ≤ x
  pub high : x ≤ last

pub valid_is : (first last x : ℕ) → valid_field first last x ≡ true → Valid first last x
unfolding valid_field
valid_is first last x e =
    let d : is_bcd x ≡ true = both_left (is_bcd x) (leb first x && leb x last) e in
    let r : (leb first x && leb x last) ≡ true = both_right (is_bcd x) (leb first x && leb x last) e in
    record {
      tens = leb-true (x / 16) 9 (both_left (leb (x / 16) 9) (leb (x % 16) 9) d);
      units = leb-true (x % 16) 9 (both_right (leb (x / 16) 9) (leb (x % 16) 9) d);
      low = leb-true first x (both_left (leb first x) (leb x last) r);
      high = leb-true x last (both_right (leb first x) (leb x last) r);
    }

-- K7. Nothing more is asked of one.
pub is_valid : (first last x : ℕ) → Valid first last x → valid_field first last x ≡ true
unfolding valid_field
is_valid first last x v =
    simp (le-leb (x / 16) 9 v.tens, le-leb (x % 16) 9 v.units, le-leb first x v.low, le-leb x last v.high)

-- one more than a BCD value below another is at most that other
next_at_most :
    (x y : ℕ) → x / 16 ≤ 9 → x % 16 ≤ 9 → y / 16 ≤ 9 → y % 16 ≤ 9 → x < y → bcd_byte (bcd_value x + 1) ≤ y
next_at_most x y a b c d h =
    by_cases (eqb (x % 16) 9)
    (λ e.
    let n : x % 16 ≡ 9 = eqb-true (x % 16) 9 e in
    let q : (bcd_value x + 1) / 10 ≡ x / 16 + 1 = omega arith in
    omega arith)
    (λ e.
    let n : x % 16 < 9 = omega (arith, eqb-false (x % 16) 9 e) in
    let q : (bcd_value x + 1) / 10 ≡ x / 16 = omega arith in
    omega arith)

-- K8. After its step a field is valid, whatever it was before, if its own limits are.
pub next_valid :
    (first last x : ℕ) → Valid first last first → Valid first last last → Valid first last (next_field first last x).value
unfolding next_field
next_valid first last x f l =
    pick_when (λ (s : Step ℕ). Valid first last s.value) (valid_field first last x && ltb x last)
    (λ e.
    let v : Valid first last x = valid_is first last x (both_left (valid_field first last x) (ltb x last) e) in
    let h : x < last = ltb-true x last (both_right (valid_field first last x) (ltb x last) e) in
    record {
      tens = omega arith;
      units = omega arith;
      low = omega arith;
      high = next_at_most x last v.tens v.units l.tens l.units h;
    })
    (λ e. f)

-- a field with such limits is then a byte
pub next_byte :
    (first last x : ℕ) → Valid first last first → Valid first last last → (next_field first last x).value < 256
next_byte first last x f l = let v = next_valid first last x f l in omega arith

-- a field that may have moved is below a bound of both
pub on_carry_below : (n : ℕ) (carry : Bool) (x : ℕ) (s : Step ℕ) → x < n → s.value < n → (on_carry carry x s).value < n
on_carry_below n true x s p q = q
on_carry_below n false x s p q = p

-- K9. A byte with another value in a field of whole bits is a byte.
pub beside_byte : (w b v : ℕ) → 0 < w → 256 % w ≡ 0 → b < 256 → beside w b v < 256
beside_byte w b v p z h =
    let m : 256 / w * w ≡ 256 = omega (arith, div-add-mod' 256 w) in
    let q : b / w < 256 / w = div_below b w (256 / w) p (omega arith) in
    let r : (b / w + 1) * w ≤ 256 / w * w = mul-le (b / w + 1) w (256 / w) w (omega arith) (omega arith) in
    omega (arith, div-add-mod' b w)

-- K9. A field that fills its byte has no bits beside it.
pub step_whole :
    (first last b : ℕ) → Valid first last first → Valid first last last → b < 256 →
    beside_step 256 b (next_field first last (b % 256)) ≡ next_field first last b
step_whole first last b f l p =
    let s = next_field first last b in
    let v : b - b + s.value % 256 ≡ s.value = omega (arith, mod-eq_of_lt (next_byte first last b f l)) in
    rw (mod-eq_of_lt p) (ap (λ (x : ℕ). record { value = x; carry = s.carry }) v)
