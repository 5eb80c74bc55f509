-- Leftover bits: what is taken of a reply is what `BrokenOff` says.
-- Assumes nothing.
use Prim.Native.Nat.{ℕ, ◌+◌, ◌-◌, ◌^◌, ◌<◌}
use native.Mathlib.Omega.{arith}
use mathlib.Core.Path.{◌≡◌, refl, sym, ap, subst, ◌∙◌}
use mathlib.Core.Bool.{Bool}
use mathlib.Core.Logic.{◌↔◌, ◌⊎◌, inl, inr, ◌≢◌, ⊎_elim}
use mathlib.Core.List.{◌++◌}
use borrow.Author.Tests.{eqb-true, eq-eqb, eqb-false}
use lib.Dec.{eqb}
use lib.Pow.{shr_lt, shr_le}
use Rattle.base.specs.Words.{pick, msb_first}
use Rattle.base.proofs.BitLaws.{msb_split}
use Rattle.base.proofs.Tests.{pick_case, pick_when}
use Rattle.std.specs.Prelude.{Option, Some, None}
use Rattle.replies.specs.Reply.{top_bits, first_bits}
use Rattle.replies.specs.Leftover.{BrokenOff}
use Rattle.replies.proofs.ReplyLaws.{ByteOrNone, driven_off}

-- k bits make a number below 2 to the power k,
top_below : (k b : ℕ) → k < 8 → b < 256 → top_bits k b < 2 ^ k
top_below k b hk hb = let e : 8 ≡ k + (8 - k) = omega arith in shr_lt k (8 - k) (subst (λ (n : ℕ). b < 2 ^ n) e hb)

-- and the eight of a byte are they and the rest
top_first : (k b : ℕ) → k < 8 → msb_first 8 b ≡ msb_first k (top_bits k b) ++ msb_first (8 - k) b
top_first k b hk = let e : 8 ≡ k + (8 - k) = omega arith in ap (λ (n : ℕ). msb_first n b) e ∙ msb_split k (8 - k) b

-- The first bits of a reply are those of the exchange broken off.
pub broken_off : (k : ℕ) (r : Option ℕ) → k < 8 → ByteOrNone r → BrokenOff k r (first_bits k r)
broken_off k (Some b) hk hb =
    pick_when (BrokenOff k (Some b)) (eqb k 0) (eqb-true k 0) (λ f. (positive k (eqb-false k 0 f), top_below k b hk hb, top_first k b hk))
  where
    positive : (k : ℕ) → k ≢ 0 → 0 < k
    positive k n = omega (arith, n)
broken_off k None hk hb = tt

-- They are a byte, or none.
pub first_byte_lem : (k : ℕ) (r : Option ℕ) → ByteOrNone r → ByteOrNone (first_bits k r)
first_byte_lem k (Some b) hb = pick_case ByteOrNone (eqb k 0) tt (omega (arith, shr_le b (8 - k)))
first_byte_lem k None hb = tt

-- the bits of a reply are none exactly if there are none or it is none
pub first_none : (k : ℕ) (r : Option ℕ) → (first_bits k r ≡ None) ↔ ((k ≡ 0) ⊎ (r ≡ None))
first_none k (Some b) = (
  pick_when (λ (x : Option ℕ). x ≡ None → (k ≡ 0) ⊎ (Some b ≡ None)) (eqb k 0) (λ t e. inl (eqb-true k 0 t)) (λ t e. absurd (driven_off (top_bits k b) e)),
  ⊎_elim (λ e. subst (λ (t : Bool). pick t None (Some (top_bits k b)) ≡ None) (sym (eq-eqb k 0 e)) refl) (λ e. absurd (driven_off b e)),
)
first_none k None = (λ e. inr refl, λ e. refl)
