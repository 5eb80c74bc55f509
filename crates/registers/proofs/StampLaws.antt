-- READ answers a time-stamp as it is stored. What WRITE does to the time-stamps and to VBAT: a 0 for VBAT clears all three, and nothing else changes a
-- time-stamp; a 1 leaves VBAT what it was, and no other register has to do with it.
-- Assumes nothing.
use mathlib.Core.Path.{◌≡◌, refl, sym, ap, subst, ◌∙◌}
use mathlib.Core.Bool.{Bool, true, false, ◌&&◌, ◌||◌}
use mathlib.Core.List.{List}
use mathlib.Core.Logic.{◌≢◌}
use Prim.Native.Nat.{ℕ, ◌%◌, ◌<◌, ◌≤◌}
use native.Mathlib.Omega.{arith}
use borrow.Author.Tests.{lt-ltb, ne_eqb}
use lib.Bits.{bit_and, bit_or, and_zero_r, or_zero_l, or_zero_r, and_mask, and_mod, or_mod}
use lib.ListN.{length, get_or, set, length-set}
use lib.Seq.{get_or-set_same, get_or-set_other}
use Rattle.base.specs.Words.{bit, every}
use Rattle.base.proofs.Tests.{pick_case, pick_when, true_false, no}
use Rattle.base.proofs.Every.{same_from}
use Rattle.base.proofs.BitLaws.{and_bit, or_bit, below_mask}
use Rattle.base.proofs.StoreLaws.{set_case}
use Rattle.record.specs.declared.Device.{Device}
use Rattle.record.specs.declared.ClockAddress.{ClockAddress}
use Rattle.record.specs.Registers.{vbat, day_at, month_at, alarm0_hours_at, alarm1_hours_at, power_down_at, writable}
use Rattle.record.specs.Setters.{with_regs}
use Rattle.record.specs.Stamps.{unstamped, NoStamps, SameStamps}
use Rattle.record.proofs.StampLaws.{without_vbat_lem, unstamped_other, unstamped_zero}
use Rattle.refusals.proofs.KeepLaws.{AllInside, inside_byte}
use Rattle.registers.specs.Read.{read_clock}
use Rattle.registers.specs.Write.{day_written, after_write, under_mask, write_clock}
use Rattle.registers.proofs.WriteLaws.{write_case, after_case}

-- Of a time-stamp no bit is made.
pub read_stamp : (d : Device) (a : ClockAddress) → power_down_at ≤ a.0 → a.0 < 32 → read_clock d a ≡ get_or d.regs a.0 0
unfolding read_clock
read_stamp d a l h =
    simp (
      lt-ltb a.0 0x20 h,
      ne_eqb a.0 day_at (λ e. omega arith),
      ne_eqb a.0 month_at (λ e. omega arith),
      ne_eqb a.0 alarm0_hours_at (λ e. omega arith),
      ne_eqb a.0 alarm1_hours_at (λ e. omega arith),
    )
    (or_zero_r (get_or d.regs a.0 0))

-- Of a time-stamp nothing is written.
stamp_writable : (k : ℕ) → power_down_at ≤ k → k < 32 → get_or writable k 0 ≡ 0
unfolding every
stamp_writable k l h = same_from (λ (n : ℕ). get_or writable n 0) 0 power_down_at 8 refl k l (omega arith)

under_none : (old v : ℕ) → old < 256 → under_mask 0 old v ≡ old
under_none old v h = simp (and_zero_r v, or_zero_r (bit_and old 255)) (below_mask 8 (omega arith) old h h)

stamp_stored : (k old v : ℕ) → power_down_at ≤ k → k < 32 → old < 256 → under_mask (get_or writable k 0) old v ≡ old
stamp_stored k old v l h b = ap (λ (m : ℕ). under_mask m old v) (stamp_writable k l h) ∙ under_none old v b

-- Of 04h VBAT is what was written, before what follows.
one_of : (a b : Bool) → ((a && false) || (b && true)) ≡ b
one_of true true = refl
one_of true false = refl
one_of false true = refl
one_of false false = refl

under_vbat : (old v : ℕ) → bit (under_mask 0x1f old v) 4 ≡ bit v 4
under_vbat old v =
    or_bit (bit_and old 0xe0) (bit_and v 0x1f) 4 ∙ (λ i. and_bit old 0xe0 4 i || and_bit v 0x1f 4 i) ∙ one_of (bit old 4) (bit v 4)

-- the registers with the byte in 04h
abbrev day_stored : List ℕ → ℕ → List ℕ
day_stored regs v = set regs day_at (under_mask 0x1f (get_or regs day_at 0) v)

stored_vbat : (regs : List ℕ) (v : ℕ) → day_at < length regs → vbat (day_stored regs v) ≡ bit v 4
stored_vbat regs v l = ap (λ (n : ℕ). bit n 4) (get_or-set_same regs day_at _ 0 l) ∙ under_vbat (get_or regs day_at 0) v

-- VBAT written 1 is what it was
day_vbat : (before : Bool) (regs : List ℕ) → day_at < length regs → vbat regs ≡ true → vbat (day_written before regs) ≡ before
day_vbat before regs l o =
    let P : List ℕ → Type 0 = λ x. vbat x ≡ before in
    pick_when P (vbat regs) (λ t. pick_when P before (λ p. o ∙ sym p) (λ p. without_vbat_lem regs l ∙ sym p)) (λ f. absurd (true_false o f))

-- The bits below VBAT are the byte's.
under_low : (old v : ℕ) → under_mask 0x1f old v % 16 ≡ v % 16
under_low old v =
    let a : bit_and old 0xe0 % 16 ≡ 0 = and_mod old 0xe0 4 ∙ and_zero_r (old % 16) in
    let b : bit_and v 0x1f % 16 ≡ v % 16 = and_mod v 0x1f 4 ∙ and_mask (v % 16) 4 ∙ omega arith in
    or_mod (bit_and old 0xe0) (bit_and v 0x1f) 4 ∙ (λ i. bit_or (a i) (b i)) ∙ or_zero_l (v % 16)

day_low : (before : Bool) (regs : List ℕ) → day_at < length regs → get_or (day_written before regs) day_at 0 % 16 ≡ get_or regs day_at 0 % 16
day_low before regs l =
    let x : ℕ = get_or regs day_at 0 in
    let P : List ℕ → Type 0 = λ r. get_or r day_at 0 % 16 ≡ x % 16 in
    pick_case P (vbat regs)
    (pick_case P before refl (ap (λ (n : ℕ). n % 16) (get_or-set_same regs day_at _ 0 l) ∙ and_mod x 0xef 4 ∙ and_mask (x % 16) 4 ∙ omega arith))
    (ap (λ (n : ℕ). n % 16) (unstamped_other regs day_at (omega arith)))

-- what WRITE leaves at 04h
write_day :
    (boots : Bool) (d : Device) (a : ClockAddress) (v : ℕ) → a.0 ≡ day_at
    → (write_clock boots d a v).regs ≡ day_written (vbat d.regs) (day_stored d.regs v)
unfolding write_clock after_write
write_day boots d a v e = ap (λ (b : ClockAddress). (write_clock boots d b v).regs) (λ i. record { 0 = e i })

module _ (boots : Bool) (d : Device) (a : ClockAddress) (v : ℕ) (l : length d.regs ≡ 32) where
  there : day_at < length d.regs
  there = omega (arith, l)

  still_there : day_at < length (day_stored d.regs v)
  still_there = omega (arith, there, length-set d.regs day_at (under_mask 0x1f (get_or d.regs day_at 0) v))

  -- the bits below VBAT, whatever is written to it
  pub write_stores : a.0 ≡ day_at → get_or (write_clock boots d a v).regs day_at 0 % 16 ≡ v % 16
  write_stores e =
      ap (λ (x : List ℕ). get_or x day_at 0 % 16) (write_day boots d a v e) ∙ day_low (vbat d.regs) (day_stored d.regs v) still_there
      ∙ ap (λ (n : ℕ). n % 16) (get_or-set_same d.regs day_at _ 0 there) ∙ under_low (get_or d.regs day_at 0) v

  -- a 0 for VBAT
  pub write_clears :
      a.0 ≡ day_at → bit v 4 ≡ false
      → (vbat (write_clock boots d a v).regs ≡ false) × NoStamps (write_clock boots d a v).regs
  write_clears e z =
      let regs : List ℕ = day_stored d.regs v in
      let f : vbat regs ≡ false = stored_vbat d.regs v there ∙ z in
      let g : (write_clock boots d a v).regs ≡ unstamped regs = write_day boots d a v e ∙ sym (no _ (unstamped regs) f) in (
        ap vbat g ∙ ap (λ (n : ℕ). bit n 4) (unstamped_other regs day_at (omega arith)) ∙ f,
        subst NoStamps (sym g) (unstamped_zero regs),
      )

  -- a 1 for it
  pub write_leaves_vbat : a.0 ≡ day_at → bit v 4 ≡ true → vbat (write_clock boots d a v).regs ≡ vbat d.regs
  write_leaves_vbat e o =
      ap vbat (write_day boots d a v e)
      ∙ day_vbat (vbat d.regs) (day_stored d.regs v) still_there (stored_vbat d.regs v there ∙ o)

  -- another register, SRAM or what lies above it
  pub write_other_vbat : a.0 ≢ day_at → vbat (write_clock boots d a v).regs ≡ vbat d.regs
  write_other_vbat n =
      let P : List ℕ → Type 0 = λ x. vbat x ≡ vbat d.regs in
      write_case (λ (e : Device). P e.regs) boots d a v
      (λ s h e.
      (after_case P boots (vbat d.regs) a.0 (with_regs d (set d.regs a.0 s))
      (ap (λ (x : ℕ). bit x 4) (get_or-set_other d.regs a.0 day_at s 0 (λ q. n (sym q)))) (λ q. absurd (n q))).0)
      (λ k. refl) refl

  -- what is no 0 for VBAT changes no time-stamp
  pub write_stamps : AllInside d.regs → ¬ ((a.0 ≡ day_at) × (bit v 4 ≡ false)) → SameStamps d.regs (write_clock boots d a v).regs
  write_stamps i c =
      write_case (λ (e : Device). SameStamps d.regs e.regs) boots d a v
      (λ s h e. stored s h e) (λ k j g. refl) (λ j g. refl)
    where
      set_same : (s : ℕ) → a.0 < 32 → s ≡ under_mask (get_or writable a.0 0) (get_or d.regs a.0 0) v → SameStamps d.regs (set d.regs a.0 s)
      set_same s h e k g =
          set_case (λ (x : ℕ). x ≡ get_or d.regs k 0) d.regs a.0 k s
          (λ q. e ∙ stamp_stored a.0 (get_or d.regs a.0 0) v (omega arith) h (inside_byte a.0 _ h (i a.0 h)) ∙ ap (λ (j : ℕ). get_or d.regs j 0) (sym q))
          refl

      stored : (s : ℕ) → a.0 < 32 → s ≡ under_mask (get_or writable a.0 0) (get_or d.regs a.0 0) v
          → SameStamps d.regs (after_write boots (vbat d.regs) a.0 (with_regs d (set d.regs a.0 s))).regs
      stored s h e =
          let regs : List ℕ = set d.regs a.0 s in
          (after_case (SameStamps d.regs) boots (vbat d.regs) a.0 (with_regs d regs) (set_same s h e)
          (λ q.
          let g : regs ≡ day_stored d.regs v =
          ap (λ (x : ℕ). set d.regs a.0 x) e ∙ ap (λ (j : ℕ). set d.regs j (under_mask (get_or writable j 0) (get_or d.regs j 0) v)) q in
          let b : vbat regs ≡ bit v 4 = ap vbat g ∙ stored_vbat d.regs v there in
          pick_when (SameStamps d.regs) (vbat regs)
          (λ t.
          pick_case (SameStamps d.regs) (vbat d.regs) (set_same s h e)
          (λ k m. get_or-set_other regs day_at k _ 0 (λ z. omega arith) ∙ set_same s h e k m))
          (λ f. absurd (c (q, sym b ∙ f))))).0
