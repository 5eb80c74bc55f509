-- What a byte does to the time-stamps and to VBAT: in a WRITE that stands at 04h a 0 for VBAT clears all three and a 1 leaves VBAT what it was; any
-- other byte leaves all three.
-- Assumes nothing.
use mathlib.Core.Path.{◌≡◌, refl, ap, ◌∙◌}
use mathlib.Core.Bool.{Bool, true, false}
use mathlib.Core.Logic.{◌≢◌}
use Prim.Native.Nat.{ℕ, ◌%◌}
use lib.ListN.{length, get_or}
use Rattle.base.specs.Words.{bit}
use Rattle.record.specs.declared.Device.{Device}
use Rattle.record.specs.declared.ClockAddress.{ClockAddress}
use Rattle.record.specs.declared.Place.TheVariants.{ClockAt}
use Rattle.record.specs.declared.Stage.{Stage}
use Rattle.record.specs.declared.Stage.TheVariants.{Writing}
use Rattle.record.specs.Registers.{vbat, day_at}
use Rattle.record.specs.Stamps.{to_day, NoStamps, SameStamps}
use Rattle.refusals.proofs.KeepLaws.{AllInside}
use Rattle.registers.specs.Write.{write_clock}
use Rattle.registers.proofs.StampLaws.{write_stores, write_clears, write_leaves_vbat, write_other_vbat, write_stamps}
use Rattle.frames.specs.Frame.{written_at, after_byte}
use Rattle.frames.proofs.FrameLaws.{written_when}

-- a stage is a WRITE at 04h, by its address
at_day : (s : Stage) (a : ClockAddress) → s ≡ Writing (ClockAt a) → a.0 ≡ day_at → s ≡ to_day
at_day s a e q = e ∙ (λ i. Writing (ClockAt (record { 0 = q i })))

module _ (boots : Bool) (top v : ℕ) (d : Device) (l : length d.regs ≡ 32) where
  at_write : d.frame.stage ≡ to_day → (after_byte boots top v d).regs ≡ (write_clock boots d (record { 0 = day_at }) v).regs
  unfolding after_byte
  at_write e = ap (λ (s : Stage). (written_at boots d v s).regs) e

  pub byte_clears :
      d.frame.stage ≡ to_day → bit v 4 ≡ false
      → (vbat (after_byte boots top v d).regs ≡ false) × NoStamps (after_byte boots top v d).regs
  byte_clears e z = rw (at_write e) (write_clears boots d (record { 0 = day_at }) v l refl z)

  pub byte_stores : d.frame.stage ≡ to_day → get_or (after_byte boots top v d).regs day_at 0 % 16 ≡ v % 16
  byte_stores e = rw (at_write e) (write_stores boots d (record { 0 = day_at }) v l refl)

  pub byte_leaves_vbat : d.frame.stage ≡ to_day → bit v 4 ≡ true → vbat (after_byte boots top v d).regs ≡ vbat d.regs
  byte_leaves_vbat e o = rw (at_write e) (write_leaves_vbat boots d (record { 0 = day_at }) v l refl o)

  pub byte_other_vbat : d.frame.stage ≢ to_day → vbat (after_byte boots top v d).regs ≡ vbat d.regs
  unfolding after_byte
  byte_other_vbat n =
      written_when (λ (e : Device). vbat e.regs ≡ vbat d.regs) boots d v refl d.frame.stage
      (λ a e. write_other_vbat boots d a v l (λ q. n (at_day d.frame.stage a e q)))

  pub byte_stamps :
      AllInside d.regs → ¬ ((d.frame.stage ≡ to_day) × (bit v 4 ≡ false)) → SameStamps d.regs (after_byte boots top v d).regs
  unfolding after_byte
  byte_stamps i n =
      written_when (λ (e : Device). SameStamps d.regs e.regs) boots d v (λ k h. refl) d.frame.stage
      (λ a e. write_stamps boots d a v l i (λ q. n (at_day d.frame.stage a e q.0, q.1)))
