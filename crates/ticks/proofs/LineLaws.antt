-- Laws of the lines: one that did not change is the same.
-- Assumes nothing.
use Prim.Native.Nat.{ℕ}
use mathlib.Core.Path.{◌≡◌, refl}
use mathlib.Core.Bool.{Bool, true, false, ◌||◌, true≢false}
use lib.ListN.{get_or}
use Rattle.base.proofs.Tests.{neither, neither_right}
use Rattle.events.specs.Control.{evhif, evlif}
use Rattle.record.specs.declared.Device.{Device}
use Rattle.record.specs.Registers.{event_at}
use Rattle.ticks.specs.Lines.{irq_low, wdo_low, wip, differ, flags_changed, changed}

differ_false : (a b : Bool) → differ a b ≡ false → a ≡ b
differ_false true true e = refl
differ_false true false e = absurd (true≢false e)
differ_false false true e = absurd (true≢false e)
differ_false false false e = refl

differ_same : (a : Bool) → differ a a ≡ false
differ_same true = refl
differ_same false = refl

-- what a tick that changed no line says of WIP
pub same_wip : (d e : Device) → changed d e ≡ false → wip d ≡ wip e
unfolding changed
same_wip d e h = differ_false (wip d) (wip e) (neither_right (differ (irq_low d) (irq_low e) || differ (wdo_low d) (wdo_low e) || flags_changed (get_or d.regs event_at 0) (get_or e.regs event_at 0)) (differ (wip d) (wip e)) h)

flags_same : (v : ℕ) → flags_changed v v ≡ false
unfolding flags_changed
flags_same v = neither (differ_same (evhif v)) (differ_same (evlif v))

-- nothing changes between a record and itself
pub changed_same : (d : Device) → changed d d ≡ false
unfolding changed
changed_same d = neither (neither (neither (differ_same (irq_low d)) (differ_same (wdo_low d))) (flags_same (get_or d.regs event_at 0))) (differ_same (wip d))
