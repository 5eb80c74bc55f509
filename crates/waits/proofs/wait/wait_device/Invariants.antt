-- `waits::wait::wait_device`: the wait from the start is the ticks passed and the wait from here, where a turn
-- passes over ticks in which only counts move, or is one tick.
-- Assumes nothing.
use mathlib.Core.Path.{◌≡◌}
use mathlib.Core.Bool.{true}
use Prim.Native.Nat.{◌≤◌}
use Rattle.ticks.specs.Tick.{alive}
use Rattle.ticks.specs.Lines.{changed}
use Rattle.ticks.specs.RecordTick.{device_tick}
use Rattle.base.proofs.WaitLaws.{WaitFrom}
use Rattle.waits.proofs.wait.wait_device.Given as goal

abbrev pub invariant-loop-left : goal.invariant-loop-left
invariant-loop-left l = (l.left ≤ l.n) × (alive l.now_device ≡ true) × WaitFrom (device_tick l.boots) changed l.n l.initial.now_device l.left l.now_device

abbrev pub decreases-loop-left : goal.decreases-loop-left
decreases-loop-left l = l.left
