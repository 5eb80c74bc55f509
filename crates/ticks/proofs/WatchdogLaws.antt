-- Laws of the watchdog's part of a tick: a pulse that does not run.
-- Assumes nothing.
use mathlib.Core.Path.{◌≡◌, ap}
use Prim.Native.Nat.{◌≤◌}
use native.Mathlib.Omega.{arith}
use Rattle.record.specs.declared.Device.{Device}
use Rattle.record.specs.Setters.{with_pulse}
use Rattle.ticks.specs.Watchdog.{pulse_tick}

-- a pulse that does not run stays
pub pulse_still : (d : Device) → d.counters.pulse ≤ 0 → d ≡ pulse_tick d
pulse_still d h = ap (with_pulse d) (omega arith)
