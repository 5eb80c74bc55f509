-- The level of an event input set, on the record. What it does to the inputs is the events' own; here is what it takes from the record, and what else it
-- does to it.
-- Assumes nothing.
use Rattle.std.specs.Prelude.{ℕ}
use Rattle.base.specs.Words.{pick}
use Rattle.events.specs.Pins.{drum_set, door_set, zeroes_watchdog}
use Rattle.record.specs.declared.Device.{Device}
use Rattle.record.specs.declared.Pin.{Pin}
use Rattle.record.specs.declared.Pin.TheVariants.{Evls, Evhs}
use Rattle.record.specs.Registers.{oscon}
use Rattle.record.specs.Setters.{inputs_of, with_inputs, with_watchdog}

-- V8. EVLS, the door's switch
abbrev pub door_at : ℕ → Device → Device
door_at level d = with_inputs d (door_set (oscon d.counters) level (inputs_of d))

-- V4, V5. EVHS, the drum's sensor
abbrev pub drum_at : ℕ → Device → Device
drum_at level d = with_inputs d (drum_set (oscon d.counters) level (inputs_of d))

-- V1, V7. A pin set to a level; with EVWDT set an edge of EVHS makes the watchdog's count 0.
unfoldable pub after_set : Pin → ℕ → Device → Device
after_set Evls level d = door_at level d
after_set Evhs level d = pick (zeroes_watchdog level (inputs_of d)) (with_watchdog (drum_at level d) 0) (drum_at level d)
