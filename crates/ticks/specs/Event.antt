-- The event inputs' part of a tick. `counted` says that OSCON was set before the tick.
-- Assumes nothing.
use Rattle.std.specs.Prelude.{Bool}
use Rattle.events.specs.Tick.{events_tick}
use Rattle.record.specs.declared.Device.{Device}
use Rattle.record.specs.Setters.{inputs_of, with_inputs}

-- V10. Window and debounce, with the byte of 0Bh, which a flag may be set in.
unfoldable pub event_tick : Bool → Device → Device
event_tick counted d = with_inputs d (events_tick counted (inputs_of d))
