-- A35, A36, V1. A fresh chip's record (fresh is 01's term): powered and idle; each register, SRAM byte and count is 0, save 01h in day, date and
-- month; STATUS is clear, the lock closed, the mark of a power failure clear. The memories are no part of it: World has them.
-- Assumes nothing.
use Rattle.std.specs.Prelude.{ℕ, true, false, List, set, replicate}
use Rattle.events.specs.declared.Events.{Events}
use Rattle.record.specs.declared.Counters.{Counters}
use Rattle.record.specs.declared.Device.{Device}
use Rattle.record.specs.declared.Protection.TheVariants.{Nothing}
use Rattle.record.specs.declared.Lock.TheVariants.{Closed}
use Rattle.record.specs.declared.Stage.TheVariants.{Idle}
use Rattle.record.specs.declared.Target.TheVariants.{Eeprom}
use Rattle.record.specs.Registers.{day_at, date_at, month_at}

abbrev pub fresh_regs : List ℕ
fresh_regs = set (set (set (replicate 32 0) day_at 1) date_at 1) month_at 1

abbrev pub fresh_sram : List ℕ
fresh_sram = replicate 64 0

abbrev pub fresh_counters : Counters
fresh_counters = record { divider = 0; startup = 0; watchdog = 0; delay = 0; pulse = 0 }

abbrev pub fresh_events : Events
fresh_events = record { door = 0; drum = 0; edges = 0; since = 0; debounce = 0 }

unfoldable pub fresh : Device
fresh =
    record {
      regs = fresh_regs;
      sram = fresh_sram;
      counters = fresh_counters;
      power = true;
      mark = false;
      guard = record { wel = false; protection = Nothing; lock = Closed };
      frame = record { stage = Idle };
      load = record { offsets = 0; bytes = replicate 8 0; next = 0 };
      cycle = record { target = Eeprom (record { 0 = 0 }); left = 0 };
      events = fresh_events;
    }
