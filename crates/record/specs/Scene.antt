-- Records that are written out, for witnesses: registers and counts by hand, the rest at rest. No rule stands here.
-- Assumes nothing.
use Rattle.std.specs.Prelude.{ℕ, true, false, List, ◌∷◌, replicate}
use Rattle.record.specs.declared.Counters.{Counters}
use Rattle.record.specs.declared.Device.{Device}
use Rattle.record.specs.declared.Protection.TheVariants.{Nothing}
use Rattle.record.specs.declared.Lock.TheVariants.{Closed}
use Rattle.record.specs.declared.Stage.TheVariants.{Idle}
use Rattle.record.specs.declared.Target.TheVariants.{Eeprom}
use Rattle.record.specs.Fresh.{fresh_events}

-- a chip with these registers and counts, power on, no frame and no cycle; every byte of SRAM 07h
abbrev pub chip : List ℕ → Counters → Device
chip regs c =
    record {
      regs = regs;
      sram = replicate 64 7;
      counters = c;
      power = true;
      mark = false;
      guard = record { wel = false; protection = Nothing; lock = Closed };
      frame = record { stage = Idle };
      load = record { offsets = 0; bytes = replicate 8 0; next = 0 };
      cycle = record { target = Eeprom (record { 0 = 0 }); left = 0 };
      events = fresh_events;
    }

-- the registers with ST set and the rest 0
abbrev pub started : List ℕ
started = 0x00 ∷ 0x80 ∷ replicate 30 0
