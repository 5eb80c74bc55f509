-- A device with one part of it replaced, so that a definition names only what changes. They say nothing of the chip.
-- Assumes nothing.
use Rattle.std.specs.Prelude.{Bool, List, ℕ, get_or, set}
use Rattle.events.specs.declared.Events.{Events}
use Rattle.events.specs.declared.Inputs.{Inputs}
use Rattle.record.specs.declared.Device.{Device}
use Rattle.record.specs.declared.Counters.{Counters}
use Rattle.record.specs.declared.Guard.{Guard}
use Rattle.record.specs.declared.Load.{Load}
use Rattle.record.specs.declared.Lock.{Lock}
use Rattle.record.specs.declared.Cycle.{Cycle}
use Rattle.record.specs.declared.Protection.{Protection}
use Rattle.record.specs.declared.Stage.{Stage}
use Rattle.record.specs.Registers.{event_at}

abbrev device : List ℕ → List ℕ → Counters → Bool → Bool → Guard → Stage → Load → Cycle → Events → Device
device regs sram counters power mark guard stage load cycle events =
    record {
      regs = regs;
      sram = sram;
      counters = counters;
      power = power;
      mark = mark;
      guard = guard;
      frame = record { stage = stage };
      load = load;
      cycle = cycle;
      events = events;
    }

abbrev pub with_regs : Device → List ℕ → Device
with_regs d regs = device regs d.sram d.counters d.power d.mark d.guard d.frame.stage d.load d.cycle d.events

abbrev pub with_sram : Device → List ℕ → Device
with_sram d sram = device d.regs sram d.counters d.power d.mark d.guard d.frame.stage d.load d.cycle d.events

abbrev pub with_counters : Device → Counters → Device
with_counters d counters = device d.regs d.sram counters d.power d.mark d.guard d.frame.stage d.load d.cycle d.events

abbrev pub with_power : Device → Bool → Device
with_power d power = device d.regs d.sram d.counters power d.mark d.guard d.frame.stage d.load d.cycle d.events

abbrev pub with_mark : Device → Bool → Device
with_mark d mark = device d.regs d.sram d.counters d.power mark d.guard d.frame.stage d.load d.cycle d.events

abbrev pub with_guard : Device → Guard → Device
with_guard d guard = device d.regs d.sram d.counters d.power d.mark guard d.frame.stage d.load d.cycle d.events

abbrev pub with_stage : Device → Stage → Device
with_stage d stage = device d.regs d.sram d.counters d.power d.mark d.guard stage d.load d.cycle d.events

abbrev pub with_load : Device → Load → Device
with_load d load = device d.regs d.sram d.counters d.power d.mark d.guard d.frame.stage load d.cycle d.events

abbrev pub with_cycle : Device → Cycle → Device
with_cycle d cycle = device d.regs d.sram d.counters d.power d.mark d.guard d.frame.stage d.load cycle d.events

abbrev pub with_events : Device → Events → Device
with_events d events = device d.regs d.sram d.counters d.power d.mark d.guard d.frame.stage d.load d.cycle events

-- V3. The event inputs with the byte of 0Bh, taken out of the record and put back.
abbrev pub inputs_of : Device → Inputs
inputs_of d = record { events = d.events; control = get_or d.regs event_at 0 }

abbrev pub with_inputs : Device → Inputs → Device
with_inputs d s = with_events (with_regs d (set d.regs event_at s.control)) s.events

-- single counts; `counts` has them in the record's order: divider, start-up, and the watchdog's count, delay and pulse
abbrev pub counts : ℕ → ℕ → ℕ → ℕ → ℕ → Counters
counts divider startup watchdog delay pulse = record { divider = divider; startup = startup; watchdog = watchdog; delay = delay; pulse = pulse }

abbrev pub with_divider : Device → ℕ → Device
with_divider d n = with_counters d (counts n d.counters.startup d.counters.watchdog d.counters.delay d.counters.pulse)

abbrev pub with_startup : Device → ℕ → Device
with_startup d n = with_counters d (counts d.counters.divider n d.counters.watchdog d.counters.delay d.counters.pulse)

abbrev pub with_watchdog : Device → ℕ → Device
with_watchdog d n = with_counters d (counts d.counters.divider d.counters.startup n d.counters.delay d.counters.pulse)

abbrev pub with_delay : Device → ℕ → Device
with_delay d n = with_counters d (counts d.counters.divider d.counters.startup d.counters.watchdog n d.counters.pulse)

abbrev pub with_pulse : Device → ℕ → Device
with_pulse d n = with_counters d (counts d.counters.divider d.counters.startup d.counters.watchdog d.counters.delay n)

-- WEL, the protection, the lock
abbrev pub with_wel : Device → Bool → Device
with_wel d b = with_guard d (record { wel = b; protection = d.guard.protection; lock = d.guard.lock })

abbrev pub with_protection : Device → Protection → Device
with_protection d p = with_guard d (record { wel = d.guard.wel; protection = p; lock = d.guard.lock })

abbrev pub with_lock : Device → Lock → Device
with_lock d l = with_guard d (record { wel = d.guard.wel; protection = d.guard.protection; lock = l })

-- the write cycle's ticks left
abbrev pub with_left : Device → ℕ → Device
with_left d k = with_cycle d (record { target = d.cycle.target; left = k })
