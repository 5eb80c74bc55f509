-- What a tick does to records that are written out: a second statement beside the contracts, so that code and definition cannot go wrong
-- together. The crate `edges` shows many more, through the acts.
-- Assumes nothing.
use Rattle.std.specs.Prelude.{ℕ, ◌≡◌, refl, Bool, true, false, List, [], ◌∷◌, ◌++◌, get_or, set, replicate}
use Rattle.base.specs.Words.{flag}
use Rattle.calendar.specs.declared.Advanced.{Advanced}
use Rattle.events.specs.Control.{pulls_irq}
use Rattle.events.specs.Tick.{events_tick}
use Rattle.record.specs.declared.Counters.{Counters}
use Rattle.record.specs.declared.Device.{Device}
use Rattle.record.specs.Setters.{counts}
use Rattle.record.specs.Scene.{chip, started}
use Rattle.ticks.specs.Alarm.{matches_at, alarm_match, alarmed}
use Rattle.ticks.specs.Lines.{irq_low, wdo_low}
use Rattle.ticks.specs.Oscillator.{oscillator_tick}
use Rattle.ticks.specs.Watchdog.{watchdog_tick}
use Rattle.ticks.specs.Event.{event_tick}
use Rattle.ticks.specs.Clock.{calendar_tick}
use Rattle.ticks.specs.Tick.{cycle_device, clockwork}
use Rattle.ticks.specs.RecordTick.{device_tick}

-- 0Ah and the counts after one tick of a W part with ST set
abbrev dog_after : ℕ → Counters → List ℕ
dog_after b c =
    let d : Device = device_tick false (chip (set started 0x0a b) c) in
    get_or d.regs 0x0a 0 ∷ d.counters.divider ∷ d.counters.startup ∷ d.counters.watchdog ∷ d.counters.delay ∷ d.counters.pulse ∷ []

-- IRQ and WDO of a record with both alarms active, 1 for low, by their flag registers
abbrev lines_with : ℕ → ℕ → List ℕ
lines_with f0 f1 =
    let d : Device = chip (set (set (set started 0x08 0x30) 0x0f f0) 0x16 f1) (counts 0 0 0 0 0) in
    flag (irq_low d) ∷ flag (wdo_low d) ∷ []

-- the flags after the seconds advanced to 01, or did not, of two alarms that compare the seconds 01
abbrev flags_after : Advanced → List ℕ
flags_after t =
    let regs : List ℕ = alarmed t (0x00 ∷ 0x81 ∷ replicate 6 0 ++ (0x30 ∷ 0 ∷ 0 ∷ 0 ∷ 0x01 ∷ replicate 6 0 ++ (0x01 ∷ replicate 12 0))) in
    get_or regs 0x0f 0 ∷ get_or regs 0x16 0 ∷ []

abbrev step : Bool → Advanced
step seconds = record { time = record { hundredths = 0; seconds = 0x81; minutes = 0; hours = 0; day = 0; date = 0; month = 0; year = 0 }; seconds = seconds; minutes = false; hours = false; days = false }

pub TickShown : Type 0
TickShown =
    -- K23, K25, E17. period 32: the 32nd count is the time-out, the 31st is not; the pulse is 4, or 4,096 with bit 4
    (dog_after 0x80 (counts 9 32 31 0 0) ≡ 0xc0 ∷ 10 ∷ 32 ∷ 0 ∷ 0 ∷ 4 ∷ [])
    × (dog_after 0x80 (counts 9 32 30 0 0) ≡ 0x80 ∷ 10 ∷ 32 ∷ 31 ∷ 0 ∷ 0 ∷ [])
    × (dog_after 0x90 (counts 9 32 31 0 0) ≡ 0xd0 ∷ 10 ∷ 32 ∷ 0 ∷ 0 ∷ 4096 ∷ [])
    -- K24, K26. timed out: the pulse runs, the count stands
    × (dog_after 0xc0 (counts 9 32 5 0 3) ≡ 0xc0 ∷ 10 ∷ 32 ∷ 5 ∷ 0 ∷ 2 ∷ [])
    -- K28. the delay first
    × (dog_after 0xa0 (counts 9 32 5 2 0) ≡ 0xa0 ∷ 10 ∷ 32 ∷ 5 ∷ 1 ∷ 0 ∷ [])
    -- K3. the 32nd start-up tick does not count
    × (dog_after 0x80 (counts 9 31 5 0 0) ≡ 0x80 ∷ 9 ∷ 32 ∷ 5 ∷ 0 ∷ 0 ∷ [])
    -- K16, K19. two alarms of the seconds: at the tick that advances them, and at no other
    × (flags_after (step true) ≡ 0x08 ∷ 0x08 ∷ [])
    × (flags_after (step false) ≡ 0x00 ∷ 0x00 ∷ [])
    -- K22. a flag is on IRQ, or on WDO with bit 7
    × (lines_with 0x08 0x00 ≡ 1 ∷ 0 ∷ [])
    × (lines_with 0x00 0x88 ≡ 0 ∷ 1 ∷ [])

pub tick_shown : TickShown
unfolding TickShown device_tick cycle_device clockwork oscillator_tick watchdog_tick event_tick events_tick pulls_irq calendar_tick alarmed alarm_match matches_at irq_low wdo_low
tick_shown = (refl, refl, refl, refl, refl, refl, refl, refl, refl, refl)
