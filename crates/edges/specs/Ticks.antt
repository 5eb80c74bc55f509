-- Closed witnesses of ticks: one tick or a few, on a record that is written out, through `performed`. Each shows a rule a second time, as the
-- paper's numbers.
-- Assumes nothing.
use Rattle.std.specs.Prelude.{ℕ, ◌+◌, ◌-◌, ◌≡◌, refl, List, [], ◌∷◌, ◌++◌, get_or, set, take, replicate}
use Rattle.base.specs.Wait.{waited_by}
use Rattle.base.specs.Words.{every, flag, store_under}
use Rattle.calendar.specs.Field.{valid_field, next_field}
use Rattle.calendar.specs.Hours.{next_hours}
use Rattle.calendar.specs.Date.{leap_year, month_length, date_last, next_date}
use Rattle.calendar.specs.Time.{date_of, with_date, on_day, advanced}
use Rattle.events.specs.Control.{pulls_irq}
use Rattle.events.specs.Tick.{events_tick}
use Rattle.events.specs.Range.{window_out, debounce_out, events_out}
use Rattle.record.specs.declared.Act.TheVariants.{Wait}
use Rattle.record.specs.declared.Device.{Device}
use Rattle.record.specs.Scene.{chip, started}
use Rattle.record.specs.Setters.{counts, with_cycle}
use Rattle.record.specs.declared.Target.TheVariants.{Eeprom}
use Rattle.refusals.specs.Range.{out_of_range, clock_out, frame_out, cycle_out, power_out, bit_outside}
use Rattle.refusals.specs.Refusal.{refusal_of}
use Rattle.registers.specs.Write.{write_clock, after_write}
use Rattle.ticks.specs.Lines.{irq_low, wdo_low, flags_changed, changed}
use Rattle.ticks.specs.Alarm.{matches_at, alarm_match, alarmed}
use Rattle.ticks.specs.Oscillator.{oscillator_tick}
use Rattle.ticks.specs.Watchdog.{watchdog_tick}
use Rattle.ticks.specs.Event.{event_tick}
use Rattle.ticks.specs.Clock.{with_time, calendar_tick}
use Rattle.ticks.specs.Tick.{cycle_device, cycle_tick, clockwork, tick}
use Rattle.replies.specs.Reply.{next_reply}
use Rattle.frames.specs.Frame.{after_byte, after_select}
use Rattle.ends.specs.Write.{carried, cycle_after, wel_after}
use Rattle.ends.specs.End.{after_end}
use Rattle.acts.specs.Act.{performed}
use Rattle.run.specs.Claim.{our_chip, world_after}
use Rattle.run.specs.Script.{sent, frame_of}
use Rattle.edges.specs.Scene.{after, waiting, lent, scene}

-- 0Ah, the watchdog's count, its delay and its pulse after one tick, with ST set and OSCON on
abbrev pub dog_tick : ℕ → ℕ → ℕ → ℕ → List ℕ
dog_tick b count delay pulse =
    let d : Device = (after 1 (waiting 1) (scene (set started 0x0a b) (counts 0 32 count delay pulse))).device in
    get_or d.regs 0x0a 0 ∷ d.counters.watchdog ∷ d.counters.delay ∷ d.counters.pulse ∷ []

-- the byte b of 0Ah sets the period p: at its last tick WDTIF is set, the count is 0 and the short pulse begins; one tick before it is not
abbrev pub TimesOutAt : ℕ → ℕ → Type 0
TimesOutAt b p = (dog_tick b (p - 1) 0 0 ≡ (b + 0x40) ∷ 0 ∷ 0 ∷ 4 ∷ []) × (dog_tick b (p - 2) 0 0 ≡ b ∷ (p - 1) ∷ 0 ∷ 0 ∷ [])

-- the watchdog's counts after the byte b was written to 0Ah
abbrev pub dog_set : ℕ → List ℕ
dog_set b =
    let d : Device = (after 1 (frame_of (0x12 ∷ 0x0a ∷ b ∷ [])) (scene started (counts 0 32 5 1 8))).device in
    d.counters.watchdog ∷ d.counters.delay ∷ d.counters.pulse ∷ []

unfoldable pub WatchdogShown : Type 0
WatchdogShown =
    -- K23. each period; bit 3 does nothing
    TimesOutAt 0x80 32 × TimesOutAt 0x81 512 × TimesOutAt 0x82 2048 × TimesOutAt 0x83 4096
    × TimesOutAt 0x84 32768 × TimesOutAt 0x85 524288 × TimesOutAt 0x86 1048576 × TimesOutAt 0x87 2097152 × TimesOutAt 0x88 32
    -- E17. period 32 from count 0: 31 ticks pass without, the 32nd stops a longer wait
    × ((performed 1 Wait 31 (scene (set started 0x0a 0x80) (counts 0 32 0 0 0))).count ≡ 31)
    × ((performed 1 Wait 40 (scene (set started 0x0a 0x80) (counts 0 32 0 0 0))).count ≡ 32)
    -- K25. with bit 4 the long pulse; a pulse that runs is replaced
    × (dog_tick 0x90 31 0 0 ≡ 0xd0 ∷ 0 ∷ 0 ∷ 4096 ∷ [])
    × (dog_tick 0x80 31 0 4096 ≡ 0xc0 ∷ 0 ∷ 0 ∷ 4 ∷ [])
    -- K24. not enabled, or timed out: no count
    × (dog_tick 0x00 5 0 0 ≡ 0x00 ∷ 5 ∷ 0 ∷ 0 ∷ [])
    × (dog_tick 0xc0 5 0 0 ≡ 0xc0 ∷ 5 ∷ 0 ∷ 0 ∷ [])
    -- K26. a pulse runs down to its end, and stops a wait there; also where no tick counts
    × (dog_tick 0xc0 0 0 4096 ≡ 0xc0 ∷ 0 ∷ 0 ∷ 4095 ∷ [])
    × ((performed 1 Wait 10 (scene (set started 0x0a 0xc0) (counts 0 32 0 0 4))).count ≡ 4)
    × ((performed 1 Wait 10 (scene (replicate 32 0) (counts 0 0 0 0 3))).count ≡ 3)
    -- K27. a write of 0Ah: count 0; the delay for bits 7 and 5 without 6, else none; the pulse stays
    × (dog_set 0xa0 ≡ 0 ∷ 2097152 ∷ 8 ∷ [])
    × (dog_set 0x80 ≡ 0 ∷ 0 ∷ 8 ∷ [])
    × (dog_set 0x20 ≡ 0 ∷ 0 ∷ 8 ∷ [])
    × (dog_set 0xe0 ≡ 0 ∷ 0 ∷ 8 ∷ [])
    -- K28. the delay comes before the count
    × (dog_tick 0xa0 7 2 0 ≡ 0xa0 ∷ 7 ∷ 1 ∷ 0 ∷ [])
    × (dog_tick 0xa0 7 1 0 ≡ 0xa0 ∷ 7 ∷ 0 ∷ 0 ∷ [])
    × ((performed 1 Wait 10 (scene (set started 0x0a 0xa0) (counts 0 32 31 1 0))).count ≡ 2)

-- divider, start-up count and the watchdog's count after one tick, 0Ah being 80h
abbrev pub clock_tick : ℕ → ℕ → ℕ → ℕ → List ℕ
clock_tick part seconds divider startup =
    let d : Device = (after part (waiting 1) (scene (set (set started 0x01 seconds) 0x0a 0x80) (counts divider startup 5 0 0))).device in
    d.counters.divider ∷ d.counters.startup ∷ d.counters.watchdog ∷ []

-- the eight time registers after one tick
abbrev pub time_tick : ℕ → List ℕ → ℕ → List ℕ
time_tick part time divider = take 8 (after part (waiting 1) (scene (time ++ replicate 24 0) (counts divider 32 0 0 0))).device.regs

-- the last date of each month of a year, then of months 00h and 13h
abbrev pub lengths : ℕ → List ℕ
lengths y =
    date_last 0x01 y ∷ date_last 0x02 y ∷ date_last 0x03 y ∷ date_last 0x04 y ∷ date_last 0x05 y ∷ date_last 0x06 y ∷ date_last 0x07 y ∷ date_last 0x08 y
    ∷ date_last 0x09 y ∷ date_last 0x10 y ∷ date_last 0x11 y ∷ date_last 0x12 y ∷ date_last 0x00 y ∷ date_last 0x13 y ∷ []

unfoldable pub OscillatorShown : Type 0
OscillatorShown =
    -- K2, K3, K24. W with ST: the 31st and 32nd start-up tick count for nothing, the next does
    (clock_tick 1 0x80 100 30 ≡ 100 ∷ 31 ∷ 5 ∷ [])
    × (clock_tick 1 0x80 100 31 ≡ 100 ∷ 32 ∷ 5 ∷ [])
    × (clock_tick 1 0x80 100 32 ≡ 101 ∷ 32 ∷ 6 ∷ [])
    -- K2, K5. W without ST stands; B without it starts, and then counts for the watchdog alone
    × (clock_tick 1 0x00 100 0 ≡ 100 ∷ 0 ∷ 5 ∷ [])
    × (clock_tick 3 0x00 100 30 ≡ 100 ∷ 31 ∷ 5 ∷ [])
    × (clock_tick 3 0x00 327 32 ≡ 327 ∷ 32 ∷ 6 ∷ [])
    × (clock_tick 3 0x80 327 32 ≡ 328 ∷ 32 ∷ 6 ∷ [])
    -- K4. ST written as 0 takes OSCON on a W part, and not on a B part
    × ((after 1 (frame_of (0x12 ∷ 1 ∷ 0x00 ∷ [])) (scene started (counts 9 32 0 0 0))).device.counters ≡ counts 9 0 0 0 0)
    × ((after 3 (frame_of (0x12 ∷ 1 ∷ 0x00 ∷ [])) (scene started (counts 9 32 0 0 0))).device.counters ≡ counts 9 32 0 0 0)
    -- K5, K6. the hundredths: at the 328th tick of a second, not at the 327th; held on a B part without CT
    × (time_tick 1 (0x00 ∷ 0x80 ∷ 0 ∷ 0 ∷ 1 ∷ 1 ∷ 1 ∷ 0 ∷ []) 326 ≡ 0x00 ∷ 0x80 ∷ 0 ∷ 0 ∷ 1 ∷ 1 ∷ 1 ∷ 0 ∷ [])
    × (time_tick 1 (0x00 ∷ 0x80 ∷ 0 ∷ 0 ∷ 1 ∷ 1 ∷ 1 ∷ 0 ∷ []) 327 ≡ 0x01 ∷ 0x80 ∷ 0 ∷ 0 ∷ 1 ∷ 1 ∷ 1 ∷ 0 ∷ [])
    × (time_tick 3 (0x00 ∷ 0x00 ∷ 0 ∷ 0 ∷ 1 ∷ 1 ∷ 1 ∷ 0 ∷ []) 327 ≡ 0x00 ∷ 0x00 ∷ 0 ∷ 0 ∷ 1 ∷ 1 ∷ 1 ∷ 0 ∷ [])
    -- K6. the last tick of a second
    × (time_tick 1 (0x99 ∷ 0x80 ∷ 0 ∷ 0 ∷ 1 ∷ 1 ∷ 1 ∷ 0 ∷ []) 32767 ≡ 0x00 ∷ 0x81 ∷ 0 ∷ 0 ∷ 1 ∷ 1 ∷ 1 ∷ 0 ∷ [])
    -- K12. the last day of each month, in a year that is none and in a leap year, and of a month that is not valid
    × (lengths 0x01 ≡ 0x31 ∷ 0x28 ∷ 0x31 ∷ 0x30 ∷ 0x31 ∷ 0x30 ∷ 0x31 ∷ 0x31 ∷ 0x30 ∷ 0x31 ∷ 0x30 ∷ 0x31 ∷ 0x31 ∷ 0x31 ∷ [])
    × (lengths 0x04 ≡ 0x31 ∷ 0x29 ∷ 0x31 ∷ 0x30 ∷ 0x31 ∷ 0x30 ∷ 0x31 ∷ 0x31 ∷ 0x30 ∷ 0x31 ∷ 0x30 ∷ 0x31 ∷ 0x31 ∷ 0x31 ∷ [])

-- Alarms. The registers are those of a time, then 08h, two inert ones, the watchdog's, and the six of either alarm.
abbrev pub alarm_regs : List ℕ → ℕ → List ℕ → List ℕ → List ℕ
alarm_regs time control a0 a1 = time ++ (control ∷ 0 ∷ 0 ∷ 0 ∷ []) ++ a0 ++ a1 ++ replicate 8 0

-- an alarm that compares none of the fields: its fields are no time's
abbrev pub quiet : List ℕ
quiet = replicate 6 0

-- 0Fh of alarm 0, and 16h of alarm 1, after one tick with that alarm alone active
abbrev pub rings0 : List ℕ → ℕ → List ℕ → ℕ
rings0 time divider a0 = get_or (after 1 (waiting 1) (scene (alarm_regs time 0x10 a0 quiet) (counts divider 32 0 0 0))).device.regs 0x0f 0

abbrev pub rings1 : List ℕ → ℕ → List ℕ → ℕ
rings1 time divider a1 = get_or (after 1 (waiting 1) (scene (alarm_regs time 0x20 quiet a1) (counts divider 32 0 0 0))).device.regs 0x16 0

-- The tick takes the time to 00:00:00.00, day 4, date 15, month 06. ST, CALSGN and VBATEN are set beside the fields: they are not compared.
abbrev pub midnight : List ℕ
midnight = 0x99 ∷ 0xd9 ∷ 0x59 ∷ 0xa3 ∷ 0x0b ∷ 0x14 ∷ 0x06 ∷ 0x26 ∷ []

-- to 12:00:00.00 AM in the 12-hour form
abbrev pub midnight12 : List ℕ
midnight12 = 0x99 ∷ 0xd9 ∷ 0x59 ∷ 0x71 ∷ 0x03 ∷ 0x14 ∷ 0x06 ∷ 0x26 ∷ []

-- one hundredth, one second, one minute, one hour later it is still day 4, date 15
abbrev pub early : ℕ → ℕ → ℕ → ℕ → List ℕ
early hundredths seconds minutes hours = hundredths ∷ seconds ∷ minutes ∷ hours ∷ 0x04 ∷ 0x15 ∷ 0x06 ∷ 0x26 ∷ []

unfoldable pub Alarm0Shown : Type 0
Alarm0Shown =
    -- K16, K20, K21. codes 0 to 4: hit, and missed by one
    (rings0 midnight 32767 (0x00 ∷ 0x11 ∷ 0x11 ∷ 0x07 ∷ 0x11 ∷ 0x11 ∷ []) ≡ 0x0f)
    × (rings0 midnight 32767 (0x01 ∷ 0x11 ∷ 0x11 ∷ 0x07 ∷ 0x11 ∷ 0x11 ∷ []) ≡ 0x07)
    × (rings0 midnight 32767 (0x11 ∷ 0x00 ∷ 0x11 ∷ 0x17 ∷ 0x11 ∷ 0x11 ∷ []) ≡ 0x1f)
    × (rings0 midnight 32767 (0x11 ∷ 0x01 ∷ 0x11 ∷ 0x17 ∷ 0x11 ∷ 0x11 ∷ []) ≡ 0x17)
    × (rings0 midnight 32767 (0x11 ∷ 0x11 ∷ 0x00 ∷ 0x27 ∷ 0x11 ∷ 0x11 ∷ []) ≡ 0x2f)
    × (rings0 midnight 32767 (0x11 ∷ 0x11 ∷ 0x01 ∷ 0x27 ∷ 0x11 ∷ 0x11 ∷ []) ≡ 0x27)
    × (rings0 midnight 32767 (0x11 ∷ 0x11 ∷ 0x11 ∷ 0x34 ∷ 0x11 ∷ 0x11 ∷ []) ≡ 0x3c)
    × (rings0 midnight 32767 (0x11 ∷ 0x11 ∷ 0x11 ∷ 0x35 ∷ 0x11 ∷ 0x11 ∷ []) ≡ 0x35)
    × (rings0 midnight 32767 (0x11 ∷ 0x11 ∷ 0x11 ∷ 0x47 ∷ 0x15 ∷ 0x11 ∷ []) ≡ 0x4f)
    × (rings0 midnight 32767 (0x11 ∷ 0x11 ∷ 0x11 ∷ 0x47 ∷ 0x14 ∷ 0x11 ∷ []) ≡ 0x47)
    -- K20. in the 12-hour form bits 5:0 of the hours
    × (rings0 midnight12 32767 (0x11 ∷ 0x11 ∷ 0x12 ∷ 0x27 ∷ 0x11 ∷ 0x11 ∷ []) ≡ 0x2f)
    -- K18. codes 5 and 6 never, with every field agreeing
    × (rings0 midnight 32767 (0x00 ∷ 0x00 ∷ 0x00 ∷ 0x54 ∷ 0x15 ∷ 0x06 ∷ []) ≡ 0x54)
    × (rings0 midnight 32767 (0x00 ∷ 0x00 ∷ 0x00 ∷ 0x64 ∷ 0x15 ∷ 0x06 ∷ []) ≡ 0x64)
    -- K17. code 7: all six, and each missed by one
    × (rings0 midnight 32767 (0x00 ∷ 0x00 ∷ 0x00 ∷ 0x74 ∷ 0x15 ∷ 0x06 ∷ []) ≡ 0x7c)
    × (rings0 midnight 32767 (0x01 ∷ 0x00 ∷ 0x00 ∷ 0x74 ∷ 0x15 ∷ 0x06 ∷ []) ≡ 0x74)
    × (rings0 midnight 32767 (0x00 ∷ 0x01 ∷ 0x00 ∷ 0x74 ∷ 0x15 ∷ 0x06 ∷ []) ≡ 0x74)
    × (rings0 midnight 32767 (0x00 ∷ 0x00 ∷ 0x01 ∷ 0x74 ∷ 0x15 ∷ 0x06 ∷ []) ≡ 0x74)
    × (rings0 midnight 32767 (0x00 ∷ 0x00 ∷ 0x00 ∷ 0x75 ∷ 0x15 ∷ 0x06 ∷ []) ≡ 0x75)
    × (rings0 midnight 32767 (0x00 ∷ 0x00 ∷ 0x00 ∷ 0x74 ∷ 0x16 ∷ 0x06 ∷ []) ≡ 0x74)
    × (rings0 midnight 32767 (0x00 ∷ 0x00 ∷ 0x00 ∷ 0x74 ∷ 0x15 ∷ 0x07 ∷ []) ≡ 0x74)
    -- K19. not where the finest of its fields does not advance
    × (rings0 (early 0x00 0x80 0x00 0x00) 327 (0x00 ∷ 0x00 ∷ 0x00 ∷ 0x04 ∷ 0x15 ∷ 0x06 ∷ []) ≡ 0x04)
    × (rings0 (early 0x00 0x80 0x00 0x00) 327 (0x00 ∷ 0x00 ∷ 0x00 ∷ 0x74 ∷ 0x15 ∷ 0x06 ∷ []) ≡ 0x74)
    × (rings0 (early 0x99 0x80 0x00 0x00) 32767 (0x01 ∷ 0x00 ∷ 0x00 ∷ 0x14 ∷ 0x15 ∷ 0x06 ∷ []) ≡ 0x14)
    × (rings0 (early 0x99 0xd9 0x00 0x00) 32767 (0x00 ∷ 0x01 ∷ 0x00 ∷ 0x24 ∷ 0x15 ∷ 0x06 ∷ []) ≡ 0x24)
    × (rings0 (early 0x99 0xd9 0x59 0x00) 32767 (0x00 ∷ 0x00 ∷ 0x01 ∷ 0x34 ∷ 0x15 ∷ 0x06 ∷ []) ≡ 0x34)
    × (rings0 (early 0x99 0xd9 0x59 0x00) 32767 (0x00 ∷ 0x00 ∷ 0x01 ∷ 0x44 ∷ 0x15 ∷ 0x06 ∷ []) ≡ 0x44)
    -- K17. code 7 at a tick that advances the seconds alone
    × (rings0 (early 0x99 0x80 0x00 0x00) 32767 (0x01 ∷ 0x00 ∷ 0x00 ∷ 0x74 ∷ 0x15 ∷ 0x06 ∷ []) ≡ 0x7c)
    -- K21. a flag stays
    × (rings0 midnight 32767 (0x01 ∷ 0x11 ∷ 0x11 ∷ 0x0f ∷ 0x11 ∷ 0x11 ∷ []) ≡ 0x0f)

unfoldable pub Alarm1Shown : Type 0
Alarm1Shown =
    -- K16, K20, K21. codes 0 to 4: hit, and missed by one
    (rings1 midnight 32767 (0x11 ∷ 0x00 ∷ 0x11 ∷ 0x11 ∷ 0x07 ∷ 0x11 ∷ []) ≡ 0x0f)
    × (rings1 midnight 32767 (0x11 ∷ 0x01 ∷ 0x11 ∷ 0x11 ∷ 0x07 ∷ 0x11 ∷ []) ≡ 0x07)
    × (rings1 midnight 32767 (0x11 ∷ 0x11 ∷ 0x00 ∷ 0x11 ∷ 0x17 ∷ 0x11 ∷ []) ≡ 0x1f)
    × (rings1 midnight 32767 (0x11 ∷ 0x11 ∷ 0x01 ∷ 0x11 ∷ 0x17 ∷ 0x11 ∷ []) ≡ 0x17)
    × (rings1 midnight 32767 (0x11 ∷ 0x11 ∷ 0x11 ∷ 0x00 ∷ 0x27 ∷ 0x11 ∷ []) ≡ 0x2f)
    × (rings1 midnight 32767 (0x11 ∷ 0x11 ∷ 0x11 ∷ 0x01 ∷ 0x27 ∷ 0x11 ∷ []) ≡ 0x27)
    × (rings1 midnight 32767 (0x11 ∷ 0x11 ∷ 0x11 ∷ 0x11 ∷ 0x34 ∷ 0x11 ∷ []) ≡ 0x3c)
    × (rings1 midnight 32767 (0x11 ∷ 0x11 ∷ 0x11 ∷ 0x11 ∷ 0x35 ∷ 0x11 ∷ []) ≡ 0x35)
    × (rings1 midnight 32767 (0x11 ∷ 0x11 ∷ 0x11 ∷ 0x11 ∷ 0x47 ∷ 0x15 ∷ []) ≡ 0x4f)
    × (rings1 midnight 32767 (0x11 ∷ 0x11 ∷ 0x11 ∷ 0x11 ∷ 0x47 ∷ 0x14 ∷ []) ≡ 0x47)
    -- K18. code 5 the hundredths, at each of their ticks; code 6 never
    × (rings1 midnight 32767 (0x00 ∷ 0x11 ∷ 0x11 ∷ 0x11 ∷ 0x57 ∷ 0x11 ∷ []) ≡ 0x5f)
    × (rings1 midnight 32767 (0x01 ∷ 0x11 ∷ 0x11 ∷ 0x11 ∷ 0x57 ∷ 0x11 ∷ []) ≡ 0x57)
    × (rings1 (early 0x00 0x80 0x00 0x00) 327 (0x01 ∷ 0x11 ∷ 0x11 ∷ 0x11 ∷ 0x57 ∷ 0x11 ∷ []) ≡ 0x5f)
    × (rings1 (early 0x00 0x80 0x00 0x00) 326 (0x00 ∷ 0x11 ∷ 0x11 ∷ 0x11 ∷ 0x57 ∷ 0x11 ∷ []) ≡ 0x57)
    × (rings1 midnight 32767 (0x00 ∷ 0x00 ∷ 0x00 ∷ 0x00 ∷ 0x64 ∷ 0x15 ∷ []) ≡ 0x64)
    -- K17. code 7: five fields, not the hundredths; each missed by one
    × (rings1 midnight 32767 (0x11 ∷ 0x00 ∷ 0x00 ∷ 0x00 ∷ 0x74 ∷ 0x15 ∷ []) ≡ 0x7c)
    × (rings1 midnight 32767 (0x11 ∷ 0x01 ∷ 0x00 ∷ 0x00 ∷ 0x74 ∷ 0x15 ∷ []) ≡ 0x74)
    × (rings1 midnight 32767 (0x11 ∷ 0x00 ∷ 0x01 ∷ 0x00 ∷ 0x74 ∷ 0x15 ∷ []) ≡ 0x74)
    × (rings1 midnight 32767 (0x11 ∷ 0x00 ∷ 0x00 ∷ 0x01 ∷ 0x74 ∷ 0x15 ∷ []) ≡ 0x74)
    × (rings1 midnight 32767 (0x11 ∷ 0x00 ∷ 0x00 ∷ 0x00 ∷ 0x75 ∷ 0x15 ∷ []) ≡ 0x75)
    × (rings1 midnight 32767 (0x11 ∷ 0x00 ∷ 0x00 ∷ 0x00 ∷ 0x74 ∷ 0x16 ∷ []) ≡ 0x74)
    -- K19. not where the seconds do not advance
    × (rings1 (early 0x00 0x80 0x00 0x00) 327 (0x01 ∷ 0x00 ∷ 0x00 ∷ 0x00 ∷ 0x74 ∷ 0x15 ∷ []) ≡ 0x74)

-- both flag registers after the tick to midnight, with 08h and two alarms of code 0 that agree
abbrev pub flags_with : ℕ → List ℕ
flags_with control =
    let regs : List ℕ = (after 1 (waiting 1) (scene (alarm_regs midnight control quiet quiet) (counts 32767 32 0 0 0))).device.regs in
    get_or regs 0x0f 0 ∷ get_or regs 0x16 0 ∷ []

-- IRQ and WDO, 1 for low: by 08h, 0Fh, 16h and the pulse
abbrev pub low_lines : ℕ → ℕ → ℕ → ℕ → List ℕ
low_lines control f0 f1 pulse =
    let d : Device = chip (alarm_regs (replicate 8 0) control (0 ∷ 0 ∷ 0 ∷ f0 ∷ 0 ∷ 0 ∷ []) (0 ∷ 0 ∷ 0 ∷ 0 ∷ f1 ∷ 0 ∷ [])) (counts 0 0 0 0 pulse) in
    flag (irq_low d) ∷ flag (wdo_low d) ∷ []

unfoldable pub LinesShown : Type 0
LinesShown =
    -- K19. bit 4 of 08h makes alarm 0 active, bit 5 alarm 1
    (flags_with 0x30 ≡ 0x08 ∷ 0x08 ∷ [])
    × (flags_with 0x10 ≡ 0x08 ∷ 0x00 ∷ [])
    × (flags_with 0x20 ≡ 0x00 ∷ 0x08 ∷ [])
    × (flags_with 0xcf ≡ 0x00 ∷ 0x00 ∷ [])
    -- K22. a flag of an active alarm, by its bit 7
    × (low_lines 0x10 0x08 0x00 0 ≡ 1 ∷ 0 ∷ [])
    × (low_lines 0x10 0x88 0x00 0 ≡ 0 ∷ 1 ∷ [])
    × (low_lines 0x20 0x00 0x08 0 ≡ 1 ∷ 0 ∷ [])
    × (low_lines 0x20 0x00 0x88 0 ≡ 0 ∷ 1 ∷ [])
    × (low_lines 0x30 0x08 0x88 0 ≡ 1 ∷ 1 ∷ [])
    × (low_lines 0x20 0x08 0x00 0 ≡ 0 ∷ 0 ∷ [])
    × (low_lines 0x10 0x00 0x88 0 ≡ 0 ∷ 0 ∷ [])
    × (low_lines 0x30 0xf7 0xf7 0 ≡ 0 ∷ 0 ∷ [])
    -- K26. the pulse
    × (low_lines 0x00 0x00 0x00 1 ≡ 0 ∷ 1 ∷ [])
    × (low_lines 0x10 0x08 0x00 4096 ≡ 1 ∷ 1 ∷ [])
    -- K30, E19. a wait stops at the first tick that changes IRQ, WDO or WIP; else it uses all its ticks, and 0 uses none
    × ((performed 1 Wait 10 (scene (alarm_regs midnight 0x10 quiet quiet) (counts 32765 32 0 0 0))).count ≡ 3)
    × ((performed 1 Wait 10 (scene (alarm_regs midnight 0x10 (0 ∷ 0 ∷ 0 ∷ 0x80 ∷ 0 ∷ 0 ∷ []) quiet) (counts 32766 32 0 0 0))).count ≡ 2)
    × ((performed 1 Wait 10 (lent (with_cycle (chip started (counts 0 32 0 0 0)) (record { target = Eeprom (record { 0 = 0 }); left = 5 })))).count ≡ 5)
    × ((performed 1 Wait 10 (scene started (counts 0 32 0 0 0))).count ≡ 10)
    × ((performed 1 Wait 0 (scene started (counts 0 32 0 0 0))).count ≡ 0)

-- K1. All of it: each part of a tick, by itself and with those that come after it.
unfoldable pub WaitsShown : Type 0
WaitsShown = WatchdogShown × OscillatorShown × Alarm0Shown × Alarm1Shown × LinesShown

-- Each of them computes.
pub waits_shown : WaitsShown
unfolding WaitsShown WatchdogShown OscillatorShown Alarm0Shown Alarm1Shown LinesShown after valid_field next_field next_hours advanced on_day with_date date_of next_date month_length leap_year world_after our_chip sent performed refusal_of out_of_range clock_out frame_out cycle_out power_out events_out window_out debounce_out bit_outside every after_select after_byte next_reply write_clock after_write after_end carried cycle_after wel_after waited_by tick cycle_tick cycle_device clockwork changed flags_changed irq_low pulls_irq wdo_low oscillator_tick watchdog_tick event_tick events_tick calendar_tick with_time alarmed alarm_match matches_at store_under
waits_shown = (
  ((refl, refl), (refl, refl), (refl, refl), (refl, refl), (refl, refl), (refl, refl), (refl, refl), (refl, refl), (refl, refl), refl, refl, refl, refl, refl, refl, refl, refl, refl, refl, refl, refl, refl, refl, refl, refl),
  (refl, refl, refl, refl, refl, refl, refl, refl, refl, refl, refl, refl, refl, refl, refl),
  (refl, refl, refl, refl, refl, refl, refl, refl, refl, refl, refl, refl, refl, refl, refl, refl, refl, refl, refl, refl, refl, refl, refl, refl, refl, refl, refl, refl),
  (refl, refl, refl, refl, refl, refl, refl, refl, refl, refl, refl, refl, refl, refl, refl, refl, refl, refl, refl, refl, refl, refl),
  (refl, refl, refl, refl, refl, refl, refl, refl, refl, refl, refl, refl, refl, refl, refl, refl, refl, refl, refl),
)
