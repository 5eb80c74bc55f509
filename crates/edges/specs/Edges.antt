-- E1. The edges that document 01 marks P, under one statement. It cites only definitions that the contracts of `perform`, `run` and the
-- calendar cite, itself or through another. The acts begin at a fresh chip.
-- Assumes nothing.
use Rattle.std.specs.Prelude.{◌≡◌, refl, true, false, [], ◌∷◌, ◌++◌, set, take, replicate, Some}
use Rattle.base.specs.Wait.{waited_by}
use Rattle.base.specs.Words.{every, store_under}
use Rattle.calendar.specs.Field.{valid_field, next_field}
use Rattle.calendar.specs.Clock.{next_seconds}
use Rattle.calendar.specs.Hours.{next_hours}
use Rattle.calendar.specs.Date.{leap_year, month_length, next_date}
use Rattle.calendar.specs.Time.{date_of, with_date, on_day, advanced}
use Rattle.events.specs.Control.{pulls_irq}
use Rattle.events.specs.Tick.{events_tick}
use Rattle.events.specs.Range.{window_out, debounce_out, events_out}
use Rattle.record.specs.declared.Act.TheVariants.{Wait}
use Rattle.record.specs.Fresh.{fresh}
use Rattle.record.specs.World.{World, fresh_world}
use Rattle.refusals.specs.Range.{out_of_range, clock_out, frame_out, cycle_out, power_out, bit_outside}
use Rattle.refusals.specs.Refusal.{refusal_of}
use Rattle.registers.specs.Read.{read_clock}
use Rattle.registers.specs.Write.{write_clock, after_write}
use Rattle.ticks.specs.Lines.{irq_low, wdo_low, flags_changed, changed}
use Rattle.ticks.specs.Alarm.{matches_at, alarm_match, alarmed}
use Rattle.ticks.specs.Oscillator.{oscillator_tick}
use Rattle.ticks.specs.Watchdog.{watchdog_tick}
use Rattle.ticks.specs.Event.{event_tick}
use Rattle.ticks.specs.Clock.{with_time, calendar_tick}
use Rattle.ticks.specs.Tick.{cycle_device, cycle_tick, clockwork, tick}
use Rattle.replies.specs.Reply.{next_reply}
use Rattle.frames.specs.Frame.{after_byte, after_select}
use Rattle.ends.specs.Write.{carried, cycle_after, wel_after}
use Rattle.ends.specs.End.{after_end}
use Rattle.acts.specs.Act.{performed}
use Rattle.run.specs.Claim.{our_chip, world_after}
use Rattle.run.specs.Script.{sent, frame_of}
use Rattle.edges.specs.Scene.{after, bytes_answered, after_bytes, replies, waiting}

pub Edges : Type 0
Edges =
    -- E3. 31 Dec 99 23:59:59.99 day 7 to 01 Jan 00 day 1
    (advanced (record { hundredths = 0x99; seconds = 0x59; minutes = 0x59; hours = 0x23; day = 0x07; date = 0x31; month = 0x12; year = 0x99 })
    ≡ record { time = record { hundredths = 0x00; seconds = 0x00; minutes = 0x00; hours = 0x00; day = 0x01; date = 0x01; month = 0x01; year = 0x00 }; seconds = true; minutes = true; hours = true; days = true })
    -- E4. 28 Feb 00 to 29
    × (advanced (record { hundredths = 0x99; seconds = 0x59; minutes = 0x59; hours = 0x23; day = 0x01; date = 0x28; month = 0x02; year = 0x00 })
    ≡ record { time = record { hundredths = 0x00; seconds = 0x00; minutes = 0x00; hours = 0x00; day = 0x02; date = 0x29; month = 0x02; year = 0x00 }; seconds = true; minutes = true; hours = true; days = true })
    -- E5. 28 Feb 01 to 1 Mar
    × (advanced (record { hundredths = 0x99; seconds = 0x59; minutes = 0x59; hours = 0x23; day = 0x03; date = 0x28; month = 0x02; year = 0x01 })
    ≡ record { time = record { hundredths = 0x00; seconds = 0x00; minutes = 0x00; hours = 0x00; day = 0x04; date = 0x01; month = 0x03; year = 0x01 }; seconds = true; minutes = true; hours = true; days = true })
    -- E6. hours 71h to 52h with carry
    × (next_hours 0x71 ≡ record { value = 0x52; carry = true })
    -- E7. 51h to 72h
    × (next_hours 0x51 ≡ record { value = 0x72; carry = false })
    -- E8. 72h to 61h
    × (next_hours 0x72 ≡ record { value = 0x61; carry = false })
    -- E9. seconds 5Ah to 00h with carry
    × (next_seconds 0x5a ≡ record { value = 0x00; carry = true })
    -- E10. divider 0, 327 counted ticks hundredths 00, 328 give 01 (part 1, ST set, its 32 start-up ticks gone by): divider, and all eight time bytes
    × (
    let w : World = after 1 (frame_of (0x12 ∷ 1 ∷ 0x80 ∷ []) ++ waiting 32) (fresh_world 1) in
    (w.device.counters.divider ≡ 0)
    × ((performed 1 Wait 327 w).count ≡ 327)
    × ((performed 1 Wait 327 w).after.device.counters.divider ≡ 327)
    × (take 8 (performed 1 Wait 327 w).after.device.regs ≡ 0x00 ∷ 0x80 ∷ 0x00 ∷ 0x00 ∷ 0x01 ∷ 0x01 ∷ 0x01 ∷ 0x00 ∷ [])
    × ((performed 1 Wait 328 w).count ≡ 328)
    × ((performed 1 Wait 328 w).after.device.counters.divider ≡ 328)
    × (take 8 (performed 1 Wait 328 w).after.device.regs ≡ 0x01 ∷ 0x80 ∷ 0x00 ∷ 0x00 ∷ 0x01 ∷ 0x01 ∷ 0x01 ∷ 0x00 ∷ []))
    -- E11. 1Fh to 00h: after a READ at 1Fh comes 00h
    × (replies 1 (0x13 ∷ 0x1f ∷ []) (0 ∷ 0 ∷ []) (after 1 (frame_of (0x12 ∷ 0x00 ∷ 0x77 ∷ [])) (fresh_world 1)) ≡ Some 0x00 ∷ Some 0x77 ∷ [])
    -- E12. 5Fh to 20h: after a READ at 5Fh comes 20h
    × (replies 1 (0x13 ∷ 0x5f ∷ []) (0 ∷ 0 ∷ [])
    (after 1 (frame_of (0x12 ∷ 0x5f ∷ 0x88 ∷ []) ++ frame_of (0x12 ∷ 0x20 ∷ 0x99 ∷ [])) (fresh_world 1)) ≡ Some 0x88 ∷ Some 0x99 ∷ [])
    -- E13. page 07h to 00h: the second byte of a write at 07h goes to 00h, and no other place changes
    × ((after 2 (frame_of (6 ∷ []) ++ frame_of (2 ∷ 7 ∷ 18 ∷ 52 ∷ []) ++ waiting 200) (fresh_world 2)).eeprom ≡ set (set (replicate 256 255) 7 18) 0 52)
    -- E14. 2 Kbit under BP 01, at BFh and at C0h: a cycle starts and stores, or none starts and WEL stays
    × (
    let quarter : World = after 2 (frame_of (6 ∷ []) ++ frame_of (1 ∷ 4 ∷ []) ++ waiting 200 ++ frame_of (6 ∷ [])) (fresh_world 2) in
    let free : World = after 2 (frame_of (2 ∷ 0xbf ∷ 52 ∷ [])) quarter in
    let shut : World = after 2 (frame_of (2 ∷ 0xc0 ∷ 52 ∷ [])) quarter in
    (quarter.device.guard.wel ≡ true)
    × (free.device.cycle.left ≡ 164)
    × ((after 2 (waiting 200) free).eeprom ≡ set (replicate 256 255) 0xbf 52)
    × (shut.device.cycle.left ≡ 0)
    × (shut.device.guard.wel ≡ true)
    × ((after 2 (waiting 200) shut).eeprom ≡ replicate 256 255))

-- Each edge computes.
pub edges : Edges
unfolding Edges after replies bytes_answered after_bytes valid_field next_field next_hours advanced on_day with_date date_of next_date month_length leap_year world_after our_chip sent fresh performed refusal_of out_of_range clock_out frame_out cycle_out power_out events_out window_out debounce_out bit_outside every after_select after_byte next_reply read_clock write_clock after_write after_end carried cycle_after wel_after waited_by tick cycle_tick cycle_device clockwork changed flags_changed irq_low pulls_irq wdo_low oscillator_tick watchdog_tick event_tick events_tick calendar_tick with_time alarmed alarm_match matches_at store_under
edges = (refl, refl, refl, refl, refl, refl, refl, (refl, refl, refl, refl, refl, refl, refl), refl, refl, refl, (refl, refl, refl, refl, refl, refl))
