-- Closed witnesses of the time-stamps, on records that are written out, through `performed`: the numbers worked by hand from the paper and
-- the sheet's map.
-- Assumes nothing.
use Rattle.std.specs.Prelude.{ℕ, ◌≡◌, refl, Bool, true, false, List, [], ◌∷◌, ◌++◌, get_or, set, drop, replicate}
use Rattle.base.specs.Wait.{waited_by}
use Rattle.base.specs.Words.{every, members, store_under}
use Rattle.calendar.specs.Field.{valid_field, next_field}
use Rattle.calendar.specs.Hours.{next_hours}
use Rattle.calendar.specs.Date.{leap_year, month_length, next_date}
use Rattle.calendar.specs.Time.{date_of, with_date, on_day, advanced}
use Rattle.events.specs.Control.{pulls_irq}
use Rattle.events.specs.Tick.{events_tick}
use Rattle.events.specs.Range.{window_out, debounce_out, events_out}
use Rattle.record.specs.declared.Act.TheVariants.{Select, Byte, Wait, Cut, Up}
use Rattle.record.specs.Fresh.{fresh}
use Rattle.record.specs.Scene.{chip}
use Rattle.record.specs.Setters.{counts, with_power, with_mark}
use Rattle.record.specs.Stamps.{stamped, unstamped}
use Rattle.record.specs.World.{World, fresh_world}
use Rattle.refusals.specs.Range.{out_of_range, clock_out, frame_out, cycle_out, power_out, bit_outside}
use Rattle.refusals.specs.Refusal.{refusal_of}
use Rattle.registers.specs.Read.{read_clock}
use Rattle.registers.specs.Write.{write_clock, after_write}
use Rattle.ticks.specs.Lines.{irq_low, wdo_low, flags_changed, changed}
use Rattle.ticks.specs.Alarm.{alarmed}
use Rattle.ticks.specs.Oscillator.{oscillator_tick}
use Rattle.ticks.specs.Watchdog.{watchdog_tick}
use Rattle.ticks.specs.Event.{event_tick}
use Rattle.ticks.specs.Clock.{with_time, calendar_tick}
use Rattle.ticks.specs.Tick.{cycle_device, cycle_tick, clockwork, tick}
use Rattle.replies.specs.Reply.{next_reply}
use Rattle.frames.specs.Frame.{after_byte, after_select}
use Rattle.ends.specs.Write.{carried, cycle_after, wel_after}
use Rattle.ends.specs.End.{after_end}
use Rattle.power.specs.Power.{after_cut, cut_count, cut_world, after_up}
use Rattle.acts.specs.Act.{performed}
use Rattle.run.specs.Claim.{Input, our_chip, world_after}
use Rattle.run.specs.Script.{does, sent, frame_of}
use Rattle.edges.specs.Scene.{after, bytes_answered, after_bytes, replies, lent, scene}
use Rattle.edges.specs.Acts.{driven_all, busy_regs, busy}

-- the time registers, 08h to 17h at 0, and the eight of the time-stamps
abbrev regs_of : List ℕ → List ℕ → List ℕ
regs_of time stamps = time ++ replicate 16 0 ++ stamps

-- a powered chip with these, its oscillator on, one tick before the second is over
abbrev station : List ℕ → List ℕ → World
station time stamps = lent (chip (regs_of time stamps) (counts 32767 32 0 0 0))

-- no time-stamp, and one in each place
abbrev none : List ℕ
none = replicate 8 0

abbrev some : List ℕ
some = 0xf1 ∷ 0x72 ∷ 0xb3 ∷ 0xd4 ∷ 0x95 ∷ 0x66 ∷ 0xa7 ∷ 0xe8 ∷ []

-- New Year's Eve, day 7, 23:59:59.99, ST set, with this in 04h beside the day
abbrev eve : ℕ → List ℕ
eve bits = 0x99 ∷ 0xd9 ∷ 0x59 ∷ 0x23 ∷ bits ∷ 0x31 ∷ 0x12 ∷ 0x99 ∷ []

-- 04h, and the eight registers from 18h
abbrev day_and_stamps : World → List ℕ
day_and_stamps w = get_or w.device.regs 0x04 0 ∷ drop 24 w.device.regs

-- a power failure of so many ticks
abbrev outage : ℕ → List Input
outage n = does Cut 0 ∷ does Wait n ∷ does Up 0 ∷ []

-- that chip with VBAT set; and its registers after a power failure that finds VBAT clear
abbrev failed_before : World
failed_before = scene (set busy_regs 0x04 0x1a) (counts 5 32 6 7 8)

abbrev stamped_twice : List ℕ
stamped_twice =
    0x12 ∷ 0xb4 ∷ 0x56 ∷ 0x98 ∷ 0x1a ∷ 0x21 ∷ 0x09 ∷ 0x25 ∷ 0xc7 ∷ 0x33 ∷ 0x25 ∷ 0x44 ∷ 0x01 ∷ 0x02 ∷ 0x03 ∷ 0x74
    ∷ 0x05 ∷ 0x06 ∷ 0x07 ∷ 0x08 ∷ 0x09 ∷ 0x10 ∷ 0x71 ∷ 0x12 ∷ 0x56 ∷ 0x18 ∷ 0x21 ∷ 0x49 ∷ 0x56 ∷ 0x18 ∷ 0x21 ∷ 0x49 ∷ []

-- a chip without power, with a mark or not
abbrev unpowered : Bool → World → World
unpowered mark w = lent (with_mark (with_power w.device false) mark)

unfoldable pub StampsShown : Type 0
StampsShown =
    -- P12, P13. the cut: minutes, hours, date, and day 7 above month 12; VBAT is set, and 1Ch to 1Fh stay
    (day_and_stamps (after 1 (does Cut 0 ∷ []) (station (eve 0x0f) none)) ≡ 0x1f ∷ 0x59 ∷ 0x23 ∷ 0x31 ∷ 0xf2 ∷ 0 ∷ 0 ∷ 0 ∷ 0 ∷ [])
    -- P15. a tick on the battery, and the up: 1 Jan 00, midnight, day 1; on a B part too
    × (day_and_stamps (after 1 (outage 1) (station (eve 0x0f) none)) ≡ 0x19 ∷ 0x59 ∷ 0x23 ∷ 0x31 ∷ 0xf2 ∷ 0x00 ∷ 0x00 ∷ 0x01 ∷ 0x21 ∷ [])
    × (day_and_stamps (after 3 (outage 1) (station (eve 0x0f) none)) ≡ 0x19 ∷ 0x59 ∷ 0x23 ∷ 0x31 ∷ 0xf2 ∷ 0x00 ∷ 0x00 ∷ 0x01 ∷ 0x21 ∷ [])
    -- P15. no tick: the same time twice
    × (day_and_stamps (after 1 (outage 0) (station (eve 0x0f) none)) ≡ 0x1f ∷ 0x59 ∷ 0x23 ∷ 0x31 ∷ 0xf2 ∷ 0x59 ∷ 0x23 ∷ 0x31 ∷ 0xf2 ∷ [])
    -- P14. VBAT is found set: neither the cut nor its up copies
    × (day_and_stamps (after 1 (outage 1) (station (eve 0x1f) some)) ≡ 0x19 ∷ some)
    -- P14. two failures, and VBAT not cleared between: the first stays
    × (day_and_stamps (after 1 (outage 0 ++ outage 1) (station (eve 0x0f) none)) ≡ 0x19 ∷ 0x59 ∷ 0x23 ∷ 0x31 ∷ 0xf2 ∷ 0x59 ∷ 0x23 ∷ 0x31 ∷ 0xf2 ∷ [])
    -- P13, P16. cleared between: the second is stamped
    × (day_and_stamps (after 1 (outage 1 ++ frame_of (0x12 ∷ 0x04 ∷ 0x09 ∷ []) ++ outage 0) (station (eve 0x0f) none))
    ≡ 0x19 ∷ 0x00 ∷ 0x00 ∷ 0x01 ∷ 0x21 ∷ 0x00 ∷ 0x00 ∷ 0x01 ∷ 0x21 ∷ [])
    -- P14. VBATEN clear: as fresh, and the up copies nothing
    × (day_and_stamps (after 1 (outage 1) (station (eve 0x17) some)) ≡ 0x01 ∷ none)
    × (day_and_stamps (after 1 (outage 1) (station (eve 0x07) none)) ≡ 0x01 ∷ none)
    -- P12. hours without CALSGN, 12/24 and AM/PM with them: 11 PM
    × (day_and_stamps (after 1 (does Cut 0 ∷ []) (station (0x00 ∷ 0x80 ∷ 0x07 ∷ 0xf1 ∷ 0x0a ∷ 0x08 ∷ 0x09 ∷ 0x25 ∷ []) none))
    ≡ 0x1a ∷ 0x07 ∷ 0x71 ∷ 0x08 ∷ 0x49 ∷ 0 ∷ 0 ∷ 0 ∷ 0 ∷ [])
    -- P12. fields that are not valid, as they stand: all bits set, and day 0
    × (day_and_stamps (after 1 (does Cut 0 ∷ []) (station (0x00 ∷ 0x80 ∷ 0x7f ∷ 0xff ∷ 0x08 ∷ 0x3f ∷ 0x1f ∷ 0xff ∷ []) none))
    ≡ 0x18 ∷ 0x7f ∷ 0x7f ∷ 0x3f ∷ 0x1f ∷ 0 ∷ 0 ∷ 0 ∷ 0 ∷ [])
    -- P13, P14, P15. the mark: after each cut, and after the up
    × ((performed 1 Cut 0 (station (eve 0x0f) none)).after.device.mark ≡ true)
    × ((performed 1 Cut 0 (station (eve 0x1f) some)).after.device.mark ≡ false)
    × ((performed 1 Cut 0 (station (eve 0x17) some)).after.device.mark ≡ false)
    × ((after 1 (outage 0) (station (eve 0x0f) none)).device.mark ≡ false)
    -- P15. the up goes by the mark alone, and not by VBAT or VBATEN
    × (day_and_stamps (performed 1 Up 0 (unpowered true (station (eve 0x07) none))).after ≡ 0x07 ∷ 0 ∷ 0 ∷ 0 ∷ 0 ∷ 0x59 ∷ 0x23 ∷ 0x31 ∷ 0xf2 ∷ [])
    × (day_and_stamps (performed 1 Up 0 (unpowered false (station (eve 0x1f) some))).after ≡ 0x1f ∷ some)
    -- A37. a mark with power is out of range, without power it is not, whatever VBAT says
    × ((performed 1 Wait 0 (lent (with_mark (station (eve 0x1f) some).device true))).number ≡ 6)
    × ((performed 1 Wait 0 (unpowered true (station (eve 0x1f) some))).number ≡ 0)
    × ((performed 1 Wait 0 (unpowered true (station (eve 0x0f) some))).number ≡ 0)
    -- C5, A27. any byte may stand there, and READ shows it
    × ((performed 1 Wait 0 (station (eve 0x0f) (replicate 8 0xff))).number ≡ 0)
    × (replies 1 (0x13 ∷ 0x18 ∷ []) (replicate 8 0) (station (eve 0x0f) some) ≡ driven_all some)
    × (replies 1 (0x13 ∷ 0x18 ∷ []) (replicate 8 0) (station (eve 0x0f) (replicate 8 0xff)) ≡ driven_all (replicate 8 0xff))
    -- P7, P9, P14. what else a cut that finds VBAT set does: bit 7 of 0Ah, and the watchdog's counts
    × ((performed 1 Cut 0 failed_before).after.device.regs ≡ set (set busy_regs 0x04 0x1a) 0x0a 0x25)
    × ((performed 1 Cut 0 failed_before).after.device.sram ≡ replicate 64 7)
    × ((performed 1 Cut 0 failed_before).after.device.counters ≡ counts 5 32 0 0 0)
    -- A1, P7, P9, P13, P15. a power failure without a tick, whole: nothing but 0Ah, the watchdog's counts, VBAT and both time-stamps changes
    × (after 1 (outage 0) busy ≡ scene stamped_twice (counts 5 32 0 0 0))
    -- P13, P15. from a fresh chip: New Year's Eve is written with ST and VBATEN, the oscillator starts, and power is off for a hundredth of a second
    × (day_and_stamps (after 1 (frame_of (0x12 ∷ 0x00 ∷ eve 0x0f) ++ (does Wait 32 ∷ outage 328)) (fresh_world 1))
    ≡ 0x19 ∷ 0x59 ∷ 0x23 ∷ 0x31 ∷ 0xf2 ∷ 0x00 ∷ 0x00 ∷ 0x01 ∷ 0x21 ∷ [])
    -- F12, C5. WRITE leaves it
    × (day_and_stamps (after 1 (frame_of (0x12 ∷ 0x18 ∷ replicate 8 0xff)) (station (eve 0x1f) some)) ≡ 0x1f ∷ some)
    × (day_and_stamps (after 1 (frame_of (0x12 ∷ 0x18 ∷ replicate 8 0x00)) (station (eve 0x1f) some)) ≡ 0x1f ∷ some)
    -- P16. VBAT written 0: at that byte, before the frame ends; and the bytes before and after it in the frame do not matter
    × (day_and_stamps (after 1 (does Select 0 ∷ does Byte 0x12 ∷ does Byte 0x04 ∷ does Byte 0x0d ∷ []) (station (eve 0x1f) some)) ≡ 0x0d ∷ none)
    × (day_and_stamps (after 1 (does Select 0 ∷ does Byte 0x12 ∷ does Byte 0x04 ∷ []) (station (eve 0x1f) some)) ≡ 0x1f ∷ some)
    × (day_and_stamps (after 1 (frame_of (0x12 ∷ 0x03 ∷ 0x23 ∷ 0x07 ∷ 0x10 ∷ [])) (station (eve 0x1f) some)) ≡ 0x07 ∷ none)
    -- P16. VBAT written 1: it stays what it was, set or clear, and the other bits are stored
    × (day_and_stamps (after 1 (frame_of (0x12 ∷ 0x04 ∷ 0x13 ∷ [])) (station (eve 0x1f) some)) ≡ 0x13 ∷ some)
    × (day_and_stamps (after 1 (frame_of (0x12 ∷ 0x04 ∷ 0x1b ∷ [])) (station (eve 0x0f) none)) ≡ 0x0b ∷ none)
    -- P16. bit 4 clear in another register means nothing
    × (day_and_stamps (after 1 (frame_of (0x12 ∷ 0x05 ∷ 0x01 ∷ [])) (station (eve 0x1f) some)) ≡ 0x1f ∷ some)

-- Each of them computes.
pub stamps_shown : StampsShown
unfolding StampsShown valid_field next_field next_hours advanced on_day with_date date_of next_date month_length leap_year with_time alarmed after replies bytes_answered after_bytes driven_all world_after our_chip sent fresh performed refusal_of out_of_range clock_out frame_out cycle_out power_out events_out window_out debounce_out bit_outside every after_select after_byte next_reply read_clock write_clock after_write after_end carried cycle_after wel_after after_cut cut_count cut_world after_up stamped unstamped waited_by tick cycle_tick cycle_device clockwork changed flags_changed irq_low pulls_irq wdo_low oscillator_tick watchdog_tick event_tick events_tick calendar_tick store_under members
stamps_shown = (refl, refl, refl, refl, refl, refl, refl, refl, refl, refl, refl, refl, refl, refl, refl, refl, refl, refl, refl, refl, refl, refl, refl, refl, refl, refl, refl, refl, refl, refl, refl, refl, refl, refl, refl, refl)
