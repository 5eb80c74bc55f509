-- The calendar's part of a tick: the divider, and the step of the eight time registers; and the alarms' part after it.
-- C6, G7. The calendar is known by its promise alone.
-- Assumes nothing.
use Rattle.std.specs.Prelude.{ℕ, ◌+◌, ◌*◌, ◌/◌, ◌%◌, Bool, ◌&&◌, List, ltb, get_or, set}
use Rattle.base.specs.Words.{pick}
use Rattle.calendar.specs.declared.Time.{Time}
use Rattle.calendar.specs.Time.{advanced}
use Rattle.record.specs.declared.Device.{Device}
use Rattle.record.specs.Registers.{st, hundredths_at, seconds_at, minutes_at, hours_at, day_at, date_at, month_at, year_at, divider_ticks}
use Rattle.record.specs.Setters.{with_regs, with_divider}
use Rattle.ticks.specs.Alarm.{alarmed}

-- the time registers, 00h to 07h
abbrev pub time_of : List ℕ → Time
time_of regs =
    record {
      hundredths = get_or regs hundredths_at 0;
      seconds = get_or regs seconds_at 0;
      minutes = get_or regs minutes_at 0;
      hours = get_or regs hours_at 0;
      day = get_or regs day_at 0;
      date = get_or regs date_at 0;
      month = get_or regs month_at 0;
      year = get_or regs year_at 0;
    }

unfoldable pub with_time : List ℕ → Time → List ℕ
with_time regs t =
    set (set (set (set (set (set (set (set regs hundredths_at t.hundredths) seconds_at t.seconds) minutes_at t.minutes) hours_at t.hours) day_at t.day) date_at t.date) month_at t.month) year_at t.year

-- K6. The hundredths advance where the whole hundredths of the divider grow with one tick more.
abbrev pub hundredth_due : ℕ → Bool
hundredth_due s = ltb (100 * s / divider_ticks) (100 * (s + 1) / divider_ticks)

-- K5. Divider and calendar run at a counted tick with ST set. (Without ST no tick of a W part counts; a B part counts on and holds these two.)
abbrev pub running : Bool → Device → Bool
running counted d = counted && st d.regs

-- the hundredths advance at this tick
abbrev pub due : Bool → Device → Bool
due counted d = running counted d && hundredth_due d.counters.divider

-- K6. the divider, 0 again after a second
abbrev pub divider_tick : Bool → Device → Device
divider_tick runs d = pick runs (with_divider d ((d.counters.divider + 1) % divider_ticks)) d

unfoldable pub calendar_tick : Bool → Device → Device
calendar_tick counted d =
    with_regs (divider_tick (running counted d) d) (pick (due counted d) (with_time d.regs (advanced (time_of d.regs)).time) d.regs)

-- the alarms' part, where the hundredths advanced in d
abbrev pub alarm_tick : Bool → Device → Device → Device
alarm_tick counted d after =
    with_regs after (pick (due counted d) (alarmed (advanced (time_of d.regs)) after.regs) after.regs)
