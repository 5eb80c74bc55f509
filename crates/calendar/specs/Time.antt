-- C6. What the calendar promises: the eight time bytes, 00h to 07h with their control bits, after one advance of the hundredths,
-- and how far it carried. At which tick the hundredths advance is not said here.
-- Assumes nothing.
use Rattle.std.specs.Prelude.{ℕ, ◌%◌, Bool}
use Rattle.base.specs.Words.{pick}
use Rattle.calendar.specs.declared.Step.{Step}
use Rattle.calendar.specs.declared.Date.{Date}
use Rattle.calendar.specs.declared.Time.{Time}
use Rattle.calendar.specs.declared.Advanced.{Advanced}
use Rattle.calendar.specs.Field.{on_carry, beside}
use Rattle.calendar.specs.Clock.{next_hundredths, next_seconds, next_minutes}
use Rattle.calendar.specs.Hours.{next_hours}
use Rattle.calendar.specs.Date.{next_date}

-- The bare fields of 04h to 07h: the day is bits 2:0, the date bits 5:0, the month bits 4:0, the year all eight.
unfoldable pub date_of : Time → Date
date_of t = record { day = t.day % 8; date = t.date % 64; month = t.month % 32; year = t.year }

-- K9. The same registers with another date in their fields. What stands beside a field stays: VBAT and VBATEN beside the day.
unfoldable pub with_date : Time → Date → Time
with_date t d =
    record {
      hundredths = t.hundredths;
      seconds = t.seconds;
      minutes = t.minutes;
      hours = t.hours;
      day = beside 8 t.day d.day;
      date = beside 64 t.date d.date;
      month = beside 32 t.month d.month;
      year = d.year;
    }

-- K10. The date in the registers moves only where the hours carried.
unfoldable pub on_day : Bool → Time → Time
on_day carry t = pick carry (with_date t (next_date (date_of t)).value) t

-- K10. The clock's fields, in the order of their carries. Hundredths always advance; each other field where the one before it carried.
abbrev pub hundredths_step : Time → Step ℕ
hundredths_step t = next_hundredths t.hundredths

abbrev pub seconds_step : Time → Step ℕ
seconds_step t = on_carry (hundredths_step t).carry t.seconds (next_seconds t.seconds)

abbrev pub minutes_step : Time → Step ℕ
minutes_step t = on_carry (seconds_step t).carry t.minutes (next_minutes t.minutes)

abbrev pub hours_step : Time → Step ℕ
hours_step t = on_carry (minutes_step t).carry t.hours (next_hours t.hours)

-- the registers after these four, before the date
abbrev pub clock_advanced : Time → Time
clock_advanced t =
    record {
      hundredths = (hundredths_step t).value;
      seconds = (seconds_step t).value;
      minutes = (minutes_step t).value;
      hours = (hours_step t).value;
      day = t.day;
      date = t.date;
      month = t.month;
      year = t.year;
    }

-- K10, E3, E4, E5. The next eight bytes, and which fields took a value.
unfoldable pub advanced : Time → Advanced
advanced t =
    record {
      time = on_day (hours_step t).carry (clock_advanced t);
      seconds = (hundredths_step t).carry;
      minutes = (seconds_step t).carry;
      hours = (minutes_step t).carry;
      days = (hours_step t).carry;
    }
