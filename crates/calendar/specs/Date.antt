-- Day, date, month and year as bare fields, with no chip's control bits: their limits, the month's length, the leap year, and the
-- step of a whole date. Which register holds a field, and what stands beside it there, is not said here.
-- Assumes nothing.
use Rattle.std.specs.Prelude.{ℕ, ◌%◌, Bool, not, ◌&&◌, ◌||◌, eqb}
use Rattle.base.specs.Words.{pick, bcd_value}
use Rattle.calendar.specs.declared.Step.{Step}
use Rattle.calendar.specs.declared.Date.{Date}
use Rattle.calendar.specs.Field.{Limits, limits, valid_in, next_in, on_carry}

-- K8. The day of the week is 1 to 7, the month 01 to 12, the year 00 to 99.
abbrev pub days : Limits
days = limits 1 7

abbrev pub months : Limits
months = limits 0x01 0x12

abbrev pub years : Limits
years = limits 0x00 0x99

-- K7. Which of their values are valid.
abbrev pub valid_day : ℕ → Bool
valid_day x = valid_in days x

abbrev pub valid_month : ℕ → Bool
valid_month x = valid_in months x

abbrev pub valid_year : ℕ → Bool
valid_year x = valid_in years x

-- K13. A leap year is a valid one that 4 divides.
unfoldable pub leap_year : ℕ → Bool
leap_year year = valid_year year && eqb (bcd_value year % 4) 0

-- April, June, September and November
abbrev pub thirty_days : ℕ → Bool
thirty_days month = (eqb month 0x04 || eqb month 0x06) || (eqb month 0x09 || eqb month 0x11)

-- K12. The month's length, in BCD; a month that is not valid has 31 days.
unfoldable pub month_length : ℕ → Bool → ℕ
month_length month leap =
    pick (not (valid_month month)) 0x31
    (pick (eqb month 0x02) (pick leap 0x29 0x28)
    (pick (thirty_days month) 0x30 0x31))

-- K12. The date is 01 to the length of its month.
abbrev pub date_last : ℕ → ℕ → ℕ
date_last month year = month_length month (leap_year year)

abbrev pub dates : ℕ → ℕ → Limits
dates month year = limits 0x01 (date_last month year)

abbrev pub valid_date : ℕ → ℕ → ℕ → Bool
valid_date month year x = valid_in (dates month year) x

-- K10, K11. Day and date step together, the month where the date carried, the year where the month did. No field reads the day's carry.
abbrev pub day_step : Date → Step ℕ
day_step d = next_in days d.day

abbrev pub date_step : Date → Step ℕ
date_step d = next_in (dates d.month d.year) d.date

abbrev pub month_step : Date → Step ℕ
month_step d = on_carry (date_step d).carry d.month (next_in months d.month)

abbrev pub year_step : Date → Step ℕ
year_step d = on_carry (month_step d).carry d.year (next_in years d.year)

-- K10. The date's step, whose carry is the year's.
unfoldable pub next_date : Date → Step Date
next_date d =
    record {
      value =
          record { day = (day_step d).value; date = (date_step d).value; month = (month_step d).value; year = (year_step d).value };
      carry = (year_step d).carry;
    }
