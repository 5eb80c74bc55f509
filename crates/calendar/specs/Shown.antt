-- Closed witnesses of the calendar: the papers' values a second time, so that a rule changed in code and definition alike is refused here.
-- Assumes nothing.
use Rattle.std.specs.Prelude.{ℕ, zero, suc, ◌≡◌, refl, Bool, List, [], ◌∷◌}
use Rattle.base.specs.Words.{flag}
use Rattle.calendar.specs.declared.Step.{Step}
use Rattle.calendar.specs.declared.Time.{Time}
use Rattle.calendar.specs.Field.{valid_field, next_field}
use Rattle.calendar.specs.Clock.{valid_hundredths, first_hundredths, next_hundredths, valid_seconds, first_seconds, next_seconds}
use Rattle.calendar.specs.Hours.{valid_hours, first_hours, next_hours}
use Rattle.calendar.specs.Date.{valid_day, valid_month, valid_year, leap_year, month_length, valid_date, next_date}
use Rattle.calendar.specs.Time.{date_of, with_date, on_day, advanced}

-- the values of n steps from b on, and after each whether it carried
abbrev walk : (ℕ → Step ℕ) → ℕ → ℕ → List ℕ
walk next zero b = []
walk next (suc n) b = (next b).value ∷ flag (next b).carry ∷ walk next n (next b).value

-- which bytes of a list pass a test
abbrev passed : (ℕ → Bool) → List ℕ → List ℕ
passed test [] = []
passed test (b ∷ l) = flag (test b) ∷ passed test l

-- day, date, month and year of the eight bytes after 23:59:59.99
abbrev day_after : ℕ → ℕ → ℕ → ℕ → List ℕ
day_after day date month year =
    let t : Time = (advanced (record { hundredths = 0x99; seconds = 0xd9; minutes = 0x59; hours = 0x23; day = day; date = date; month = month; year = year })).time in
    t.day ∷ t.date ∷ t.month ∷ t.year ∷ []

pub CalendarShown : Type 0
CalendarShown =
    -- K14, K15. a day of the 12-hour format from 12 AM on, and of the 24-hour format from 00 on; bits 7 and 6 stay
    (walk next_hours 12 0x52 ≡ 0x41 ∷ 0 ∷ 0x42 ∷ 0 ∷ 0x43 ∷ 0 ∷ 0x44 ∷ 0 ∷ 0x45 ∷ 0 ∷ 0x46 ∷ 0 ∷ 0x47 ∷ 0 ∷ 0x48 ∷ 0 ∷ 0x49 ∷ 0 ∷ 0x50 ∷ 0 ∷ 0x51 ∷ 0 ∷ 0x72 ∷ 0 ∷ [])
    × (walk next_hours 12 0xf2 ≡ 0xe1 ∷ 0 ∷ 0xe2 ∷ 0 ∷ 0xe3 ∷ 0 ∷ 0xe4 ∷ 0 ∷ 0xe5 ∷ 0 ∷ 0xe6 ∷ 0 ∷ 0xe7 ∷ 0 ∷ 0xe8 ∷ 0 ∷ 0xe9 ∷ 0 ∷ 0xf0 ∷ 0 ∷ 0xf1 ∷ 0 ∷ 0xd2 ∷ 1 ∷ [])
    × (walk next_hours 12 0x00 ≡ 0x01 ∷ 0 ∷ 0x02 ∷ 0 ∷ 0x03 ∷ 0 ∷ 0x04 ∷ 0 ∷ 0x05 ∷ 0 ∷ 0x06 ∷ 0 ∷ 0x07 ∷ 0 ∷ 0x08 ∷ 0 ∷ 0x09 ∷ 0 ∷ 0x10 ∷ 0 ∷ 0x11 ∷ 0 ∷ 0x12 ∷ 0 ∷ [])
    × (walk next_hours 12 0x92 ≡ 0x93 ∷ 0 ∷ 0x94 ∷ 0 ∷ 0x95 ∷ 0 ∷ 0x96 ∷ 0 ∷ 0x97 ∷ 0 ∷ 0x98 ∷ 0 ∷ 0x99 ∷ 0 ∷ 0xa0 ∷ 0 ∷ 0xa1 ∷ 0 ∷ 0xa2 ∷ 0 ∷ 0xa3 ∷ 0 ∷ 0x80 ∷ 1 ∷ [])
    -- K7, K8. values that are not valid go to the first, and carry
    × (walk next_hours 1 0x40 ≡ 0x52 ∷ 1 ∷ [])
    × (walk next_hours 1 0x53 ≡ 0x52 ∷ 1 ∷ [])
    × (walk next_hours 1 0x6a ≡ 0x52 ∷ 1 ∷ [])
    × (walk next_hours 1 0x24 ≡ 0x00 ∷ 1 ∷ [])
    × (walk next_hours 1 0x1a ≡ 0x00 ∷ 1 ∷ [])
    × (walk next_seconds 1 0xe0 ≡ 0x80 ∷ 1 ∷ [])
    × (walk next_hundredths 1 0xa0 ≡ 0x00 ∷ 1 ∷ [])
    -- K8. a digit that carries, the last value, and the control bit of the seconds
    × (walk next_hundredths 2 0x98 ≡ 0x99 ∷ 0 ∷ 0x00 ∷ 1 ∷ [])
    × (walk next_seconds 3 0xd8 ≡ 0xd9 ∷ 0 ∷ 0x80 ∷ 1 ∷ 0x81 ∷ 0 ∷ [])
    × (walk next_seconds 2 0x08 ≡ 0x09 ∷ 0 ∷ 0x10 ∷ 0 ∷ [])
    -- K7. what is valid: within the limits and not, decimal and not
    × (passed valid_hundredths (0x00 ∷ 0x99 ∷ 0x9a ∷ 0xa0 ∷ []) ≡ 1 ∷ 1 ∷ 0 ∷ 0 ∷ [])
    × (passed valid_seconds (0x00 ∷ 0x59 ∷ 0x80 ∷ 0xd9 ∷ 0x5a ∷ 0x60 ∷ 0xe0 ∷ []) ≡ 1 ∷ 1 ∷ 1 ∷ 1 ∷ 0 ∷ 0 ∷ 0 ∷ [])
    × (passed valid_hours (0x00 ∷ 0x23 ∷ 0x80 ∷ 0xa3 ∷ 0x24 ∷ 0x1a ∷ 0x41 ∷ 0x52 ∷ 0x72 ∷ 0xf2 ∷ 0x40 ∷ 0x53 ∷ 0x73 ∷ []) ≡ 1 ∷ 1 ∷ 1 ∷ 1 ∷ 0 ∷ 0 ∷ 1 ∷ 1 ∷ 1 ∷ 1 ∷ 0 ∷ 0 ∷ 0 ∷ [])
    × (passed valid_day (0 ∷ 1 ∷ 7 ∷ 8 ∷ []) ≡ 0 ∷ 1 ∷ 1 ∷ 0 ∷ [])
    × (passed valid_month (0x00 ∷ 0x01 ∷ 0x0a ∷ 0x12 ∷ 0x13 ∷ []) ≡ 0 ∷ 1 ∷ 0 ∷ 1 ∷ 0 ∷ [])
    × (passed valid_year (0x00 ∷ 0x99 ∷ 0x9a ∷ 0xa0 ∷ []) ≡ 1 ∷ 1 ∷ 0 ∷ 0 ∷ [])
    × (passed (valid_date 0x02 0x00) (0x00 ∷ 0x01 ∷ 0x29 ∷ 0x30 ∷ []) ≡ 0 ∷ 1 ∷ 1 ∷ 0 ∷ [])
    × (passed (valid_date 0x02 0x01) (0x28 ∷ 0x29 ∷ []) ≡ 1 ∷ 0 ∷ [])
    -- K8, K9. the first value of a field, beside its control bits
    × (first_hundredths 0x9a ≡ 0x00)
    × (first_seconds 0xda ≡ 0x80)
    × (first_seconds 0x60 ≡ 0x00)
    × (first_hours 0xf3 ≡ 0xd2)
    × (first_hours 0xa4 ≡ 0x80)
    -- K13. 4 divides the year, in decimal; a year that is not valid is no leap year
    × (passed leap_year (0x00 ∷ 0x10 ∷ 0x12 ∷ 0x96 ∷ 0x99 ∷ 0xa0 ∷ []) ≡ 1 ∷ 0 ∷ 1 ∷ 1 ∷ 0 ∷ 0 ∷ [])
    -- K10, K11, K12. the day after: the last of each kind of month, of a month that is not valid, of a year; the week by itself
    × (day_after 0x01 0x31 0x01 0x26 ≡ 0x02 ∷ 0x01 ∷ 0x02 ∷ 0x26 ∷ [])
    × (day_after 0x02 0x28 0x02 0x27 ≡ 0x03 ∷ 0x01 ∷ 0x03 ∷ 0x27 ∷ [])
    × (day_after 0x03 0x28 0x02 0x28 ≡ 0x04 ∷ 0x29 ∷ 0x02 ∷ 0x28 ∷ [])
    × (day_after 0x04 0x29 0x02 0x28 ≡ 0x05 ∷ 0x01 ∷ 0x03 ∷ 0x28 ∷ [])
    × (day_after 0x05 0x30 0x04 0x26 ≡ 0x06 ∷ 0x01 ∷ 0x05 ∷ 0x26 ∷ [])
    × (day_after 0x06 0x30 0x05 0x26 ≡ 0x07 ∷ 0x31 ∷ 0x05 ∷ 0x26 ∷ [])
    × (day_after 0x07 0x14 0x06 0x26 ≡ 0x01 ∷ 0x15 ∷ 0x06 ∷ 0x26 ∷ [])
    × (day_after 0x01 0x31 0x13 0x26 ≡ 0x02 ∷ 0x01 ∷ 0x01 ∷ 0x27 ∷ [])
    × (day_after 0x01 0x31 0x12 0xa0 ≡ 0x02 ∷ 0x01 ∷ 0x01 ∷ 0x00 ∷ [])
    -- K9. what stands beside day, date and month stays
    × (day_after 0xff 0xf1 0xf2 0x99 ≡ 0xf9 ∷ 0xc1 ∷ 0xe1 ∷ 0x00 ∷ [])
    × (day_after 0xf9 0xc5 0xe6 0x26 ≡ 0xfa ∷ 0xc6 ∷ 0xe6 ∷ 0x26 ∷ [])
    × (day_after 0x09 0xf0 0xe4 0x26 ≡ 0x0a ∷ 0xc1 ∷ 0xe5 ∷ 0x26 ∷ [])

-- Each of them computes.
pub calendar_shown : CalendarShown
unfolding CalendarShown valid_field next_field valid_hours first_hours next_hours leap_year month_length next_date date_of with_date on_day advanced
calendar_shown = (refl, refl, refl, refl, refl, refl, refl, refl, refl, refl, refl, refl, refl, refl, refl, refl, refl, refl, refl, refl, refl, refl, refl, refl, refl, refl, refl, refl, refl, refl, refl, refl, refl, refl, refl, refl, refl, refl, refl, refl)
