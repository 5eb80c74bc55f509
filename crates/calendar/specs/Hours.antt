-- The stored byte of hours (03h) in both formats: valid, first, next. The field is bits 5:0; bit 7 (CALSGN) and bit 6 (12/24) stand
-- beside it and stay. A note of document 000 names bit 5 for the format; it is not followed.
-- Assumes nothing.
use Rattle.std.specs.Prelude.{ℕ, ◌+◌, ◌*◌, ◌/◌, ◌%◌, Bool, true, false, ◌&&◌, ltb, eqb}
use Rattle.base.specs.Words.{pick, bit, bcd_value, bcd_byte}
use Rattle.calendar.specs.declared.Step.{Step}
use Rattle.calendar.specs.Field.{Limits, limits, valid_in, next_in, beside, beside_step}

-- K14. The format: bit 6 set is 12-hour.
abbrev pub twelve_hour : ℕ → Bool
twelve_hour b = bit b 6

-- K8. Hours of the 24-hour format.
abbrev pub hours : Limits
hours = limits 0x00 0x23

-- K15. Hours of the 12-hour format, in bits 4:0 of the field; its bit 5 is set from noon on.
abbrev pub twelve : Limits
twelve = limits 0x01 0x12

abbrev pub valid_twelve : ℕ → Bool
valid_twelve f = valid_in twelve (f % 32)

-- K15. The hour of the day, 0 to 23, of a valid field in 12-hour format: 12 AM is 0, 12 PM is 12, 11 PM is 23.
abbrev pub hour_of_twelve : ℕ → ℕ
hour_of_twelve f = bcd_value (f % 32) % 12 + f / 32 * 12

-- K15. The field in 12-hour format of an hour of the day.
abbrev pub twelve_of_hour : ℕ → ℕ
twelve_of_hour h = h / 12 * 32 + pick (eqb (h % 12) 0) 0x12 (bcd_byte (h % 12))

-- K15. The day begins at 12 AM.
abbrev pub twelve_first : ℕ
twelve_first = twelve_of_hour 0

-- K8, K15 (bench). As the step of a field, with 12 AM as its first value and 11 PM as its last.
abbrev pub next_twelve : ℕ → Step ℕ
next_twelve f =
    pick (valid_twelve f && ltb (hour_of_twelve f) 23)
    (record { value = twelve_of_hour (hour_of_twelve f + 1); carry = false })
    (record { value = twelve_first; carry = true })

-- K7, K14. Whether the stored byte holds a valid hour of its format.
unfoldable pub valid_hours : ℕ → Bool
valid_hours b = pick (twelve_hour b) (valid_twelve (b % 64)) (valid_in hours (b % 64))

-- K9, K14, K15. The byte with its format's first hour.
unfoldable pub first_hours : ℕ → ℕ
first_hours b = beside 64 b (pick (twelve_hour b) twelve_first hours.first)

-- K9, K14, E6, E7, E8, E23. The step of the byte in its format; CALSGN and 12/24 stay.
unfoldable pub next_hours : ℕ → Step ℕ
next_hours b = beside_step 64 b (pick (twelve_hour b) (next_twelve (b % 64)) (next_in hours (b % 64)))
