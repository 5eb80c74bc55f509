-- The stored bytes of hundredths (00h), seconds (01h) and minutes (02h): valid, first, next. The hours are not here: they have two
-- formats.
-- Assumes nothing.
use Rattle.std.specs.Prelude.{ℕ, ◌%◌, Bool}
use Rattle.calendar.specs.declared.Step.{Step}
use Rattle.calendar.specs.Field.{Limits, limits, valid_in, next_in, beside, beside_step}

-- K7, K8. Hundredths are 00 to 99, in all eight bits.
abbrev pub hundredths : Limits
hundredths = limits 0x00 0x99

abbrev pub valid_hundredths : ℕ → Bool
valid_hundredths b = valid_in hundredths b

abbrev pub first_hundredths : ℕ → ℕ
first_hundredths b = hundredths.first

abbrev pub next_hundredths : ℕ → Step ℕ
next_hundredths b = next_in hundredths b

-- K7, K8, K9, E9. Seconds are 00 to 59, in bits 6:0; bit 7, ST, stays.
abbrev pub seconds : Limits
seconds = limits 0x00 0x59

abbrev pub valid_seconds : ℕ → Bool
valid_seconds b = valid_in seconds (b % 128)

abbrev pub first_seconds : ℕ → ℕ
first_seconds b = beside 128 b seconds.first

abbrev pub next_seconds : ℕ → Step ℕ
next_seconds b = beside_step 128 b (next_in seconds (b % 128))

-- Minutes are as seconds; bit 7 of 02h is no bit of the chip, and stays too.
abbrev pub valid_minutes : ℕ → Bool
valid_minutes b = valid_seconds b

abbrev pub first_minutes : ℕ → ℕ
first_minutes b = first_seconds b

abbrev pub next_minutes : ℕ → Step ℕ
next_minutes b = next_seconds b
