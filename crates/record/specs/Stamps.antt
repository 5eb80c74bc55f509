-- Time-stamps of a power failure, as registers: how the time is copied into one, how both are cleared, how VBAT is set and cleared, and
-- what a time-stamp shows. Not when.
-- Assumes nothing.
use Rattle.std.specs.Prelude.{ℕ, ◌+◌, ◌*◌, ◌/◌, ◌%◌, ◌<◌, ◌≤◌, ◌≡◌, List, get_or, set}
use Rattle.std.specs.Int.Bits.{bit_and, bit_or}
use Rattle.record.specs.declared.Place.TheVariants.{ClockAt}
use Rattle.record.specs.declared.Stage.{Stage}
use Rattle.record.specs.declared.Stage.TheVariants.{Writing}
use Rattle.record.specs.Registers.{minutes_at, hours_at, day_at, date_at, month_at, power_down_at, power_up_at}

-- C5. A time-stamp is four registers from its first: minutes, hours, date, and month with the day of the week.
abbrev pub stamp_at : ℕ → ℕ → ℕ → ℕ → ℕ → List ℕ → List ℕ
stamp_at a minutes hours date month regs = set (set (set (set regs a minutes) (a + 1) hours) (a + 2) date) (a + 3) month

-- P12. The hours without CALSGN; the month with the day of the week in the top three bits.
abbrev pub stamp_hours : List ℕ → ℕ
stamp_hours regs = get_or regs hours_at 0 % 128

abbrev pub stamp_month : List ℕ → ℕ
stamp_month regs = get_or regs month_at 0 % 32 + get_or regs day_at 0 % 8 * 32

-- P12. The time that the registers show is copied into the time-stamp from a, as it stands, valid or not.
unfoldable pub stamped : ℕ → List ℕ → List ℕ
stamped a regs = stamp_at a (get_or regs minutes_at 0) (stamp_hours regs) (get_or regs date_at 0) (stamp_month regs) regs

-- P16. both time-stamps 0
unfoldable pub unstamped : List ℕ → List ℕ
unstamped regs = stamp_at power_up_at 0 0 0 0 (stamp_at power_down_at 0 0 0 0 regs)

-- P13, P16. VBAT set, and clear
abbrev pub with_vbat : List ℕ → List ℕ
with_vbat regs = set regs day_at (bit_or (get_or regs day_at 0) 0x10)

abbrev pub without_vbat : List ℕ → List ℕ
without_vbat regs = set regs day_at (bit_and (get_or regs day_at 0) 0xef)

-- P16. a WRITE whose next byte goes to 04h
abbrev pub to_day : Stage
to_day = Writing (ClockAt (record { 0 = day_at }))

-- P14, P16. both time-stamps are 0
abbrev pub NoStamps : List ℕ → Type 0
NoStamps regs = (k : ℕ) → power_down_at ≤ k → k < 32 → get_or regs k 0 ≡ 0

-- P17. the registers of both time-stamps are the same
abbrev pub SameStamps : List ℕ → List ℕ → Type 0
SameStamps regs regs' = (k : ℕ) → power_down_at ≤ k → get_or regs' k 0 ≡ get_or regs k 0

-- P12. The time-stamp from a shows the time of other registers, in words apart from the copy: each of its fields is where the sheet's map
-- has it, and CALSGN is not among them.
pub record Shows (a : ℕ) (regs time : List ℕ) : Type 0 where
  pub minutes : get_or regs a 0 ≡ get_or time 0x02 0
  pub hours : get_or regs (a + 1) 0 ≡ get_or time 0x03 0 % 128
  pub date : get_or regs (a + 2) 0 ≡ get_or time 0x05 0
  pub month : get_or regs (a + 3) 0 % 32 ≡ get_or time 0x06 0 % 32
  pub day : get_or regs (a + 3) 0 / 32 ≡ get_or time 0x04 0 % 8
