-- READ of the clock block. Not how an address is taken or rolls over, and not when a frame reads.
-- Assumes nothing.
use Rattle.std.specs.Prelude.{ℕ, ◌-◌, ◌||◌, ltb, eqb, get_or}
use Rattle.std.specs.Int.Bits.{bit_or}
use Rattle.base.specs.Words.{pick}
use Rattle.calendar.specs.Date.{leap_year}
use Rattle.record.specs.declared.Device.{Device}
use Rattle.record.specs.declared.ClockAddress.{ClockAddress}
use Rattle.record.specs.Registers.{twelve, oscon, day_at, month_at, year_at, alarm0_hours_at, alarm1_hours_at}

-- F14, F15, F16, F17. The bits that are made when a register is read and are not stored: OSCON in 04h, the leap bit in 06h, 12/24 of 03h in
-- both alarms' hours.
abbrev pub made : Device → ℕ → ℕ
made d a =
    pick (eqb a day_at) (pick (oscon d.counters) 0x20 0)
    (pick (eqb a month_at) (pick (leap_year (get_or d.regs year_at 0)) 0x20 0)
    (pick (eqb a alarm0_hours_at || eqb a alarm1_hours_at) (pick (twelve d.regs) 0x40 0)
    0))

-- F11, F18, C4, C5. What READ answers: a register's stored bits and its made ones, an SRAM byte, and 0 from 60h up (bench).
unfoldable pub read_clock : Device → ClockAddress → ℕ
read_clock d a =
    pick (ltb a.0 0x20) (bit_or (get_or d.regs a.0 0) (made d a.0))
    (pick (ltb a.0 0x60) (get_or d.sram (a.0 - 0x20) 0) 0)
