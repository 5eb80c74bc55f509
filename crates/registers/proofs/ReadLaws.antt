-- READ of the clock block answers a byte, where the record is in range and its SRAM holds bytes.
-- Assumes nothing.
use Prim.Native.Nat.{ℕ, ◌-◌, ◌<◌}
use native.Mathlib.Omega.{arith}
use mathlib.Core.Bool.{◌||◌}
use borrow.Author.Tests.{ltb-true}
use lib.Bits.{or_lt}
use lib.Dec.{ltb, eqb}
use lib.ListN.{get_or}
use Rattle.base.proofs.Tests.{pick_case, pick_when}
use Rattle.calendar.specs.Date.{leap_year}
use Rattle.record.specs.declared.ClockAddress.{ClockAddress}
use Rattle.record.specs.declared.Device.{Device}
use Rattle.record.specs.Registers.{twelve, oscon, day_at, month_at, year_at, alarm0_hours_at, alarm1_hours_at}
use Rattle.record.specs.World.{Bytes}
use Rattle.refusals.proofs.KeepLaws.{AllInside, inside_byte}
use Rattle.registers.specs.Read.{made, read_clock}

-- the made bits are a byte, and so are they with the stored ones
made_byte : (d : Device) (a : ℕ) → made d a < 256
made_byte d a =
    let P : ℕ → Type 0 = λ n. n < 256 in
    pick_case P (eqb a day_at) (pick_case P (oscon d.counters) (omega arith) (omega arith))
    (pick_case P (eqb a month_at) (pick_case P (leap_year (get_or d.regs year_at 0)) (omega arith) (omega arith))
    (pick_case P (eqb a alarm0_hours_at || eqb a alarm1_hours_at) (pick_case P (twelve d.regs) (omega arith) (omega arith)) (omega arith)))

pub read_byte : (d : Device) (a : ClockAddress) → AllInside d.regs → Bytes d.sram → read_clock d a < 256
unfolding read_clock
read_byte d a i b =
    let P : ℕ → Type 0 = λ n. n < 256 in
    pick_when P (ltb a.0 0x20)
    (λ t.
    let h = ltb-true a.0 0x20 t in
    or_lt 8 (get_or d.regs a.0 0) (made d a.0) (inside_byte a.0 (get_or d.regs a.0 0) h (i a.0 h)) (made_byte d a.0))
    (λ t. pick_case P (ltb a.0 0x60) (b (a.0 - 0x20)) (omega arith))
