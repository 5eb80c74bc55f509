-- WRITE of the clock block, a byte at a time, and what a register's write causes. Not how an address is taken or rolls over, and not when a
-- frame writes.
-- Assumes nothing.
use Rattle.std.specs.Prelude.{ℕ, ◌-◌, Bool, not, ◌&&◌, List, ltb, eqb, get_or, set}
use Rattle.std.specs.Int.Bits.{bit_and, bit_or}
use Rattle.base.specs.Words.{pick}
use Rattle.events.specs.Pins.{no_counts}
use Rattle.record.specs.declared.Device.{Device}
use Rattle.record.specs.declared.ClockAddress.{ClockAddress}
use Rattle.record.specs.Registers.{st, vbat, wdten, wdtif, wddel, seconds_at, day_at, watchdog_at, event_at, writable, delay_ticks}
use Rattle.record.specs.Stamps.{unstamped, without_vbat}
use Rattle.record.specs.Setters.{with_regs, with_sram, with_startup, with_watchdog, with_delay, with_events}

-- K27. The delay that a value of 0Ah sets: 64 s if WDTEN and WDDEL are set and WDTIF is clear, else none.
abbrev pub delay_after : ℕ → ℕ
delay_after v = pick ((wdten v && wddel v) && not (wdtif v)) delay_ticks 0

-- P16. The registers after a write of 04h, where VBAT was set before it or not: VBAT written 0 is clear, and both time-stamps are; VBAT written 1
-- stays what it was.
abbrev pub day_written : Bool → List ℕ → List ℕ
day_written vbatBefore regs = pick (vbat regs) (pick vbatBefore regs (without_vbat regs)) (unstamped regs)

-- What follows from the write of register a, by the registers as it left them, and by VBAT as it was before.
-- K4. ST cleared on a W part zeroes the start-up count, and with it OSCON.
-- P16. VBAT may have to be put back, or the time-stamps cleared.
-- K27. Any write of 0Ah zeroes the watchdog's count and sets the delay anew.
-- V12. Any write of 0Bh zeroes the event inputs' counts.
unfoldable pub after_write : Bool → Bool → ℕ → Device → Device
after_write boots vbatBefore a d =
    pick (eqb a seconds_at) (pick (not boots && not (st d.regs)) (with_startup d 0) d)
    (pick (eqb a day_at) (with_regs d (day_written vbatBefore d.regs))
    (pick (eqb a watchdog_at) (with_delay (with_watchdog d 0) (delay_after (get_or d.regs watchdog_at 0)))
    (pick (eqb a event_at) (with_events d (no_counts d.events)) d)))

-- F12. A byte written over another under a mask: the mask's bits are the new byte's, the others keep their value.
abbrev pub under_mask : ℕ → ℕ → ℕ → ℕ
under_mask mask old v = bit_or (bit_and old (255 - mask)) (bit_and v mask)

-- F12, G10. A byte is stored under its register's mask of writable bits.
abbrev pub write_register : Bool → Device → ℕ → ℕ → Device
write_register boots d a v =
    after_write boots (vbat d.regs) a (with_regs d (set d.regs a (under_mask (get_or writable a 0) (get_or d.regs a 0) v)))

-- F11, F12, C4, C5. What WRITE does: a register, an SRAM byte, and nothing from 60h up (bench).
unfoldable pub write_clock : Bool → Device → ClockAddress → ℕ → Device
write_clock boots d a v =
    pick (ltb a.0 0x20) (write_register boots d a.0 v)
    (pick (ltb a.0 0x60) (with_sram d (set d.sram (a.0 - 0x20) v)) d)
