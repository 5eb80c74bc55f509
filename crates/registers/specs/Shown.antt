-- What READ and WRITE do to records that are written out: a second statement beside the contracts, so that code and definition cannot go
-- wrong together. The crate `edges` shows more, through the acts.
-- Assumes nothing.
use Rattle.std.specs.Prelude.{ℕ, ◌≡◌, refl, Bool, true, false, List, [], ◌∷◌, get_or, set}
use Rattle.record.specs.declared.Device.{Device}
use Rattle.record.specs.Setters.{counts}
use Rattle.record.specs.Stamps.{unstamped}
use Rattle.record.specs.Scene.{chip, started}
use Rattle.registers.specs.Read.{read_clock}
use Rattle.registers.specs.Write.{write_clock, after_write}

-- what is read of a register
abbrev read_at : Device → ℕ → ℕ
read_at d a = read_clock d (record { 0 = a })

-- a register, and the counts, after FFh is written to it on a W part
abbrev wrote_all : ℕ → ℕ
wrote_all a = get_or (write_clock false (chip started (counts 0 0 0 0 0)) (record { 0 = a }) 0xff).regs a 0

-- a register after a byte is written to another, where VBAT is set and both time-stamps hold something
abbrev stamped_regs : List ℕ
stamped_regs = set (set (set started 0x04 0x1a) 0x18 0x59) 0x1f 0xa5

abbrev wrote_over : ℕ → ℕ → ℕ → ℕ
wrote_over a v k = get_or (write_clock false (chip stamped_regs (counts 0 0 0 0 0)) (record { 0 = a }) v).regs k 0

-- start-up count, watchdog's count and delay after a write
abbrev counts_after : Bool → ℕ → ℕ → List ℕ
counts_after boots a v =
    let d : Device = write_clock boots (chip started (counts 9 32 5 7 8)) (record { 0 = a }) v in
    d.counters.startup ∷ d.counters.watchdog ∷ d.counters.delay ∷ d.counters.pulse ∷ []

pub BlockShown : Type 0
BlockShown =
    -- F13. masks
    (wrote_all 0x02 ≡ 0x7f) × (wrote_all 0x04 ≡ 0x0f) × (wrote_all 0x06 ≡ 0x1f) × (wrote_all 0x0e ≡ 0x3f) × (wrote_all 0x18 ≡ 0x00)
    -- F12, C5. what the mask leaves out keeps its value: a time-stamp, whatever is written
    × (wrote_over 0x18 0x00 0x18 ≡ 0x59) × (wrote_over 0x1f 0xff 0x1f ≡ 0xa5)
    -- P16. VBAT written 0: the bit and both time-stamps; the other bits are stored
    × (wrote_over 0x04 0x0b 0x04 ≡ 0x0b) × (wrote_over 0x04 0x0b 0x18 ≡ 0x00) × (wrote_over 0x04 0x0b 0x1f ≡ 0x00)
    -- P16. VBAT written 1: it stays, set here and clear above (F13); the time-stamps too
    × (wrote_over 0x04 0x15 0x04 ≡ 0x15) × (wrote_over 0x04 0x15 0x18 ≡ 0x59) × (wrote_over 0x04 0x15 0x1f ≡ 0xa5)
    -- P16. a 0 in bit 4 of another register means nothing
    × (wrote_over 0x05 0x01 0x18 ≡ 0x59) × (wrote_over 0x05 0x01 0x04 ≡ 0x1a)
    -- F15. OSCON from the 32nd start-up tick on, in bit 5
    × (read_at (chip started (counts 0 31 0 0 0)) 0x04 ≡ 0x00)
    × (read_at (chip started (counts 0 32 0 0 0)) 0x04 ≡ 0x20)
    -- F14. 12/24 in bit 6 of both alarms' hours
    × (read_at (chip (set started 0x03 0x40) (counts 0 0 0 0 0)) 0x0e ≡ 0x40)
    × (read_at (chip (set started 0x03 0x40) (counts 0 0 0 0 0)) 0x15 ≡ 0x40)
    × (read_at (chip (set started 0x03 0x80) (counts 0 0 0 0 0)) 0x0e ≡ 0x00)
    -- F11. the last byte of the SRAM, and above it
    × (read_at (chip started (counts 0 0 0 0 0)) 0x5f ≡ 0x07)
    × (read_at (chip started (counts 0 0 0 0 0)) 0x60 ≡ 0x00)
    -- K4. ST cleared on a W part, and on a B part
    × (counts_after false 0x01 0x00 ≡ 0 ∷ 5 ∷ 7 ∷ 8 ∷ [])
    × (counts_after true 0x01 0x00 ≡ 32 ∷ 5 ∷ 7 ∷ 8 ∷ [])
    -- K27. the delay for bits 7 and 5, and none with bit 6
    × (counts_after false 0x0a 0xa0 ≡ 32 ∷ 0 ∷ 2097152 ∷ 8 ∷ [])
    × (counts_after false 0x0a 0xe0 ≡ 32 ∷ 0 ∷ 0 ∷ 8 ∷ [])

pub block_shown : BlockShown
unfolding BlockShown read_clock write_clock after_write unstamped
block_shown = (refl, refl, refl, refl, refl, refl, refl, refl, refl, refl, refl, refl, refl, refl, refl, refl, refl, refl, refl, refl, refl, refl, refl, refl, refl, refl)
