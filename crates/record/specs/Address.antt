-- C9. The three kinds of address, and how each is taken from a byte and rolls over. No definition turns one kind into another.
-- Assumes nothing.
use Rattle.std.specs.Prelude.{ℕ, ◌+◌, ◌*◌, ◌/◌, ◌%◌, ltb, eqb}
use Rattle.std.specs.Int.Bits.{bit_and}
use Rattle.base.specs.Words.{pick}
use Rattle.record.specs.declared.EepromAddress.{EepromAddress}
use Rattle.record.specs.declared.ClockAddress.{ClockAddress}
use Rattle.record.specs.declared.IdAddress.{IdAddress}

-- F8. The bits of the part's top address, 7Fh or FFh, are taken: 1 Kbit drops bit 7.
abbrev pub taken_eeprom : ℕ → ℕ → EepromAddress
taken_eeprom top v = record { 0 = bit_and v top }

-- F7. After the top address comes 00h.
abbrev pub roll_eeprom : ℕ → EepromAddress → EepromAddress
roll_eeprom top a = pick (ltb a.0 top) (record { 0 = a.0 + 1 }) (record { 0 = 0 })

-- F9. An ID address is the rest by 16; after 0Fh comes 00h.
abbrev pub taken_id : ℕ → IdAddress
taken_id v = record { 0 = v % 16 }

abbrev pub roll_id : IdAddress → IdAddress
roll_id a = pick (ltb a.0 0x0f) (record { 0 = a.0 + 1 }) (record { 0 = 0 })

-- F10, F11, E22. After the last register, 1Fh, comes 00h, after the last SRAM byte, 5Fh, comes 20h; from 60h up the pointer stays (bench).
abbrev pub roll_clock : ClockAddress → ClockAddress
roll_clock a =
    pick (eqb a.0 0x1f) (record { 0 = 0x00 })
    (pick (eqb a.0 0x5f) (record { 0 = 0x20 })
    (pick (ltb a.0 0x60) (record { 0 = a.0 + 1 }) a))

-- F21. Pages are 8 bytes, from an address whose low three bits are 000: the page of an address, and the offset in it.
abbrev pub page_of : ℕ → ℕ
page_of a = a / 8 * 8

abbrev pub offset_of : ℕ → ℕ
offset_of a = a % 8
