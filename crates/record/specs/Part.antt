-- T6. The four parts, as numbers: 1 is W with 1 Kbit, 2 W with 2 Kbit, 3 B with 1 Kbit, 4 B with 2 Kbit. What a number that is no part would
-- have means nothing: number 3 refuses it first.
-- Assumes nothing.
use Rattle.std.specs.Prelude.{ℕ, ◌+◌, ◌%◌, Bool, ◌&&◌, leb, eqb}
use Rattle.base.specs.Words.{pick}

-- A14. a part there is
abbrev pub is_part : ℕ → Bool
is_part part = leb 1 part && leb part 4

-- C8. the top address of the EEPROM: 7Fh of 1 Kbit (128 bytes), FFh of 2 Kbit (256 bytes)
abbrev pub top_of : ℕ → ℕ
top_of part = pick (eqb (part % 2) 1) 0x7f 0xff

-- the EEPROM's length in bytes
abbrev pub size_of : ℕ → ℕ
size_of part = top_of part + 1

-- C8. the ID's length in bytes
abbrev pub id_size : ℕ
id_size = 16

-- K2. A B part asks its oscillator to run always, a W part by ST.
abbrev pub boots_of : ℕ → Bool
boots_of part = leb 3 part
