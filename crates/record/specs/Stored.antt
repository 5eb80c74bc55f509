-- What a write cycle puts into the memories and the protection under a mask of page offsets, and how many bytes that is. A cycle that comes to
-- its end is one with every mask bit set; a cut brings a mask of its own.
-- Assumes nothing.
use Rattle.std.specs.Prelude.{ℕ, List}
use Rattle.std.specs.Int.Bits.{bit_and}
use Rattle.base.specs.Words.{pick, bit, flag, members, store_under}
use Rattle.record.specs.declared.Load.{Load}
use Rattle.record.specs.declared.Protection.{Protection}
use Rattle.record.specs.declared.Target.{Target}
use Rattle.record.specs.declared.Target.TheVariants.{Eeprom, Id, Status}
use Rattle.record.specs.Address.{page_of}

-- the mask of a cycle that comes to its end
abbrev pub whole_mask : ℕ
whole_mask = 255

-- the offsets that are stored: loaded, and in the mask
abbrev pub stored_set : Load → ℕ → ℕ
stored_set l mask = bit_and l.offsets mask

-- F21, P2. The page of an address in a memory: a stored offset takes its byte, no other place changes.
abbrev pub store_page : Load → ℕ → ℕ → List ℕ → List ℕ
store_page l mask a m = store_under m (page_of a) (stored_set l mask) l.bytes 8

abbrev pub eeprom_after : Load → ℕ → List ℕ → Target → List ℕ
eeprom_after l mask ee (Eeprom a) = store_page l mask a.0 ee
eeprom_after l mask ee (Id a) = ee
eeprom_after l mask ee (Status p) = ee

abbrev pub id_after : Load → ℕ → List ℕ → Target → List ℕ
id_after l mask id (Eeprom a) = id
id_after l mask id (Id a) = store_page l mask a.0 id
id_after l mask id (Status p) = id

-- P3. A STATUS cycle is stored by bit 0 of the mask.
abbrev pub protection_after : ℕ → Protection → Target → Protection
protection_after mask old (Eeprom a) = old
protection_after mask old (Id a) = old
protection_after mask old (Status p) = pick (bit mask 0) p old

-- P2, P3, W9. How many bytes are stored: the stored offsets; of a STATUS cycle 1 or 0.
abbrev pub stored_count : Load → ℕ → Target → ℕ
stored_count l mask (Eeprom a) = members (stored_set l mask) 8
stored_count l mask (Id a) = members (stored_set l mask) 8
stored_count l mask (Status p) = flag (bit mask 0)
