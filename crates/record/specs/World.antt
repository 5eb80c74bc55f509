-- A chip with the two memories that are lent (01's term) to it, how many bytes all that it holds are, and a fresh one.
-- Assumes nothing.
use Rattle.std.specs.Prelude.{ℕ, ◌<◌, ◌≡◌, List, length, get_or, replicate}
use Rattle.record.specs.declared.Device.{Device}
use Rattle.record.specs.Part.{size_of, id_size}
use Rattle.record.specs.Fresh.{fresh}

-- C1, C7, C8. the record, with registers and SRAM in it, the EEPROM and the ID bytes
pub record World : Type 0 where
  pub device : Device
  pub eeprom : List ℕ
  pub id : List ℕ

abbrev pub world : Device → List ℕ → List ℕ → World
world d ee id = record { device = d; eeprom = ee; id = id }

-- the world with another record
abbrev pub moved : World → Device → World
moved w d = world d w.eeprom w.id

-- every number of a list is a byte; past its end 0 is read
abbrev pub Bytes : List ℕ → Type 0
Bytes l = (k : ℕ) → get_or l k 0 < 256

-- What every record has beside its range: the lengths of its arrays, a set of eight offsets, bytes in SRAM and load (the range has the
-- registers'). In code the language gives them; a theorem about definitions asks for them.
pub record Sized (d : Device) : Type 0 where
  pub regs : length d.regs ≡ 32
  pub sram : length d.sram ≡ 64
  pub bytes : length d.load.bytes ≡ 8
  pub offsets : d.load.offsets < 256
  pub sram_bytes : Bytes d.sram
  pub load_bytes : Bytes d.load.bytes

-- the same with the memories, whose lengths are the part's (number 4), and whose numbers are bytes
pub record Shaped (part : ℕ) (w : World) : Type 0 where
  pub sized : Sized w.device
  pub eeprom : length w.eeprom ≡ size_of part
  pub id : length w.id ≡ id_size
  pub eeprom_bytes : Bytes w.eeprom
  pub id_bytes : Bytes w.id

-- A36. a fresh chip: every byte of both memories is FFh
abbrev pub fresh_world : ℕ → World
fresh_world part = world fresh (replicate (size_of part) 255) (replicate id_size 255)
