-- Where the page of a write cycle stands.
-- Assumes nothing.
use Rattle.std.specs.Prelude.{ℕ, ◌+◌, ◌≤◌, List, length}
use Rattle.record.specs.declared.Target.{Target}
use Rattle.record.specs.Address.{page_of}
use Rattle.record.specs.Stages.{cycle_place, eeprom_pointer, id_pointer}

-- the page of a target lies inside the memories ee and id; that of no target lies at 0
pub record PageInside (target : Target) (ee id : List ℕ) : Type 0 where
  pub eeprom_page : page_of (eeprom_pointer (cycle_place target)) + 8 ≤ length ee
  pub id_page : page_of (id_pointer (cycle_place target)) + 8 ≤ length id
