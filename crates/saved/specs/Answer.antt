-- What `save` and `load` leave, read as one record of the definitions: 0 for done, else the number of an error, with the first bad line where there is one.
-- Assumes nothing.
use Rattle.std.specs.Prelude.{ℕ, List, Result, Ok, Err}
use Rattle.record.specs.World.{World, world}
use Rattle.refusals.specs.Refusal.{refusal_number}
use Rattle.form.specs.Save.{Saving, not_saved, Loading, loading}
use Rattle.saved.specs.declared.SaveError.{SaveError}
use Rattle.saved.specs.declared.SaveError.TheVariants.{Refused, NoRoom}
use Rattle.saved.specs.declared.LoadError.{LoadError}
use Rattle.saved.specs.declared.LoadError.TheVariants.{BadLine, WrongLength}
use Rattle.saved.specs.declared.Loaded.{Loaded}

-- S9. 3, 4 and 6 as an act has them, 8 for the room
abbrev pub save_number : SaveError → ℕ
save_number (Refused r) = refusal_number r
save_number NoRoom = 8

abbrev pub saving_of : Result ℕ SaveError → List ℕ → Saving
saving_of (Ok n) room = record { number = 0; line = 0; length = n; room = room }
saving_of (Err e) room = not_saved (save_number e) room

-- S10. 8 with the first bad line, 4 for a memory's length
abbrev pub load_number : LoadError → ℕ
load_number (BadLine n) = 8
load_number WrongLength = 4

abbrev pub load_line : LoadError → ℕ
load_line (BadLine n) = n
load_line WrongLength = 0

-- with the part and the chip as they are afterwards where the text is not loaded
abbrev pub loading_of : Result Loaded LoadError → ℕ → World → Loading
loading_of (Ok l) part w = loading 0 0 l.part (world l.device w.eeprom w.id)
loading_of (Err e) part w = loading (load_number e) (load_line e) part w
