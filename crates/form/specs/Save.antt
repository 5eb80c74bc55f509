-- What saving a chip answers, and what loading one does.
-- Assumes nothing.
use Rattle.std.specs.Prelude.{ℕ, List, ltb, eqb, length}
use Rattle.base.specs.Words.{pick, over}
use Rattle.record.specs.World.{World}
use Rattle.refusals.specs.Refusal.{wrong_length, setup_refusal}
use Rattle.form.specs.Form.{Loaded, loaded, bad, load}
use Rattle.form.specs.Table.{part_in, chip_form}
use Rattle.form.specs.Chip.{world_of, saved_text}

-- a number, a line, how many bytes were written, and the room after it
pub record Saving : Type 0 where
  pub number : ℕ
  pub line : ℕ
  pub length : ℕ
  pub room : List ℕ

-- S9. Refused by 3, 4 and 6 as an act is; then by 8 where the room is too small. Line 0, and nothing is written.
abbrev pub save_refusal : ℕ → World → ℕ → ℕ
save_refusal part w room =
    let k = setup_refusal part w.device (length w.eeprom) (length w.id) in
    pick (eqb k 0) (pick (ltb room (length (saved_text part w))) 8 0) k

abbrev pub not_saved : ℕ → List ℕ → Saving
not_saved number room = record { number = number; line = 0; length = 0; room = room }

-- S9. else the room begins with the text
abbrev pub written : List ℕ → List ℕ → Saving
written text room = record { number = 0; line = 0; length = length text; room = over text room }

unfoldable pub saves : ℕ → World → List ℕ → Saving
saves part w room =
    let k = save_refusal part w (length room) in
    pick (eqb k 0) (written (saved_text part w) room) (not_saved k room)

-- a number, a line, and the chip after it
pub record Loading : Type 0 where
  pub number : ℕ
  pub line : ℕ
  pub part : ℕ
  pub world : World

abbrev pub loading : ℕ → ℕ → ℕ → World → Loading
loading number line part w = record { number = number; line = line; part = part; world = w }

-- S10. 8 with the first bad line; then 4 where the lent memories have other lengths than the file's. The chip is as it was. Else it is the file's.
abbrev pub load_answer : Loaded (List ℕ) → ℕ → World → Loading
load_answer (bad n) part w = loading 8 n part w
load_answer (loaded ns) part w =
    pick (wrong_length (part_in ns) (length w.eeprom) (length w.id)) (loading 4 0 part w) (loading 0 0 (part_in ns) (world_of ns))

unfoldable pub loads : List ℕ → ℕ → World → Loading
loads text part w = load_answer (load chip_form text) part w
