-- `saved::read::read_numbers`: after j numbers what is left gives what the whole gives (`Went`).
-- Assumes nothing.
use lib.ListN.{take}
use Rattle.numbers.specs.Tables.{row_of}
use Rattle.saved.specs.Place.{reading_at}
use Rattle.saved.proofs.LoopLaws.{Went}
use Rattle.saved.proofs.read.read_numbers.Given as goal

abbrev pub invariant-loop-j : goal.invariant-loop-j
invariant-loop-j l =
    Went (row_of l.row) (take l.count l.initial.numbers) l.first l.width (reading_at l.text l.initial.place) l.j (reading_at l.text l.place) l.good l.numbers
