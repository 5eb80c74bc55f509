-- `saved::read::read_row`: after i lines what is left gives what the whole gives (`Rows`).
-- Assumes nothing.
-- after a line has been read: its numbers are in the array
use lib.ListN.{take}
use Rattle.numbers.specs.Tables.{row_of}
use Rattle.saved.specs.Reading.{got}
use Rattle.saved.specs.Place.{reading_at}
use Rattle.saved.proofs.LoopLaws.{Rows}
use Rattle.saved.proofs.read.read_row.Given as goal

abbrev pub invariant-loop-i : goal.invariant-loop-i
invariant-loop-i l =
    Rows (row_of l.row) l.lines (got (take l.count l.initial.numbers) (reading_at l.text l.initial.place)) l.i l.at l.numbers (reading_at l.text l.place)
