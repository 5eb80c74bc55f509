-- `saved::read::read_between`: after some of the rows what is left gives what all of them give (`Reads`).
-- Assumes nothing.
use lib.ListN.{take}
use Rattle.saved.specs.Reading.{got}
use Rattle.saved.specs.Place.{reading_at}
use Rattle.saved.proofs.LoopLaws.{Reads}
use Rattle.saved.proofs.read.read_between.Given as goal

abbrev pub invariant-loop-i : goal.invariant-loop-i
invariant-loop-i l =
    Reads l.first l.end (got (take l.count l.initial.numbers) (reading_at l.text l.initial.place)) l.i l.at l.numbers (reading_at l.text l.place)
