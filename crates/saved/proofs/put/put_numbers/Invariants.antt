-- `saved::put::put_numbers`: of the text of all numbers, those after the first j are to come (`Part`).
-- Assumes nothing.
use mathlib.Core.Path.{◌≡◌}
use lib.ListN.{length, take, drop}
use Rattle.text.specs.Buffer.{buffer}
use Rattle.saved.specs.Reading.{run_text}
use Rattle.saved.proofs.PutLaws.{Part}
use Rattle.saved.proofs.put.put_numbers.Given as goal

abbrev pub invariant-loop-j : goal.invariant-loop-j
invariant-loop-j l =
    (length l.into ≡ length l.initial.into)
    × Part (buffer l.initial.into l.at) (run_text (take l.width (drop l.from l.numbers))) (run_text (drop l.j (take l.width (drop l.from l.numbers)))) (buffer l.into l.end)
