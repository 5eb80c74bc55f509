-- `saved::put::put_row`: of the row's text, the lines after the first i are to come (`Part`).
-- Assumes nothing.
use mathlib.Core.Path.{◌≡◌}
use Prim.Native.Nat.{◌+◌, ◌-◌, ◌*◌}
use lib.ListN.{length}
use Rattle.text.specs.Buffer.{buffer}
use Rattle.form.specs.Table.{row_text}
use Rattle.numbers.specs.Tables.{row_of}
use Rattle.saved.proofs.PutLaws.{Part}
use Rattle.saved.proofs.put.put_row.Given as goal

abbrev pub invariant-loop-i : goal.invariant-loop-i
invariant-loop-i l =
    (length l.into ≡ length l.initial.into) × (l.place ≡ l.from + l.i * (row_of l.row).width)
    × Part (buffer l.initial.into l.at) (row_text (row_of l.row) l.lines 0 l.from l.numbers) (row_text (row_of l.row) (l.lines - l.i) l.i (l.from + l.i * (row_of l.row).width) l.numbers) (buffer l.into l.end)
