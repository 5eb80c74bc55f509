-- `saved::put::put_rows`: of the whole text, the rows after the first i are to come (`Left`).
-- Assumes nothing.
use mathlib.Core.Path.{◌≡◌}
use Prim.Native.Nat.{◌≤◌}
use lib.ListN.{length}
use Rattle.text.specs.Buffer.{buffer}
use Rattle.saved.proofs.PutLaws.{Left}
use Rattle.saved.proofs.put.put_rows.Given as goal

abbrev pub invariant-loop-row : goal.invariant-loop-row
invariant-loop-row l =
    (length l.into ≡ length l.initial.into) × (l.row-index ≤ l.place) × Left (buffer l.initial.into 0) l.numbers l.row-index l.place (buffer l.into l.end)
