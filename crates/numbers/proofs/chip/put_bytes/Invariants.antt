-- `numbers::chip::put_bytes`: so far the numbers passed have been put.
-- Assumes nothing.
use mathlib.Core.Path.{◌≡◌}
use lib.ListN.{take}
use lib.Seq.{sets}
use Rattle.numbers.proofs.chip.put_bytes.Given as goal

abbrev pub invariant-loop-i : goal.invariant-loop-i
invariant-loop-i l = l.into ≡ sets l.initial.into l.at (take l.i l.from)
