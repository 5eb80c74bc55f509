-- `refusals::range::bit_outside`: the registers passed have no bit outside.
-- Assumes nothing.
use mathlib.Core.Path.{◌≡◌}
use mathlib.Core.Bool.{true}
use Rattle.base.specs.Words.{every}
use Rattle.refusals.specs.Range.{inside_mask}
use Rattle.refusals.proofs.range.bit_outside.Given as goal

abbrev pub invariant-loop-i : goal.invariant-loop-i
invariant-loop-i l = every (inside_mask l.fn.regs) l.i ≡ true
