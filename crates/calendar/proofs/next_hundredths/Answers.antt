-- `calendar::next_hundredths`: the field fills its byte (`step_whole`).
-- Assumes nothing.
use mathlib.Core.Path.{◌∙◌}
use native.Mathlib.Omega.{arith}
use Rattle.calendar.proofs.FieldLaws.{step_whole}
use Rattle.calendar.proofs.next_hundredths.Goals as goal

pub returns : goal.returns
returns c = c.next_beside.ensures ∙ step_whole 0x00 0x99 c.args.b (omega arith) (omega arith) c.ranges.b.fits
