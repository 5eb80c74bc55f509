-- `record::registers::kept_bits`: by whether the register is below the time-stamps (`same_masks`, `stamp_mask`).
-- Assumes nothing.
use native.Mathlib.Omega.{arith}
use mathlib.Core.Path.{sym}
use Rattle.record.proofs.StampLaws.{same_masks, stamp_mask}
use Rattle.record.proofs.registers.kept_bits.Goals as goal

pub returns-then-at : goal.returns-then-at
returns-then-at c = same_masks c.args.at.0 (omega arith)

pub returns : goal.returns
returns c = sym (stamp_mask c.args.at.0 (omega arith) (omega arith))
