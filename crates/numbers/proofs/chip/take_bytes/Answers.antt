-- `numbers::chip::take_bytes`: so far the bytes passed are there.
-- Assumes nothing.
use native.Mathlib.Omega.{arith}
use Rattle.numbers.proofs.ChipLaws.{take_more, taken_all}
use Rattle.numbers.proofs.chip.take_bytes.Goals as goal

pub loop-i-preserved : goal.loop-i-preserved
loop-i-preserved c =
    let l = c.loop-i in
    let a = c.args in
    take_more a.numbers.now l.into a.from l.i (omega arith) (omega (arith, c.requires.into_in_bounds)) l.invariant

pub returns : goal.returns
returns c =
    let l = c.loop-i in
    let a = c.args in
    taken_all a.numbers.now l.into a.into.now a.from l.i (omega arith) (omega arith) l.invariant
