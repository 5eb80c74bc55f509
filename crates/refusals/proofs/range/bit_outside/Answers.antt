-- `refusals::range::bit_outside`: the registers passed have no bit outside (`every_more`), so what is left decides (`every_none`, `every_false`); the bits
-- that a register may hold are a promise.
-- Assumes nothing.
use mathlib.Core.Path.{◌≡◌}
use Prim.Native.Nat.{ℕ, ◌<◌}
use native.Mathlib.Omega.{arith}
use borrow.Author.Tests.{eq-eqb, ne_eqb}
use Rattle.base.proofs.Every.{every_none, every_more, every_false}
use Rattle.refusals.specs.Range.{inside_mask, bit_outside}
use Rattle.refusals.proofs.range.bit_outside.Goals as goal

pub loop-i-init : goal.loop-i-init
loop-i-init c = every_none _

pub returns-then-r-kept : goal.returns-then-r-kept
unfolding bit_outside
returns-then-r-kept c =
    let i : ℕ = c.loop-i.i in
    let h : i < 32 = omega arith in
    simp (every_false (inside_mask c.args.regs) 32 i h (ne_eqb _ _ (rw c.kept_bits-kept.ensures at c.if-r-kept.true)))

pub loop-i-preserved : goal.loop-i-preserved
loop-i-preserved c = every_more _ _ c.loop-i.invariant (eq-eqb _ _ (rw c.kept_bits-kept.ensures at c.if-r-kept.false))

pub returns : goal.returns
unfolding bit_outside
returns c =
    let e : c.loop-i.i ≡ 32 = omega arith in
    simp (rw e at c.loop-i.invariant)
