-- `numbers::chip::put_bytes`: so far the numbers passed have been put.
-- Assumes nothing.
use native.Mathlib.Omega.{arith}
use mathlib.Core.Path.{◌≡◌, sym, ap, ◌∙◌}
use Prim.Native.Nat.{ℕ, ◌+◌}
use lib.ListN.{length, set}
use Rattle.text.specs.Buffer.{buffer}
use Rattle.text.proofs.BufferLaws.{sets_more, append_all}
use Rattle.numbers.proofs.chip.put_bytes.Goals as goal

pub loop-i-preserved : goal.loop-i-preserved
loop-i-preserved c =
    let l = c.loop-i in
    let a = c.args in
    (λ q. set (l.invariant q) (a.at + l.i) (c.from.ensures q)) ∙ sets_more a.into.now a.at a.from.now l.i c.loop-i-test.true

pub returns : goal.returns
returns c =
    let l = c.loop-i in
    let a = c.args in
    let e : l.i ≡ length a.from.now = omega arith in
    ap (λ (n : ℕ). buffer l.into (a.at + n)) (sym e) ∙ append_all a.into.now l.into a.at a.from.now l.i e l.invariant
