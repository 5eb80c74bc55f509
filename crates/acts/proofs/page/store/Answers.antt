-- `acts::page::store`: after k turns the offsets below k are done.
-- Assumes nothing.
use mathlib.Core.Path.{sym}
use Rattle.base.proofs.StoreLaws.{store_none}
use Rattle.acts.proofs.PageLaws.{stored, skipped}
use Rattle.acts.proofs.page.store.Goals as goal
use Rattle.acts.proofs.page.store.Goals.{then-set-k-eq1, else-set-k-eq1}

pub loop-k-init : goal.loop-k-init
loop-k-init c = sym (store_none _ _ _ _)

pub loop-k-preserved : goal.loop-k-preserved
loop-k-preserved c =
    elim c.if-set-k-eq1.branch [
      | then-set-k-eq1 w ↦ stored _ _ _ _ _ _ c.loop-k.invariant w.if-set-k-eq1.true w.page-is
      | else-set-k-eq1 w ↦ skipped _ _ _ _ _ _ c.loop-k.invariant w.if-set-k-eq1.false w.page-is
    ]
