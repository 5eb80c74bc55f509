-- `acts::page::store`: after k turns the offsets below k are done.
-- Assumes nothing.
use mathlib.Core.Path.{◌≡◌}
use Rattle.base.specs.Words.{store_under}
use Rattle.acts.proofs.page.store.Given as goal

abbrev pub invariant-loop-k : goal.invariant-loop-k
invariant-loop-k l = l.page ≡ store_under l.initial.page 0 l.set l.fn.bytes l.k
