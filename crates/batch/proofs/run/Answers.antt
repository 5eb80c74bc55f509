-- `batch::run`: refused, nothing changed; else the acts are performed from fresh, and demand 3 follows.
-- Assumes nothing.
use mathlib.Core.Path.{sym, ◌∙◌}
use Rattle.run.specs.Run.{refuses_run}
use Rattle.run.proofs.TurnLaws.{run_done, suits_start}
use Rattle.batch.proofs.run.Goals as goal

pub perform_all-requires : goal.perform_all-requires
perform_all-requires c =
    suits_start _ _ _ _
    ((λ j. refuses_run c.args.part (c.erase.auto.m j) (c.erase-2.auto.m j)) ∙ sym c.in_ok-memory_refusal.ensures)
    c.fresh_device-fresh.ensures

pub returns : goal.returns
returns c =
    run_done _ _ _ _ _ _ _ _ _ _ _ _ _ _ _ (sym c.in_ok-memory_refusal.ensures) c.fresh_device-fresh.ensures c.erase.ensures c.erase-2.ensures c.perform_all.ensures
