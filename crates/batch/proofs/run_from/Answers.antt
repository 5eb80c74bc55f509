-- `batch::run_from`: refused, nothing changed; else the acts are performed from the record and the memories as they are, and demand 3 follows.
-- Assumes nothing.
use mathlib.Core.Path.{sym}
use Rattle.std.proofs.Common.{rules}
use Rattle.refusals.proofs.TypeLaws.{record_sized}
use Rattle.record.specs.World.{Bytes}
use Rattle.run.proofs.TurnLaws.{from_done}
use Rattle.batch.proofs.run_from.Goals as goal

pub returns : goal.returns
returns c =
    let b : Bytes c.args.eeprom.now = search rules in
    let d : Bytes c.args.id.now = search rules in
    from_done _ _ _ _ _ _ _ _ _ _ _ _ _ (sym c.in_ok-setup_refusal.ensures) (record_sized _ _ c.well_formed.1.0) b d
    c.perform_all.ensures
