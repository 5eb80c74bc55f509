-- `batch::perform_all`: before each turn, what is left of the acts gives the same answer as all of them from the start.
-- Assumes nothing.
use Prim.Native.Nat.{min}
use mathlib.Core.Path.{◌≡◌}
use lib.ListN.{length}
use Rattle.record.specs.World.{world}
use Rattle.refusals.specs.Refusal.{setup_refusal}
use Rattle.run.specs.Run.{inputs_in}
use Rattle.run.proofs.TurnLaws.{Left, inputs_from}
use Rattle.batch.proofs.perform_all.Given as goal

abbrev pub invariant-loop-i : goal.invariant-loop-i
invariant-loop-i l =
    let room = min (length l.initial.answers) (length l.initial.used) in
    Left l.part (inputs_in l.codes l.args l.initial.answers l.initial.used) (inputs_from l.i l.codes l.args room) l.initial.answers l.initial.used (world l.initial.chip l.initial.eeprom l.initial.id) l.i l.answers l.used (world l.chip l.eeprom l.id)
    × (setup_refusal l.part l.chip (length l.eeprom) (length l.id) ≡ 0)
