-- `batch::perform_all`: before each turn, what is left of the acts gives the same answer as all of them from the start.
-- Assumes nothing.
use Prim.Native.Nat.{ℕ, ◌≤◌, min}
use mathlib.Core.Path.{◌≡◌, ap, ◌∙◌}
use native.Mathlib.Omega.{arith}
use lib.ListN.{length, get_or}
use Rattle.record.specs.World.{world}
use Rattle.acts.specs.Act.{outcome_done, refused, performed}
use Rattle.acts.proofs.NamedLaws.{named, unnamed}
use Rattle.run.proofs.TurnLaws.{none_used, left_turn, left_none, inputs_none, inputs_end, suits_turn}
use Rattle.batch.proofs.perform_all.Goals as goal
use Rattle.batch.proofs.perform_all.Goals.{in-Ok-perform_in_range, in-Err}

pub returns-in_default : goal.returns-in_default
returns-in_default c =
    let l = c.loop-i in
    let n = rw c.from.ensures at (unnamed _ _ c.in_default.ensures) in
    left_none _ _ _ _ _ _ _ _ _ _ (inputs_none l.i _ _ _ (omega arith) (omega arith) (omega arith) n) l.invariant.0

pub loop-i-preserved : goal.loop-i-preserved
loop-i-preserved c =
    let l = c.loop-i in
    let p = c.perform_in_range in
    let act = c.in-Ok.act in
    let n = rw c.from.ensures at (named _ _ c.in-Ok.ensures) in
    elim c.match-perform_in_range.branch [
      | in-Ok-perform_in_range w ↦
          let a = outcome_done w.in-Ok-perform_in_range.a p.new.eeprom p.new.id in
          rw (w.answers-is, w.used-is, w.chip-is) (
            left_turn _ _ _ _ _ l.i _ _ _ _ _ (world l.chip l.eeprom l.id) _ a _ (omega arith) (omega arith) (omega arith) (omega arith) (omega arith) n.0
                n.1 w.in-Ok-perform_in_range.ensures w.ticks_of.ensures l.invariant.0,
            suits_turn _ _ _ (world l.chip l.eeprom l.id) a w.in-Ok-perform_in_range.ensures l.invariant.1,
          )
      | in-Err w ↦
          let r = refused w.from-in-Err.result (world l.chip p.new.eeprom p.new.id) in
          let e : r ≡ performed c.args.part act (get_or c.args.args.now l.i 0) (world l.chip l.eeprom l.id) =
          ap (λ (n : ℕ). refused n (world l.chip p.new.eeprom p.new.id)) w.from-in-Err.ensures ∙ w.in-Err.ensures in
          rw (w.answers-is, w.used-is, w.chip-is) (
            left_turn _ _ _ _ _ l.i _ _ _ _ _ (world l.chip l.eeprom l.id) _ r 0 (omega arith) (omega arith) (omega arith) (omega arith) (omega arith) n.0
                n.1 e (none_used act) l.invariant.0,
            suits_turn _ _ _ (world l.chip l.eeprom l.id) r e l.invariant.1,
          )
    ]

pub returns : goal.returns
returns c =
    let l = c.loop-i in
    let a = c.args in
    let room = min (length a.answers.now) (length a.used.now) in
    let e : l.i ≡ c.min-most.result = omega arith in
    let h : min (min (length a.codes.now) (length a.args.now)) room ≤ l.i = omega arith in
    rw (← e) (left_none _ _ _ _ _ _ _ _ _ _ (inputs_end l.i a.codes.now a.args.now room h) l.invariant.0)
