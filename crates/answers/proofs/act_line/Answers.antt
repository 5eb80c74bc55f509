-- `answers::act_line`: before a part, and the act's outcome on the part's own bytes.
-- Assumes nothing.
use mathlib.Core.Path.{sym, ap, ◌∙◌}
use mathlib.Core.List.{◌++◌}
use Prim.Native.Nat.{ℕ}
use lib.ListN.{take, drop}
use borrow.Author.Tests.{eq-eqb, ne_eqb}
use Rattle.base.proofs.Tests.{yes, no}
use Rattle.record.specs.World.{world}
use Rattle.acts.specs.Act.{Outcome, outcome_done, refused, performed}
use Rattle.text.specs.Buffer.{buffer}
use Rattle.std.specs.Prelude.{Some, None}
use Rattle.refusals.proofs.NumberLaws.{refusal_not_zero}
use Rattle.answers.specs.Answer.{held_by, shown_in, line_in}
use Rattle.answers.proofs.AnswerLaws.{outcome_shown, refused_shown, ready_suits, act_done, part_bytes}
use Rattle.answers.proofs.act_line.Goals as goal

pub returns-then-p-eq0 : goal.returns-then-p-eq0
returns-then-p-eq0 c =
    let a = c.args in
    let h = held_by a.p a.eeprom.now a.id.now in
    let o = buffer a.into.now a.p.at in
    c.told.ensures a.eeprom.now a.id.now ∙ refused_shown h o 74 (Some 0) ∙ ap (shown_in h o) (yes _ _ (eq-eqb _ _ c.if-p-eq0.true))

pub perform_in_range-requires : goal.perform_in_range-requires
perform_in_range-requires c =
    ready_suits _ _ _ _ (ne_eqb _ _ c.if-p-eq0.false) c.args.p.goes (part_bytes _ _ c.args.eeprom.now c.told-eeprom c.size-size.ensures) c.told-id

pub invariant_of-next : goal.invariant_of-next
invariant_of-next c =
    let a = c.args in
    record {
      goes =
          act_done a.p.part a.act a.arg (world a.p.device (take c.size-size.result a.eeprom.now) a.id.now) _ (ne_eqb _ _ c.if-p-eq0.false) a.p.goes
          (ap (λ (o : Outcome). o.after.device) c.in-Ok.ensures);
    }

pub returns-in-Ok : goal.returns-in-Ok
returns-in-Ok c =
    let a = c.args in
    let f = c.perform_in_range in
    let s = c.size-size.ensures in
    let p = a.p.part in
    let x = f.new.eeprom in
    let id = f.new.id in
    let h = held_by a.p a.eeprom.now a.id.now in
    let o = buffer a.into.now a.p.at in
    let r = c.in-Ok.a in
    c.told-in-Ok.ensures (x ++ drop c.size-size.result a.eeprom.now) id
    ∙ ap (λ (n : ℕ). line_in (record { part = p; device = r.device; eeprom = x ++ drop n a.eeprom.now; id = id }) o 0 c.out_of-out.result) s
    ∙ outcome_shown h o a.act a.arg (outcome_done r x id) _ (ne_eqb _ _ c.if-p-eq0.false) c.told-id
    (f.auto.eeprom ∙ part_bytes _ _ a.eeprom.now c.told-eeprom s) f.auto.id c.out_of-out.ensures
    (c.in-Ok.ensures ∙ ap (λ (n : ℕ). performed p a.act a.arg (world a.p.device (take n a.eeprom.now) a.id.now)) s)

pub returns-in-Err : goal.returns-in-Err
returns-in-Err c =
    let a = c.args in
    let f = c.perform_in_range in
    let s = c.size-size.ensures in
    let p = a.p.part in
    let x = f.new.eeprom in
    let id = f.new.id in
    let h = held_by a.p a.eeprom.now a.id.now in
    let o = buffer a.into.now a.p.at in
    let n = c.from.result in
    c.told-in-Err.ensures (x ++ drop c.size-size.result a.eeprom.now) id
    ∙ ap (λ (m : ℕ). line_in (record { part = p; device = a.p.device; eeprom = x ++ drop m a.eeprom.now; id = id }) o n None) s
    ∙ outcome_shown h o a.act a.arg (refused n (world a.p.device x id)) None (ne_eqb _ _ c.if-p-eq0.false) c.told-id
    (f.auto.eeprom ∙ part_bytes _ _ a.eeprom.now c.told-eeprom s) f.auto.id
    (no _ None (ne_eqb n 0 (λ e. refusal_not_zero c.in-Err.refusal (sym c.from.ensures ∙ e))))
    (ap (λ (m : ℕ). refused m (world a.p.device x id)) c.from.ensures ∙ c.in-Err.ensures ∙ ap (λ (m : ℕ). performed p a.act a.arg (world a.p.device (take m a.eeprom.now) a.id.now)) s)
