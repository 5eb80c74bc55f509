-- `answers::part_line`: a part again, none of the four, and a fresh chip.
-- Assumes nothing.
use mathlib.Core.Path.{◌≡◌, sym, ap, subst, ◌∙◌}
use mathlib.Core.Bool.{true}
use mathlib.Core.List.{◌++◌}
use Prim.Native.Nat.{ℕ}
use lib.ListN.{replicate, drop}
use borrow.Author.Tests.{eq-eqb, ne_eqb}
use Rattle.base.proofs.Tests.{yes, no}
use Rattle.record.specs.declared.Device.{Device}
use Rattle.refusals.proofs.RangeLaws.{fresh_facts}
use Rattle.text.specs.Buffer.{buffer}
use Rattle.std.specs.Prelude.{Some, None}
use Rattle.answers.specs.Ready.{ready}
use Rattle.answers.specs.Answer.{held_by, shown_in}
use Rattle.answers.proofs.AnswerLaws.{fresh_shown, refused_shown, ready_in_range, part_bytes}
use Rattle.answers.proofs.part_line.Goals as goal

pub returns-then-p-ne0 : goal.returns-then-p-ne0
returns-then-p-ne0 c =
    let a = c.args in
    let h = held_by a.p a.eeprom.now a.id.now in
    let o = buffer a.into.now a.p.at in
    c.told.ensures a.eeprom.now a.id.now ∙ refused_shown h o 74 (Some 0) ∙ ap (shown_in h o) (no _ _ (ne_eqb _ _ c.if-p-ne0.true))

pub returns-then-not-is_part : goal.returns-then-not-is_part
returns-then-not-is_part c =
    let a = c.args in
    let h = held_by a.p a.eeprom.now a.id.now in
    let o = buffer a.into.now a.p.at in
    c.told-then-not-is_part.ensures a.eeprom.now a.id.now ∙ refused_shown h o 3 None
    ∙ ap (shown_in h o) (no _ _ (sym c.if-not-is_part.ensures) ∙ yes _ _ (eq-eqb _ _ c.if-p-ne0.false))

pub invariant_of-fresh : goal.invariant_of-fresh
invariant_of-fresh c =
    let a = c.args in
    record {
      goes = subst (λ (d : Device). ready a.arg d ≡ true) (sym c.fresh_device.ensures)
          (ready_in_range a.arg _ (sym c.if-not-is_part.ensures) (fresh_facts a.arg));
    }

pub returns : goal.returns
returns c =
    let a = c.args in
    let s = c.size-size.ensures in
    let x = c.erase.new.m in
    let id = c.erase-2.new.m in
    let h = held_by a.p a.eeprom.now a.id.now in
    let o = buffer a.into.now a.p.at in
    c.told-2.ensures (x ++ drop c.size-size.result a.eeprom.now) id
    ∙ fresh_shown h o a.arg _ x _ _ c.told-id c.fresh_device.ensures
    (c.erase.ensures ∙ ap (λ (k : ℕ). replicate k 255) (part_bytes _ _ a.eeprom.now c.told-eeprom s))
    (ap (λ (k : ℕ). x ++ drop k a.eeprom.now) s) c.erase-2.ensures
    ∙ ap (shown_in h o) (yes _ _ (sym c.if-not-is_part.ensures) ∙ yes _ _ (eq-eqb _ _ c.if-p-ne0.false))
