-- `acts::perform_in_range`: what neither the setup nor the act refuses is accepted.
-- Assumes nothing.
use mathlib.Core.Path.{sym, ◌∙◌}
use Rattle.record.specs.World.{world}
use Rattle.acts.proofs.OutcomeLaws.{accepted_by_both, by_acceptance}
use Rattle.acts.proofs.perform_in_range.Goals as goal

pub accepted_act-requires : goal.accepted_act-requires
accepted_act-requires c =
    let a = c.args in
    accepted_by_both a.part a.act a.arg (world a.d a.eeprom.now a.id.now) c.requires c.in_ok-act_refusal.ensures

pub returns : goal.returns
returns c =
    let a = c.args in
    let w = world a.d a.eeprom.now a.id.now in
    c.accepted_act.ensures ∙ sym (by_acceptance a.part a.act a.arg w (accepted_by_both a.part a.act a.arg w c.requires c.in_ok-act_refusal.ensures))
