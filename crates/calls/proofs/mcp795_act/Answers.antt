-- `calls::mcp795_act`: by the case that it is in.
-- Assumes nothing.
use Rattle.std.proofs.Common.{rules, ◌≡◌, refl, sym, ap, ◌∙◌, length, ℕ}
use Rattle.refusals.proofs.NumberLaws.{refusal_not_zero}
use Rattle.record.specs.World.{world}
use Rattle.acts.specs.Act.{outcome_done, refused}
use Rattle.acts.proofs.NamedLaws.{named, unnamed}
use Rattle.arrays.specs.Arrays.{arrays, no_chip}
use Rattle.calls.specs.Calls.{called}
use Rattle.calls.proofs.CallLaws.{state_long, setup_there, act_refused, act_none, act_told}
use Rattle.form.specs.State.{state_of}
use Rattle.calls.proofs.mcp795_act.Goals as goal

pub returns-in-Err : goal.returns-in-Err
returns-in-Err c =
    let a = c.args in
    let its = arrays a.state.now a.eeprom.now a.id.now in
    ap (λ (k : ℕ). called k (no_chip k) its) (c.from-refused.ensures ∙ c.from.ensures)
    ∙ act_refused its _ c.in-Err.ensures.refused a.act a.number (refusal_not_zero c.in-Err.refusal)

pub returns-in_default : goal.returns-in_default
returns-in_default c =
    let a = c.args in
    act_none (arrays a.state.now a.eeprom.now a.id.now) 0 c.in-Ok.ensures.refused a.act a.number refl _ _ (unnamed _ _ c.in_default.ensures) c.put_answer.ensures (ap (λ x. x.device) c.in-Ok.ensures.chip)

pub perform_in_range-requires : goal.perform_in_range-requires
perform_in_range-requires c =
    let a = c.args in
    setup_there a.state.now (length a.eeprom.now) (length a.id.now) 0 c.in-Ok.ensures.refused refl _ _ (c.from-2.ensures ∙ ap (λ x. x.part) c.in-Ok.ensures.chip) (ap (λ x. x.device) c.in-Ok.ensures.chip)

pub copy_from_slice-requires : goal.copy_from_slice-requires
copy_from_slice-requires c =
    let a = c.args in
    let l : length c.from-in-Ok-perform_in_range.result ≡ 142 = search rules in
    state_long a.state.now (length a.eeprom.now) (length a.id.now) 0 c.in-Ok.ensures.refused refl ∙ sym l

pub returns-in-Ok-perform_in_range : goal.returns-in-Ok-perform_in_range
returns-in-Ok-perform_in_range c =
    let a = c.args in
    let n = named _ _ c.in-Ok-try_from.ensures in
    let o = outcome_done c.in-Ok-perform_in_range.done c.perform_in_range.new.eeprom c.perform_in_range.new.id in
    act_told (arrays a.state.now a.eeprom.now a.id.now) 0 c.in-Ok.ensures.refused a.act a.number refl _ _ _ _ _ o (c.from-2.ensures ∙ ap (λ x. x.part) c.in-Ok.ensures.chip) n.0 n.1 (ap (λ x. x.device) c.in-Ok.ensures.chip) c.in-Ok-perform_in_range.ensures (c.copy_from_slice.ensures.after ∙ c.from-in-Ok-perform_in_range.ensures ∙ ap (λ (n : ℕ). state_of n o.after.device) (sym c.from-2.ensures)) c.put_answer-in-Ok-perform_in_range.ensures

pub returns-in-Err-perform_in_range : goal.returns-in-Err-perform_in_range
returns-in-Err-perform_in_range c =
    let a = c.args in
    let n = named _ _ c.in-Ok-try_from.ensures in
    let k = c.from-refused-in-Err-perform_in_range.result in
    let w = world c.in-Ok.chip.device c.perform_in_range.new.eeprom c.perform_in_range.new.id in
    ap (λ (n : ℕ). called n c.put_answer-in-Err-perform_in_range.new.into (arrays a.state.now w.eeprom w.id)) c.from-in-Err-perform_in_range.ensures
    ∙ act_told (arrays a.state.now a.eeprom.now a.id.now) 0 c.in-Ok.ensures.refused a.act a.number refl _ _ _ _ _ (refused k w) (c.from-2.ensures ∙ ap (λ x. x.part) c.in-Ok.ensures.chip) n.0 n.1 (ap (λ x. x.device) c.in-Ok.ensures.chip) (ap (λ (n : ℕ). refused n w) c.from-refused-in-Err-perform_in_range.ensures ∙ c.in-Err-perform_in_range.ensures) (sym c.in-Ok.ensures.again ∙ ap (λ (n : ℕ). state_of n c.in-Ok.chip.device) (sym c.from-2.ensures)) c.put_answer-in-Err-perform_in_range.ensures
