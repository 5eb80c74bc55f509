-- `export::mcp795_save`: by the case that it is in.
-- Assumes nothing.
use Rattle.std.proofs.Common.{refl, ap, ◌∙◌, ℕ, ◌∷◌, []}
use Rattle.refusals.proofs.NumberLaws.{refusal_not_zero}
use Rattle.std.specs.Prelude.{Ok, Err}
use Rattle.arrays.specs.Arrays.{arrays}
use Rattle.calls.specs.Calls.{wrote}
use Rattle.saved.specs.Answer.{saving_of}
use Rattle.calls.proofs.CallLaws.{save_refused, save_done}
use Rattle.export.proofs.mcp795_save.Goals as goal

pub returns-in-Err : goal.returns-in-Err
returns-in-Err c =
    let a = c.args in
    ap (λ (k : ℕ). wrote k (0 ∷ []) a.text.now) (c.from-in-Err.ensures ∙ c.from.ensures)
    ∙ save_refused (arrays a.state.now a.eeprom.now a.id.now) _ c.in-Err.ensures.refused a.text.now (refusal_not_zero c.in-Err.refusal)

pub returns-in-Ok-save : goal.returns-in-Ok-save
returns-in-Ok-save c =
    let a = c.args in
    save_done (arrays a.state.now a.eeprom.now a.id.now) 0 c.in-Ok.ensures.refused a.text.now refl (saving_of (Ok c.in-Ok-save.written) c.save.new.into) _ _ (c.from-2.ensures ∙ ap (λ x. x.part) c.in-Ok.ensures.chip) (ap (λ x. x.device) c.in-Ok.ensures.chip) c.in-Ok-save.ensures

pub returns-in-Err-save : goal.returns-in-Err-save
returns-in-Err-save c =
    let a = c.args in
    ap (λ (n : ℕ). wrote n (0 ∷ []) c.save.new.into) (c.from-in-Err-save-2.ensures ∙ c.from-in-Err-save.ensures)
    ∙ save_done (arrays a.state.now a.eeprom.now a.id.now) 0 c.in-Ok.ensures.refused a.text.now refl (saving_of (Err c.in-Err-save.error) c.save.new.into) _ _ (c.from-2.ensures ∙ ap (λ x. x.part) c.in-Ok.ensures.chip) (ap (λ x. x.device) c.in-Ok.ensures.chip) c.in-Err-save.ensures
