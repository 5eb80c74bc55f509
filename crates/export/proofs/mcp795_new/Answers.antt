-- `export::mcp795_new`: by the case that it is in.
-- Assumes nothing.
use Rattle.std.proofs.Common.{refl, ap, ◌∙◌, ℕ, []}
use Rattle.refusals.proofs.NumberLaws.{refusal_not_zero}
use Rattle.arrays.specs.Arrays.{arrays}
use Rattle.calls.specs.Calls.{called}
use Rattle.calls.proofs.CallLaws.{new_refused, new_long, new_done}
use Rattle.export.proofs.mcp795_new.Goals as goal

pub returns-in-Err : goal.returns-in-Err
returns-in-Err c =
    let a = c.args in
    let its = arrays a.state.now a.eeprom.now a.id.now in
    ap (λ (k : ℕ). called k [] its) (c.from-in-Err.ensures ∙ c.from.ensures)
    ∙ new_refused a.part _ its c.in-Err.ensures (refusal_not_zero c.in-Err.refusal)

pub put_state-requires : goal.put_state-requires
put_state-requires c =
    let a = c.args in
    new_long a.part 0 (arrays a.state.now a.eeprom.now a.id.now) c.in_default.ensures refl

pub returns : goal.returns
returns c =
    let a = c.args in
    new_done a.part 0 (arrays a.state.now a.eeprom.now a.id.now) c.in_default.ensures refl _ _ _ _ c.put_state.ensures c.fresh_device.ensures c.erase.ensures c.erase-2.ensures
