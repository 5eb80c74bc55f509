-- `export::mcp795_load`: by the case that it is in.
-- Assumes nothing.
use mathlib.Core.Logic.{◌≢◌}
use mathlib.Core.Path.{refl, ap, ◌∙◌}
use native.Mathlib.Omega.{arith}
use mathlib.Core.List.{[], ◌∷◌}
use Prim.Native.Nat.{ℕ}
use Rattle.calls.specs.Calls.{called}
use Rattle.record.specs.Fresh.{fresh}
use Rattle.record.specs.World.{world}
use Rattle.form.specs.Save.{loading}
use Rattle.arrays.specs.Arrays.{arrays}
use Rattle.calls.proofs.CallLaws.{load_short, load_refused, load_done}
use Rattle.saved.specs.Answer.{load_number, load_line}
use Rattle.saved.specs.declared.LoadError.{LoadError}
use Rattle.saved.specs.declared.LoadError.TheVariants.{BadLine, WrongLength}
use Rattle.export.proofs.mcp795_load.Goals as goal

not_done : (e : LoadError) → load_number e ≢ 0
not_done (BadLine n) e = omega (arith, e)
not_done WrongLength e = omega (arith, e)

pub returns-then-state-ne-STATE : goal.returns-then-state-ne-STATE
returns-then-state-ne-STATE c =
    let a = c.args in
    let its = arrays a.state.now a.eeprom.now a.id.now in
    ap (λ (k : ℕ). called k (0 ∷ []) its) (c.from-then-state-ne-STATE.ensures ∙ c.from.ensures) ∙ load_short a.text.now its c.if-state-ne-STATE.true

pub returns-in-Ok : goal.returns-in-Ok
returns-in-Ok c =
    let a = c.args in
    let l = c.in-Ok.loaded in
    load_done a.text.now (arrays a.state.now a.eeprom.now a.id.now) c.if-state-ne-STATE.false (loading 0 0 l.part (world l.device c.load.new.eeprom c.load.new.id)) (c.in-Ok.ensures 0 fresh) _ refl c.put_state.ensures

pub returns-in-Err : goal.returns-in-Err
returns-in-Err c =
    let a = c.args in
    let e = c.in-Err.error in
    (λ i. called ((c.from-in-Err-2.ensures ∙ c.from-in-Err.ensures) i) (c.bad_line.ensures i ∷ []) (arrays a.state.now c.load.new.eeprom c.load.new.id))
    ∙ load_refused a.text.now (arrays a.state.now a.eeprom.now a.id.now) c.if-state-ne-STATE.false (loading (load_number e) (load_line e) 0 (world fresh c.load.new.eeprom c.load.new.id)) (c.in-Err.ensures 0 fresh) (not_done e)
