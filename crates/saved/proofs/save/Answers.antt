-- `saved::save`: by the case that it is in; what is put is the text of the chip's numbers (`list_put`, `text_put`).
-- Assumes nothing.
use native.Mathlib.Omega.{arith}
use mathlib.Core.Path.{◌≡◌, refl, sym, ap, subst, ◌∙◌}
use mathlib.Core.List.{List}
use Prim.Native.Nat.{ℕ, ◌+◌, ◌≤◌}
use lib.ListN.{length, take}
use Rattle.record.specs.World.{world}
use Rattle.refusals.proofs.TypeLaws.{record_sized}
use Rattle.text.specs.Buffer.{buffer, append}
use Rattle.saved.proofs.AnswerLaws.{Held, few_held, list_put, text_put, save_denied, save_short, save_done, put_over}
use Rattle.saved.proofs.save.Goals as goal

fits : {n m k : ℕ} → n ≡ m → n ≤ k → 0 + m ≤ k
fits e h = omega (arith, e, h)

begun : {m k : ℕ} → 0 + m ≤ k → m ≤ k
begun h = omega (arith, h)

pub returns-in_err-setup_refusal : goal.returns-in_err-setup_refusal
returns-in_err-setup_refusal c =
    let a = c.args in
    save_denied a.part (world a.device a.eeprom.now a.id.now) a.into.now _ _ c.from_residual.ensures.1 c.in_err-setup_refusal.ensures

pub numbers_of-count-requires : goal.numbers_of-count-requires
numbers_of-count-requires c =
    let a = c.args in
    let h : Held a.part a.device a.eeprom.now a.id.now = record {
      passed = sym c.in_ok-setup_refusal.ensures;
      sized = record_sized a.device _ c.well_formed.1.0;
      eeprom_bytes = λ i. (c.type_inv.eeprom i).fits;
      id_bytes = λ i. (c.type_inv.id i).fits;
    } in
    few_held a.part a.device a.eeprom.now a.id.now h

pub put_rows-length-requires : goal.put_rows-length-requires
put_rows-length-requires c =
    let a = c.args in
    let h : Held a.part a.device a.eeprom.now a.id.now = record {
      passed = sym c.in_ok-setup_refusal.ensures;
      sized = record_sized a.device _ c.well_formed.1.0;
      eeprom_bytes = λ i. (c.type_inv.eeprom i).fits;
      id_bytes = λ i. (c.type_inv.id i).fits;
    } in
    let n = c.numbers_of-count in
    let l = list_put a.part a.device a.eeprom.now a.id.now h _ n.new.into c.first.result.now n.result refl n.ensures.stage_bound n.ensures.result_after c.first.ensures in
    record { chip = l.1; numbers_in_bounds = l.2 }

pub returns-then-into-length : goal.returns-then-into-length
returns-then-into-length c =
    let a = c.args in
    let h : Held a.part a.device a.eeprom.now a.id.now = record {
      passed = sym c.in_ok-setup_refusal.ensures;
      sized = record_sized a.device _ c.well_formed.1.0;
      eeprom_bytes = λ i. (c.type_inv.eeprom i).fits;
      id_bytes = λ i. (c.type_inv.id i).fits;
    } in
    let n = c.numbers_of-count in
    let l = list_put a.part a.device a.eeprom.now a.id.now h _ n.new.into c.first.result.now n.result refl n.ensures.stage_bound n.ensures.result_after c.first.ensures in
    let p = c.put_rows-length in
    let t = text_put a.part a.device a.eeprom.now a.id.now h _ p.new.into c.first.result.now (take p.result p.new.into) p.result refl l p.ensures refl in
    save_short a.part (world a.device a.eeprom.now a.id.now) a.into.now h.passed p.result t.0 c.if-into-length.true

pub put-requires : goal.put-requires
put-requires c =
    let a = c.args in
    let h : Held a.part a.device a.eeprom.now a.id.now = record {
      passed = sym c.in_ok-setup_refusal.ensures;
      sized = record_sized a.device _ c.well_formed.1.0;
      eeprom_bytes = λ i. (c.type_inv.eeprom i).fits;
      id_bytes = λ i. (c.type_inv.id i).fits;
    } in
    let n = c.numbers_of-count in
    let l = list_put a.part a.device a.eeprom.now a.id.now h _ n.new.into c.first.result.now n.result refl n.ensures.stage_bound n.ensures.result_after c.first.ensures in
    let p = c.put_rows-length in
    let t = text_put a.part a.device a.eeprom.now a.id.now h _ p.new.into c.first.result.now (take p.result p.new.into) p.result refl l p.ensures refl in
    subst (λ (x : List ℕ). 0 + length x ≤ length a.into.now) (sym (c.first-2.ensures ∙ t.1)) (fits t.0 c.if-into-length.false)

pub returns : goal.returns
returns c =
    let a = c.args in
    let h : Held a.part a.device a.eeprom.now a.id.now = record {
      passed = sym c.in_ok-setup_refusal.ensures;
      sized = record_sized a.device _ c.well_formed.1.0;
      eeprom_bytes = λ i. (c.type_inv.eeprom i).fits;
      id_bytes = λ i. (c.type_inv.id i).fits;
    } in
    let n = c.numbers_of-count in
    let l = list_put a.part a.device a.eeprom.now a.id.now h _ n.new.into c.first.result.now n.result refl n.ensures.stage_bound n.ensures.result_after c.first.ensures in
    let p = c.put_rows-length in
    let t = text_put a.part a.device a.eeprom.now a.id.now h _ p.new.into c.first.result.now (take p.result p.new.into) p.result refl l p.ensures refl in
    let room = a.into.now in
    let f = fits t.0 c.if-into-length.false in
    let o = put_over room _ _ _ f (c.put.ensures ∙ ap (append (buffer room 0)) (c.first-2.ensures ∙ t.1)) in
    (λ i. record { number = 0; line = 0; length = t.0 i; room = o i }) ∙ save_done a.part (world a.device a.eeprom.now a.id.now) room h.passed (begun f)
