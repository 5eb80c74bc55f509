-- `saved::load`: by the case that it is in; what was read is the form's answer (`text_reads`), and what the list has is said at once (`list_read`).
-- Assumes nothing.
use mathlib.Core.Path.{refl, sym, ap, ◌∙◌}
use Prim.Native.Nat.{ℕ}
use Rattle.record.specs.World.{world}
use Rattle.form.specs.Chip.{device_from}
use Rattle.saved.specs.Place.{filled}
use Rattle.saved.proofs.AnswerLaws.{load_bad, load_stopped, list_read}
use Rattle.saved.proofs.load.Goals as goal

pub read_rows-requires : goal.read_rows-requires
unfolding filled
read_rows-requires c = refl

pub returns-in-Err : goal.returns-in-Err
returns-in-Err c =
    let a = c.args in
    let e = c.in-Err in
    λ part d. load_stopped a.text.now part (world d a.eeprom.now a.id.now) _ _ e.ensures.bad.0

pub returns-then-place-text : goal.returns-then-place-text
returns-then-place-text c =
    let a = c.args in
    let r = c.in-Ok in
    let p = r.read.place in
    λ part d. load_bad a.text.now part (world d a.eeprom.now a.id.now) c.read_rows.new.numbers p.at p.lines r.read.count r.ensures.read c.if-place-text.true

pub bounds-list-0 : goal.bounds-list-0
bounds-list-0 c =
    let a = c.args in
    let r = c.in-Ok in
    let p = r.read.place in
    let k = list_read a.text.now c.read_rows.new.numbers p.at p.lines r.read.count r.ensures.read c.if-place-text.false _ a.eeprom.now a.id.now c.first-list.ensures in
    k.some

pub returns-then-wrong_length : goal.returns-then-wrong_length
returns-then-wrong_length c =
    let a = c.args in
    let r = c.in-Ok in
    let p = r.read.place in
    let k = list_read a.text.now c.read_rows.new.numbers p.at p.lines r.read.count r.ensures.read c.if-place-text.false _ a.eeprom.now a.id.now c.first-list.ensures in
    k.misfit (sym c.wrong_length.ensures ∙ c.if-wrong_length.true)

pub take_bytes-requires : goal.take_bytes-requires
take_bytes-requires c =
    let a = c.args in
    let r = c.in-Ok in
    let p = r.read.place in
    let k = list_read a.text.now c.read_rows.new.numbers p.at p.lines r.read.count r.ensures.read c.if-place-text.false _ a.eeprom.now a.id.now c.first-list.ensures in
    let e = k.eeprom (sym c.wrong_length.ensures ∙ c.if-wrong_length.false) in
    record { into_in_bounds = e.0; bytes_from = e.1 }

pub take_bytes-requires-2 : goal.take_bytes-requires-2
take_bytes-requires-2 c =
    let a = c.args in
    let r = c.in-Ok in
    let p = r.read.place in
    let k = list_read a.text.now c.read_rows.new.numbers p.at p.lines r.read.count r.ensures.read c.if-place-text.false _ a.eeprom.now a.id.now c.first-list.ensures in
    let e = k.ids (sym c.wrong_length.ensures ∙ c.if-wrong_length.false) _ c.take_bytes.auto.into in
    record { into_in_bounds = e.0; bytes_from = e.1 }

pub device_of-device-requires : goal.device_of-device-requires
device_of-device-requires c =
    let a = c.args in
    let r = c.in-Ok in
    let p = r.read.place in
    let k = list_read a.text.now c.read_rows.new.numbers p.at p.lines r.read.count r.ensures.read c.if-place-text.false _ a.eeprom.now a.id.now c.first-list.ensures in
    let e = k.events _ c.events_from-from.ensures.value in
    record { record_facts = k.facts; event_facts = e.0; from_in_bounds = e.1 }

pub returns : goal.returns
returns c =
    let a = c.args in
    let r = c.in-Ok in
    let p = r.read.place in
    let k = list_read a.text.now c.read_rows.new.numbers p.at p.lines r.read.count r.ensures.read c.if-place-text.false _ a.eeprom.now a.id.now c.first-list.ensures in
    let v = c.events_from-from.ensures.value in
    k.done (sym c.wrong_length.ensures ∙ c.if-wrong_length.false) _ _ _ _ c.take_bytes.auto.into c.take_bytes.ensures c.take_bytes-2.ensures
    (c.device_of-device.ensures ∙ ap (λ (n : ℕ). device_from n c.first-list.result.now) v)
