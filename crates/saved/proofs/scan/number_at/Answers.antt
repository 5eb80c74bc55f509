-- `saved::scan::number_at`: by the digits that lead.
-- Assumes nothing.
use native.Mathlib.Omega.{arith}
use mathlib.Core.Path.{◌∙◌, ap}
use lib.ListN.{drop, take, length-drop}
use Rattle.text.specs.Bytes.{leading, digit}
use Rattle.text.proofs.BytesLaws.{leading_within}
use Rattle.saved.proofs.ScanLaws.{number_stops, number_goes}
use Rattle.saved.proofs.scan.number_at.Goals as goal

pub returns-then-n-needless : goal.returns-then-n-needless
returns-then-n-needless c =
    let a = c.args in
    let n = c.leading_of-n.result in
    let e = c.leading_of-n.ensures ∙ ap (leading digit) c.rest-tail.ensures in
    let d = c.first-digits.ensures ∙ ap (take n) c.rest-tail.ensures in
    number_stops a.text.now a.p.at a.p.lines n _ _ e d c.needless_zero-needless.ensures c.if-n-needless.true

pub overflow_add-place : goal.overflow_add-place
overflow_add-place c =
    let a = c.args in
    let n = c.leading_of-n.result in
    let e = c.leading_of-n.ensures ∙ ap (leading digit)
    c.rest-tail.ensures in
    let d = c.first-digits.ensures ∙ ap (take n)
    c.rest-tail.ensures in
    record { fits = omega (arith, e, leading_within digit (drop a.p.at a.text.now), length-drop a.p.at a.text.now) }

pub returns : goal.returns
returns c =
    let a = c.args in
    let n = c.leading_of-n.result in
    let e = c.leading_of-n.ensures ∙ ap (leading digit)
    c.rest-tail.ensures in
    let d = c.first-digits.ensures ∙ ap (take n)
    c.rest-tail.ensures in
    number_goes a.text.now a.p.at a.p.lines n _ _ e d c.needless_zero-needless.ensures _
    c.if-n-needless.false c.value_of-value.ensures
