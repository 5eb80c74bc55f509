-- `saved::scan::past_word`: by how far the text agrees.
-- Assumes nothing.
use native.Mathlib.Omega.{arith}
use mathlib.Core.Path.{◌∙◌, ap}
use lib.ListN.{drop, length-drop}
use Rattle.text.specs.Bytes.{agreed}
use Rattle.saved.proofs.ScanLaws.{agreed_within, word_stops, word_goes}
use Rattle.saved.proofs.scan.past_word.Goals as goal

pub returns-then-n-word : goal.returns-then-n-word
returns-then-n-word c =
    let a = c.args in
    let e = c.agreement-n.ensures ∙ ap (agreed a.word.now) c.rest.ensures in
    word_stops a.word.now a.text.now a.p.at a.p.lines _ e c.if-n-word.true

pub overflow_add-result : goal.overflow_add-result
overflow_add-result c =
    let a = c.args in
    let e = c.agreement-n.ensures ∙ ap (agreed a.word.now) c.rest.ensures in
    record { fits = omega (arith, e, agreed_within a.word.now (drop a.p.at a.text.now), length-drop a.p.at a.text.now) }

pub returns : goal.returns
returns c =
    let a = c.args in
    let e = c.agreement-n.ensures ∙ ap (agreed a.word.now) c.rest.ensures in
    word_goes a.word.now a.text.now a.p.at a.p.lines _ e c.if-n-word.false
