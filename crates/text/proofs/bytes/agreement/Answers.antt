-- `text::bytes::agreement`: the chain counts the first pairs of bytes that are the same.
-- Assumes nothing.
use Rattle.std.proofs.Common.{rules, tests, sym, ◌∙◌}
use Rattle.std.specs.List.{zip}
use Rattle.std.proofs.lemmas.Iterator.{YieldsList-from_slice, YieldsList-from_zip}
use Rattle.std.proofs.lemmas.Iterator.Consumers.{YieldsList-at, count_from_yields_List}
use Rattle.std.proofs.lemmas.Iterator.Search.{YieldsList-from_take_while}
use Rattle.std.proofs.lemmas.List.Folds.{length-prefix_len}
use Rattle.text.proofs.BytesLaws.{same_bytes, agreed_prefix}
use Rattle.text.proofs.bytes.agreement.Goals as goal

pub returns : goal.returns
returns c =
    let a = c.args in
    let z = c.zip in
    let t = c.take_while in
    count_from_yields_List t.result _ c.count.ensures.ran
    (YieldsList-from_take_while _ same_bytes
    (YieldsList-at t.ensures.source
    (YieldsList-from_zip (YieldsList-at z.ensures.first (YieldsList-from_slice a.word.now cc)) (YieldsList-from_slice a.s.now cc)))
    t.ensures.closure t.ensures.done (λ x b q k. search (rules, tests)))
    ∙ length-prefix_len same_bytes (zip a.word.now a.s.now)
    ∙ sym (agreed_prefix a.word.now a.s.now)
