-- `text::bytes::leading_of`: the chain counts the first bytes that pass the test.
-- Assumes nothing.
use Rattle.std.proofs.Common.{rules, tests, sym, ◌∙◌}
use Rattle.std.proofs.lemmas.Iterator.{YieldsList-from_slice}
use Rattle.std.proofs.lemmas.Iterator.Consumers.{YieldsList-at, count_from_yields_List}
use Rattle.std.proofs.lemmas.Iterator.Search.{YieldsList-from_take_while}
use Rattle.std.proofs.lemmas.List.Folds.{length-prefix_len}
use Rattle.text.specs.Bytes.{of_kind}
use Rattle.text.proofs.BytesLaws.{leading_prefix}
use Rattle.text.proofs.bytes.leading_of.Goals as goal

pub returns : goal.returns
returns c =
    let a = c.args in
    let t = c.take_while in
    count_from_yields_List t.result _ c.count.ensures.ran
    (YieldsList-from_take_while _ (of_kind a.kind) (YieldsList-at t.ensures.source (YieldsList-from_slice a.s.now cc)) t.ensures.closure t.ensures.done (λ x b q k. search (rules, tests)))
    ∙ length-prefix_len (of_kind a.kind) a.s.now
    ∙ sym (leading_prefix (of_kind a.kind) a.s.now)
