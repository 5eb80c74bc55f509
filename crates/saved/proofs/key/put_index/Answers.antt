-- `saved::key::put_index`: the number, or nothing.
-- Assumes nothing.
use native.Mathlib.Omega.{arith}
use mathlib.Core.Path.{sym, ap, ◌∙◌}
use mathlib.Core.List.{[]}
use Rattle.base.proofs.Tests.{yes, no}
use Rattle.text.specs.Buffer.{buffer, append}
use Rattle.text.specs.Decimal.{decimal_text}
use Rattle.text.proofs.DecimalLaws.{decimal_places}
use Rattle.text.proofs.BufferLaws.{append_none}
use Rattle.saved.proofs.key.put_index.Goals as goal

pub put_decimal-requires : goal.put_decimal-requires
put_decimal-requires c =
    let b = c.requires in
    omega (arith, b.at_in_bounds, b.i_bound, decimal_places 1 c.args.i b.i_bound)

pub returns-then-numbered : goal.returns-then-numbered
returns-then-numbered c =
    let a = c.args in
    c.put_decimal.ensures ∙ ap (append (buffer a.into.now a.at))
    (yes (decimal_text a.i) [] c.if-numbered.true)

pub returns : goal.returns
returns c =
    let a = c.args in
    sym (append_none (buffer a.into.now a.at)) ∙ ap (append (buffer a.into.now a.at)) (no (decimal_text a.i) [] c.if-numbered.false)
