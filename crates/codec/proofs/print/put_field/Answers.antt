-- `codec::print::put_field`: the word, and then z or a decimal.
-- Assumes nothing.
use native.Mathlib.Omega.{arith}
use mir.Syntax.{w64}
use mir.Val.{Fits}
use borrow.Author.Rules.{rules}
use Rattle.std.specs.Prelude.{Some, None}
use Rattle.text.specs.Buffer.{buffer}
use Rattle.text.proofs.BufferLaws.{put_place}
use Rattle.text.proofs.DecimalLaws.{decimal_places}
use Rattle.lines.proofs.PrintLaws.{field_put}
use Rattle.codec.proofs.print.put_field.Goals as goal

pub put_one-requires : goal.put_one-requires
put_one-requires c = omega (arith, put_place (buffer c.args.into.now c.args.at) c.args.word.now c.put-a.ensures)

pub returns-in-None : goal.returns-in-None
returns-in-None c =
    let a = c.args in
    field_put (buffer a.into.now a.at) a.word.now a.out None c.in-None.is (omega arith)
    c.put-a.ensures c.put_one.ensures

pub put_decimal-requires : goal.put_decimal-requires
put_decimal-requires c =
    let n = c.in-Some.n in
    let f : Fits w64 n = search rules in
    omega (arith, put_place (buffer c.args.into.now c.args.at) c.args.word.now c.put-a.ensures, decimal_places 19 n (omega arith))

pub returns-in-Some : goal.returns-in-Some
returns-in-Some c =
    let a = c.args in
    let n = c.in-Some.n in
    let f : Fits w64 n = search rules in
    field_put (buffer a.into.now a.at) a.word.now a.out (Some n) c.in-Some.is (decimal_places 19 n (omega arith))
    c.put-a.ensures c.put_decimal.ensures
