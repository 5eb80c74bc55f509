-- The number's tenth leaves room for its last digit.
-- Assumes nothing.
use Rattle.std.proofs.Common.{◌/◌, arith}
use Rattle.text.specs.Buffer.{buffer}
use Rattle.text.specs.Decimal.{decimal_text}
use Rattle.text.proofs.BufferLaws.{room_then, room_before}
use Rattle.text.proofs.DecimalLaws.{decimal_more}
use Rattle.text.proofs.decimal.+put_digits.Goals as goal

pub put_digits-end-requires : goal.put_digits-end-requires
put_digits-end-requires t c =
    let m = decimal_more c.args.n (omega arith) in
    (omega arith, room_before c.args.at (decimal_text (c.args.n / 10)) _ (rw m at c.requires))

pub put_one-requires-2 : goal.put_one-requires-2
put_one-requires-2 t c =
    let m = decimal_more c.args.n (omega arith) in
    room_then (buffer c.args.into.now c.args.at) (decimal_text (c.args.n / 10)) _ c.put_digits-end.ensures (rw m at c.requires)
