-- `text::decimal::value_of`: the value of so few digits, and one more, has room.
-- Assumes nothing.
use native.Mathlib.Omega.{arith}
use Rattle.text.proofs.DecimalLaws.{read_small}
use Rattle.text.proofs.decimal.value_of.Goals as goal

pub overflow_mul-value : goal.overflow_mul-value
overflow_mul-value c =
    omega (arith, c.loop-b.invariant.0, read_small c.args.digits.now c.loop-b.b-index c.first-b-items.ensures c.loop-b-test.true)

pub overflow_add-value : goal.overflow_add-value
overflow_add-value c =
    omega (
      arith,
      c.loop-b.invariant.0,
      read_small c.args.digits.now c.loop-b.b-index c.first-b-items.ensures c.loop-b-test.true,
      c.digit_value.ensures,
      c.type_inv.b-items c.loop-b.b-index,
    )
