-- `month_length` answers `month_length`: a leap February by its test, a byte past the field by its bound, every other by the table, which the checker
-- compares with the rule entry by entry. The list of `_` is the code's table, whatever it holds.
-- Assumes nothing.
use mathlib.Core.Path.{refl}
use mathlib.Core.List.{[], ◌∷◌}
use native.Mathlib.Omega.{arith}
use Rattle.base.specs.Words.{every}
use Rattle.calendar.specs.Field.{valid_field}
use Rattle.calendar.specs.Date.{month_length}
use Rattle.calendar.proofs.LengthLaws.{leap_february, in_table, past_months}
use Rattle.calendar.proofs.month_length.Goals as goal

pub returns-then-leap-month : goal.returns-then-leap-month
returns-then-leap-month c = leap_february _ _ c.if-leap-month.true

pub returns-then-month-lt32 : goal.returns-then-month-lt32
unfolding every valid_field month_length
returns-then-month-lt32 c =
    let a = c.args in
    in_table
    (_ ∷ _ ∷ _ ∷ _ ∷ _ ∷ _ ∷ _ ∷ _ ∷ _ ∷ _ ∷ _ ∷ _ ∷ _ ∷ _ ∷ _ ∷ _ ∷
    _ ∷ _ ∷ _ ∷ _ ∷ _ ∷ _ ∷ _ ∷ _ ∷ _ ∷ _ ∷ _ ∷ _ ∷ _ ∷ _ ∷ _ ∷ _ ∷ [])
    a.month a.leap c.if-leap-month.false (omega arith) refl

pub returns : goal.returns
returns c = past_months _ _ (omega arith)
