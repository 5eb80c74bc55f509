-- The numbers of the code's refusals: none is 0, which answers what is done.
-- Assumes nothing.
use mathlib.Core.Path.{◌≡◌}
use mathlib.Core.Logic.{◌≢◌}
use native.Mathlib.Omega.{arith}
use Rattle.refusals.specs.declared.Refusal.{Refusal}
use Rattle.refusals.specs.declared.Refusal.TheVariants.{Selected, NotSelected, Argument, Length, Power, Range}
use Rattle.refusals.specs.Refusal.{refusal_number}

pub refusal_not_zero : (r : Refusal) → refusal_number r ≢ 0
refusal_not_zero Selected e = omega (arith, e)
refusal_not_zero NotSelected e = omega (arith, e)
refusal_not_zero Argument e = omega (arith, e)
refusal_not_zero Length e = omega (arith, e)
refusal_not_zero Power e = omega (arith, e)
refusal_not_zero Range e = omega (arith, e)
