-- Laws of the watchdog's periods: the bounds of all eight.
-- Assumes nothing.
use mathlib.Core.Path.{refl}
use Prim.Native.Nat.{ℕ, ◌%◌, ◌<◌}
use native.Mathlib.Omega.{arith}
use borrow.Author.Tests.{ltb-true}
use lib.Dec.{ltb}
use lib.ListN.{get_or}
use Rattle.base.specs.Words.{every}
use Rattle.base.proofs.Every.{every_at, bound_below}
use Rattle.record.specs.Registers.{periods, period_of}

-- every period is above 31 and below 2,097,153
pub period_least : (v : ℕ) → 31 < period_of v
unfolding every
period_least v = ltb-true 31 (period_of v) (every_at (λ (k : ℕ). ltb 31 (get_or periods k 0)) 8 refl (v % 8) (omega arith))

pub period_most : (v : ℕ) → period_of v < 2097153
unfolding every
period_most v = bound_below (λ (k : ℕ). get_or periods k 0) 2097153 8 refl (v % 8) (omega arith)
