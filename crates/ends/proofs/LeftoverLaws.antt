-- An end with leftover bits closes the frame and may move the lock; all else is as it was.
-- Assumes nothing.
use Prim.Native.Nat.{ℕ, ◌<◌}
use native.Mathlib.Omega.{arith}
use mathlib.Core.Path.{◌≡◌}
use mathlib.Core.Bool.{false, and-false}
use borrow.Author.Tests.{ne_eqb}
use lib.Dec.{eqb}
use Rattle.record.specs.declared.Device.{Device}
use Rattle.record.specs.declared.Stage.TheVariants.{Idle}
use Rattle.record.specs.Setters.{with_stage, with_lock}
use Rattle.ends.specs.Write.{carried, cycle_after, wel_after}
use Rattle.ends.specs.End.{after_end}

pub rest_stays : (top k : ℕ) (d : Device) → 0 < k → after_end top k d ≡ with_lock (with_stage d Idle) (after_end top k d).guard.lock
unfolding after_end carried cycle_after wel_after
rest_stays top k d h = let f : eqb k 0 ≡ false = ne_eqb k 0 (λ e. omega (arith, h)) in simp (f, and-false)
