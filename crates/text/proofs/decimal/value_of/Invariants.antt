-- `text::decimal::value_of`: what is left of the digits that are read gives the same value.
-- Assumes nothing.
use mathlib.Core.Path.{◌≡◌}
use Prim.Native.Nat.{◌<◌}
use lib.ListN.{drop, take}
use Rattle.text.specs.Decimal.{read_limit, value_from, value_of}
use Rattle.text.proofs.DecimalLaws.{bound}
use Rattle.text.proofs.decimal.value_of.Given as goal

abbrev pub invariant-loop-b : goal.invariant-loop-b
invariant-loop-b l =
    (l.value < bound l.b-index) × (value_from l.value (drop l.b-index l.b-items) ≡ value_of (take read_limit l.digits))
