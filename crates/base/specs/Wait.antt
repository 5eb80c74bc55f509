-- A wait over any state: steps up to the first after which a test of the state before it and the state after it holds, or n. It is
-- no rule of any chip: a chip, its record alone, a bus and another chip bring their own step and test.
-- Assumes nothing.
use Rattle.std.specs.Prelude.{ℕ, zero, suc, ◌+◌, Bool}
use Rattle.base.specs.Words.{pick}

-- the steps that were used, and the state after them
pub record Waited (S : Type 0) : Type 0 where
  pub used : ℕ
  pub after : S

-- k steps more that were used before
abbrev pub plus : {S : Type 0} → ℕ → Waited S → Waited S
plus k r = record { used = k + r.used; after = r.after }

-- at most n steps; a step after which the test holds is the last
unfoldable pub waited_by : {S : Type 0} → (S → S) → (S → S → Bool) → ℕ → S → Waited S
waited_by step stops zero s = record { used = 0; after = s }
waited_by {S} step stops (suc n) s =
    let t : S = step s in
    let rest : Waited S = plus 1 (waited_by step stops n t) in
    pick (stops s t) (record { used = 1; after = t }) rest

-- n steps, with no stop
unfoldable pub steps : {S : Type 0} → (S → S) → ℕ → S → S
steps step zero s = s
steps step (suc n) s = steps step n (step s)

-- the test holds after step k, counted from 0
abbrev pub stops_at : {S : Type 0} → (S → S) → (S → S → Bool) → ℕ → S → Bool
stops_at step stops k s = stops (steps step k s) (steps step (k + 1) s)
