-- The rows of number 6 for the event inputs as propositions, with the numbers of the paper; and what a record in range has. No test stands
-- here: that Range's tests decide exactly these rows is `events_row` in RangeLaws.
-- Assumes nothing.
use Rattle.std.specs.Prelude.{ℕ, ◌<◌, ◌≤◌, ◌≡◌, ◌⊎◌, false}
use Rattle.events.specs.declared.Events.{Events}
use Rattle.events.specs.Control.{even1, even0, number_of, debounce_of}

-- V14. What is out of range, row by row.
pub data EventRow (v : ℕ) (e : Events) : Type 0 where
  -- a level that is neither 0 nor 1
  door_level : 1 < e.door → EventRow v e
  drum_level : 1 < e.drum → EventRow v e
  -- edges that would have made an event
  edges : number_of v ≤ e.edges → EventRow v e
  -- ticks since the first edge: too many, or there is none
  since : 8192 < e.since → EventRow v e
  since_with_none : e.edges ≡ 0 → 0 < e.since → EventRow v e
  -- debounce ticks left: too many, or EVLS is low
  debounce : debounce_of v < e.debounce → EventRow v e
  debounce_with_low : e.door ≡ 0 → 0 < e.debounce → EventRow v e
  -- a count of an input that is not enabled
  high_disabled : even1 v ≡ false → (0 < e.edges) ⊎ (0 < e.since) → EventRow v e
  low_disabled : even0 v ≡ false → 0 < e.debounce → EventRow v e

-- V14. The facts of a record in range: no row holds.
pub record EventsIn (v : ℕ) (e : Events) : Type 0 where
  pub door : e.door ≤ 1
  pub drum : e.drum ≤ 1
  pub edges : e.edges < number_of v
  pub since : e.since ≤ 8192
  pub none : e.edges ≡ 0 → e.since ≡ 0
  pub debounce : e.debounce ≤ debounce_of v
  pub low : e.door ≡ 0 → e.debounce ≡ 0
  pub high_off_lem : even1 v ≡ false → e.edges ≡ 0
  pub low_off_lem : even0 v ≡ false → e.debounce ≡ 0
