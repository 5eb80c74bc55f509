-- Number 6 for the event inputs: each row a test over the byte of 0Bh and the record's fields. The rows as a reader has them are in Rows.
-- Assumes nothing.
use Rattle.std.specs.Prelude.{ℕ, Bool, not, ◌&&◌, ◌||◌, List, [], ◌∷◌, ltb, leb, eqb}
use Rattle.base.specs.Words.{any_of}
use Rattle.events.specs.declared.Events.{Events}
use Rattle.events.specs.Control.{even1, even0, number_of, debounce_of, window_ticks}

-- V14. A level above 1.
abbrev pub level_above : Events → Bool
level_above e = ltb 1 e.door || ltb 1 e.drum

-- V14. As many edges as the number set, or more.
abbrev pub edges_past : ℕ → Events → Bool
edges_past v e = leb (number_of v) e.edges

-- V14. Ticks since the first edge: past the window's last, or with no edge at all.
abbrev pub since_above : Events → Bool
since_above e = ltb window_ticks e.since

abbrev pub since_none : Events → Bool
since_none e = eqb e.edges 0 && ltb 0 e.since

-- V14. Debounce ticks: more than 0Bh sets, or with EVLS low.
abbrev pub debounce_above : ℕ → Events → Bool
debounce_above v e = ltb (debounce_of v) e.debounce

abbrev pub debounce_low : Events → Bool
debounce_low e = eqb e.door 0 && ltb 0 e.debounce

-- V14. A count above 0 of an input that 0Bh does not enable.
abbrev pub high_disabled : ℕ → Events → Bool
high_disabled v e = not (even1 v) && (ltb 0 e.edges || ltb 0 e.since)

abbrev pub low_disabled : ℕ → Events → Bool
low_disabled v e = not (even0 v) && ltb 0 e.debounce

-- V14. The rows of EVHS, those of EVLS (with both levels), and all.
abbrev pub window_tests : ℕ → Events → List Bool
window_tests v e = edges_past v e ∷ since_above e ∷ since_none e ∷ high_disabled v e ∷ []

abbrev pub debounce_tests : ℕ → Events → List Bool
debounce_tests v e = level_above e ∷ debounce_above v e ∷ debounce_low e ∷ low_disabled v e ∷ []

unfoldable pub window_out : ℕ → Events → Bool
window_out v e = any_of (window_tests v e)

unfoldable pub debounce_out : ℕ → Events → Bool
debounce_out v e = any_of (debounce_tests v e)

unfoldable pub events_out : ℕ → Events → Bool
events_out v e = window_out v e || debounce_out v e
