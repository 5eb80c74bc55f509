-- The event inputs' part of a tick. Where in a tick it stands is the chip's matter (V10). `counted` says that OSCON was set before it.
-- Assumes nothing.
use Rattle.std.specs.Prelude.{ℕ, ◌+◌, ◌-◌, Bool, ◌&&◌, ltb, eqb}
use Rattle.base.specs.Words.{pick}
use Rattle.events.specs.declared.Inputs.{Inputs}
use Rattle.events.specs.Control.{high_runs, low_runs, set_low, window_ticks}
use Rattle.events.specs.Pins.{with_window}

-- V6. The ticks since the first edge run while there is one and EVHS runs.
abbrev pub window_runs : Bool → Inputs → Bool
window_runs counted s = high_runs counted s.control && ltb 0 s.events.edges

-- V6. A tick inside the window is added; the one after the last takes both counts to 0.
abbrev pub window_tick : Bool → Inputs → Inputs
window_tick counted s =
    pick (window_runs counted s)
    (pick (ltb s.events.since window_ticks) (with_window s.events.edges (s.events.since + 1) s.control s) (with_window 0 0 s.control s))
    s

abbrev pub with_debounce : ℕ → ℕ → Inputs → Inputs
with_debounce left control s =
    record {
      events = record { door = s.events.door; drum = s.events.drum; edges = s.events.edges; since = s.events.since; debounce = left };
      control = control;
    }

-- V9. The debounce runs while ticks are left and EVLS runs.
abbrev pub debounce_runs : Bool → Inputs → Bool
debounce_runs counted s = low_runs counted s.control && ltb 0 s.events.debounce

-- V9. A tick less; the last sets EVLIF.
abbrev pub debounce_tick : Bool → Inputs → Inputs
debounce_tick counted s =
    pick (debounce_runs counted s)
    (pick (eqb s.events.debounce 1) (with_debounce 0 (set_low s.control) s) (with_debounce (s.events.debounce - 1) s.control s))
    s

-- V10. The window, then the debounce; with OSCON clear both stand.
unfoldable pub events_tick : Bool → Inputs → Inputs
events_tick counted s = debounce_tick counted (window_tick counted s)
