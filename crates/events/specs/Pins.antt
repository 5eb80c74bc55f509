-- What a level at EVHS (the drum's sensor) or EVLS (the door's switch), a write of 0Bh and a cut do to the event inputs. The watchdog's
-- count is not here: only whether an edge makes it 0.
-- `counted` says that OSCON is set.
-- Assumes nothing.
use Rattle.std.specs.Prelude.{ℕ, ◌+◌, Bool, not, ◌&&◌, ◌||◌, ltb, eqb}
use Rattle.base.specs.Words.{pick}
use Rattle.events.specs.declared.Events.{Events}
use Rattle.events.specs.declared.Inputs.{Inputs}
use Rattle.events.specs.Control.{evwdt, number_of, debounce_of, high_runs, low_runs, set_high}

-- V2. An edge is a change of level: a rise from low, a fall to low. The level that is there already makes none.
abbrev pub rising : ℕ → ℕ → Bool
rising old new = eqb old 0 && ltb 0 new

abbrev pub falling : ℕ → ℕ → Bool
falling old new = ltb 0 old && eqb new 0

-- setters
abbrev pub with_drum : ℕ → Inputs → Inputs
with_drum level s =
    record {
      events = record { door = s.events.door; drum = level; edges = s.events.edges; since = s.events.since; debounce = s.events.debounce };
      control = s.control;
    }

abbrev pub with_door : ℕ → ℕ → Inputs → Inputs
with_door level left s =
    record {
      events = record { door = level; drum = s.events.drum; edges = s.events.edges; since = s.events.since; debounce = left };
      control = s.control;
    }

abbrev pub with_window : ℕ → ℕ → ℕ → Inputs → Inputs
with_window edges since control s =
    record {
      events = record { door = s.events.door; drum = s.events.drum; edges = edges; since = since; debounce = s.events.debounce };
      control = control;
    }

-- V5. One edge more; the one that brings the number sets EVHIF, and both counts begin anew.
abbrev pub edge_counted : Inputs → Inputs
edge_counted s =
    pick (ltb (s.events.edges + 1) (number_of s.control))
    (with_window (s.events.edges + 1) s.events.since s.control s)
    (with_window 0 0 (set_high s.control) s)

-- V4. Edges of EVHS count while it runs and EVWDT is clear.
abbrev pub counts_edge : Bool → ℕ → Bool
counts_edge counted v = high_runs counted v && not (evwdt v)

-- V1, V4. EVHS is set to a level; a rise may count, a fall never does.
unfoldable pub drum_set : Bool → ℕ → Inputs → Inputs
drum_set counted level s =
    pick (rising s.events.drum level && counts_edge counted s.control) (edge_counted (with_drum level s)) (with_drum level s)

-- V7. With EVWDT set a rise and a fall of EVHS alike make the watchdog's count 0, whatever else is set.
unfoldable pub zeroes_watchdog : ℕ → Inputs → Bool
zeroes_watchdog level s = evwdt s.control && (rising s.events.drum level || falling s.events.drum level)

-- V1, V8. EVLS is set to a level: a fall ends the debounce, always; a rise starts it where EVLS runs, else it leaves it.
unfoldable pub door_set : Bool → ℕ → Inputs → Inputs
door_set counted level s =
    pick (falling s.events.door level) (with_door level 0 s)
    (pick (rising s.events.door level && low_runs counted s.control) (with_door level (debounce_of s.control) s)
    (with_door level s.events.debounce s))

-- V12, V13. The counts at 0, the levels as they are.
abbrev pub no_counts : Events → Events
no_counts e = record { door = e.door; drum = e.drum; edges = 0; since = 0; debounce = 0 }

-- V12, V13. What a byte written to 0Bh leaves, whatever it is; a cut with VBATEN clear leaves what a 0 does. A word for lists of moves: the record's write and
-- its cut use `no_counts`.
unfoldable pub control_written : ℕ → Inputs → Inputs
control_written v s = record { events = no_counts s.events; control = v }
