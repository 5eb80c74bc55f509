-- A record may be loaded with counts above 0. Here its counts are read as moves: a list that leads from inputs at 0 to the same counts, for
-- each input by itself. Such a list is one way to the counts, not what happened. Lists have the newest move first.
-- Assumes nothing.
use Rattle.std.specs.Prelude.{ℕ, zero, suc, ◌-◌, ◌<◌, ◌≡◌, true, false, List, [], ◌∷◌, ◌++◌, ltb, replicate}
use Rattle.base.specs.Words.{pick}
use Rattle.events.specs.declared.Inputs.{Inputs}
use Rattle.events.specs.Control.{evhif, evlif, even1, even0, evwdt, debounce_of}
use Rattle.events.specs.Rows.{EventsIn}
use Rattle.events.specs.Story.{Move, Drum, Door, Tick}

-- V15, V16. Inputs at 0 beside a byte of 0Bh: levels low, nothing counted.
abbrev pub begun : ℕ → Inputs
begun v = record { events = record { door = 0; drum = 0; edges = 0; since = 0; debounce = 0 }; control = v }

-- V15. So many counted rises of EVHS, each from low.
unfoldable pub risen : ℕ → List Move
risen zero = []
risen (suc k) = Drum true 1 ∷ Drum true 0 ∷ risen k

-- V15. What the counts of EVHS stand for: a counted rise for each edge, then the level that EVHS has, set with OSCON clear so that it counts for
-- nothing, then the ticks since the first edge.
unfoldable pub high_back : Inputs → List Move
high_back s = replicate s.events.since (Tick true) ++ (Drum false s.events.drum ∷ risen s.events.edges)

-- V16. What the debounce ticks that are left stand for: a counted rise of EVLS, then the ticks that are gone. With none left it is the level that
-- EVLS has, set with OSCON clear.
unfoldable pub low_back : Inputs → List Move
low_back s =
    pick (ltb 0 s.events.debounce)
    (replicate (debounce_of s.control - s.events.debounce) (Tick true) ++ (Door true s.events.door ∷ []))
    (Door false s.events.door ∷ [])

-- the half of EVHS alone, and that of EVLS: the other at 0
abbrev pub high_only : Inputs → Inputs
high_only s = record { events = record { door = 0; drum = s.events.drum; edges = s.events.edges; since = s.events.since; debounce = 0 }; control = s.control }

abbrev pub low_only : Inputs → Inputs
low_only s = record { events = record { door = s.events.door; drum = 0; edges = 0; since = 0; debounce = s.events.debounce }; control = s.control }

-- V15. Where the claim for EVHS may begin: any record in range whose 0Bh enables EVHS, with its edges events and its flag clear.
pub record HighOn (s : Inputs) : Type 0 where
  pub byte : s.control < 256
  pub inside : EventsIn s.control s.events
  pub enabled : even1 s.control ≡ true
  pub event : evwdt s.control ≡ false
  pub clear : evhif s.control ≡ false

-- V16. The same for EVLS.
pub record LowOn (s : Inputs) : Type 0 where
  pub byte : s.control < 256
  pub inside : EventsIn s.control s.events
  pub enabled : even0 s.control ≡ true
  pub clear : evlif s.control ≡ false
