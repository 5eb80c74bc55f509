-- Worked examples: the claims are about runs that there are.
-- Assumes nothing.
use Prim.Native.Nat.{ℕ}
use native.Mathlib.Omega.{arith}
use mathlib.Core.Path.{◌≡◌, refl}
use mathlib.Core.Bool.{true, false}
use mathlib.Core.List.{[], ◌∷◌}
use Rattle.events.specs.declared.Inputs.{Inputs}
use Rattle.events.specs.Control.{evhif, evlif, even1, even0, evwdt, number_of, debounce_of}
use Rattle.events.specs.Pins.{drum_set, door_set, control_written}
use Rattle.events.specs.Tick.{events_tick}
use Rattle.events.specs.Range.{window_out, debounce_out, events_out}
use Rattle.events.specs.Story.{Move, Drum, Door, Tick, Write, after}
use Rattle.events.specs.Beginning.{HighOn, LowOn}
use Rattle.events.proofs.RangeLaws.{events_in}

-- inputs with both levels low, the byte of 0Bh, edges and ticks since, and ticks left
abbrev inputs : ℕ → ℕ → ℕ → ℕ → Inputs
inputs v edges since left = record { events = record { door = 0; drum = 0; edges = edges; since = since; debounce = left }; control = v }

abbrev up : Move
up = Drum true 1

abbrev down : Move
down = Drum true 0

-- V3, V8. What 0Bh sets, by its numbers.
flags_at : (evhif 0x80 ≡ true) × (evlif 0x40 ≡ true) × (even1 0x20 ≡ true) × (even0 0x10 ≡ true) × (evwdt 0x08 ≡ true)
flags_at = (refl, refl, refl, refl, refl)

numbers_at_lem : (number_of 0 ≡ 1) × (number_of 1 ≡ 4) × (number_of 2 ≡ 16) × (number_of 3 ≡ 32)
numbers_at_lem = (refl, refl, refl, refl)

debounce_at : (debounce_of 0 ≡ 1024) × (debounce_of 4 ≡ 16384)
debounce_at = (refl, refl)

-- V5. EVEN1 and the number 4 (21h): the fourth rise sets EVHIF, the third does not
third : evhif (after (inputs 0 0 0 0) (up ∷ down ∷ up ∷ down ∷ up ∷ Write 0x21 ∷ [])).control ≡ false
unfolding after drum_set control_written
third = refl

fourth : evhif (after (inputs 0 0 0 0) (up ∷ down ∷ up ∷ down ∷ up ∷ down ∷ up ∷ Write 0x21 ∷ [])).control ≡ true
unfolding after drum_set control_written
fourth = refl

-- V6. After three edges: behind the 8,192nd tick the fourth still fills; behind the 8,193rd it is a first one again
inside : evhif (after (inputs 0x21 3 8191 0) (up ∷ Tick true ∷ [])).control ≡ true
unfolding after drum_set events_tick
inside = refl

past_it : (after (inputs 0x21 3 8191 0) (up ∷ Tick true ∷ Tick true ∷ [])).events.edges ≡ 1
unfolding after drum_set events_tick
past_it = refl

-- V8, V9. EVEN0 (10h): a rise starts 1,024 ticks, and the last of them sets EVLIF
rise_starts : (after (inputs 0x10 0 0 0) (Tick true ∷ Door true 1 ∷ [])).events.debounce ≡ 1023
unfolding after door_set events_tick
rise_starts = refl

last_tick : evlif (after (inputs 0x10 0 0 1) (Tick true ∷ [])).control ≡ true
unfolding after events_tick
last_tick = refl

-- V15, V16. There are records that the claims begin at with counts above 0: three edges and the window's last tick; a debounce in its middle.
abbrev middle : Inputs
middle = record { events = record { door = 1; drum = 0; edges = 3; since = 8192; debounce = 512 }; control = 0x31 }

high_on : HighOn middle
unfolding events_out window_out debounce_out
high_on = record { byte = omega arith; inside = events_in 0x31 middle.events refl; enabled = refl; event = refl; clear = refl }

low_on : LowOn middle
unfolding events_out window_out debounce_out
low_on = record { byte = omega arith; inside = events_in 0x31 middle.events refl; enabled = refl; clear = refl }
