-- What is claimed of the event inputs, in one place: a statement a field, all proved by `event_claims` in BeginLaws. They fix both flags after every
-- move: a write brings its own bits, a flag that is set stays, an input that is off sets none, and one that is on with its flag clear sets it
-- as `high` and `low` tell. They do not tell when an act is which moves: that is the chip's matter.
-- Assumes nothing.
use Rattle.std.specs.Prelude.{ℕ, ◌<◌, ◌≡◌, ◌⊎◌, ◌↔◌, true, false, not, ◌&&◌, List, ◌∷◌, ◌++◌}
use Rattle.std.specs.Bool.{beq}
use Rattle.events.specs.declared.Events.{Events}
use Rattle.events.specs.declared.Inputs.{Inputs}
use Rattle.events.specs.Control.{evhif, evlif, even1, even0, evwdt, number_of, debounce_of, pulls_irq}
use Rattle.events.specs.Pins.{zeroes_watchdog}
use Rattle.events.specs.Range.{events_out}
use Rattle.events.specs.Rows.{EventRow, EventsIn}
use Rattle.events.specs.Story.{Move, Write, Tick, moved, after, is_low, writing, written, Window, Steady, Each}
use Rattle.events.specs.Beginning.{begun, high_back, low_back, high_only, low_only, HighOn, LowOn}

pub record EventClaims : Type 0 where
  -- V15. From any record in range with EVHS on, as long as 0Bh is not written and EVHIF is clear, the next move sets EVHIF exactly if it fills a
  -- window of the number set, in the moves so far with those that the record's counts stand for (`high_back`) before them.
  pub high :
      (s : Inputs) (m : Move) (past : List Move) → HighOn s → written (m ∷ past) ≡ false → evhif (after s past).control ≡ false
      → (evhif (after s (m ∷ past)).control ≡ true) ↔ Window 0 (number_of s.control) (m ∷ (past ++ high_back s))
  -- V16. From any record in range with EVLS on, as long as 0Bh is not written and EVLIF is clear, the next move sets EVLIF exactly if it is the last
  -- of the debounce's ticks since a counted rise of EVLS with no fall since, in the moves so far with those that the record's debounce stands
  -- for (`low_back`) before them.
  pub low :
      (s : Inputs) (m : Move) (past : List Move) → LowOn s → written (m ∷ past) ≡ false → evlif (after s past).control ≡ false
      → (evlif (after s (m ∷ past)).control ≡ true) ↔ Steady 0 (debounce_of s.control) (m ∷ (past ++ low_back s))
  -- V15, V16. The moves that a record's counts stand for do lead to them, from inputs at 0.
  pub high_led : (s : Inputs) → HighOn s → after (begun s.control) (high_back s) ≡ high_only s
  pub low_led : (s : Inputs) → LowOn s → after (begun s.control) (low_back s) ≡ low_only s
  -- V4. With EVEN1 clear or EVWDT set no move but a write of 0Bh changes EVHIF; V8, V9. with EVEN0 clear none changes EVLIF.
  pub high_off :
      (m : Move) (s : Inputs) → writing m ≡ false → s.control < 256 → (even1 s.control && not (evwdt s.control)) ≡ false
      → evhif (moved m s).control ≡ evhif s.control
  pub low_off : (m : Move) (s : Inputs) → writing m ≡ false → s.control < 256 → even0 s.control ≡ false → evlif (moved m s).control ≡ evlif s.control
  -- V5, V9. A flag that is set stays until 0Bh is written.
  pub high_stays : (m : Move) (s : Inputs) → writing m ≡ false → s.control < 256 → evhif s.control ≡ true → evhif (moved m s).control ≡ true
  pub low_stays : (m : Move) (s : Inputs) → writing m ≡ false → s.control < 256 → evlif s.control ≡ true → evlif (moved m s).control ≡ true
  -- V12. After a write 0Bh has the byte and nothing is counted; the levels stay.
  pub writes :
      (v : ℕ) (s : Inputs)
      → moved (Write v) s ≡ record { events = record { door = s.events.door; drum = s.events.drum; edges = 0; since = 0; debounce = 0 }; control = v }
  -- V10. A tick that is not counted leaves the inputs.
  pub stands : (s : Inputs) → moved (Tick false) s ≡ s
  -- V7. The watchdog's count is made 0 exactly where EVWDT is set and EVHS goes from low to high or back.
  pub kicks : (level : ℕ) (s : Inputs) → zeroes_watchdog level s ≡ (evwdt s.control && not (beq (is_low s.events.drum) (is_low level)))
  -- V11. IRQ is held low exactly where a flag is set.
  pub irq : (v : ℕ) → (pulls_irq v ≡ true) ↔ ((evhif v ≡ true) ⊎ (evlif v ≡ true))
  -- V14. Number 6 is given exactly where a row holds, and no moves that acts bring lead out of range.
  pub rows : (v : ℕ) (e : Events) → (events_out v e ≡ true) ↔ EventRow v e
  pub range :
      (s : Inputs) (past : List Move) → Each past → s.control < 256 → EventsIn s.control s.events
      → ((after s past).control < 256) × EventsIn (after s past).control (after s past).events
