-- What the event inputs promise over runs of the chip, from any record in range, waits and refused acts among the acts. What each act is in moves
-- stands in Moves; `Window`, `Steady` and `Closed` (the events' Story) speak of moves alone, not of the chip's counts.
-- Assumes nothing.
use Rattle.std.specs.Prelude.{ℕ, ◌<◌, ◌≡◌, Bool, true, false, not, ◌&&◌, ◌||◌, ◌↔◌, ◌≢◌, List, ◌++◌, get_or}
use Rattle.base.specs.Wait.{steps}
use Rattle.events.specs.Control.{evhif, evlif, even1, even0, evwdt, number_of, debounce_of}
use Rattle.events.specs.Pins.{control_written}
use Rattle.events.specs.Story.{Move, after, written, Window, Steady, HighReady, LowReady}
use Rattle.events.specs.Beginning.{high_back, low_back}
use Rattle.record.specs.declared.Act.{Act}
use Rattle.record.specs.declared.Act.TheVariants.{Byte, Wait, Cut, Set}
use Rattle.record.specs.declared.Device.{Device}
use Rattle.record.specs.declared.Pin.{Pin}
use Rattle.record.specs.declared.Pin.TheVariants.{Evhs}
use Rattle.record.specs.declared.Place.TheVariants.{ClockAt}
use Rattle.record.specs.declared.Stage.{Stage}
use Rattle.record.specs.declared.Stage.TheVariants.{Writing}
use Rattle.record.specs.Part.{boots_of}
use Rattle.record.specs.Registers.{vbaten, oscon, event_at}
use Rattle.record.specs.Setters.{inputs_of, with_watchdog}
use Rattle.record.specs.World.{World, Shaped}
use Rattle.refusals.specs.InRange.{InRange}
use Rattle.ticks.specs.Lines.{irq_low}
use Rattle.ticks.specs.Tick.{tick}
use Rattle.acts.specs.Act.{performed}
use Rattle.run.specs.Claim.{Input}
use Rattle.signals.specs.Moves.{run_of, moves_of, run_moves}

-- the byte of 0Bh, and both flags in it
abbrev pub control : World → ℕ
control w = get_or w.device.regs event_at 0

abbrev pub high : World → Bool
high w = evhif (control w)

abbrev pub low : World → Bool
low w = evlif (control w)

-- V12. a WRITE whose next byte goes to 0Bh
abbrev pub to_event : Stage
to_event = Writing (ClockAt (record { 0 = event_at }))

-- a run and one act more: the world, and the moves, newest first
abbrev pub next_of : ℕ → List Input → Input → World → World
next_of part xs x w = (performed part x.act x.arg (run_of part xs w)).after

abbrev pub next_moves : ℕ → List Input → Input → World → List Move
next_moves part xs x w = moves_of part x.act x.arg (run_of part xs w) ++ run_moves part xs w

-- V15. The acts that may set EVHIF; each is one that is done.
pub data HighAct (act : Act) (arg : ℕ) (d : Device) : Type 0 where
  -- a rise of EVHS, enabled, an event and not the watchdog's, with OSCON set
  rises :
      act ≡ Set Evhs → d.events.drum ≡ 0 → arg ≡ 1 → even1 (get_or d.regs event_at 0) ≡ true → evwdt (get_or d.regs event_at 0) ≡ false
      → oscon d.counters ≡ true → HighAct act arg d
  -- a byte that writes it
  writes_high : act ≡ Byte → d.frame.stage ≡ to_event → evhif arg ≡ true → HighAct act arg d

-- V16. The acts that may set EVLIF.
pub data LowAct (act : Act) (arg : ℕ) (d : Device) : Type 0 where
  -- a wait, where a debounce runs
  waits : act ≡ Wait → even0 (get_or d.regs event_at 0) ≡ true → 0 < d.events.debounce → LowAct act arg d
  -- a byte that writes it
  writes_low : act ≡ Byte → d.frame.stage ≡ to_event → evlif arg ≡ true → LowAct act arg d

-- V12, V13. The acts that write 0Bh; no other clears a flag.
pub data WriteAct (act : Act) (d : Device) : Type 0 where
  byte : act ≡ Byte → d.frame.stage ≡ to_event → WriteAct act d
  cut : act ≡ Cut → vbaten d.regs ≡ false → WriteAct act d

-- The promise, of every part and of every world in range, of its sizes.
pub record EventsRight : Type 0 where
  -- V18. The inputs after a run are those after its moves.
  pub moves :
      (part : ℕ) (xs : List Input) (w : World) → InRange part w.device → Shaped part w
      → inputs_of (run_of part xs w).device ≡ after (inputs_of w.device) (run_moves part xs w)
  -- V12. A byte that writes 0Bh is where a stretch begins: the byte as it is, no count, the levels as they were.
  pub begins :
      (part arg : ℕ) (w : World) → InRange part w.device → Shaped part w → (performed part Byte arg w).number ≡ 0
      → w.device.frame.stage ≡ to_event → inputs_of (performed part Byte arg w).after.device ≡ control_written arg (inputs_of w.device)
  -- V15. EVHIF: EVEN1 set, EVWDT clear, nothing counted at the start; 0Bh not written since; the flag clear so far. Then the next act sets it
  -- exactly if with it the moves end in a window of the number set.
  pub high_exact :
      (part : ℕ) (xs : List Input) (x : Input) (w : World) → InRange part w.device → Shaped part w → HighReady (inputs_of w.device)
      → written (next_moves part xs x w) ≡ false → high (run_of part xs w) ≡ false
      → (high (next_of part xs x w) ≡ true) ↔ Window w.device.events.drum (number_of (control w)) (next_moves part xs x w)
  -- the same from a record that has counted something: the moves that it stands for are behind the run's
  pub high_from :
      (part : ℕ) (xs : List Input) (x : Input) (w : World) → InRange part w.device → Shaped part w
      → even1 (control w) ≡ true → evwdt (control w) ≡ false → written (next_moves part xs x w) ≡ false → high (run_of part xs w) ≡ false
      → (high (next_of part xs x w) ≡ true) ↔ Window 0 (number_of (control w)) (next_moves part xs x w ++ high_back (inputs_of w.device))
  -- V16. EVLIF: EVEN0 set, no debounce at the start; the rest as above. The next act sets it exactly if with it the moves end in a counted rise of
  -- EVLS and the debounce's counted ticks since, with no fall between.
  pub low_exact :
      (part : ℕ) (xs : List Input) (x : Input) (w : World) → InRange part w.device → Shaped part w → LowReady (inputs_of w.device)
      → written (next_moves part xs x w) ≡ false → low (run_of part xs w) ≡ false
      → (low (next_of part xs x w) ≡ true) ↔ Steady w.device.events.door (debounce_of (control w)) (next_moves part xs x w)
  pub low_from :
      (part : ℕ) (xs : List Input) (x : Input) (w : World) → InRange part w.device → Shaped part w
      → even0 (control w) ≡ true → written (next_moves part xs x w) ≡ false → low (run_of part xs w) ≡ false
      → (low (next_of part xs x w) ≡ true) ↔ Steady 0 (debounce_of (control w)) (next_moves part xs x w ++ low_back (inputs_of w.device))
  -- V11. A wait stops at the tick that sets a flag: before its last tick both flags are what they were.
  pub stops :
      (part n : ℕ) (w : World) (k : ℕ) → k < (performed part Wait n w).count
      → (high (steps (tick (boots_of part)) k w) ≡ high w) × (low (steps (tick (boots_of part)) k w) ≡ low w)
  -- V11. a flag that is set holds IRQ low, enabled or not
  pub pulls : (d : Device) → (evhif (get_or d.regs event_at 0) || evlif (get_or d.regs event_at 0)) ≡ true → irq_low d ≡ true
  -- V7. With EVWDT set an edge of EVHS, rise or fall, makes the watchdog's count 0 and no other; without it, with no edge, and at EVLS, no count of the
  -- clock changes.
  pub kicks :
      (part arg : ℕ) (w : World) → (performed part (Set Evhs) arg w).number ≡ 0 → evwdt (control w) ≡ true → arg ≢ w.device.events.drum
      → (performed part (Set Evhs) arg w).after.device.counters ≡ (with_watchdog w.device 0).counters
  pub kicks_not :
      (part : ℕ) (p : Pin) (arg : ℕ) (w : World) → (p ≡ Evhs → evwdt (control w) ≡ true → arg ≡ w.device.events.drum)
      → (performed part (Set p) arg w).after.device.counters ≡ w.device.counters
  -- V4. Without EVEN1, or with EVWDT set, no run changes EVHIF in which 0Bh is not written; V8. without EVEN0 none changes EVLIF.
  pub high_off :
      (part : ℕ) (xs : List Input) (w : World) → InRange part w.device → Shaped part w → (even1 (control w) && not (evwdt (control w))) ≡ false
      → written (run_moves part xs w) ≡ false → high (run_of part xs w) ≡ high w
  pub low_off :
      (part : ℕ) (xs : List Input) (w : World) → InRange part w.device → Shaped part w → even0 (control w) ≡ false
      → written (run_moves part xs w) ≡ false → low (run_of part xs w) ≡ low w
  -- V5, V9. a flag that is set stays until 0Bh is written
  pub high_stays :
      (part : ℕ) (xs : List Input) (w : World) → InRange part w.device → Shaped part w → high w ≡ true
      → written (run_moves part xs w) ≡ false → high (run_of part xs w) ≡ true
  pub low_stays :
      (part : ℕ) (xs : List Input) (w : World) → InRange part w.device → Shaped part w → low w ≡ true
      → written (run_moves part xs w) ≡ false → low (run_of part xs w) ≡ true
  -- In acts: which may set a flag, and which may write 0Bh.
  pub high_by :
      (part : ℕ) (act : Act) (arg : ℕ) (w : World) → InRange part w.device → Shaped part w → high w ≡ false
      → high (performed part act arg w).after ≡ true → ((performed part act arg w).number ≡ 0) × HighAct act arg w.device
  pub low_by :
      (part : ℕ) (act : Act) (arg : ℕ) (w : World) → InRange part w.device → Shaped part w → low w ≡ false
      → low (performed part act arg w).after ≡ true → ((performed part act arg w).number ≡ 0) × LowAct act arg w.device
  pub written_by :
      (part : ℕ) (act : Act) (arg : ℕ) (w : World) → written (moves_of part act arg w) ≡ true
      → ((performed part act arg w).number ≡ 0) × WriteAct act w.device
