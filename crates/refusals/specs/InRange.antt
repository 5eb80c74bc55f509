-- In range, the contrary of number 6, as the facts that a proof uses: a record for each subject, a field for each row of its list.
-- Not the tests that decide (Range), nor the rows in words (Rows); RangeLaws ties the three.
-- Assumes nothing.
use Rattle.std.specs.Prelude.{ℕ, ◌<◌, ◌≤◌, ◌≡◌, Bool, true, false, List, get_or}
use Rattle.std.specs.Int.Bits.{bit_and}
use Rattle.events.specs.declared.Events.{Events}
use Rattle.events.specs.Rows.{EventsIn}
use Rattle.record.specs.declared.Device.{Device}
use Rattle.record.specs.declared.Counters.{Counters}
use Rattle.record.specs.declared.Load.{Load}
use Rattle.record.specs.declared.Cycle.{Cycle}
use Rattle.record.specs.declared.Place.{Place}
use Rattle.record.specs.declared.Stage.{Stage}
use Rattle.record.specs.Part.{size_of, boots_of}
use Rattle.record.specs.Registers.{st, watchdog_at, event_at, kept, period_of, cycle_ticks, startup_ticks, divider_ticks, long_pulse, delay_ticks}
use Rattle.record.specs.Stages.{selected, foreign_to_wip, frame_place, cycle_place, id_pointer, eeprom_pointer}

-- registers, counts and event inputs
pub record ClockRange (boots : Bool) (regs : List ℕ) (c : Counters) (e : Events) : Type 0 where
  pub divider : c.divider < divider_ticks
  pub startup : c.startup ≤ startup_ticks
  pub pulse : c.pulse ≤ long_pulse
  pub delay : c.delay ≤ delay_ticks
  pub watchdog : c.watchdog < period_of (get_or regs watchdog_at 0)
  pub stopped : boots ≡ false → st regs ≡ false → c.startup ≡ 0
  pub inside : (k : ℕ) → k < 32 → bit_and (get_or regs k 0) (get_or kept k 0) ≡ get_or regs k 0
  pub events : EventsIn (get_or regs event_at 0) e

-- a pointer, of a frame or of a cycle
pub record PlaceRange (size : ℕ) (p : Place) : Type 0 where
  pub id : id_pointer p < 16
  pub eeprom : eeprom_pointer p < size

-- the frame and its page load
pub record FrameRange (size : ℕ) (s : Stage) (l : Load) : Type 0 where
  pub offset : l.next < 8
  pub place : PlaceRange size (frame_place s)

-- the write cycle
pub record CycleRange (size : ℕ) (y : Cycle) : Type 0 where
  pub countdown : y.left ≤ cycle_ticks
  pub place : PlaceRange size (cycle_place y.target)

-- what power, mark, frame and cycle say together
pub record PowerRange (power mark : Bool) (s : Stage) (y : Cycle) : Type 0 where
  pub unmarked : power ≡ true → mark ≡ false
  pub idle : power ≡ false → selected s ≡ false
  pub still : power ≡ false → y.left ≡ 0
  pub heard : 0 < y.left → foreign_to_wip s ≡ false

-- R7. All of it; every act keeps it.
pub record InRange (part : ℕ) (d : Device) : Type 0 where
  pub clock : ClockRange (boots_of part) d.regs d.counters d.events
  pub frame : FrameRange (size_of part) d.frame.stage d.load
  pub cycle : CycleRange (size_of part) d.cycle
  pub power : PowerRange d.power d.mark d.frame.stage d.cycle
