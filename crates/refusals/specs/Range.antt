-- Number 6: the record is out of range. Each row of its list is a test over the fields that it reads; the tests are lists by subject: clock, frame,
-- cycle, power; those of the event inputs (V14) are the events' own. All answer 6, so their order tells nothing, and a further row is one more member of a list. A record that no row names is in
-- range and answers as a chip. Every EEPROM and ID pointer is judged, in use or not; a clock address never is.
-- Assumes nothing.
use Rattle.std.specs.Prelude.{ℕ, Bool, not, ◌&&◌, ◌||◌, List, [], ◌∷◌, ltb, leb, eqb, get_or}
use Rattle.std.specs.Int.Bits.{bit_and}
use Rattle.base.specs.Words.{every, any_of}
use Rattle.events.specs.Range.{events_out}
use Rattle.record.specs.declared.Device.{Device}
use Rattle.record.specs.declared.Counters.{Counters}
use Rattle.record.specs.declared.Load.{Load}
use Rattle.record.specs.declared.Cycle.{Cycle}
use Rattle.record.specs.declared.Place.{Place}
use Rattle.record.specs.declared.Stage.{Stage}
use Rattle.record.specs.Part.{size_of, boots_of}
use Rattle.record.specs.Registers.{st, watchdog_at, event_at, kept, period_of, cycle_ticks, startup_ticks, divider_last, long_pulse, delay_ticks}
use Rattle.record.specs.Stages.{selected, foreign_to_wip, frame_place, cycle_place, id_pointer, eeprom_pointer}

-- A18. the divider
abbrev pub divider_above : Counters → Bool
divider_above c = ltb divider_last c.divider

-- A19. the start-up count
abbrev pub startup_above : Counters → Bool
startup_above c = ltb startup_ticks c.startup

-- A20. the write countdown
abbrev pub countdown_above : Cycle → Bool
countdown_above y = ltb cycle_ticks y.left

-- A21. the pulse
abbrev pub pulse_above : Counters → Bool
pulse_above c = ltb long_pulse c.pulse

-- A22. the delay
abbrev pub delay_above : Counters → Bool
delay_above c = ltb delay_ticks c.delay

-- A23. the watchdog's count, by its period
abbrev pub watchdog_past : List ℕ → Counters → Bool
watchdog_past regs c = leb (period_of (get_or regs watchdog_at 0)) c.watchdog

-- A24. the page offset of the next byte
abbrev pub offset_above : Load → Bool
offset_above l = ltb 7 l.next

-- A25. an ID pointer
abbrev pub id_pointer_above : Place → Bool
id_pointer_above p = ltb 15 (id_pointer p)

-- A26. an EEPROM pointer, by the memory's length
abbrev pub eeprom_pointer_past : ℕ → Place → Bool
eeprom_pointer_past size p = leb size (eeprom_pointer p)

-- A27. a stored bit that its register may not hold
abbrev pub inside_mask : List ℕ → ℕ → Bool
inside_mask regs k = eqb (bit_and (get_or regs k 0) (get_or kept k 0)) (get_or regs k 0)

unfoldable pub bit_outside : List ℕ → Bool
bit_outside regs = not (every (inside_mask regs) 32)

-- A28. a start-up count on a W part whose ST is clear
abbrev pub startup_stopped : Bool → List ℕ → Counters → Bool
startup_stopped boots regs c = (not boots && not (st regs)) && ltb 0 c.startup

-- A37. the mark of a power failure, with power on
abbrev pub marked_with_power : Bool → Bool → Bool
marked_with_power power mark = power && mark

-- A29. no power, and a frame is open or a cycle runs
abbrev pub busy_without_power : Bool → Stage → Cycle → Bool
busy_without_power power s y = not power && (selected s || ltb 0 y.left)

-- A30. a cycle runs, and the frame that is open and heard has another code than the five
abbrev pub foreign_frame : Stage → Cycle → Bool
foreign_frame s y = ltb 0 y.left && foreign_to_wip s

-- registers and counts
abbrev pub clock_tests : Bool → List ℕ → Counters → List Bool
clock_tests boots regs c =
    divider_above c ∷ startup_above c ∷ pulse_above c ∷ delay_above c ∷ watchdog_past regs c ∷ startup_stopped boots regs c ∷ bit_outside regs ∷ []

-- the frame and its page load
abbrev pub frame_tests : ℕ → Stage → Load → List Bool
frame_tests size s l = offset_above l ∷ id_pointer_above (frame_place s) ∷ eeprom_pointer_past size (frame_place s) ∷ []

-- the write cycle
abbrev pub cycle_tests : ℕ → Cycle → List Bool
cycle_tests size y = countdown_above y ∷ id_pointer_above (cycle_place y.target) ∷ eeprom_pointer_past size (cycle_place y.target) ∷ []

-- what power, mark, frame and cycle say together
abbrev pub power_tests : Bool → Bool → Stage → Cycle → List Bool
power_tests power mark s y = marked_with_power power mark ∷ busy_without_power power s y ∷ foreign_frame s y ∷ []

unfoldable pub clock_out : Bool → List ℕ → Counters → Bool
clock_out boots regs c = any_of (clock_tests boots regs c)

unfoldable pub frame_out : ℕ → Stage → Load → Bool
frame_out size s l = any_of (frame_tests size s l)

unfoldable pub cycle_out : ℕ → Cycle → Bool
cycle_out size y = any_of (cycle_tests size y)

unfoldable pub power_out : Bool → Bool → Stage → Cycle → Bool
power_out power mark s y = any_of (power_tests power mark s y)

-- the five subjects of a record
abbrev pub range_tests : ℕ → Device → List Bool
range_tests part d =
    clock_out (boots_of part) d.regs d.counters
    ∷ frame_out (size_of part) d.frame.stage d.load
    ∷ cycle_out (size_of part) d.cycle
    ∷ power_out d.power d.mark d.frame.stage d.cycle
    ∷ events_out (get_or d.regs event_at 0) d.events
    ∷ []

-- number 6: some row holds
unfoldable pub out_of_range : ℕ → Device → Bool
out_of_range part d = any_of (range_tests part d)
