-- What each part of a tick, a WRITE, a cut and an up do to the event inputs of the record: nothing, or one move.
-- Assumes nothing.
use Prim.Native.Nat.{ℕ, ◌+◌, ◌%◌, ◌<◌}
use native.Mathlib.Omega.{arith}
use mathlib.Core.Path.{◌≡◌, refl, sym, ap, ◌∙◌}
use mathlib.Core.Bool.{Bool, true, false, not, ◌&&◌, and-false}
use mathlib.Core.Logic.{inl, ◌≢◌}
use mathlib.Core.List.{List}
use borrow.Author.Tests.{eqb-true}
use lib.Bits.{bit_and, bit_or, and_zero_r, or_zero_l}
use lib.Dec.{ltb, eqb}
use lib.ListN.{length, get_or, set, length-set}
use lib.Seq.{get_or-set_same, get_or-set_other}
use Rattle.base.proofs.Tests.{pick_case, pick_when, true_false}
use Rattle.base.proofs.BitLaws.{below_mask}
use Rattle.events.specs.declared.Inputs.{Inputs}
use Rattle.events.specs.Control.{even1, even0, evhif, evlif, high_runs, low_runs}
use Rattle.events.specs.Pins.{no_counts, drum_set, door_set, zeroes_watchdog, control_written}
use Rattle.events.specs.Tick.{events_tick}
use Rattle.record.specs.declared.ClockAddress.{ClockAddress}
use Rattle.record.specs.declared.Device.{Device}
use Rattle.record.specs.declared.Pin.TheVariants.{Evls, Evhs}
use Rattle.record.specs.Registers.{st, vbaten, vbat, oscon, seconds_at, day_at, watchdog_at, event_at, power_down_at, power_up_at, period_of}
use Rattle.record.specs.Setters.{with_regs, inputs_of, with_inputs}
use Rattle.record.specs.Stamps.{stamped}
use Rattle.record.proofs.StampLaws.{stamped_other, unstamped_other}
use Rattle.registers.specs.Write.{day_written, after_write, under_mask, write_clock}
use Rattle.registers.proofs.WriteLaws.{write_case}
use Rattle.ticks.specs.Oscillator.{starting, oscillator_tick}
use Rattle.ticks.specs.Watchdog.{counting, watchdog_tick}
use Rattle.ticks.specs.Event.{event_tick}
use Rattle.ticks.specs.Clock.{running, calendar_tick, alarm_tick}
use Rattle.ticks.specs.Tick.{cycle_device, clockwork, alive}
use Rattle.ticks.specs.RecordTick.{device_tick}
use Rattle.ticks.proofs.ClockLaws.{clock_other}
use Rattle.ticks.proofs.TickLaws.{cycle_step, watchdog_case, oscillator_regs}
use Rattle.pins.specs.Set.{after_set}
use Rattle.power.specs.Power.{failure_stamped, takes_stamp, after_cut, after_up}
use Rattle.power.proofs.PowerLaws.{cut_case}
use Rattle.signals.specs.Moves.{counted}

-- the inputs of two records are the same where the byte of 0Bh and the events are
pub same_inputs : (d e : Device) → e.events ≡ d.events → get_or e.regs event_at 0 ≡ get_or d.regs event_at 0 → inputs_of e ≡ inputs_of d
same_inputs d e p q = λ i. record { events = p i; control = q i }

-- inputs that were put back are there
pub put_inputs : (d : Device) (s : Inputs) → length d.regs ≡ 32 → inputs_of (with_inputs d s) ≡ s
put_inputs d s l = λ i. record { events = s.events; control = get_or-set_same d.regs event_at s.control 0 (omega arith) i }

-- A tick. Oscillator, watchdog, calendar and alarms leave the inputs alone, and so does the write cycle.
pub oscillator_inputs : (boots : Bool) (d : Device) → inputs_of (oscillator_tick boots d) ≡ inputs_of d
unfolding oscillator_tick
oscillator_inputs boots d = pick_case (λ (e : Device). inputs_of e ≡ inputs_of d) (starting boots d) refl refl

pub watchdog_inputs : (c : Bool) (d : Device) → inputs_of (watchdog_tick c d) ≡ inputs_of d
unfolding watchdog_tick
watchdog_inputs c d =
    let P : Device → Type 0 = λ e. inputs_of e ≡ inputs_of d in
    pick_case P (counting c (get_or d.regs watchdog_at 0))
    (pick_case P (ltb 0 d.counters.delay) refl
    (pick_case P (ltb (d.counters.watchdog + 1) (period_of (get_or d.regs watchdog_at 0))) refl
    (λ i. record { events = d.events; control = get_or-set_other d.regs watchdog_at event_at (bit_or (get_or d.regs watchdog_at 0) 0x40) 0 (λ e. omega arith) i })))
    refl

pub clock_inputs : (c : Bool) (d : Device) → inputs_of (alarm_tick c d (calendar_tick c d)) ≡ inputs_of d
unfolding calendar_tick
clock_inputs c d =
    same_inputs d (alarm_tick c d (calendar_tick c d))
    (pick_case (λ (e : Device). e.events ≡ d.events) (running c d) refl refl)
    (clock_other c d event_at (omega arith) (λ e. omega arith) (λ e. omega arith))

pub cycle_inputs : (d : Device) → inputs_of (cycle_device d) ≡ inputs_of d
unfolding cycle_device
cycle_inputs d =
    let P : Device → Type 0 = λ e. inputs_of e ≡ inputs_of d in
    pick_case P (eqb d.cycle.left 0) refl (pick_case P (eqb d.cycle.left 1) refl refl)

cycle_counters : (d : Device) → (cycle_device d).counters ≡ d.counters
unfolding cycle_device
cycle_counters d =
    let P : Device → Type 0 = λ e. e.counters ≡ d.counters in
    pick_case P (eqb d.cycle.left 0) refl (pick_case P (eqb d.cycle.left 1) refl refl)

-- the event inputs' part is the events' tick
pub event_inputs : (c : Bool) (d : Device) → length d.regs ≡ 32 → inputs_of (event_tick c d) ≡ events_tick c (inputs_of d)
unfolding event_tick
event_inputs c d l = put_inputs d (events_tick c (inputs_of d)) l

-- the record as the watchdog leaves it
abbrev pub watched : Bool → Device → Device
watched boots d = watchdog_tick (oscon d.counters) (oscillator_tick boots d)

pub watched_inputs : (boots : Bool) (d : Device) → inputs_of (watched boots d) ≡ inputs_of d
watched_inputs boots d = watchdog_inputs (oscon d.counters) (oscillator_tick boots d) ∙ oscillator_inputs boots d

watched_length : (boots : Bool) (d : Device) → length (watched boots d).regs ≡ length d.regs
watched_length boots d =
    let o : Device = oscillator_tick boots d in
    watchdog_case (λ (l : List ℕ). length l ≡ length o.regs) (oscon d.counters) o refl (λ v. length-set o.regs watchdog_at v)
    ∙ ap length (oscillator_regs boots d)

clockwork_inputs : (boots : Bool) (d : Device) → length d.regs ≡ 32 → inputs_of (clockwork boots d) ≡ events_tick (oscon d.counters) (inputs_of d)
unfolding clockwork
clockwork_inputs boots d l =
    let c : Bool = oscon d.counters in
    clock_inputs c (event_tick c (watched boots d)) ∙ event_inputs c (watched boots d) (watched_length boots d ∙ l)
    ∙ ap (events_tick c) (watched_inputs boots d)

-- V10. a tick that is not counted leaves the inputs
pub still_tick : (s : Inputs) → events_tick false s ≡ s
unfolding events_tick
still_tick s =
    let h : high_runs false s.control ≡ false = and-false (even1 s.control && not (evhif s.control)) in
    let l : low_runs false s.control ≡ false = and-false (even0 s.control && not (evlif s.control)) in
    rw (h, l)

pub tick_inputs : (boots : Bool) (d : Device) → length d.regs ≡ 32 → inputs_of (device_tick boots d) ≡ events_tick (counted d) (inputs_of d)
unfolding device_tick
tick_inputs boots d l =
    pick_when (λ (e : Device). inputs_of e ≡ events_tick (counted d) (inputs_of d)) (alive d)
    (λ a.
    let e : oscon d.counters ≡ counted d = rw a in
    clockwork_inputs boots (cycle_device d) (ap length (cycle_step d).regs ∙ l)
    ∙ (λ i. events_tick (oscon (cycle_counters d i)) (cycle_inputs d i))
    ∙ ap (λ (b : Bool). events_tick b (inputs_of d)) e)
    (λ a.
    let e : counted d ≡ false = rw a in
    sym (ap (λ (b : Bool). events_tick b (inputs_of d)) e ∙ still_tick (inputs_of d)))

-- WRITE. What is stored in 0Bh is the byte: all its bits are writable.
under_all : (old v : ℕ) → v < 256 → under_mask 0xff old v ≡ v
under_all old v h = ap (λ (n : ℕ). bit_or n (bit_and v 0xff)) (and_zero_r old) ∙ or_zero_l (bit_and v 0xff) ∙ below_mask 8 (omega arith) v h h

pub write_event :
    (boots : Bool) (d : Device) (a : ClockAddress) (v : ℕ) → length d.regs ≡ 32 → v < 256 → a.0 ≡ event_at
    → inputs_of (write_clock boots d a v) ≡ control_written v (inputs_of d)
unfolding write_clock after_write control_written
write_event boots d a v l h e =
    rw e
    (λ i. record { events = no_counts d.events; control = (get_or-set_same d.regs event_at _ 0 (omega arith) ∙ under_all (get_or d.regs event_at 0) v h) i })

-- at 04h other registers change, but not this one
day_event : (before : Bool) (regs : List ℕ) → get_or (day_written before regs) event_at 0 ≡ get_or regs event_at 0
day_event before regs =
    let P : List ℕ → Type 0 = λ l. get_or l event_at 0 ≡ get_or regs event_at 0 in
    pick_case P (vbat regs) (pick_case P before refl (get_or-set_other regs day_at event_at _ 0 (λ e. omega arith)))
    (unstamped_other regs event_at (omega arith))

pub write_other :
    (boots : Bool) (d : Device) (a : ClockAddress) (v : ℕ) → a.0 ≢ event_at → inputs_of (write_clock boots d a v) ≡ inputs_of d
unfolding after_write
write_other boots d a v n =
    let P : Device → Type 0 = λ e. inputs_of e ≡ inputs_of d in
    write_case P boots d a v
    (λ s h e.
    let regs : List ℕ = set d.regs a.0 s in
    let q : get_or regs event_at 0 ≡ get_or d.regs event_at 0 = get_or-set_other d.regs a.0 event_at s 0 (λ z. n (sym z)) in
    let p : inputs_of (with_regs d regs) ≡ inputs_of d = same_inputs d (with_regs d regs) refl q in
    pick_case P (eqb a.0 seconds_at) (pick_case P (not boots && not (st regs)) p p)
    (pick_case P (eqb a.0 day_at) (same_inputs d (with_regs d (day_written (vbat d.regs) regs)) refl (day_event (vbat d.regs) regs ∙ q))
    (pick_case P (eqb a.0 watchdog_at) p
    (pick_when P (eqb a.0 event_at) (λ t. absurd (n (eqb-true a.0 event_at t))) (λ t. p)))))
    (λ k. refl) refl

-- A cut on the battery leaves the inputs; without it 0Bh and the counts are 0.
failure_event : (regs : List ℕ) → get_or (failure_stamped regs) event_at 0 ≡ get_or regs event_at 0
failure_event regs =
    pick_case (λ (l : List ℕ). get_or l event_at 0 ≡ get_or regs event_at 0) (takes_stamp regs)
    (get_or-set_other (stamped power_down_at regs) day_at event_at _ 0 (λ e. omega arith) ∙ stamped_other power_down_at regs event_at (inl (omega arith))) refl

pub cut_kept : (mask : ℕ) (d : Device) → vbaten d.regs ≡ true → inputs_of (after_cut mask d) ≡ inputs_of d
cut_kept mask d t =
    cut_case (λ (e : Device). inputs_of e ≡ inputs_of d) mask d
    (λ u.
    let regs : List ℕ = failure_stamped d.regs in
    let e = get_or-set_other regs watchdog_at event_at (get_or regs watchdog_at 0 % 128) 0 (λ z. omega arith) ∙ failure_event d.regs in
    λ i. record { events = d.events; control = e i })
    (λ f. absurd (true_false t f))

pub cut_forgets : (mask : ℕ) (d : Device) → vbaten d.regs ≡ false → inputs_of (after_cut mask d) ≡ control_written 0 (inputs_of d)
unfolding control_written
cut_forgets mask d f =
    cut_case (λ (e : Device). inputs_of e ≡ control_written 0 (inputs_of d)) mask d (λ t. absurd (true_false t f)) (λ u. refl)

-- an up leaves them
pub up_inputs : (d : Device) → inputs_of (after_up d) ≡ inputs_of d
unfolding after_up
up_inputs d =
    same_inputs d (after_up d) refl
    (pick_case (λ (l : List ℕ). get_or l event_at 0 ≡ get_or d.regs event_at 0) d.mark (stamped_other power_up_at d.regs event_at (inl (omega arith))) refl)

-- a pin that is set
pub door_inputs : (level : ℕ) (d : Device) → length d.regs ≡ 32 → inputs_of (after_set Evls level d) ≡ door_set (oscon d.counters) level (inputs_of d)
unfolding after_set
door_inputs level d l = put_inputs d (door_set (oscon d.counters) level (inputs_of d)) l

pub drum_inputs : (level : ℕ) (d : Device) → length d.regs ≡ 32 → inputs_of (after_set Evhs level d) ≡ drum_set (oscon d.counters) level (inputs_of d)
unfolding after_set
drum_inputs level d l =
    let s : Inputs = drum_set (oscon d.counters) level (inputs_of d) in
    pick_case (λ (e : Device). inputs_of e ≡ s) (zeroes_watchdog level (inputs_of d)) (put_inputs d s l) (put_inputs d s l)
