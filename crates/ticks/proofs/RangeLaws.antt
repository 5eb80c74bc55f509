-- A tick and a wait leave a record in range, part by part.
-- Assumes nothing.
use mathlib.Core.Path.{◌≡◌, sym, ◌∙◌}
use mathlib.Core.Bool.{Bool, false}
use mathlib.Core.List.{List}
use Prim.Native.Nat.{ℕ, ◌+◌, ◌-◌, ◌%◌, ◌<◌, ◌≤◌}
use native.Mathlib.Omega.{arith}
use borrow.Author.Tests.{ltb-true}
use lib.Bits.{bit_and, bit_or, and_le_r, or_lt}
use lib.Dec.{ltb, eqb}
use lib.ListN.{get_or, set}
use Rattle.base.specs.Words.{pick, bit}
use Rattle.base.proofs.Tests.{pick_case, pick_when, both_left, both_right, neither, true_false}
use Rattle.base.proofs.BitLaws.{below_mask}
use Rattle.base.proofs.StoreLaws.{set_case}
use Rattle.base.proofs.WaitLaws.{wait_each}
use Rattle.calendar.specs.Time.{advanced}
use Rattle.calendar.proofs.TimeLaws.{TimeMasked, advanced_masked}
use Rattle.events.specs.Rows.{EventsIn}
use Rattle.events.specs.Tick.{events_tick}
use Rattle.events.proofs.EmbedLaws.{tick_embeds}
use Rattle.record.specs.declared.Device.{Device}
use Rattle.record.specs.Part.{boots_of}
use Rattle.record.specs.Registers.{wdtpls, oscon, watchdog_at, event_at, seconds_at, period_of, startup_ticks, long_pulse, short_pulse, divider_ticks}
use Rattle.record.specs.Setters.{with_regs, with_left, with_divider, with_watchdog, with_pulse, inputs_of}
use Rattle.record.proofs.PeriodLaws.{period_least}
use Rattle.refusals.specs.InRange.{InRange}
use Rattle.refusals.proofs.KeepLaws.{ClockOf, Inside, AllInside, Paced, Halted, Signalled, divider_in, startup_in, watchdog_in, delay_in, pulse_in, regs_in, inputs_in_lem, set_inside, inside_byte, in_range_beside, guard_in, left_in}
use Rattle.ticks.specs.Lines.{changed}
use Rattle.ticks.specs.Oscillator.{asked, starting, oscillator_tick}
use Rattle.ticks.specs.Watchdog.{counting, pulse_tick, time_out, counted_tick, watchdog_tick}
use Rattle.ticks.specs.Event.{event_tick}
use Rattle.ticks.specs.Clock.{time_of, running, calendar_tick, alarm_tick}
use Rattle.ticks.specs.Tick.{cycle_device, clockwork, alive}
use Rattle.ticks.specs.RecordTick.{device_tick, device_waited}
use Rattle.ticks.proofs.ClockLaws.{clock_each, clock_other, clock_st}
use Rattle.ticks.proofs.KeepLaws.{clockwork_keeps}

-- The oscillator: a start-up count that goes up is asked to.
oscillator_range : (boots : Bool) (d : Device) → ClockOf boots d → ClockOf boots (oscillator_tick boots d)
unfolding oscillator_tick
oscillator_range boots d r =
    let on = asked boots d.regs in
    let more = ltb d.counters.startup startup_ticks in
    pick_when (ClockOf boots) (starting boots d)
    (λ t.
    startup_in boots d r (d.counters.startup + 1) (omega (arith, ltb-true d.counters.startup startup_ticks (both_right on more t)))
    (λ b o. absurd (true_false (both_left on more t) (neither b o))))
    (λ t. r)

-- The watchdog: pulse, delay, count, time-out. Its flag lies inside the mask of 0Ah.
flag_inside : (v f : ℕ) → f < 256 → bit_and v 0xff ≡ v → bit_and (bit_or v f) 0xff ≡ bit_or v f
flag_inside v f h i =
    let l : bit_or v f < 256 = or_lt 8 v f (omega (arith, and_le_r v 0xff)) h in
    below_mask 8 (omega arith) (bit_or v f) l l

time_out_range : (boots : Bool) (d : Device) → ClockOf boots d → ClockOf boots (time_out d)
time_out_range boots d r =
    let v = get_or d.regs watchdog_at 0 in
    let s = bit_or v 0x40 in
    let n : ℕ = pick (wdtpls v) long_pulse short_pulse in
    let p : n ≤ long_pulse = pick_case (λ (k : ℕ). k ≤ long_pulse) (wdtpls v) (omega arith) (omega arith) in
    regs_in boots (with_pulse (with_watchdog d 0) n)
    (pulse_in boots (with_watchdog d 0) (watchdog_in boots d r 0 (omega (arith, period_least v))) n p)
    (set d.regs watchdog_at s)
    (set_inside d.regs watchdog_at s (flag_inside v 0x40 (omega arith) (r.inside watchdog_at (omega arith))) r.inside)
    (omega (arith, period_least (get_or (set d.regs watchdog_at s) watchdog_at 0)))
    (set_case (λ (x : ℕ). boots ≡ false → bit x 7 ≡ false → d.counters.startup ≡ 0) d.regs watchdog_at seconds_at s (λ e. absurd (omega arith)) r.stopped)
    (set_case (λ (x : ℕ). EventsIn x d.events) d.regs watchdog_at event_at s (λ e. absurd (omega arith)) r.events)

counted_range : (boots : Bool) (d : Device) → ClockOf boots d → ClockOf boots (counted_tick d)
counted_range boots d r =
    pick_case (ClockOf boots) (ltb 0 d.counters.delay) (delay_in boots d r (d.counters.delay - 1) (omega (arith, r.delay)))
    (pick_when (ClockOf boots) (ltb (d.counters.watchdog + 1) (period_of (get_or d.regs watchdog_at 0)))
    (λ t. watchdog_in boots d r (d.counters.watchdog + 1) (ltb-true (d.counters.watchdog + 1) _ t))
    (λ t. time_out_range boots d r))

watchdog_range : (boots counted : Bool) (d : Device) → ClockOf boots d → ClockOf boots (watchdog_tick counted d)
unfolding watchdog_tick
watchdog_range boots counted d r =
    let p = pulse_in boots d r (d.counters.pulse - 1) (omega (arith, r.pulse)) in
    pick_case (ClockOf boots) (counting counted (get_or d.regs watchdog_at 0)) (counted_range boots (pulse_tick d) p) p

-- The event inputs: a flag lies inside the mask of 0Bh too.
event_range : (boots counted : Bool) (d : Device) → ClockOf boots d → ClockOf boots (event_tick counted d)
unfolding event_tick
event_range boots counted d r =
    inputs_in_lem boots d r (events_tick counted (inputs_of d))
    (tick_embeds (inputs_of d) (inside_byte event_at (get_or d.regs event_at 0) (omega arith) (r.inside event_at (omega arith))) r.events counted)

-- The calendar: the eight time registers stay inside their masks.
clock_inside : (counted : Bool) (d : Device) → AllInside d.regs → AllInside (alarm_tick counted d (calendar_tick counted d)).regs
clock_inside counted d q =
    let old : List ℕ = d.regs in
    let m : TimeMasked (advanced (time_of old)).time =
    advanced_masked (time_of old)
    (record {
      hundredths = q 0x00 (omega arith);
      seconds = q 0x01 (omega arith);
      minutes = q 0x02 (omega arith);
      hours = q 0x03 (omega arith);
      day = q 0x04 (omega arith);
      date = q 0x05 (omega arith);
      month = q 0x06 (omega arith);
      year = q 0x07 (omega arith);
    }) in
    clock_each (λ k v. k < 32 → Inside k v) counted d
    (record {
      hundredths = λ h. m.hundredths;
      seconds = λ h. m.seconds;
      minutes = λ h. m.minutes;
      hours = λ h. m.hours;
      day = λ h. m.day;
      date = λ h. m.date;
      month = λ h. m.month;
      year = λ h. m.year;
    })
    (λ v p h. flag_inside v 0x08 (omega arith) (p h))
    (λ v p h. flag_inside v 0x08 (omega arith) (p h))
    q

clock_range : (boots counted : Bool) (d : Device) → ClockOf boots d → ClockOf boots (alarm_tick counted d (calendar_tick counted d))
unfolding calendar_tick
clock_range boots counted d r =
    let regs : List ℕ = (alarm_tick counted d (calendar_tick counted d)).regs in
    let inside : AllInside regs = clock_inside counted d r.inside in
    let paced : Paced d.counters regs = rw (clock_other counted d watchdog_at (omega arith) (λ e. omega arith) (λ e. omega arith)) r.watchdog in
    let halted : Halted boots d.counters regs = λ b s. r.stopped b (sym (clock_st counted d) ∙ s) in
    let signalled : Signalled d.events regs = rw (clock_other counted d event_at (omega arith) (λ e. omega arith) (λ e. omega arith)) r.events in
    let n : ℕ = (d.counters.divider + 1) % divider_ticks in
    pick_case (λ (e : Device). ClockOf boots (with_regs e regs)) (running counted d)
    (regs_in boots (with_divider d n) (divider_in boots d r n (omega arith)) regs inside paced halted signalled)
    (regs_in boots d r regs inside paced halted signalled)

-- Oscillator, watchdog, event inputs, calendar, alarms.
clockwork_in_range : (part : ℕ) (d : Device) → InRange part d → InRange part (clockwork (boots_of part) d)
unfolding clockwork
clockwork_in_range part d r =
    let b : Bool = boots_of part in
    let c : Bool = oscon d.counters in
    let o : Device = oscillator_tick b d in
    in_range_beside part d (clockwork b d) r (clockwork_keeps b d).others
    (clock_range b c (event_tick c (watchdog_tick c o)) (event_range b c (watchdog_tick c o) (watchdog_range b c o (oscillator_range b d r.clock))))

-- The write cycle's part.
cycle_in_range : (part : ℕ) (d : Device) → InRange part d → InRange part (cycle_device d)
unfolding cycle_device
cycle_in_range part d r =
    pick_case (InRange part) (eqb d.cycle.left 0) r
    (pick_case (InRange part) (eqb d.cycle.left 1)
    (guard_in part (with_left d 0) _ (left_in part d 0 (omega arith) r))
    (left_in part d (d.cycle.left - 1) (omega arith) r))

-- A tick leaves a record in range in range, and so does a wait.
pub tick_in_range : (part : ℕ) (d : Device) → InRange part d → InRange part (device_tick (boots_of part) d)
unfolding device_tick
tick_in_range part d r = pick_case (InRange part) (alive d) (clockwork_in_range part (cycle_device d) (cycle_in_range part d r)) r

pub wait_in_range : (part n : ℕ) (d : Device) → InRange part d → InRange part (device_waited (boots_of part) n d).after
wait_in_range part =
    wait_each (device_tick (boots_of part)) changed (λ n d w. InRange part d → InRange part w.after)
    (λ d r. r)
    (λ n d c r. tick_in_range part d r)
    (λ n d w c p r. p (tick_in_range part d r))
