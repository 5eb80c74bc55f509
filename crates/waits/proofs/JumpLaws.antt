-- Laws of a jump: ticks in which only counts move leave what `jumped` says, change no line, and are passed over by a wait.
-- Assumes nothing.
use Prim.Native.Nat.{ℕ, suc, ◌+◌, ◌-◌, ◌*◌, ◌/◌, ◌%◌, ◌<◌, ◌≤◌}
use mathlib.Core.Path.{◌≡◌, refl, sym, ap, ◌∙◌}
use mathlib.Core.Bool.{Bool, true, false, ◌&&◌}
use mathlib.Core.Logic.{◌⊎◌, inl, inr, ⊎_elim}
use native.Mathlib.Omega.{arith}
use borrow.Author.Tests.{ltb-true, lt-ltb, le-ltb, eqb-true, eqb-false, eq-eqb, ne_eqb}
use lib.Dec.{ltb, eqb}
use mathlib.Core.List.{List}
use lib.ListN.{get_or, set}
use lib.Seq.{set-get_or}
use Rattle.base.specs.Words.{pick}
use Rattle.base.specs.Wait.{plus}
use Rattle.base.proofs.Tests.{by_cases, pick_case, true_false}
use Rattle.base.proofs.WaitLaws.{Jumps, wait_jump}
use Rattle.events.specs.declared.Events.{Events}
use Rattle.events.specs.declared.Inputs.{Inputs}
use Rattle.events.specs.Tick.{events_tick}
use Rattle.events.specs.Jump.{events_quiet, events_jumped}
use Rattle.events.proofs.JumpLaws as room
use Rattle.record.specs.declared.Device.{Device}
use Rattle.record.specs.declared.Counters.{Counters}
use Rattle.record.specs.Registers.{oscon, watchdog_at, event_at, period_of, divider_ticks}
use Rattle.record.specs.Setters.{with_counters, with_left, with_events, with_regs, inputs_of}
use Rattle.ticks.specs.Lines.{irq_low, wdo_low, changed}
use Rattle.ticks.specs.Oscillator.{starting, oscillator_tick}
use Rattle.ticks.specs.Watchdog.{watchdog_tick}
use Rattle.ticks.specs.Event.{event_tick}
use Rattle.ticks.specs.Clock.{running, hundredth_due, calendar_tick, alarm_tick}
use Rattle.ticks.specs.Tick.{cycle_device, clockwork, alive}
use Rattle.ticks.specs.RecordTick.{device_tick, device_waited}
use Rattle.waits.specs.Jump.{Quiet, watchdog_runs, clock_runs, jumped_counters, jumped, above, watched, gap, divided, quiet_ticks}
use Rattle.ticks.proofs.LineLaws.{changed_same}
use Rattle.ticks.proofs.ClockLaws.{clock_still}

-- two counters are equal field by field
pub counters_same :
    {a b : Counters} → a.divider ≡ b.divider → a.startup ≡ b.startup → a.watchdog ≡ b.watchdog → a.delay ≡ b.delay → a.pulse ≡ b.pulse → a ≡ b
counters_same p q r s t = λ i. record { divider = p i; startup = q i; watchdog = r i; delay = s i; pulse = t i }

-- the write cycle's part of such a tick
cycle_jump : (boots : Bool) (k : ℕ) (d : Device) → Quiet boots (suc k) d → cycle_device d ≡ with_left d (d.cycle.left - 1)
unfolding cycle_device
cycle_jump boots k d q =
    ⊎_elim
    (λ z. simp (eq-eqb d.cycle.left 0 z) (ap (with_left d) (omega arith)))
    (λ l.
    simp (ne_eqb d.cycle.left 0 (λ e. omega arith), ne_eqb d.cycle.left 1 (λ e. omega arith)))
    q.cycle

-- the watchdog's part of a tick that does not come to its period
abbrev watchdog_counters : Device → Counters
watchdog_counters d =
    record {
      divider = d.counters.divider;
      startup = d.counters.startup;
      watchdog = pick (watchdog_runs d && eqb d.counters.delay 0) (d.counters.watchdog + 1) d.counters.watchdog;
      delay = pick (watchdog_runs d) (d.counters.delay - 1) d.counters.delay;
      pulse = d.counters.pulse - 1;
    }

watchdog_one :
    (d : Device)
    → (watchdog_runs d ≡ true → eqb d.counters.delay 0 ≡ true → d.counters.watchdog + 1 < period_of (get_or d.regs watchdog_at 0))
    → watchdog_tick (oscon d.counters) d
    ≡ with_counters d (watchdog_counters d)
unfolding watchdog_tick
watchdog_one d h =
    by_cases (watchdog_runs d)
    (λ n.
    by_cases (eqb d.counters.delay 0)
    (λ z.
    let w : ltb (d.counters.watchdog + 1) (period_of (get_or d.regs watchdog_at 0)) ≡ true = lt-ltb (d.counters.watchdog + 1) _ (h n z) in
    let o : ltb 0 d.counters.delay ≡ false = le-ltb 0 d.counters.delay (omega (arith, eqb-true d.counters.delay 0 z)) in
    rw (n, z, o, w)
    (ap (with_counters d) (counters_same refl refl refl (omega (arith, eqb-true d.counters.delay 0 z)) refl)))
    (λ z.
    let o : ltb 0 d.counters.delay ≡ true = lt-ltb 0 d.counters.delay (omega (arith, eqb-false d.counters.delay 0 z)) in
    rw (n, z, o)))
    (λ n. rw n)

-- the room's word for such ticks, of the device's inputs
quiet_inputs : {boots : Bool} {k : ℕ} {d : Device} → Quiet boots k d → room.Quiet (oscon d.counters) k (inputs_of d)
quiet_inputs q = record { window = q.window; debounce = q.debounce }

-- the event inputs' part of a tick that sets no flag and opens or closes no window
event_one :
    (counted : Bool) (d : Device) → events_tick counted (inputs_of d) ≡ events_jumped counted 1 (inputs_of d)
    → event_tick counted d ≡ with_events d (events_jumped counted 1 (inputs_of d)).events
unfolding event_tick events_jumped
event_one counted d e =
    ap (λ (s : Inputs). with_events (with_regs d (set d.regs event_at s.control)) s.events) e
    ∙ ap (λ (l : List ℕ). with_events (with_regs d l) (events_jumped counted 1 (inputs_of d)).events) (set-get_or d.regs event_at 0)

-- calendar and alarms of a tick that advances no hundredth
clock_one :
    (counted : Bool) (d : Device)
    → (running counted d ≡ true → hundredth_due d.counters.divider ≡ false)
    → (running counted d ≡ true → d.counters.divider + 1 < divider_ticks)
    → alarm_tick counted d (calendar_tick counted d)
    ≡ with_counters d
    (record {
      divider = pick (running counted d) (d.counters.divider + 1) d.counters.divider;
      startup = d.counters.startup;
      watchdog = d.counters.watchdog;
      delay = d.counters.delay;
      pulse = d.counters.pulse;
    })
clock_one counted d h small =
    by_cases (running counted d)
    (λ n.
    let m : (d.counters.divider + 1) % divider_ticks ≡ d.counters.divider + 1 = omega (arith, small n) in
    sym (clock_still counted d (rw n (h n))) ∙ rw (n, m))
    (λ n. sym (clock_still counted d (rw n)) ∙ rw n)

-- the oscillator's part changes nothing
oscillator_one : (boots : Bool) (d : Device) → starting boots d ≡ false → oscillator_tick boots d ≡ d
unfolding oscillator_tick
oscillator_one boots d e = rw e

clockwork_one :
    (boots : Bool) (d : Device) → starting boots d ≡ false
    → (watchdog_runs d ≡ true → eqb d.counters.delay 0 ≡ true → d.counters.watchdog + 1 < period_of (get_or d.regs watchdog_at 0))
    → (clock_runs d ≡ true → hundredth_due d.counters.divider ≡ false) → (clock_runs d ≡ true → d.counters.divider + 1 < divider_ticks)
    → events_tick (oscon d.counters) (inputs_of d) ≡ events_jumped (oscon d.counters) 1 (inputs_of d)
    → clockwork boots d ≡ with_events (with_counters d (jumped_counters 1 d)) (events_jumped (oscon d.counters) 1 (inputs_of d)).events
unfolding clockwork
clockwork_one boots d steady w h small v =
    let counted : Bool = oscon d.counters in
    let e : Device = with_counters d (watchdog_counters d) in
    let f : Device = with_events e (events_jumped counted 1 (inputs_of d)).events in
    ap (λ (x : Device). alarm_tick counted x (calendar_tick counted x))
    (ap (event_tick counted) (ap (watchdog_tick counted) (oscillator_one boots d steady) ∙ watchdog_one d w) ∙ event_one counted e v)
    ∙ clock_one counted f h small

-- such a tick
quiet_tick : (boots : Bool) (k : ℕ) (d : Device) → Quiet boots (suc k) d → device_tick boots d ≡ jumped 1 d
unfolding device_tick jumped
quiet_tick boots k d q =
    rw q.live
    (ap (clockwork boots) (cycle_jump boots k d q)
    ∙ clockwork_one boots (with_left d (d.cycle.left - 1)) q.started (λ n z. omega (arith, q.watchdog n z))
    (λ n. q.still n d.counters.divider (omega arith) (omega arith)) (λ n. omega (arith, q.small n))
    (room.quiet_tick (oscon d.counters) k (inputs_of d) (quiet_inputs q)))

-- leaves one tick less of the kind
quiet_less : (boots : Bool) (k : ℕ) (d : Device) → Quiet boots (suc k) d → Quiet boots k (jumped 1 d)
unfolding jumped events_jumped
quiet_less boots k d q =
    let e = room.quiet_less (oscon d.counters) k (inputs_of d) (quiet_inputs q) in
    record {
      live = q.live;
      started = q.started;
      cycle = ⊎_elim (λ z. inl (omega arith)) (λ l. inr (omega arith)) q.cycle;
      pulse = ⊎_elim (λ z. inl (omega arith)) (λ l. inr (omega arith)) q.pulse;
      delay =
          λ n z.
          by_cases (eqb d.counters.delay 0)
          (λ e. absurd (true_false (eq-eqb (d.counters.delay - 1) 0 (omega (arith, eqb-true d.counters.delay 0 e))) (rw n at z)))
          (λ e. rw n (omega (arith, q.delay n e)));
      watchdog =
          λ n z.
          by_cases (eqb d.counters.delay 0)
          (λ e. rw (n, e) (omega (arith, q.watchdog n e)))
          (λ e.
          let zero : eqb (d.counters.delay - 1) 0 ≡ true = rw n at z in
          absurd (omega (arith, q.delay n e, eqb-true (d.counters.delay - 1) 0 zero)));
      small = λ n. rw n (omega (arith, q.small n));
      still = λ n t h l. q.still n t (omega (arith, rw n at h)) (omega (arith, rw n at l));
      window = e.window;
      debounce = e.debounce;
    }

-- changes no line
same_above : (n : ℕ) → (n ≡ 0) ⊎ (1 < n) → ltb 0 (n - 1) ≡ ltb 0 n
same_above n = ⊎_elim (λ z. rw z) (λ l. lt-ltb 0 (n - 1) (omega arith) ∙ sym (lt-ltb 0 n (omega arith)))

quiet_lines : (boots : Bool) (k : ℕ) (d : Device) → Quiet boots (suc k) d → changed d (jumped 1 d) ≡ false
unfolding jumped changed irq_low wdo_low
quiet_lines boots k d q =
    let p : ltb 0 (d.counters.pulse - 1) ≡ ltb 0 d.counters.pulse = same_above d.counters.pulse (⊎_elim (λ z. inl z) (λ l. inr (omega arith)) q.pulse) in
    let c : ltb 0 (d.cycle.left - 1) ≡ ltb 0 d.cycle.left = same_above d.cycle.left (⊎_elim (λ z. inl z) (λ l. inr (omega arith)) q.cycle) in
    rw (p, c) (changed_same d)

-- and k of them are a jump
pub all_same :
    (d : Device) {x y : ℕ} {a b : Counters} {e f : Events} → x ≡ y → a ≡ b → e ≡ f
    → with_events (with_counters (with_left d x) a) e ≡ with_events (with_counters (with_left d y) b) f
all_same d p c v = λ i. with_events (with_counters (with_left d (p i)) (c i)) (v i)

picked : (t : Bool) (x y : ℕ) → x ≡ y → pick t x y ≡ y
picked true x y e = e
picked false x y e = refl

jump_none : (d : Device) → jumped 0 d ≡ d
unfolding jumped
jump_none d =
    all_same d {y = d.cycle.left} {b = d.counters} {f = d.events} (omega arith)
    (counters_same (picked (clock_runs d) _ _ (omega arith)) refl (picked (watchdog_runs d && eqb d.counters.delay 0) _ _ (omega arith))
    (picked (watchdog_runs d) _ _ (omega arith)) (omega arith))
    (ap (λ (s : Inputs). s.events) (room.jump_none (oscon d.counters) (inputs_of d)))

jump_jump : (boots : Bool) (k : ℕ) (d : Device) → Quiet boots (suc k) d → jumped k (jumped 1 d) ≡ jumped (suc k) d
unfolding jumped events_jumped
jump_jump boots k d q =
    all_same d (omega arith)
    (counters_same
    (by_cases (clock_runs d) (λ n. rw n (omega arith)) (λ n. rw n))
    refl
    (by_cases (watchdog_runs d)
    (λ n.
    by_cases (eqb d.counters.delay 0)
    (λ z.
    let y : eqb (d.counters.delay - 1) 0 ≡ true = eq-eqb (d.counters.delay - 1) 0 (omega (arith, eqb-true d.counters.delay 0 z)) in
    rw (n, z, y) (omega arith))
    (λ z.
    let y : eqb (d.counters.delay - 1) 0 ≡ false = ne_eqb (d.counters.delay - 1) 0 (λ e. omega (arith, q.delay n z)) in
    rw (n, z, y)))
    (λ n. rw n))
    (by_cases (watchdog_runs d) (λ n. rw n (omega arith)) (λ n. rw n))
    (omega arith))
    (ap (λ (s : Inputs). s.events) (room.jump_jump (oscon d.counters) k (inputs_of d) (quiet_inputs q)))

-- A wait passes over ticks in which only counts move.
quiet_jumps : (boots : Bool) → Jumps (device_tick boots) changed (Quiet boots) jumped
quiet_jumps boots =
    record { none = jump_none; one = quiet_tick boots; calm = quiet_lines boots; less = quiet_less boots; more = jump_jump boots }

pub wait_passes :
    (boots : Bool) (k m : ℕ) (d : Device) → Quiet boots k d → device_waited boots (m + k) d ≡ plus k (device_waited boots m (jumped k d))
wait_passes boots = wait_jump (device_tick boots) changed (Quiet boots) jumped (quiet_jumps boots)

-- the hundredths stand still up to the gap
gap_most : (s t : ℕ) → s < divider_ticks → s ≤ t → t < s + gap s → t + 1 ≤ ((100 * s / divider_ticks + 1) * divider_ticks - 1) / 100
gap_most s t h l u = omega arith

gap_still : (s t : ℕ) → s < divider_ticks → s ≤ t → t < s + gap s → hundredth_due t ≡ false
gap_still s t h l u =
    let q : ℕ = 100 * s / divider_ticks in
    let a : q ≤ 100 * t / divider_ticks = omega arith in
    let b : 100 * (t + 1) ≤ (q + 1) * divider_ticks - 1 = omega (arith, gap_most s t h l u) in
    let c : 100 * (t + 1) / divider_ticks ≤ q = omega arith in
    le-ltb (100 * t / divider_ticks) (100 * (t + 1) / divider_ticks) (omega arith)

gap_small : (s : ℕ) → s < divider_ticks → 0 < gap s → s + gap s < divider_ticks
gap_small s h l = omega arith

-- What the number of quiet ticks is bounded by, part by part.
above_most : (limit n : ℕ) → above limit n ≤ limit
above_most limit n = pick_case (λ (k : ℕ). k ≤ limit) (eqb n 0) (omega arith) (omega arith)

above_less : (limit n k : ℕ) → 0 < k → k ≤ above limit n → (n ≡ 0) ⊎ (k < n)
above_less limit n k p h =
    by_cases (eqb n 0) (λ z. inl (eqb-true n 0 z))
    (λ z. inr (let g = rw z at h in omega arith))

watched_most : (limit : ℕ) (d : Device) → watched limit d ≤ limit
watched_most limit d =
    pick_case (λ (k : ℕ). k ≤ limit) (watchdog_runs d)
    (pick_case (λ (k : ℕ). k ≤ limit) (eqb d.counters.delay 0) (omega arith) (omega arith)) (omega arith)

watched_delay :
    (limit : ℕ) (d : Device) (k : ℕ) → 0 < k → k ≤ watched limit d → watchdog_runs d ≡ true → eqb d.counters.delay 0 ≡ false → k < d.counters.delay
watched_delay limit d k p h n z = let g = rw (n, z) at h in omega arith

watched_count :
    (limit : ℕ) (d : Device) (k : ℕ) → 0 < k → k ≤ watched limit d → watchdog_runs d ≡ true → eqb d.counters.delay 0 ≡ true
    → d.counters.watchdog + k < period_of (get_or d.regs watchdog_at 0)
watched_count limit d k p h n z =
    let g = rw (n, z) at h in omega arith

divided_most : (limit : ℕ) (d : Device) → divided limit d ≤ limit
divided_most limit d =
    pick_case (λ (k : ℕ). k ≤ limit) (clock_runs d)
    (pick_case (λ (k : ℕ). k ≤ limit) (ltb d.counters.divider divider_ticks) (omega arith) (omega arith)) (omega arith)

divided_gap :
    (limit : ℕ) (d : Device) (k : ℕ) → 0 < k → k ≤ divided limit d → clock_runs d ≡ true
    → (d.counters.divider < divider_ticks) × (k ≤ gap d.counters.divider)
divided_gap limit d k p h n =
    by_cases (ltb d.counters.divider divider_ticks)
    (λ z.
    let g = rw (n, z) at h in
    (ltb-true d.counters.divider divider_ticks z, omega arith))
    (λ z. let g : k ≤ 0 = rw (n, z) at h in absurd (omega arith))

quiet_of :
    (boots : Bool) (limit k : ℕ) (d : Device) → alive d ≡ true
    → starting boots d ≡ false → 0 < k
    → k ≤ events_quiet (oscon d.counters) (divided (watched (above (above limit d.cycle.left) d.counters.pulse) d) d) (inputs_of d) → Quiet boots k d
quiet_of boots limit k d a e p z =
    let l : ℕ = above limit d.cycle.left in
    let u : ℕ = above l d.counters.pulse in
    let w : ℕ = watched u d in
    let counted : Bool = oscon d.counters in
    let h : k ≤ divided w d = omega (arith, room.quiet_most counted (divided w d) (inputs_of d)) in
    let hw : k ≤ w = omega (arith, divided_most w d) in
    let hu : k ≤ u = omega (arith, watched_most u d) in
    let hl : k ≤ l = omega (arith, above_most l d.counters.pulse) in
    record {
      live = a;
      started = e;
      cycle = above_less limit d.cycle.left k p hl;
      pulse = above_less l d.counters.pulse k p hu;
      delay = watched_delay u d k p hw;
      watchdog = watched_count u d k p hw;
      small =
          λ n.
          let g = divided_gap w d k p h n in
          omega (arith, g.0, g.1, gap_small d.counters.divider g.0 (omega (arith, g.1)));
      still =
          λ n t x y.
          let g = divided_gap w d k p h n in
          gap_still d.counters.divider t g.0 x (omega (arith, g.1));
      window = room.quiet_window counted (divided w d) k (inputs_of d) p z;
      debounce = room.quiet_debounce counted (divided w d) k (inputs_of d) z;
    }

-- The ticks ahead that `quiet_ticks` counts are such ticks, and no more than the limit.
pub quiet_most : (boots : Bool) (limit : ℕ) (d : Device) → quiet_ticks boots limit d ≤ limit
unfolding quiet_ticks
quiet_most boots limit d =
    let l : ℕ = above limit d.cycle.left in
    let u : ℕ = above l d.counters.pulse in
    pick_case (λ (k : ℕ). k ≤ limit) (starting boots d) (omega arith)
    (omega (arith, room.quiet_most (oscon d.counters) (divided (watched u d) d) (inputs_of d), divided_most (watched u d) d, watched_most u d, above_most l d.counters.pulse, above_most limit d.cycle.left))

pub quiet_ahead :
    (boots : Bool) (limit : ℕ) (d : Device) → alive d ≡ true → 0 < quiet_ticks boots limit d → Quiet boots (quiet_ticks boots limit d) d
unfolding quiet_ticks
quiet_ahead boots limit d a p =
    by_cases (starting boots d)
    (λ e. let z : 0 < 0 = rw e at p in absurd (omega arith))
    (λ e.
    let g : 0 < events_quiet (oscon d.counters) (divided (watched (above (above limit d.cycle.left) d.counters.pulse) d) d) (inputs_of d) = rw e at p in
    rw e (quiet_of boots limit _ d a e g (omega arith)))
