-- Laws of the code's turns: what the parts of the number of quiet ticks join to, that the counts of a jump fit their fields, and what
-- a jump and a chip that is not alive do to a wait.
-- Assumes nothing.
use Prim.Native.Nat.{ℕ, ◌+◌, ◌-◌, ◌%◌, ◌<◌, ◌≤◌}
use mathlib.Core.Path.{◌≡◌, refl, sym, ap, subst, ◌∙◌}
use mathlib.Core.Bool.{Bool, true, false, ◌&&◌}
use mathlib.Core.List.{[]}
use native.Mathlib.Omega.{arith}
use lib.Dec.{eqb}
use lib.ListN.{get_or}
use Rattle.base.specs.Words.{pick}
use Rattle.base.specs.Wait.{Waited}
use Rattle.base.proofs.Tests.{no, pick_when, both_left, both_right}
use Rattle.events.specs.Jump.{events_quiet, events_jumped}
use Rattle.record.specs.declared.Device.{Device}
use Rattle.record.specs.Registers.{oscon, watchdog_at}
use Rattle.record.specs.Setters.{with_counters, with_left, with_events, inputs_of}
use Rattle.ticks.specs.Oscillator.{starting}
use Rattle.record.specs.World.{World, world}
use Rattle.ticks.specs.Tick.{alive}
use Rattle.ticks.specs.RecordTick.{device_waited}
use Rattle.record.proofs.PeriodLaws.{period_most}
use Rattle.ticks.proofs.WaitLaws.{wait_dead, wait_device}
use Rattle.waits.specs.Jump.{Quiet, watchdog_runs, clock_runs, jumped, above, watched, divided, quiet_ticks}
use Rattle.waits.proofs.JumpLaws.{all_same, counters_same, quiet_most, quiet_ahead}

-- the number of quiet ticks, from one limit to the next
pub quiet_parts :
    (boots : Bool) (limit : ℕ) (d : Device) {a b w v r : ℕ}
    → starting boots d ≡ false
    → a ≡ above limit d.cycle.left → b ≡ above a d.counters.pulse → w ≡ watched b d → v ≡ divided w d
    → r ≡ events_quiet (oscon d.counters) v (inputs_of d)
    → r ≡ quiet_ticks boots limit d
unfolding quiet_ticks
quiet_parts boots limit d e p q s t u =
    u
    ∙ ap (λ (n : ℕ). events_quiet (oscon d.counters) n (inputs_of d))
    (t ∙ ap (λ (n : ℕ). divided n d) (s ∙ ap (λ (n : ℕ). watched n d) (q ∙ ap (λ (n : ℕ). above n d.counters.pulse) p))) ∙ no _ _ e

-- a number that the code got is quiet, where it is above 0, and no more than the limit
pub quiet_got : (boots : Bool) (limit : ℕ) (d : Device) {k : ℕ} → alive d ≡ true → k ≡ quiet_ticks boots limit d → 0 < k → Quiet boots k d
quiet_got boots limit d a e p =
    subst (λ (n : ℕ). Quiet boots n d) (sym e) (quiet_ahead boots limit d a (subst (λ (n : ℕ). 0 < n) e p))

pub quiet_within : (boots : Bool) (limit : ℕ) (d : Device) {k : ℕ} → k ≡ quiet_ticks boots limit d → k ≤ limit
quiet_within boots limit d e = omega (arith, quiet_most boots limit d)

-- the counts that a jump raises fit
pub divider_fits :
    (boots : Bool) (k : ℕ) (d : Device) → Quiet boots k d → d.counters.divider < 65536
    → pick (clock_runs d) (d.counters.divider + k) d.counters.divider < 65536
divider_fits boots k d q h = pick_when (λ (n : ℕ). n < 65536) (clock_runs d) (λ e. omega (arith, q.small e)) (λ e. h)

pub watchdog_fits :
    (boots : Bool) (k : ℕ) (d : Device) → Quiet boots k d → d.counters.watchdog < 4294967296
    → pick (watchdog_runs d && eqb d.counters.delay 0) (d.counters.watchdog + k) d.counters.watchdog < 4294967296
watchdog_fits boots k d q h =
    pick_when (λ (n : ℕ). n < 4294967296) (watchdog_runs d && eqb d.counters.delay 0)
    (λ e.
    omega (
      arith,
      q.watchdog (both_left (watchdog_runs d) (eqb d.counters.delay 0) e) (both_right (watchdog_runs d) (eqb d.counters.delay 0) e),
      period_most (get_or d.regs watchdog_at 0),
    ))
    (λ e. h)

lowered_fits : (t : Bool) (n k m : ℕ) → n < m → pick t (n - k) n < m
lowered_fits t n k m h = pick_when (λ (x : ℕ). x < m) t (λ e. omega arith) (λ e. h)

-- so the code's device is the jump's
pub jump_made :
    (boots : Bool) (k : ℕ) (d : Device) → Quiet boots k d
    → d.cycle.left < 256 → d.counters.divider < 65536 → d.counters.watchdog < 4294967296 → d.counters.delay < 4294967296 → d.counters.pulse < 65536
    → with_events
    (with_counters (with_left d ((d.cycle.left - k) % 256))
    (record {
      divider = pick (clock_runs d) (d.counters.divider + k) d.counters.divider % 65536;
      startup = d.counters.startup;
      watchdog = pick (watchdog_runs d && eqb d.counters.delay 0) (d.counters.watchdog + k) d.counters.watchdog % 4294967296;
      delay = pick (watchdog_runs d) (d.counters.delay - k) d.counters.delay % 4294967296;
      pulse = (d.counters.pulse - k) % 65536;
    }))
    (events_jumped (oscon d.counters) k (inputs_of d)).events
    ≡ jumped k d
unfolding jumped
jump_made boots k d q l s w y p =
    all_same d (omega arith)
    (counters_same (omega (arith, divider_fits boots k d q s)) refl (omega (arith, watchdog_fits boots k d q w))
    (omega (arith, lowered_fits (watchdog_runs d) d.counters.delay k 4294967296 y)) (omega arith))
    refl

-- a jump leaves the chip alive
pub jumped_alive : (k : ℕ) (d : Device) → alive (jumped k d) ≡ alive d
unfolding jumped
jumped_alive k d = refl

-- a chip that is not alive waits all the ticks, and nothing changes
pub device_wait_dead : (boots : Bool) (n : ℕ) (d : Device) → alive d ≡ false → device_waited boots n d ≡ record { used = n; after = d }
device_wait_dead boots n d a =
    let w : World = world d [] [] in
    wait_device boots n w ∙ ap (λ (r : Waited World). record { used = r.used; after = r.after.device }) (wait_dead boots n w a)
