-- What a tick's parts leave alone. Oscillator, watchdog, event inputs, calendar and alarms touch the registers, the counts and the inputs, and nothing else.
-- Assumes nothing.
use mathlib.Core.Path.{◌≡◌, refl, ◌∙◌}
use mathlib.Core.Bool.{Bool}
use mathlib.Core.List.{List}
use Prim.Native.Nat.{ℕ, ◌+◌}
use lib.Dec.{ltb}
use lib.ListN.{get_or}
use Rattle.base.proofs.Tests.{pick_case}
use Rattle.events.specs.declared.Events.{Events}
use Rattle.record.specs.declared.Device.{Device}
use Rattle.record.specs.declared.Counters.{Counters}
use Rattle.record.specs.Registers.{oscon, watchdog_at, period_of}
use Rattle.record.specs.Setters.{with_regs, with_counters, with_events}
use Rattle.refusals.proofs.KeepLaws.{Beside, beside}
use Rattle.ticks.specs.Oscillator.{starting, oscillator_tick}
use Rattle.ticks.specs.Watchdog.{counting, watchdog_tick}
use Rattle.ticks.specs.Event.{event_tick}
use Rattle.ticks.specs.Clock.{running, divider_tick, calendar_tick}
use Rattle.ticks.specs.Tick.{clockwork}

-- e has all of d but its registers, counts and event inputs
pub record ClockOnly (d e : Device) : Type 0 where
  pub sram : e.sram ≡ d.sram
  pub others : Beside d e

-- a device with others of these
clock_only : (d : Device) {regs : List ℕ} {counters : Counters} {e : Events} → ClockOnly d (with_events (with_counters (with_regs d regs) counters) e)
clock_only d = record { sram = refl; others = beside d }

only_then : {d e f : Device} → ClockOnly d e → ClockOnly e f → ClockOnly d f
only_then p q =
    record {
      sram = q.sram ∙ p.sram;
      others =
          record {
            power = q.others.power ∙ p.others.power;
            mark = q.others.mark ∙ p.others.mark;
            guard = q.others.guard ∙ p.others.guard;
            frame = q.others.frame ∙ p.others.frame;
            load = q.others.load ∙ p.others.load;
            cycle = q.others.cycle ∙ p.others.cycle;
          };
    }

oscillator_keeps : (boots : Bool) (d : Device) → ClockOnly d (oscillator_tick boots d)
unfolding oscillator_tick
oscillator_keeps boots d = pick_case (ClockOnly d) (starting boots d) (clock_only d) (clock_only d)

watchdog_keeps : (counted : Bool) (d : Device) → ClockOnly d (watchdog_tick counted d)
unfolding watchdog_tick
watchdog_keeps counted d =
    pick_case (ClockOnly d) (counting counted (get_or d.regs watchdog_at 0))
    (pick_case (ClockOnly d) (ltb 0 d.counters.delay) (clock_only d)
    (pick_case (ClockOnly d) (ltb (d.counters.watchdog + 1) (period_of (get_or d.regs watchdog_at 0))) (clock_only d) (clock_only d)))
    (clock_only d)

event_keeps : (counted : Bool) (d : Device) → ClockOnly d (event_tick counted d)
unfolding event_tick
event_keeps counted d = clock_only d

-- calendar and alarms: the divider, and other registers
calendar_keeps : (runs : Bool) (d : Device) (regs : List ℕ) → ClockOnly d (with_regs (divider_tick runs d) regs)
calendar_keeps runs d regs = pick_case (λ (e : Device). ClockOnly d (with_regs e regs)) runs (clock_only d) (clock_only d)

pub clockwork_keeps : (boots : Bool) (d : Device) → ClockOnly d (clockwork boots d)
unfolding clockwork calendar_tick
clockwork_keeps boots d =
    let c : Bool = oscon d.counters in
    let o : Device = oscillator_tick boots d in
    let w : Device = watchdog_tick c o in
    let v : Device = event_tick c w in
    only_then (only_then (only_then (oscillator_keeps boots d) (watchdog_keeps c o)) (event_keeps c w)) (calendar_keeps (running c v) v _)
