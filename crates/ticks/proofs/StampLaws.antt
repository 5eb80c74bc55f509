-- No tick and no wait changes a time-stamp, VBAT or the mark of a power failure, whatever the record is.
-- Assumes nothing.
use mathlib.Core.Path.{◌≡◌, refl, ap, ◌∙◌}
use mathlib.Core.Bool.{Bool}
use mathlib.Core.List.{List}
use Prim.Native.Nat.{ℕ}
use native.Mathlib.Omega.{arith}
use lib.ListN.{get_or}
use lib.Seq.{get_or-set_other}
use Rattle.base.proofs.Tests.{pick_case}
use Rattle.base.proofs.WaitLaws.{wait_each}
use Rattle.record.specs.declared.Device.{Device}
use Rattle.record.specs.Registers.{vbat, oscon, watchdog_at, event_at}
use Rattle.record.specs.Stamps.{SameStamps}
use Rattle.ticks.specs.Lines.{changed}
use Rattle.ticks.specs.Oscillator.{oscillator_tick}
use Rattle.ticks.specs.Watchdog.{watchdog_tick}
use Rattle.ticks.specs.Event.{event_tick}
use Rattle.ticks.specs.Tick.{cycle_device, clockwork, alive}
use Rattle.ticks.specs.RecordTick.{device_tick, device_waited}
use Rattle.ticks.proofs.ClockLaws.{clock_other}
use Rattle.ticks.proofs.TickLaws.{cycle_step, device_ticked, watchdog_case, event_case, oscillator_regs, clockwork_vbat}

pub record StampsStay (d e : Device) : Type 0 where
  pub stamps : SameStamps d.regs e.regs
  pub vbat : vbat e.regs ≡ vbat d.regs
  pub mark : e.mark ≡ d.mark

pub stay_then : {d e f : Device} → StampsStay d e → StampsStay e f → StampsStay d f
stay_then p q =
    record { stamps = λ k h. q.stamps k h ∙ p.stamps k h; vbat = q.vbat ∙ p.vbat; mark = q.mark ∙ p.mark }

-- oscillator, watchdog, calendar and alarms
clockwork_stamps : (boots : Bool) (d : Device) → SameStamps d.regs (clockwork boots d).regs
unfolding clockwork
clockwork_stamps boots d k h =
    let o : Device = oscillator_tick boots d in
    let c : Bool = oscon d.counters in
    clock_other c (event_tick c (watchdog_tick c o)) k (omega arith) (λ e. omega arith) (λ e. omega arith)
    ∙ event_case (λ (l : List ℕ). get_or l k 0 ≡ get_or (watchdog_tick c o).regs k 0) c (watchdog_tick c o)
    (λ v. get_or-set_other (watchdog_tick c o).regs event_at k v 0 (λ e. omega arith))
    ∙ watchdog_case (λ (l : List ℕ). get_or l k 0 ≡ get_or o.regs k 0) c o refl
    (λ v. get_or-set_other o.regs watchdog_at k v 0 (λ e. omega arith))
    ∙ ap (λ (l : List ℕ). get_or l k 0) (oscillator_regs boots d)

pub tick_stamps : (boots : Bool) (d : Device) → StampsStay d (device_tick boots d)
unfolding device_tick
tick_stamps boots d =
    let e : Device = cycle_device d in
    let s : e.regs ≡ d.regs = (cycle_step d).regs in
    record {
      stamps =
          pick_case (λ (x : Device). SameStamps d.regs x.regs) (alive d)
          (λ k h. clockwork_stamps boots e k h ∙ ap (λ (l : List ℕ). get_or l k 0) s) (λ k h. refl);
      vbat = pick_case (λ (x : Device). vbat x.regs ≡ vbat d.regs) (alive d) (clockwork_vbat boots e ∙ ap vbat s) refl;
      mark = (device_ticked boots d).still.mark;
    }

pub wait_stamps : (boots : Bool) (n : ℕ) (d : Device) → StampsStay d (device_waited boots n d).after
wait_stamps boots =
    wait_each (device_tick boots) changed (λ n d r. StampsStay d r.after)
    (λ d. record { stamps = λ k h. refl; vbat = refl; mark = refl })
    (λ n d c. tick_stamps boots d)
    (λ n d r c s. stay_then (tick_stamps boots d) s)
