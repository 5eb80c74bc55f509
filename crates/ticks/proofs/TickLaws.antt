-- Laws of one tick: what it does to the write cycle, the guard and both memories, and what it leaves alone. A tick's record is the record's tick.
-- Assumes nothing.
use mathlib.Core.Path.{◌≡◌, refl, ap, ◌∙◌}
use mathlib.Core.Bool.{Bool, false, ◌||◌}
use mathlib.Core.List.{List}
use Prim.Native.Nat.{ℕ, ◌+◌, ◌-◌}
use native.Mathlib.Omega.{arith}
use borrow.Author.Tests.{eqb-true, ne_eqb}
use lib.Dec.{ltb, eqb}
use lib.ListN.{length, get_or, set, length-set}
use Rattle.base.specs.Words.{pick, bit}
use Rattle.base.proofs.Tests.{by_cases, yes, no, pick_case, pick_when, pick_map}
use Rattle.base.proofs.StoreLaws.{set_case}
use Rattle.record.specs.declared.Device.{Device}
use Rattle.record.specs.declared.Cycle.{Cycle}
use Rattle.record.specs.declared.Guard.{Guard}
use Rattle.record.specs.Registers.{vbaten, vbat, oscon, day_at, watchdog_at, event_at, period_of}
use Rattle.record.specs.Setters.{with_guard, with_left}
use Rattle.record.specs.World.{World}
use Rattle.record.specs.Stored.{whole_mask, eeprom_after, id_after, protection_after}
use Rattle.ticks.specs.Oscillator.{starting, oscillator_tick}
use Rattle.ticks.specs.Watchdog.{counting, watchdog_tick}
use Rattle.ticks.specs.Event.{event_tick}
use Rattle.ticks.specs.Clock.{calendar_tick, alarm_tick}
use Rattle.ticks.specs.Tick.{cycle_device, cycle_tick, clockwork, alive, tick}
use Rattle.ticks.specs.RecordTick.{device_tick, ends}
use Rattle.ticks.proofs.ClockLaws.{clock_vbaten, clock_vbat, clock_regs_length}
use Rattle.ticks.proofs.KeepLaws.{ClockOnly, clockwork_keeps}

-- the record's part of a tick
pub tick_device : (boots : Bool) (w : World) → (tick boots w).device ≡ device_tick boots w.device
unfolding tick device_tick cycle_tick
tick_device boots w = pick_map (λ (x : World). x.device) (alive w.device) _ _

-- What no tick changes.
pub record Steady (d e : Device) : Type 0 where
  pub sram : e.sram ≡ d.sram
  pub power : e.power ≡ d.power
  pub mark : e.mark ≡ d.mark
  pub frame : e.frame ≡ d.frame
  pub load : e.load ≡ d.load
  pub target : e.cycle.target ≡ d.cycle.target
  pub lock : e.guard.lock ≡ d.guard.lock

pub steady : (d : Device) → Steady d d
steady d = record { sram = refl; power = refl; mark = refl; frame = refl; load = refl; target = refl; lock = refl }

pub steady_then : {d e f : Device} → Steady d e → Steady e f → Steady d f
steady_then p q =
    record {
      sram = q.sram ∙ p.sram;
      power = q.power ∙ p.power;
      mark = q.mark ∙ p.mark;
      frame = q.frame ∙ p.frame;
      load = q.load ∙ p.load;
      target = q.target ∙ p.target;
      lock = q.lock ∙ p.lock;
    }

-- What the write cycle's part does, where `last` says that the cycle has one tick left.
pub record CycleStep (last : Bool) (d e : Device) : Type 0 where
  pub still : Steady d e
  pub regs : e.regs ≡ d.regs
  pub left : e.cycle.left ≡ d.cycle.left - 1
  pub wel : e.guard.wel ≡ pick last false d.guard.wel
  pub protection : e.guard.protection ≡ pick last (protection_after whole_mask d.guard.protection d.cycle.target) d.guard.protection

step_of :
    (last : Bool) (d : Device) (g : Guard) (k : ℕ) → k ≡ d.cycle.left - 1 → g.wel ≡ pick last false d.guard.wel
    → g.protection ≡ pick last (protection_after whole_mask d.guard.protection d.cycle.target) d.guard.protection
    → g.lock ≡ d.guard.lock → CycleStep last d (with_guard (with_left d k) g)
step_of last d g k left wel protection lock =
    record {
      still = record { sram = refl; power = refl; mark = refl; frame = refl; load = refl; target = refl; lock = lock };
      regs = refl;
      left = left;
      wel = wel;
      protection = protection;
    }

pub cycle_step : (d : Device) → CycleStep (eqb d.cycle.left 1) d (cycle_device d)
unfolding cycle_device
cycle_step d =
    let left = d.cycle.left in
    let g = d.guard in
    pick_when (CycleStep (eqb left 1) d) (eqb left 0)
    (λ z.
    let e : left ≡ 0 = eqb-true left 0 z in
    let o : eqb left 1 ≡ false = ne_eqb left 1 (omega arith) in
    step_of (eqb left 1) d g left (omega arith) (no _ _ o) (no _ _ o) refl)
    (λ z.
    pick_when (CycleStep (eqb left 1) d) (eqb left 1)
    (λ o.
    let e : left ≡ 1 = eqb-true left 1 o in
    step_of (eqb left 1) d (record { wel = false; protection = protection_after whole_mask g.protection d.cycle.target; lock = g.lock }) 0
    (omega arith) (yes _ _ o) (yes _ _ o) refl)
    (λ o. step_of (eqb left 1) d g (left - 1) refl (no _ _ o) (no _ _ o) refl))

-- What a tick does to all but registers and counts. A cycle that ends at it clears WEL, and one of STATUS changes the protection.
pub record Ticked (d e : Device) : Type 0 where
  pub still : Steady d e
  pub left : e.cycle.left ≡ pick (alive d) (d.cycle.left - 1) d.cycle.left
  pub wel : e.guard.wel ≡ pick (ends d) false d.guard.wel
  pub protection : e.guard.protection ≡ pick (ends d) (protection_after whole_mask d.guard.protection d.cycle.target) d.guard.protection

only_steady : {d e : Device} → ClockOnly d e → Steady d e
only_steady k =
    record {
      sram = k.sram;
      power = k.others.power;
      mark = k.others.mark;
      frame = k.others.frame;
      load = k.others.load;
      target = ap (λ (y : Cycle). y.target) k.others.cycle;
      lock = ap (λ (g : Guard). g.lock) k.others.guard;
    }

pub device_ticked : (boots : Bool) (d : Device) → Ticked d (device_tick boots d)
unfolding device_tick
device_ticked boots d =
    let s : CycleStep (eqb d.cycle.left 1) d (cycle_device d) = cycle_step d in
    let k : ClockOnly (cycle_device d) (clockwork boots (cycle_device d)) = clockwork_keeps boots (cycle_device d) in
    pick_when (Ticked d) (alive d)
    (λ a.
    record {
      still = steady_then s.still (only_steady k);
      left = ap (λ (y : Cycle). y.left) k.others.cycle ∙ s.left ∙ simp a;
      wel = ap (λ (g : Guard). g.wel) k.others.guard ∙ s.wel ∙ simp a;
      protection = ap (λ (g : Guard). g.protection) k.others.guard ∙ s.protection ∙ simp a;
    })
    (λ a. record { still = steady d; left = simp a; wel = simp a; protection = simp a })

pub ticked : (boots : Bool) (w : World) → Ticked w.device (tick boots w).device
ticked boots w = rw (tick_device boots w) (device_ticked boots w.device)

-- the memories change where a cycle ends
pub tick_eeprom :
    (boots : Bool) (w : World)
    → (tick boots w).eeprom ≡ pick (ends w.device) (eeprom_after w.device.load whole_mask w.eeprom w.device.cycle.target) w.eeprom
unfolding tick cycle_tick
tick_eeprom boots w = by_cases (alive w.device) (λ a. simp a) (λ a. simp a)

pub tick_id :
    (boots : Bool) (w : World)
    → (tick boots w).id ≡ pick (ends w.device) (id_after w.device.load whole_mask w.id w.device.cycle.target) w.id
unfolding tick cycle_tick
tick_id boots w = by_cases (alive w.device) (λ a. simp a) (λ a. simp a)

-- a tick of a chip that is not alive changes nothing
pub tick_dead : (boots : Bool) (w : World) → alive w.device ≡ false → tick boots w ≡ w
unfolding tick
tick_dead boots w a = simp a

-- What the watchdog's part does to the registers: nothing, or it sets WDTIF.
pub watchdog_case :
    (P : List ℕ → Type 0) (counted : Bool) (d : Device) → P d.regs → ((v : ℕ) → P (set d.regs watchdog_at v)) → P (watchdog_tick counted d).regs
unfolding watchdog_tick
watchdog_case P counted d p q =
    let Q : Device → Type 0 = λ e. P e.regs in
    pick_case Q (counting counted (get_or d.regs watchdog_at 0))
    (pick_case Q (ltb 0 d.counters.delay) p
    (pick_case Q (ltb (d.counters.watchdog + 1) (period_of (get_or d.regs watchdog_at 0))) p (q _)))
    p

-- that of the event inputs stores a byte in 0Bh
pub event_case : (P : List ℕ → Type 0) (counted : Bool) (d : Device) → ((v : ℕ) → P (set d.regs event_at v)) → P (event_tick counted d).regs
unfolding event_tick
event_case P counted d q = q _

pub oscillator_regs : (boots : Bool) (d : Device) → (oscillator_tick boots d).regs ≡ d.regs
unfolding oscillator_tick
oscillator_regs boots d = pick_case (λ (e : Device). e.regs ≡ d.regs) (starting boots d) refl refl

-- a bit of 04h that calendar and alarms leave stays: VBATEN and VBAT
clockwork_bit :
    (k : ℕ) → ((c : Bool) (d : Device) → bit (get_or (alarm_tick c d (calendar_tick c d)).regs day_at 0) k ≡ bit (get_or d.regs day_at 0) k)
    → (boots : Bool) (d : Device) → bit (get_or (clockwork boots d).regs day_at 0) k ≡ bit (get_or d.regs day_at 0) k
unfolding clockwork
clockwork_bit k stays boots d =
    let o : Device = oscillator_tick boots d in
    let c : Bool = oscon d.counters in
    let old : Bool = bit (get_or o.regs day_at 0) k in
    stays c (event_tick c (watchdog_tick c o))
    ∙ event_case (λ (l : List ℕ). bit (get_or l day_at 0) k ≡ bit (get_or (watchdog_tick c o).regs day_at 0) k) c (watchdog_tick c o)
    (λ v. set_case (λ (x : ℕ). bit x k ≡ bit (get_or (watchdog_tick c o).regs day_at 0) k) (watchdog_tick c o).regs event_at day_at v (λ e. absurd (omega arith)) refl)
    ∙ watchdog_case (λ (l : List ℕ). bit (get_or l day_at 0) k ≡ old) c o refl
    (λ v. set_case (λ (x : ℕ). bit x k ≡ old) o.regs watchdog_at day_at v (λ e. absurd (omega arith)) refl)
    ∙ ap (λ (l : List ℕ). bit (get_or l day_at 0) k) (oscillator_regs boots d)

-- so a chip that is alive is alive after a tick
clockwork_vbaten : (boots : Bool) (d : Device) → vbaten (clockwork boots d).regs ≡ vbaten d.regs
clockwork_vbaten = clockwork_bit 3 clock_vbaten

pub clockwork_vbat : (boots : Bool) (d : Device) → vbat (clockwork boots d).regs ≡ vbat d.regs
clockwork_vbat = clockwork_bit 4 clock_vbat

pub device_alive : (boots : Bool) (d : Device) → alive (device_tick boots d) ≡ alive d
unfolding device_tick
device_alive boots d =
    pick_when (λ (e : Device). alive e ≡ alive d) (alive d)
    (λ a.
    let s : CycleStep (eqb d.cycle.left 1) d (cycle_device d) = cycle_step d in
    let k : ClockOnly (cycle_device d) (clockwork boots (cycle_device d)) = clockwork_keeps boots (cycle_device d) in
    ap (λ (p : Bool). p || vbaten (clockwork boots (cycle_device d)).regs) (k.others.power ∙ s.still.power)
    ∙ ap (λ (b : Bool). d.power || b) (clockwork_vbaten boots (cycle_device d) ∙ ap vbaten s.regs))
    (λ a. refl)

-- the number of registers
pub device_tick_regs_length : (boots : Bool) (d : Device) → length (device_tick boots d).regs ≡ length d.regs
unfolding device_tick clockwork
device_tick_regs_length boots d =
    let e : Device = cycle_device d in
    let c : Bool = oscon e.counters in
    let o : Device = oscillator_tick boots e in
    pick_case (λ (x : Device). length x.regs ≡ length d.regs) (alive d)
    (clock_regs_length c (event_tick c (watchdog_tick c o))
    ∙ event_case (λ (l : List ℕ). length l ≡ length (watchdog_tick c o).regs) c (watchdog_tick c o) (λ v. length-set (watchdog_tick c o).regs event_at v)
    ∙ watchdog_case (λ (l : List ℕ). length l ≡ length o.regs) c o refl (λ v. length-set o.regs watchdog_at v)
    ∙ ap length (oscillator_regs boots e ∙ (cycle_step d).regs))
    refl
