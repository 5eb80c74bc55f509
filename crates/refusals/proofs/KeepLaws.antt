-- What keeps a record in range: a law for each count and for the registers, each with only what it changes to be shown; and that what leaves
-- frame, cycle, power and mark alone keeps their part of the range.
-- Assumes nothing.
use Prim.Native.Nat.{ℕ, ◌+◌, ◌<◌, ◌≤◌}
use native.Mathlib.Omega.{arith}
use mathlib.Core.Path.{◌≡◌, refl, sym, ap, subst, ◌∙◌}
use mathlib.Core.Bool.{Bool, false}
use mathlib.Core.List.{List}
use lib.Bits.{bit_and, bit_or, and_le_r}
use lib.ListN.{get_or, set}
use Rattle.base.specs.Words.{bit, every}
use Rattle.base.proofs.Every.{bound_below}
use Rattle.base.proofs.BitLaws.{below_mask, inside_and, and_or}
use Rattle.base.proofs.StoreLaws.{set_case}
use Rattle.events.specs.declared.Events.{Events}
use Rattle.events.specs.declared.Inputs.{Inputs}
use Rattle.events.specs.Rows.{EventsIn}
use Rattle.events.proofs.EmbedLaws.{Embeds}
use Rattle.record.specs.declared.Device.{Device}
use Rattle.record.specs.declared.Counters.{Counters}
use Rattle.record.specs.declared.Guard.{Guard}
use Rattle.record.specs.Part.{boots_of}
use Rattle.record.specs.Registers.{st, seconds_at, minutes_at, day_at, date_at, watchdog_at, event_at, power_down_at, kept, period_of, startup_ticks, divider_ticks, long_pulse, delay_ticks}
use Rattle.record.specs.Setters.{with_regs, with_sram, with_counters, with_divider, with_startup, with_watchdog, with_delay, with_pulse, with_guard, with_left, with_events, with_inputs}
use Rattle.record.specs.Stamps.{stamped, unstamped, with_vbat, without_vbat}
use Rattle.record.proofs.StampLaws.{stamp_mask, stamped_each, unstamped_each}
use Rattle.refusals.specs.InRange.{ClockRange, InRange}

-- the range of a device's registers, counts and event inputs, and the four facts of it that read a register
abbrev pub ClockOf : Bool → Device → Type 0
ClockOf boots d = ClockRange boots d.regs d.counters d.events

abbrev pub Inside : ℕ → ℕ → Type 0
Inside k v = bit_and v (get_or kept k 0) ≡ v

abbrev pub AllInside : List ℕ → Type 0
AllInside regs = (k : ℕ) → k < 32 → Inside k (get_or regs k 0)

abbrev pub Paced : Counters → List ℕ → Type 0
Paced c regs = c.watchdog < period_of (get_or regs watchdog_at 0)

abbrev pub Halted : Bool → Counters → List ℕ → Type 0
Halted boots c regs = boots ≡ false → st regs ≡ false → c.startup ≡ 0

abbrev pub Signalled : Events → List ℕ → Type 0
Signalled e regs = EventsIn (get_or regs event_at 0) e

module _ (boots : Bool) (d : Device) (r : ClockOf boots d) where
  pub divider_in : (n : ℕ) → n < divider_ticks → ClockOf boots (with_divider d n)
  divider_in n h =
      record { divider = h; startup = r.startup; pulse = r.pulse; delay = r.delay; watchdog = r.watchdog; stopped = r.stopped; inside = r.inside; events = r.events }

  pub startup_in : (n : ℕ) → n ≤ startup_ticks → (boots ≡ false → st d.regs ≡ false → n ≡ 0) → ClockOf boots (with_startup d n)
  startup_in n h s =
      record { divider = r.divider; startup = h; pulse = r.pulse; delay = r.delay; watchdog = r.watchdog; stopped = s; inside = r.inside; events = r.events }

  pub watchdog_in : (n : ℕ) → n < period_of (get_or d.regs watchdog_at 0) → ClockOf boots (with_watchdog d n)
  watchdog_in n h =
      record { divider = r.divider; startup = r.startup; pulse = r.pulse; delay = r.delay; watchdog = h; stopped = r.stopped; inside = r.inside; events = r.events }

  pub delay_in : (n : ℕ) → n ≤ delay_ticks → ClockOf boots (with_delay d n)
  delay_in n h =
      record { divider = r.divider; startup = r.startup; pulse = r.pulse; delay = h; watchdog = r.watchdog; stopped = r.stopped; inside = r.inside; events = r.events }

  pub pulse_in : (n : ℕ) → n ≤ long_pulse → ClockOf boots (with_pulse d n)
  pulse_in n h =
      record { divider = r.divider; startup = r.startup; pulse = h; delay = r.delay; watchdog = r.watchdog; stopped = r.stopped; inside = r.inside; events = r.events }

  pub regs_in : (regs : List ℕ) → AllInside regs → Paced d.counters regs → Halted boots d.counters regs → Signalled d.events regs
      → ClockOf boots (with_regs d regs)
  regs_in regs i p h e =
      record { divider = r.divider; startup = r.startup; pulse = r.pulse; delay = r.delay; watchdog = p; stopped = h; inside = i; events = e }

  pub events_in : (e : Events) → Signalled e d.regs → ClockOf boots (with_events d e)
  events_in e h =
      record { divider = r.divider; startup = r.startup; pulse = r.pulse; delay = r.delay; watchdog = r.watchdog; stopped = r.stopped; inside = r.inside; events = h }

  -- registers that leave 01h, 0Ah and 0Bh, which the counts read
  pub regs_beside_in :
      (regs : List ℕ) → AllInside regs → get_or regs watchdog_at 0 ≡ get_or d.regs watchdog_at 0 → get_or regs seconds_at 0 ≡ get_or d.regs seconds_at 0
      → get_or regs event_at 0 ≡ get_or d.regs event_at 0 → ClockOf boots (with_regs d regs)
  regs_beside_in regs i p h e =
      regs_in regs i (subst (λ (v : ℕ). d.counters.watchdog < period_of v) (sym p) r.watchdog)
      (subst (λ (v : ℕ). boots ≡ false → bit v 7 ≡ false → d.counters.startup ≡ 0) (sym h) r.stopped)
      (subst (λ (v : ℕ). EventsIn v d.events) (sym e) r.events)

-- a register whose new value is inside its mask
pub set_inside : (regs : List ℕ) (a v : ℕ) → Inside a v → AllInside regs → AllInside (set regs a v)
set_inside regs a v p q k h = set_case (Inside k) regs a k v (λ e. subst (λ (j : ℕ). Inside j v) (sym e) p) (q k h)

-- the byte of 0Bh is the whole byte, and no count but the inputs' reads it
pub inputs_in_lem : (boots : Bool) (d : Device) → ClockOf boots d → (s : Inputs) → Embeds (get_or d.regs event_at 0) s → ClockOf boots (with_inputs d s)
inputs_in_lem boots d r s e =
    record {
      divider = r.divider;
      startup = r.startup;
      pulse = r.pulse;
      delay = r.delay;
      watchdog = set_case (λ (v : ℕ). d.counters.watchdog < period_of v) d.regs event_at watchdog_at s.control (λ q. absurd (omega arith)) r.watchdog;
      stopped = set_case (λ (v : ℕ). boots ≡ false → bit v 7 ≡ false → d.counters.startup ≡ 0) d.regs event_at seconds_at s.control (λ q. absurd (omega arith)) r.stopped;
      inside = set_inside d.regs event_at s.control (below_mask 8 (omega arith) s.control e.byte e.byte) r.inside;
      events = set_case (λ (v : ℕ). EventsIn v s.events) d.regs event_at event_at s.control (λ q. e.new) e.old;
    }

-- of a time-stamp every byte is inside
stamp_byte : (k v : ℕ) → power_down_at ≤ k → k < 32 → v < 256 → Inside k v
stamp_byte k v l h b = rw (stamp_mask k l h) (below_mask 8 (omega arith) v b b)

-- what a register holds is a byte
pub inside_byte : (k v : ℕ) → k < 32 → Inside k v → v < 256
unfolding every
inside_byte k v h i = omega (arith, i, and_le_r v (get_or kept k 0), bound_below (λ (n : ℕ). get_or kept n 0) 256 32 refl k h)

-- so the time copied into a time-stamp, and both cleared, leave registers inside their masks
pub stamped_inside : (a : ℕ) (regs : List ℕ) → power_down_at ≤ a → a + 3 < 32 → AllInside regs → AllInside (stamped a regs)
stamped_inside a regs l h i =
    let b : (k : ℕ) → k < 32 → get_or regs k 0 < 256 = λ k g. inside_byte k (get_or regs k 0) g (i k g) in
    stamped_each (λ k v. k < 32 → Inside k v) a regs
    (λ g. stamp_byte a _ l g (b minutes_at (omega arith)))
    (λ g. stamp_byte (a + 1) _ (omega arith) g (omega arith))
    (λ g. stamp_byte (a + 2) _ (omega arith) g (b date_at (omega arith)))
    (λ g. stamp_byte (a + 3) _ (omega arith) g (omega arith))
    i

pub unstamped_inside : (regs : List ℕ) → AllInside regs → AllInside (unstamped regs)
unstamped_inside regs = unstamped_each (λ k v. k < 32 → Inside k v) regs (λ k l h g. refl)

-- and so does VBAT, set or cleared
pub with_vbat_inside : (regs : List ℕ) → AllInside regs → AllInside (with_vbat regs)
with_vbat_inside regs i =
    set_inside regs day_at _ (and_or (get_or regs day_at 0) 0x10 0x1f ∙ ap (λ (n : ℕ). bit_or n 0x10) (i day_at (omega arith))) i

pub without_vbat_inside : (regs : List ℕ) → AllInside regs → AllInside (without_vbat regs)
without_vbat_inside regs i = set_inside regs day_at _ (inside_and (get_or regs day_at 0) 0xef 0x1f (i day_at (omega arith))) i

-- e has all of d but registers, SRAM, counts and event inputs
pub record Beside (d e : Device) : Type 0 where
  pub power : e.power ≡ d.power
  pub mark : e.mark ≡ d.mark
  pub guard : e.guard ≡ d.guard
  pub frame : e.frame ≡ d.frame
  pub load : e.load ≡ d.load
  pub cycle : e.cycle ≡ d.cycle

-- a device with other registers, SRAM, counts and event inputs
pub beside : (d : Device) {regs sram : List ℕ} {counters : Counters} {e : Events} → Beside d (with_events (with_counters (with_sram (with_regs d regs) sram) counters) e)
beside d = record { power = refl; mark = refl; guard = refl; frame = refl; load = refl; cycle = refl }

-- the other subjects read nothing else
pub in_range_beside : (part : ℕ) (d e : Device) → InRange part d → Beside d e → ClockOf (boots_of part) e → InRange part e
in_range_beside part d e r s k =
    record {
      clock = k;
      frame = rw (s.frame, s.load) r.frame;
      cycle = rw s.cycle r.cycle;
      power = rw (s.power, s.mark, s.frame, s.cycle) r.power;
    }

-- the guard is judged by no row, and a countdown may fall
pub guard_in : (part : ℕ) (d : Device) (g : Guard) → InRange part d → InRange part (with_guard d g)
guard_in part d g r = record { clock = r.clock; frame = r.frame; cycle = r.cycle; power = r.power }

pub left_in : (part : ℕ) (d : Device) (k : ℕ) → k ≤ d.cycle.left → InRange part d → InRange part (with_left d k)
left_in part d k h r =
    record {
      clock = r.clock;
      frame = r.frame;
      cycle = record { countdown = omega (arith, r.cycle.countdown); place = r.cycle.place };
      power = record { unmarked = r.power.unmarked; idle = r.power.idle; still = λ o. omega (arith, r.power.still o); heard = λ l. r.power.heard (omega arith) };
    }
