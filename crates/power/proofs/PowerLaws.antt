-- How many bytes a power cut stores, and what a cut and power up keep: a record in range, the lengths of its lists and memories, and bytes.
-- Assumes nothing.
use Prim.Native.Nat.{ℕ, ◌+◌, ◌%◌, ◌<◌, ◌≤◌}
use native.Mathlib.Omega.{arith}
use mathlib.Core.Path.{◌≡◌, refl, sym, ap, ◌∙◌}
use mathlib.Core.Bool.{Bool, true, false, true≢false, false≢true}
use mathlib.Core.Logic.{inl, ◌≢◌}
use mathlib.Core.List.{List}
use lib.Bits.{bit_and, and_le_r}
use lib.Count.{ones, ones-le}
use lib.Dec.{eqb}
use lib.ListN.{length, get_or, set, length-set}
use lib.Seq.{get_or-set_other}
use mir.Val.{Fits}
use mir.Syntax.{w8}
use Rattle.base.specs.Words.{bit, members, changes}
use Rattle.base.proofs.Tests.{pick_case, pick_when, flag_below}
use Rattle.base.proofs.BitLaws.{count_ones, members_most, below_mask}
use Rattle.base.proofs.StoreLaws.{set_case, store_changes}
use Rattle.record.specs.declared.Device.{Device}
use Rattle.record.specs.declared.EepromAddress.{EepromAddress}
use Rattle.record.specs.declared.Guard.{Guard}
use Rattle.record.specs.declared.IdAddress.{IdAddress}
use Rattle.record.specs.declared.Load.{Load}
use Rattle.record.specs.declared.Target.{Target}
use Rattle.record.specs.declared.Target.TheVariants.{Eeprom, Id, Status}
use Rattle.record.specs.Address.{page_of}
use Rattle.record.specs.Fresh.{fresh}
use Rattle.record.specs.Part.{boots_of}
use Rattle.record.specs.Registers.{vbaten, seconds_at, day_at, watchdog_at, event_at, power_down_at, power_up_at}
use Rattle.record.specs.Stamps.{stamped}
use Rattle.record.specs.Setters.{with_regs, with_watchdog, with_delay, with_pulse}
use Rattle.record.specs.Stored.{stored_set, stored_count, store_page}
use Rattle.record.specs.World.{World, Sized}
use Rattle.record.proofs.PeriodLaws.{period_least}
use Rattle.record.proofs.StampLaws.{stamped_other, stamped_length}
use Rattle.record.proofs.WorldLaws.{sized_by, replicate_bytes, eeprom_case, id_case}
use Rattle.refusals.specs.InRange.{InRange}
use Rattle.events.specs.Pins.{no_counts}
use Rattle.events.specs.Rows.{EventsIn}
use Rattle.events.proofs.EmbedLaws.{counts_none}
use Rattle.refusals.proofs.RangeLaws.{fresh_facts}
use Rattle.refusals.proofs.KeepLaws.{ClockOf, AllInside, Beside, beside, watchdog_in, delay_in, pulse_in, regs_in, events_in, regs_beside_in, set_inside, stamped_inside, with_vbat_inside, in_range_beside}
use Rattle.power.specs.Power.{watchdog_cut, takes_stamp, failure_stamped, forgotten, stopped_by, after_cut, cut_count, cut_world, return_stamped, after_up}

-- The ones of the loaded offsets under a mask are the offsets that are stored.
under_mask_lem : (offsets mask : ℕ) → mask < 256 → bit_and offsets mask < 256
under_mask_lem offsets mask h = omega (arith, and_le_r offsets mask)

pub ones_stored : (offsets mask : ℕ) → mask < 256 → ones (bit_and offsets mask) ≡ members (bit_and offsets mask) 8
ones_stored offsets mask h = count_ones (bit_and offsets mask) (under_mask_lem offsets mask h)

pub ones_fit : (offsets mask : ℕ) → mask < 256 → Fits w8 (ones (bit_and offsets mask))
ones_fit offsets mask h = record { fits = omega (arith, ones-le 8 (bit_and offsets mask) (under_mask_lem offsets mask h)) }

-- a cut on the battery
abbrev battery_cut : ℕ → Device → Device
battery_cut mask d = watchdog_cut (with_regs (stopped_by mask d) (failure_stamped d.regs))

-- What holds of both ends of the clock holds of a cut; beside the clock a cut is what it stops.
pub cut_case :
    (P : Device → Type 0) (mask : ℕ) (d : Device) → (vbaten d.regs ≡ true → P (battery_cut mask d))
    → (vbaten d.regs ≡ false → P (forgotten (stopped_by mask d))) → P (after_cut mask d)
unfolding after_cut
cut_case P mask d p q = pick_when P (vbaten d.regs) p q

pub cut_beside : (mask : ℕ) (d : Device) → Beside (stopped_by mask d) (after_cut mask d)
cut_beside mask d = cut_case (Beside (stopped_by mask d)) mask d (λ t. beside (stopped_by mask d)) (λ t. beside (stopped_by mask d))

-- P6. A cut clears WEL.
pub cut_wel : (mask : ℕ) (d : Device) → (after_cut mask d).guard.wel ≡ false
cut_wel mask d = ap (λ (g : Guard). g.wel) (cut_beside mask d).guard

-- A cut leaves a record in range, whatever its mask.
stopped_in_range : (part mask : ℕ) (d : Device) → InRange part d → InRange part (stopped_by mask d)
stopped_in_range part mask d r =
    record {
      clock = r.clock;
      frame = record { offset = r.frame.offset; place = record { id = omega arith; eeprom = omega arith } };
      cycle = record { countdown = omega arith; place = r.cycle.place };
      power = record { unmarked = λ o. absurd (false≢true o); idle = λ o. refl; still = λ o. refl; heard = λ h. refl };
    }

watchdog_cut_in : (boots : Bool) (d : Device) → ClockOf boots d → ClockOf boots (watchdog_cut d)
watchdog_cut_in boots d r =
    let v : ℕ = get_or d.regs watchdog_at 0 % 128 in
    let b : v < 256 = omega arith in
    let e : Device = with_pulse (with_delay (with_watchdog d 0) 0) 0 in
    regs_in boots e
    (pulse_in boots (with_delay (with_watchdog d 0) 0)
    (delay_in boots (with_watchdog d 0) (watchdog_in boots d r 0 (omega (arith, period_least (get_or d.regs watchdog_at 0)))) 0 (omega arith))
    0 (omega arith))
    (set d.regs watchdog_at v) (set_inside d.regs watchdog_at v (below_mask 8 (omega arith) v b b) r.inside)
    (omega (arith, period_least (get_or (set d.regs watchdog_at v) watchdog_at 0)))
    (set_case (λ (x : ℕ). boots ≡ false → bit x 7 ≡ false → d.counters.startup ≡ 0) d.regs watchdog_at seconds_at v (λ q. absurd (omega arith)) r.stopped)
    (set_case (λ (x : ℕ). EventsIn x d.events) d.regs watchdog_at event_at v (λ q. absurd (omega arith)) r.events)

-- The time-stamp of a failure, and VBAT: inside their masks, and beside what the counts read.
failure_inside : (regs : List ℕ) → AllInside regs → AllInside (failure_stamped regs)
failure_inside regs i =
    let l : List ℕ = stamped power_down_at regs in
    pick_case AllInside (takes_stamp regs) (with_vbat_inside l (stamped_inside power_down_at regs (omega arith) (omega arith) i)) i

failure_other : (regs : List ℕ) (k : ℕ) → k < power_down_at → k ≢ day_at → get_or (failure_stamped regs) k 0 ≡ get_or regs k 0
failure_other regs k h n =
    pick_case (λ (l : List ℕ). get_or l k 0 ≡ get_or regs k 0) (takes_stamp regs)
    (get_or-set_other (stamped power_down_at regs) day_at k _ 0 n ∙ stamped_other power_down_at regs k (inl h)) refl

failure_length : (regs : List ℕ) → length (failure_stamped regs) ≡ length regs
failure_length regs =
    pick_case (λ (l : List ℕ). length l ≡ length regs) (takes_stamp regs)
    (length-set (stamped power_down_at regs) day_at _ ∙ stamped_length power_down_at regs) refl

failure_in : (boots : Bool) (d : Device) → ClockOf boots d → ClockOf boots (with_regs d (failure_stamped d.regs))
failure_in boots d r =
    let regs : List ℕ = d.regs in
    regs_beside_in boots d r (failure_stamped regs) (failure_inside regs r.inside)
    (failure_other regs watchdog_at (omega arith) (λ e. omega arith)) (failure_other regs seconds_at (omega arith) (λ e. omega arith))
    (failure_other regs event_at (omega arith) (λ e. omega arith))

pub cut_in_range : (part mask : ℕ) (d : Device) → InRange part d → InRange part (after_cut mask d)
unfolding fresh
cut_in_range part mask d r =
    let boots : Bool = boots_of part in
    in_range_beside part (stopped_by mask d) (after_cut mask d) (stopped_in_range part mask d r) (cut_beside mask d)
    (cut_case (ClockOf boots) mask d
    (λ t. watchdog_cut_in boots (with_regs (stopped_by mask d) (failure_stamped d.regs)) (failure_in boots (stopped_by mask d) r.clock))
    (λ t. events_in boots fresh (fresh_facts part).clock (no_counts d.events) (counts_none 0 d.events r.clock.events.door r.clock.events.drum)))

pub cut_sized : (mask : ℕ) (d : Device) → Sized d → Sized (after_cut mask d)
cut_sized mask d z =
    cut_case Sized mask d
    (λ t. sized_by d (battery_cut mask d) (length-set (failure_stamped d.regs) watchdog_at _ ∙ failure_length d.regs) refl refl z)
    (λ t. record {
      regs = refl;
      sram = refl;
      bytes = z.bytes;
      offsets = z.offsets;
      sram_bytes = replicate_bytes 64 0 (omega arith);
      load_bytes = z.load_bytes;
    })

-- the record of a cut, and what holds of both memories after it: what held, and holds where any page is stored
pub cut_device : (mask : ℕ) (w : World) → (cut_world mask w).device ≡ after_cut mask w.device
unfolding cut_world
cut_device mask w = refl

pub cut_memories :
    (P Q : List ℕ → Type 0) (mask : ℕ) (w : World) → P w.eeprom → ((a : ℕ) → P (store_page w.device.load mask a w.eeprom))
    → Q w.id → ((a : ℕ) → Q (store_page w.device.load mask a w.id)) → P (cut_world mask w).eeprom × Q (cut_world mask w).id
unfolding cut_world
cut_memories P Q mask w e es i is =
    let d : Device = w.device in
    let none : Bool = eqb d.cycle.left 0 in (
      pick_case P none e (eeprom_case P d.load mask w.eeprom e es d.cycle.target),
      pick_case Q none i (id_case Q d.load mask w.id i is d.cycle.target),
    )

-- The count of a cut is at most 8.
stored_most : (l : Load) (mask : ℕ) (t : Target) → stored_count l mask t ≤ 8
stored_most l mask (Eeprom a) = members_most (stored_set l mask) 8
stored_most l mask (Id a) = members_most (stored_set l mask) 8
stored_most l mask (Status p) = omega (arith, flag_below (bit mask 0))

pub cut_most : (mask : ℕ) (d : Device) → cut_count mask d ≤ 8
unfolding cut_count
cut_most mask d = pick_case (λ (n : ℕ). n ≤ 8) (eqb d.cycle.left 0) (omega arith) (stored_most d.load mask d.cycle.target)

-- W9. The count that a cut answers is the number of bytes that it changed, where every loaded byte is another than the one at its place.
module _ (mask : ℕ) (w : World) (runs : eqb w.device.cycle.left 0 ≡ false) where
  abbrev Others : ℕ → List ℕ → Type 0
  Others a m = (page_of a + 8 ≤ length m) × ((k : ℕ) → k < 8 → get_or w.device.load.bytes k 0 ≡ get_or m (page_of a + k) 0 → ⊥)

  pub cut_counts_eeprom :
      (a : EepromAddress) → w.device.cycle.target ≡ Eeprom a → Others a.0 w.eeprom
      → cut_count mask w.device ≡ changes w.eeprom (cut_world mask w).eeprom
  unfolding cut_count cut_world
  cut_counts_eeprom a t o = rw (runs, t) (sym (store_changes w.eeprom (page_of a.0) (stored_set w.device.load mask) w.device.load.bytes 8 o.0 o.1))

  pub cut_counts_id :
      (a : IdAddress) → w.device.cycle.target ≡ Id a → Others a.0 w.id → cut_count mask w.device ≡ changes w.id (cut_world mask w).id
  unfolding cut_count cut_world
  cut_counts_id a t o = rw (runs, t) (sym (store_changes w.id (page_of a.0) (stored_set w.device.load mask) w.device.load.bytes 8 o.0 o.1))

-- The time-stamp of a return: inside its masks, and beside what the counts read.
return_other : (mark : Bool) (regs : List ℕ) (k : ℕ) → k < power_up_at → get_or (return_stamped mark regs) k 0 ≡ get_or regs k 0
return_other mark regs k h = pick_case (λ (l : List ℕ). get_or l k 0 ≡ get_or regs k 0) mark (stamped_other power_up_at regs k (inl h)) refl

return_in : (boots mark : Bool) (d : Device) → ClockOf boots d → ClockOf boots (with_regs d (return_stamped mark d.regs))
return_in boots mark d r =
    let regs : List ℕ = d.regs in
    regs_beside_in boots d r (return_stamped mark regs)
    (pick_case AllInside mark (stamped_inside power_up_at regs (omega arith) (omega arith) r.inside) r.inside)
    (return_other mark regs watchdog_at (omega arith)) (return_other mark regs seconds_at (omega arith))
    (return_other mark regs event_at (omega arith))

-- power up leaves a record in range
pub up_in_range : (part : ℕ) (d : Device) → InRange part d → InRange part (after_up d)
unfolding after_up
up_in_range part d r =
    record {
      clock = return_in (boots_of part) d.mark d r.clock;
      frame = r.frame;
      cycle = r.cycle;
      power = record { unmarked = λ o. refl; idle = λ o. absurd (true≢false o); still = λ o. absurd (true≢false o); heard = r.power.heard };
    }

-- P18. Power up clears WEL, whatever it was.
pub up_wel : (d : Device) → (after_up d).guard.wel ≡ false
unfolding after_up
up_wel d = refl

return_length : (mark : Bool) (regs : List ℕ) → length (return_stamped mark regs) ≡ length regs
return_length mark regs = pick_case (λ (l : List ℕ). length l ≡ length regs) mark (stamped_length power_up_at regs) refl

pub up_sized : (d : Device) → Sized d → Sized (after_up d)
unfolding after_up
up_sized d = sized_by d (after_up d) (return_length d.mark d.regs) refl refl
