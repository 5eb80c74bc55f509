-- A power cut, and power up, with their time-stamps. What a cut cycle stores, and how many bytes that is, are in Stored, what a
-- time-stamp holds in Stamps.
-- Assumes nothing.
use Rattle.std.specs.Prelude.{ℕ, ◌%◌, Bool, true, false, not, ◌&&◌, List, eqb, get_or, set}
use Rattle.base.specs.Words.{pick}
use Rattle.events.specs.Pins.{no_counts}
use Rattle.record.specs.declared.Device.{Device}
use Rattle.record.specs.declared.Protection.{Protection}
use Rattle.record.specs.declared.Stage.TheVariants.{Idle}
use Rattle.record.specs.declared.Lock.TheVariants.{Closed}
use Rattle.record.specs.Registers.{vbaten, vbat, watchdog_at, power_down_at, power_up_at}
use Rattle.record.specs.Stamps.{stamped, with_vbat}
use Rattle.record.specs.Fresh.{fresh_regs, fresh_sram, fresh_counters}
use Rattle.record.specs.Setters.{with_regs, with_sram, with_counters, with_watchdog, with_delay, with_pulse, with_power, with_mark, with_wel, with_protection, with_lock, with_stage, with_left, with_events}
use Rattle.record.specs.World.{World, world}
use Rattle.record.specs.Stored.{eeprom_after, id_after, protection_after, stored_count}

-- P7. A cut clears WDTEN, and the watchdog's count, delay and pulse.
abbrev pub watchdog_cut : Device → Device
watchdog_cut d = with_pulse (with_delay (with_watchdog (with_regs d (set d.regs watchdog_at (get_or d.regs watchdog_at 0 % 128))) 0) 0) 0

-- P13, P14. A cut takes its time-stamp where the battery takes over and no earlier failure is held: VBATEN set, VBAT clear.
abbrev pub takes_stamp : List ℕ → Bool
takes_stamp regs = vbaten regs && not (vbat regs)

-- P13, P14. Then the time goes into the power-down time-stamp, and VBAT is set; else no register changes.
abbrev pub failure_stamped : List ℕ → List ℕ
failure_stamped regs = pick (takes_stamp regs) (with_vbat (stamped power_down_at regs)) regs

-- P10. Without the battery registers, SRAM and all counts are as fresh. V13. The event inputs' counts too; their levels stay.
abbrev pub forgotten : Device → Device
forgotten d = with_events (with_counters (with_sram (with_regs d fresh_regs) fresh_sram) fresh_counters) (no_counts d.events)

-- P9, P10, P13. VBATEN decides which.
abbrev pub clock_cut : Device → Device
clock_cut d = pick (vbaten d.regs) (watchdog_cut (with_regs d (failure_stamped d.regs))) (forgotten d)

-- P3, P11. The protection stays, but for a STATUS cycle that the mask let through.
abbrev pub protection_cut : ℕ → Device → Protection
protection_cut mask d = pick (eqb d.cycle.left 0) d.guard.protection (protection_after mask d.guard.protection d.cycle.target)

-- P5, P6, P8, G6. The cycle is gone, the frame dropped, WEL cleared, the lock closed, the chip not selected.
-- P13, P14. The mark tells the up whether the cut took its time-stamp.
abbrev pub stopped_by : ℕ → Device → Device
stopped_by mask d =
    with_mark (with_power (with_stage (with_left (with_lock (with_wel (with_protection d (protection_cut mask d)) false) Closed) 0) Idle) false)
    (takes_stamp d.regs)

unfoldable pub after_cut : ℕ → Device → Device
after_cut mask d = clock_cut (stopped_by mask d)

-- A6, P2, P4. How many bytes a cut stored; 0 with no cycle.
unfoldable pub cut_count : ℕ → Device → ℕ
cut_count mask d = pick (eqb d.cycle.left 0) 0 (stored_count d.load mask d.cycle.target)

-- P1, P2. the chip with its memories after a cut
unfoldable pub cut_world : ℕ → World → World
cut_world mask w =
    world (after_cut mask w.device)
    (pick (eqb w.device.cycle.left 0) w.eeprom (eeprom_after w.device.load mask w.eeprom w.device.cycle.target))
    (pick (eqb w.device.cycle.left 0) w.id (id_after w.device.load mask w.id w.device.cycle.target))

-- P15. The registers after power comes back: where the mark tells so, the time goes into the power-up time-stamp.
abbrev pub return_stamped : Bool → List ℕ → List ℕ
return_stamped mark regs = pick mark (stamped power_up_at regs) regs

-- P15, P18. Power comes back, with WEL clear; the mark has done its work.
unfoldable pub after_up : Device → Device
after_up d = with_mark (with_power (with_wel (with_regs d (return_stamped d.mark d.regs)) false) true) false
