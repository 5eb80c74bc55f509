-- A tick of the chip with its memories, and a wait. A tick is 1/32,768 s (A2); only waits pass time (A3).
-- Assumes nothing.
use Rattle.std.specs.Prelude.{ℕ, ◌-◌, Bool, false, ◌||◌, eqb}
use Rattle.base.specs.Words.{pick}
use Rattle.base.specs.Wait.{Waited, waited_by}
use Rattle.record.specs.declared.Device.{Device}
use Rattle.record.specs.Registers.{vbaten, oscon}
use Rattle.record.specs.Setters.{with_wel, with_protection, with_left}
use Rattle.record.specs.World.{World, world}
use Rattle.record.specs.Stored.{whole_mask, eeprom_after, id_after, protection_after}
use Rattle.ticks.specs.Lines.{changed}
use Rattle.ticks.specs.Oscillator.{oscillator_tick}
use Rattle.ticks.specs.Watchdog.{watchdog_tick}
use Rattle.ticks.specs.Event.{event_tick}
use Rattle.ticks.specs.Clock.{calendar_tick, alarm_tick}

-- F28. The cycle's last tick: WEL clears, and a STATUS cycle changes the protection.
abbrev pub cycle_ended : Device → Device
cycle_ended d = with_protection (with_wel (with_left d 0) false) (protection_after whole_mask d.guard.protection d.cycle.target)

-- the write cycle's part, of the record; a countdown of 0 is no cycle
unfoldable pub cycle_device : Device → Device
cycle_device d =
    pick (eqb d.cycle.left 0) d (pick (eqb d.cycle.left 1) (cycle_ended d) (with_left d (d.cycle.left - 1)))

-- F28. the write cycle's part, of the record and both memories, which change with its last tick
unfoldable pub cycle_tick : World → World
cycle_tick w =
    let last : Bool = eqb w.device.cycle.left 1 in
    world (cycle_device w.device)
    (pick last (eeprom_after w.device.load whole_mask w.eeprom w.device.cycle.target) w.eeprom)
    (pick last (id_after w.device.load whole_mask w.id w.device.cycle.target) w.id)

-- K1, K3, V10. Oscillator, watchdog, event inputs, calendar, alarms; the tick counts if OSCON was set before it.
unfoldable pub clockwork : Bool → Device → Device
clockwork boots d =
    let counted : Bool = oscon d.counters in
    let w : Device = event_tick counted (watchdog_tick counted (oscillator_tick boots d)) in
    alarm_tick counted w (calendar_tick counted w)

-- P9, P10. Without power ticks count only on the battery.
abbrev pub alive : Device → Bool
alive d = d.power || vbaten d.regs

-- K1. The write cycle's part comes first.
unfoldable pub tick : Bool → World → World
tick boots w =
    let c : World = cycle_tick w in
    pick (alive w.device) (world (clockwork boots c.device) c.eeprom c.id) w

-- K30, G4, W7, W8, E24. A wait of at most n ticks, to the first that changed a line; it reports the ticks used.
abbrev pub line_changed : World → World → Bool
line_changed v w = changed v.device w.device

abbrev pub waited : Bool → ℕ → World → Waited World
waited boots n w = waited_by (tick boots) line_changed n w
