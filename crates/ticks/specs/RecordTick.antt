-- The record's part of a tick and of a wait, with no memory. No rule of the chip stands here: that these are what Tick gives is proved
-- (`wait_settled` in WaitLaws).
-- Assumes nothing.
use Rattle.std.specs.Prelude.{ℕ, Bool, not, ◌&&◌, eqb}
use Rattle.base.specs.Words.{pick}
use Rattle.base.specs.Wait.{Waited, waited_by}
use Rattle.record.specs.declared.Device.{Device}
use Rattle.record.specs.World.{World, world}
use Rattle.record.specs.Stored.{whole_mask, eeprom_after, id_after}
use Rattle.ticks.specs.Lines.{wip, changed}
use Rattle.ticks.specs.Tick.{cycle_device, clockwork, alive}

-- a tick
unfoldable pub device_tick : Bool → Device → Device
device_tick boots d = pick (alive d) (clockwork boots (cycle_device d)) d

-- the write cycle ends at this tick
abbrev pub ends : Device → Bool
ends d = alive d && eqb d.cycle.left 1

-- a wait
abbrev pub device_waited : Bool → ℕ → Device → Waited Device
device_waited boots n d = waited_by (device_tick boots) changed n d

-- the write cycle of d ended in the ticks that led to e: one ran, and none runs
abbrev pub ended : Device → Device → Bool
ended d e = wip d && not (wip e)

-- a wait of a world, from the wait of its record: the page is stored where the cycle ended
abbrev pub settled : World → Waited Device → Waited World
settled w r =
    let over : Bool = ended w.device r.after in
    record {
      used = r.used;
      after =
          world r.after
          (pick over (eeprom_after w.device.load whole_mask w.eeprom w.device.cycle.target) w.eeprom)
          (pick over (id_after w.device.load whole_mask w.id w.device.cycle.target) w.id);
    }
