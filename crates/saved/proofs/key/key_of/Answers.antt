-- `saved::key::key_of`: each row's key computes.
-- Assumes nothing.
use mathlib.Core.Path.{refl}
use Rattle.form.specs.Table.{rows, part_row, register_row, sram_row, divider_row, startup_row, watchdog_row, delay_row, pulse_row, power_row, mark_row, wel_row, protection_row, lock_row, stage_row, offsets_row, load_row, next_row, target_row, left_row, eeprom_row, id_row, evls_row, evhs_row, edges_row, since_row, debounce_row}
use Rattle.numbers.specs.Tables.{row_at}
use Rattle.saved.proofs.key.key_of.Goals as goal

pub returns-in-Part : goal.returns-in-Part
unfolding row_at rows part_row
returns-in-Part c = rw c.in-Part.is refl

pub returns-in-Reg : goal.returns-in-Reg
unfolding row_at rows register_row
returns-in-Reg c = rw c.in-Reg.is refl

pub returns-in-Sram : goal.returns-in-Sram
unfolding row_at rows sram_row
returns-in-Sram c = rw c.in-Sram.is refl

pub returns-in-Divider : goal.returns-in-Divider
unfolding row_at rows divider_row
returns-in-Divider c = rw c.in-Divider.is refl

pub returns-in-Startup : goal.returns-in-Startup
unfolding row_at rows startup_row
returns-in-Startup c = rw c.in-Startup.is refl

pub returns-in-Watchdog : goal.returns-in-Watchdog
unfolding row_at rows watchdog_row
returns-in-Watchdog c = rw c.in-Watchdog.is refl

pub returns-in-Delay : goal.returns-in-Delay
unfolding row_at rows delay_row
returns-in-Delay c = rw c.in-Delay.is refl

pub returns-in-Pulse : goal.returns-in-Pulse
unfolding row_at rows pulse_row
returns-in-Pulse c = rw c.in-Pulse.is refl

pub returns-in-Power : goal.returns-in-Power
unfolding row_at rows power_row
returns-in-Power c = rw c.in-Power.is refl

pub returns-in-Mark : goal.returns-in-Mark
unfolding row_at rows mark_row
returns-in-Mark c = rw c.in-Mark.is refl

pub returns-in-Wel : goal.returns-in-Wel
unfolding row_at rows wel_row
returns-in-Wel c = rw c.in-Wel.is refl

pub returns-in-Bp : goal.returns-in-Bp
unfolding row_at rows protection_row
returns-in-Bp c = rw c.in-Bp.is refl

pub returns-in-Lock : goal.returns-in-Lock
unfolding row_at rows lock_row
returns-in-Lock c = rw c.in-Lock.is refl

pub returns-in-Stage : goal.returns-in-Stage
unfolding row_at rows stage_row
returns-in-Stage c = rw c.in-Stage.is refl

pub returns-in-Offsets : goal.returns-in-Offsets
unfolding row_at rows offsets_row
returns-in-Offsets c = rw c.in-Offsets.is refl

pub returns-in-Load : goal.returns-in-Load
unfolding row_at rows load_row
returns-in-Load c = rw c.in-Load.is refl

pub returns-in-Next : goal.returns-in-Next
unfolding row_at rows next_row
returns-in-Next c = rw c.in-Next.is refl

pub returns-in-Target : goal.returns-in-Target
unfolding row_at rows target_row
returns-in-Target c = rw c.in-Target.is refl

pub returns-in-Left : goal.returns-in-Left
unfolding row_at rows left_row
returns-in-Left c = rw c.in-Left.is refl

pub returns-in-Ee : goal.returns-in-Ee
unfolding row_at rows eeprom_row
returns-in-Ee c = rw c.in-Ee.is refl

pub returns-in-Id : goal.returns-in-Id
unfolding row_at rows id_row
returns-in-Id c = rw c.in-Id.is refl

pub returns-in-Evls : goal.returns-in-Evls
unfolding row_at rows evls_row
returns-in-Evls c = rw c.in-Evls.is refl

pub returns-in-Evhs : goal.returns-in-Evhs
unfolding row_at rows evhs_row
returns-in-Evhs c = rw c.in-Evhs.is refl

pub returns-in-Edges : goal.returns-in-Edges
unfolding row_at rows edges_row
returns-in-Edges c = rw c.in-Edges.is refl

pub returns-in-Since : goal.returns-in-Since
unfolding row_at rows since_row
returns-in-Since c = rw c.in-Since.is refl

pub returns-in-Debounce : goal.returns-in-Debounce
unfolding row_at rows debounce_row
returns-in-Debounce c = rw c.in-Debounce.is refl
