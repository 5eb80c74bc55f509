-- Every act, refused or not, leaves a record in range, every length what it was and every byte a byte, on every part; and fresh is so.
-- Assumes nothing.
use Prim.Native.Nat.{ℕ}
use native.Mathlib.Omega.{arith}
use mathlib.Core.Path.{◌≡◌, sym, ap, subst, ◌∙◌}
use mathlib.Core.Bool.{false}
use borrow.Author.Tests.{eqb-true, ltb-false}
use lib.Dec.{eqb}
use lib.ListN.{length}
use Rattle.base.specs.Wait.{Waited}
use Rattle.base.proofs.Tests.{pick_when}
use Rattle.record.specs.declared.Act.{Act}
use Rattle.record.specs.declared.Act.TheVariants.{Select, Byte, End, Wait, Cut, Up, Set}
use Rattle.record.specs.declared.Device.{Device}
use Rattle.record.specs.Part.{top_of, boots_of}
use Rattle.record.specs.Stored.{whole_mask}
use Rattle.record.specs.World.{World, moved, Bytes, Sized, Shaped, fresh_world}
use Rattle.record.proofs.WorldLaws.{sized_by, page_bytes, fresh_shaped}
use Rattle.refusals.specs.InRange.{InRange}
use Rattle.refusals.specs.Refusal.{wrong_arg}
use Rattle.refusals.proofs.RangeLaws.{fresh_facts}
use Rattle.refusals.proofs.TableLaws as table
use Rattle.ticks.specs.Tick.{waited}
use Rattle.ticks.specs.RecordTick.{device_waited}
use Rattle.ticks.proofs.WaitLaws.{wait_memories, wait_spent, wait_device, wait_regs_length}
use Rattle.frames.proofs.FrameLaws.{select_sized, byte_sized}
use Rattle.ends.proofs.EndLaws.{end_sized}
use Rattle.power.specs.Power.{cut_world}
use Rattle.pins.proofs.SetLaws.{set_sized}
use Rattle.power.proofs.PowerLaws.{cut_sized, cut_device, cut_memories, up_sized}
use Rattle.acts.specs.Act.{Outcome, accepted, refusal_in, performed}
use Rattle.acts.proofs.SuitedLaws.{Follows, accepted_follows}

pub record Valid (part : ℕ) (w : World) : Type 0 where
  pub range : InRange part w.device
  pub shaped : Shaped part w

-- sizes and bytes of a world; with a record in range and the lengths of a valid world before it, it is valid
record Made (w : World) : Type 0 where
  sized : Sized w.device
  eeprom : Bytes w.eeprom
  id : Bytes w.id

valid_by : (part : ℕ) (v w : World) → Valid part v → Follows part v w → Made w → Valid part w
valid_by part v w g f m =
    record {
      range = f.range;
      shaped =
          record {
            sized = m.sized;
            eeprom = f.eeprom ∙ g.shaped.eeprom;
            id = f.id ∙ g.shaped.id;
            eeprom_bytes = m.eeprom;
            id_bytes = m.id;
          };
    }

wait_made : (part n : ℕ) (w : World) → InRange part w.device → Made w → Made (waited (boots_of part) n w).after
wait_made part n w r m =
    let boots = boots_of part in
    let d = w.device in
    let e = (waited boots n w).after.device in
    let s = (wait_spent part boots n w r).still in
    let b = m.sized.load_bytes in
    let q : (device_waited boots n d).after ≡ e = ap (λ (x : Waited Device). x.after) (wait_device boots n w) in
    let l : length e.regs ≡ length d.regs = subst (λ (x : Device). length x.regs ≡ length d.regs) q (wait_regs_length boots n d) in
    let k =
    wait_memories Bytes Bytes part boots n w r m.eeprom (page_bytes d.load whole_mask w.eeprom b m.eeprom) m.id
    (page_bytes d.load whole_mask w.id b m.id) in
    record { sized = sized_by d e l s.sram s.load m.sized; eeprom = k.0; id = k.1 }

cut_made : (mask : ℕ) (w : World) → Made w → Made (cut_world mask w)
cut_made mask w m =
    let d = w.device in
    let b = m.sized.load_bytes in
    let k =
    cut_memories Bytes Bytes mask w m.eeprom (page_bytes d.load mask w.eeprom b m.eeprom) m.id
    (page_bytes d.load mask w.id b m.id) in
    record { sized = subst Sized (sym (cut_device mask w)) (cut_sized mask d m.sized); eeprom = k.0; id = k.1 }

-- every accepted act; a byte's argument is one
pub accepted_valid :
    (part : ℕ) (act : Act) (arg : ℕ) (w : World) → Valid part w → refusal_in part act arg w ≡ 0 → Valid part (accepted part arg w act).after
accepted_valid part act arg w v e =
    valid_by part w _ v (accepted_follows part act arg w v.range e) (by act (table.accepted part act arg w.device _ _ e).arg)
  where
    d : Device
    d = w.device

    z : Sized d
    z = v.shaped.sized

    m : Made w
    m = record { sized = z; eeprom = v.shaped.eeprom_bytes; id = v.shaped.id_bytes }

    -- an act that moves the record alone
    alone : (x : Device) → Sized x → Made (moved w x)
    alone x y = record { sized = y; eeprom = m.eeprom; id = m.id }

    by : (act : Act) → wrong_arg act arg ≡ false → Made (accepted part arg w act).after
    by Select t = alone _ (select_sized d z)
    by Byte t = alone _ (byte_sized (boots_of part) (top_of part) arg d (omega (arith, ltb-false 255 arg t)) z)
    by End t = alone _ (end_sized (top_of part) arg d z)
    by Wait t = wait_made part arg w v.range m
    by Cut t = cut_made arg w m
    by Up t = alone _ (up_sized d z)
    by (Set p) t = alone _ (set_sized p arg d z)

-- every act, refused or not
pub performed_valid : (part : ℕ) (act : Act) (arg : ℕ) (w : World) → Valid part w → Valid part (performed part act arg w).after
unfolding performed
performed_valid part act arg w v =
    pick_when (λ (o : Outcome). Valid part o.after) (eqb (refusal_in part act arg w) 0)
    (λ t. accepted_valid part act arg w v (eqb-true (refusal_in part act arg w) 0 t))
    (λ t. v)

-- a fresh chip is valid, as each part
pub fresh_valid : (part : ℕ) → Valid part (fresh_world part)
fresh_valid part = record { range = fresh_facts part; shaped = fresh_shaped part }
