-- Every act, refused or not, keeps what the rows of the setup judge: the record's range and the memories' lengths. Nothing is supposed of the sizes of
-- the record's arrays.
-- Assumes nothing.
use Prim.Native.Nat.{ℕ}
use mathlib.Core.Path.{◌≡◌, refl, sym, ap, subst, ◌∙◌}
use mathlib.Core.Bool.{false}
use mathlib.Core.List.{List}
use borrow.Author.Tests.{ltb-false, not-false, eqb-true}
use lib.Dec.{eqb}
use lib.ListN.{length}
use Rattle.base.specs.Wait.{Waited}
use Rattle.base.proofs.Tests.{pick_when}
use Rattle.record.specs.declared.Act.{Act}
use Rattle.record.specs.declared.Act.TheVariants.{Select, Byte, End, Wait, Cut, Up, Set}
use Rattle.record.specs.declared.Device.{Device}
use Rattle.record.specs.Part.{boots_of}
use Rattle.record.specs.Stored.{whole_mask}
use Rattle.record.proofs.WorldLaws.{page_length}
use Rattle.record.specs.World.{World}
use Rattle.refusals.specs.InRange.{InRange}
use Rattle.refusals.specs.Refusal.{wrong_arg, wrong_power, setup_refusal}
use Rattle.refusals.proofs.RangeLaws.{in_range_lem, out_of_range_lem}
use Rattle.refusals.proofs.TableLaws as table
use Rattle.ticks.specs.Tick.{waited}
use Rattle.ticks.specs.RecordTick.{device_waited}
use Rattle.ticks.proofs.WaitLaws.{wait_memories, wait_device}
use Rattle.ticks.proofs.RangeLaws.{wait_in_range}
use Rattle.frames.proofs.FrameLaws.{select_in_range, byte_in_range}
use Rattle.ends.proofs.EndLaws.{end_in_range}
use Rattle.power.specs.Power.{cut_world}
use Rattle.pins.proofs.SetLaws.{set_in_range}
use Rattle.power.proofs.PowerLaws.{cut_in_range, cut_device, cut_memories, up_in_range}
use Rattle.acts.specs.Act.{Outcome, accepted, refusal_in, performed}

-- a world after another: its record is in range, and its memories are as long as before
pub record Follows (part : ℕ) (v w : World) : Type 0 where
  pub range : InRange part w.device
  pub eeprom : length w.eeprom ≡ length v.eeprom
  pub id : length w.id ≡ length v.id

-- a memory as long as another
abbrev AsLong : List ℕ → List ℕ → Type 0
AsLong m x = length x ≡ length m

wait_follows : (part n : ℕ) (w : World) → InRange part w.device → Follows part w (waited (boots_of part) n w).after
wait_follows part n w r =
    let boots = boots_of part in
    let l = w.device.load in
    let q : (device_waited boots n w.device).after ≡ (waited boots n w).after.device = ap (λ (x : Waited Device). x.after) (wait_device boots n w) in
    let m =
    wait_memories (AsLong w.eeprom) (AsLong w.id) part boots n w r refl (page_length l whole_mask w.eeprom) refl (page_length l whole_mask w.id) in
    record { range = subst (InRange part) q (wait_in_range part n w.device r); eeprom = m.0; id = m.1 }

cut_follows : (part mask : ℕ) (w : World) → InRange part w.device → Follows part w (cut_world mask w)
cut_follows part mask w r =
    let l = w.device.load in
    let m = cut_memories (AsLong w.eeprom) (AsLong w.id) mask w refl (page_length l mask w.eeprom) refl (page_length l mask w.id) in
    record { range = subst (InRange part) (sym (cut_device mask w)) (cut_in_range part mask w.device r); eeprom = m.0; id = m.1 }

-- an act that the table passes finds a record in range
pub passed_range : (part : ℕ) (act : Act) (arg : ℕ) (w : World) → refusal_in part act arg w ≡ 0 → InRange part w.device
passed_range part act arg w e = in_range_lem part w.device (table.accepted part act arg w.device _ _ e).setup.ranged

-- an accepted act; those of a frame find power on
pub accepted_follows :
    (part : ℕ) (act : Act) (arg : ℕ) (w : World) → InRange part w.device → refusal_in part act arg w ≡ 0
    → Follows part w (accepted part arg w act).after
accepted_follows part act arg w r e =
    let a = table.accepted part act arg w.device _ _ e in
    by act a.arg a.power
  where
    d : Device
    d = w.device

    by : (act : Act) → wrong_arg act arg ≡ false → wrong_power act d.power ≡ false → Follows part w (accepted part arg w act).after
    by Select n p = record { range = select_in_range part d (not-false _ p) r; eeprom = refl; id = refl }
    by Byte n p = record { range = byte_in_range part arg d (not-false _ p) r; eeprom = refl; id = refl }
    by End n p = record { range = end_in_range part arg d (not-false _ p) r; eeprom = refl; id = refl }
    by Wait n p = wait_follows part arg w r
    by Cut n p = cut_follows part arg w r
    by Up n p = record { range = up_in_range part d r; eeprom = refl; id = refl }
    by (Set q) n p = record { range = set_in_range part q arg d (ltb-false 1 arg n) r; eeprom = refl; id = refl }

-- every act, refused or not
pub performed_follows :
    (part : ℕ) (act : Act) (arg : ℕ) (w : World) → InRange part w.device → Follows part w (performed part act arg w).after
unfolding performed
performed_follows part act arg w r =
    pick_when (λ (o : Outcome). Follows part w o.after) (eqb (refusal_in part act arg w) 0)
    (λ t. accepted_follows part act arg w r (eqb-true (refusal_in part act arg w) 0 t))
    (λ t. record { range = r; eeprom = refl; id = refl })

-- no row of the setup holds after an act where none held before
abbrev suited_in : ℕ → World → ℕ
suited_in part w = setup_refusal part w.device (length w.eeprom) (length w.id)

pub performed_suited : (part : ℕ) (act : Act) (arg : ℕ) (w : World) → suited_in part w ≡ 0 → suited_in part (performed part act arg w).after ≡ 0
performed_suited part act arg w e =
    let s = table.setup_passed part w.device _ _ e in
    let f = performed_follows part act arg w (in_range_lem part w.device s.ranged) in
    table.setup_passes part (performed part act arg w).after.device _ _
    (record { known = s.known; eeprom = f.eeprom ∙ s.eeprom; ids = f.id ∙ s.ids; ranged = out_of_range_lem part _ f.range })
