-- What a write cycle that ends or is cut leaves in the memories and the protection is what the ledger enters for it, under any mask.
-- Assumes nothing.
use Prim.Native.Nat.{ℕ, ◌+◌, ◌<◌, ◌≤◌}
use mathlib.Core.Path.{◌≡◌, refl}
use mathlib.Core.Bool.{true, false}
use mathlib.Core.List.{List}
use native.Mathlib.Omega.{arith}
use borrow.Author.Tests.{eqb-true, eqb-false, lt-ltb, le-ltb}
use lib.Dec.{eqb}
use lib.ListN.{length, get_or}
use Rattle.base.specs.Wait.{Waited}
use Rattle.base.specs.Words.{pick, bit}
use Rattle.base.proofs.Tests.{by_cases}
use Rattle.record.specs.declared.Device.{Device}
use Rattle.record.specs.declared.Load.{Load}
use Rattle.record.specs.declared.Place.{Place}
use Rattle.record.specs.declared.Protection.{Protection}
use Rattle.record.specs.declared.Target.{Target}
use Rattle.record.specs.declared.Target.TheVariants.{Eeprom, Id, Status}
use Rattle.record.specs.Address.{page_of}
use Rattle.record.specs.Numbers.{protection_number}
use Rattle.record.specs.Part.{size_of, id_size}
use Rattle.record.specs.Stages.{cycle_place, eeprom_pointer, id_pointer}
use Rattle.record.specs.Stored.{whole_mask, eeprom_after, id_after, protection_after}
use Rattle.record.specs.World.{World, moved}
use Rattle.record.proofs.PartLaws.{whole_pages, page_fits}
use Rattle.ticks.specs.RecordTick.{ended}
use Rattle.ticks.proofs.WaitLaws.{Spent}
use Rattle.power.specs.Power.{cut_world}
use Rattle.ledger.specs.State.{Memory, eeprom, id, Entry, Ledger}
use Rattle.ledger.specs.State as ledger
use Rattle.ledger.specs.Frames.{running}
use Rattle.ledger.specs.Bytes.{entries_of, bp_of, entries_after, bp_after}
use Rattle.run.specs.Claim.{memory_of, memory_size}
use Rattle.run.proofs.Agree.{TargetAgrees, Agree}
use Rattle.run.proofs.Entries.{Holds, stored_page, other_memory}

-- a memory after a cycle's page is stored under a mask, and the pointer into it
abbrev pub memory_after : Memory → Load → ℕ → List ℕ → Target → List ℕ
memory_after eeprom load mask m t = eeprom_after load mask m t
memory_after id load mask m t = id_after load mask m t

abbrev pub pointer_in : Memory → Place → ℕ
pointer_in eeprom p = eeprom_pointer p
pointer_in id p = id_pointer p

-- a memory after an act that moves the record alone, after a wait and after a cut
pub moved_memory : (m : Memory) (w : World) (d : Device) → memory_of m (moved w d) ≡ memory_of m w
moved_memory eeprom w d = refl
moved_memory id w d = refl

pub wait_memory :
    (m : Memory) (w : World) (r : Waited World) → Spent w r
    → memory_of m r.after ≡ pick (ended w.device r.after.device) (memory_after m w.device.load whole_mask (memory_of m w) w.device.cycle.target) (memory_of m w)
wait_memory eeprom w r q = q.eeprom
wait_memory id w r q = q.id

pub cut_memory :
    (m : Memory) (mask : ℕ) (w : World)
    → memory_of m (cut_world mask w) ≡ pick (eqb w.device.cycle.left 0) (memory_of m w) (memory_after m w.device.load mask (memory_of m w) w.device.cycle.target)
unfolding cut_world
cut_memory eeprom mask w = refl
cut_memory id mask w = refl

-- by what the cycle writes
module _ (n : ℕ) (before : ℕ → ℕ) (load : Load) (mask : ℕ) (c : ledger.Cycle) (m : List ℕ) (es : List Entry) where
  target_holds :
      (k : Memory) (t : Target) → TargetAgrees t load c → page_of (pointer_in k (cycle_place t)) + 8 ≤ length m → Holds n before k m es
      → Holds n before k (memory_after k load mask m t) (entries_of c.kind c.page mask c.loaded es)
  target_holds eeprom (Eeprom a) g fits h = rw (g.kind, g.page) (stored_page n before eeprom load c.loaded mask (page_of a.0) m es g.loaded fits h)
  target_holds eeprom (Id a) g fits h = rw g.kind (other_memory n before eeprom id c.loaded mask c.page m es 8 refl h)
  target_holds eeprom (Status p) g fits h = rw g.kind h
  target_holds id (Eeprom a) g fits h = rw g.kind (other_memory n before id eeprom c.loaded mask c.page m es 8 refl h)
  target_holds id (Id a) g fits h = rw (g.kind, g.page) (stored_page n before id load c.loaded mask (page_of a.0) m es g.loaded fits h)
  target_holds id (Status p) g fits h = rw g.kind h

target_bp :
    (load : Load) (mask : ℕ) (old : Protection) (t : Target) (c : ledger.Cycle) (bp : ℕ) → TargetAgrees t load c
    → bp ≡ protection_number old → bp_of c.kind mask c.loaded bp ≡ protection_number (protection_after mask old t)
target_bp load mask old (Eeprom a) c bp g e = rw g.kind e
target_bp load mask old (Id a) c bp g e = rw g.kind e
target_bp load mask old (Status p) c bp g e =
    by_cases (bit mask 0) (λ t. rw (g.kind, t, g.loaded) g.bits) (λ t. rw (g.kind, t) e)

-- Of a chip and a ledger that agree: a cycle that runs is stored under the mask, and where none runs nothing is.
module _ (s : World) (part : ℕ) (w : World) (l : Ledger) (a : Agree s part w l) (mask : ℕ) where
  abbrev left : ℕ
  left = w.device.cycle.left

  abbrev target : Target
  target = w.device.cycle.target

  abbrev HoldsIn : Memory → List ℕ → List Entry → Type 0
  HoldsIn k m es = Holds (memory_size k part) (λ p. get_or (memory_of k s) p 0) k m es

  was : (k : Memory) → HoldsIn k (memory_of k w) l.entries
  unfolding Holds
  was k = a.bytes k

  page_in : (k : Memory) → page_of (pointer_in k (cycle_place target)) + 8 ≤ length (memory_of k w)
  page_in eeprom = rw a.valid.shaped.eeprom (page_fits _ (size_of part) a.valid.range.cycle.place.eeprom (whole_pages part))
  page_in id = rw a.valid.shaped.id (page_fits _ id_size a.valid.range.cycle.place.id refl)

  runs : 0 < left → running l.cycle ≡ true
  runs h = lt-ltb 0 l.cycle.left (omega (arith, a.state.cycle.left))

  rests : left ≡ 0 → running l.cycle ≡ false
  rests h = le-ltb 0 l.cycle.left (omega (arith, a.state.cycle.left))

  pub stored_holds : 0 < left → (k : Memory) → HoldsIn k (memory_after k w.device.load mask (memory_of k w) target) (entries_after mask l.cycle l.entries)
  unfolding entries_after
  stored_holds h k = rw (runs h) (target_holds _ _ w.device.load mask l.cycle _ _ k target (a.state.cycle.target h) (page_in k) (was k))

  pub stored_bp : 0 < left → bp_after mask l.cycle l.bp ≡ protection_number (protection_after mask w.device.guard.protection target)
  unfolding bp_after
  stored_bp h = rw (runs h) (target_bp w.device.load mask _ target l.cycle l.bp (a.state.cycle.target h) a.state.bp)

  pub cut_holds :
      (k : Memory)
      → HoldsIn k (pick (eqb left 0) (memory_of k w) (memory_after k w.device.load mask (memory_of k w) target)) (entries_after mask l.cycle l.entries)
  unfolding entries_after
  cut_holds k =
      by_cases (eqb left 0) (λ e. rw (e, rests (eqb-true left 0 e)) (was k)) (λ e. rw e (stored_holds (omega (arith, eqb-false left 0 e)) k))

  pub cut_bp : bp_after mask l.cycle l.bp ≡ protection_number (pick (eqb left 0) w.device.guard.protection (protection_after mask w.device.guard.protection target))
  unfolding bp_after
  cut_bp = by_cases (eqb left 0) (λ e. rw (e, rests (eqb-true left 0 e)) a.state.bp) (λ e. rw e (stored_bp (omega (arith, eqb-false left 0 e))))
