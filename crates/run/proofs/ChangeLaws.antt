-- A byte of a memory changes only at a wait that ended a cycle over it or at a cut that stored it.
-- Assumes nothing.
use Prim.Native.Nat.{ℕ, zero, suc, ◌+◌, ◌<◌}
use mathlib.Core.Path.{◌≡◌, refl, ap, ◌∙◌}
use mathlib.Core.Bool.{true, ◌&&◌}
use mathlib.Core.Logic.{◌⊎◌, inl, inr, ⊎_elim, ◌≢◌}
use mathlib.Core.List.{List}
use native.Mathlib.Omega.{arith}
use borrow.Author.Tests.{eqb-true, eqb-false, ltb-true, leb-true}
use lib.Dec.{eqb, leb}
use lib.Bits.{bit_and}
use lib.ListN.{get_or}
use lib.Seq.{get_or-set_other}
use Rattle.base.specs.Wait.{Waited}
use Rattle.base.specs.Words.{bit, store_under}
use Rattle.base.proofs.Tests.{by_cases, both_left, both_right}
use Rattle.record.specs.declared.Act.{Act}
use Rattle.record.specs.declared.Act.TheVariants.{Select, Byte, End, Wait, Cut, Up, Set}
use Rattle.record.specs.declared.Load.{Load}
use Rattle.record.specs.declared.Target.{Target}
use Rattle.record.specs.declared.Target.TheVariants.{Eeprom, Id, Status}
use Rattle.record.specs.Address.{page_of}
use Rattle.record.specs.Part.{boots_of}
use Rattle.record.specs.Stored.{whole_mask}
use Rattle.record.specs.World.{World}
use Rattle.refusals.specs.InRange.{InRange}
use Rattle.ticks.specs.Lines.{wip}
use Rattle.ticks.specs.Tick.{waited}
use Rattle.ticks.proofs.WaitLaws.{Spent, wait_spent, spent_ended}
use Rattle.power.specs.Power.{cut_world}
use Rattle.acts.specs.Act.{accepted, refusal_in, performed}
use Rattle.ledger.specs.State.{Memory, eeprom, id}
use Rattle.run.specs.Claim.{memory_of}
use Rattle.run.specs.Changes.{Writes, EndedOver, CutOver, ChangesOnly}
use Rattle.run.proofs.Stored.{memory_after, moved_memory, wait_memory, cut_memory}

-- a place after a store: as it was, or one of the offsets in the set
store_changed :
    (m : List ℕ) (base s : ℕ) (bytes : List ℕ) (n p : ℕ)
    → (get_or (store_under m base s bytes n) p 0 ≡ get_or m p 0) ⊎ ((k : ℕ) × (k < n) × (p ≡ base + k) × (bit s k ≡ true))
unfolding store_under
store_changed m base s bytes zero p = inl refl
store_changed m base s bytes (suc n) p =
    let rest = store_changed m base s bytes n p in
    by_cases (bit s n)
    (λ b.
    by_cases (eqb p (base + n)) (λ e. inr (n, omega arith, eqb-true p (base + n) e, b))
    (λ e.
    ⊎_elim
    (λ q. inl (rw b (get_or-set_other (store_under m base s bytes n) (base + n) p (get_or bytes n 0) 0 (eqb-false p (base + n) e) ∙ q)))
    (λ c. inr (c.0, omega (arith, c.1), c.2, c.3)) rest))
    (λ b. ⊎_elim (λ q. inl (rw b q)) (λ c. inr (c.0, omega (arith, c.1), c.2, c.3)) rest)

-- a memory after a cycle's page is stored under a mask
memory_changed :
    (m : Memory) (load : Load) (mask p : ℕ) (l : List ℕ) (t : Target) → (get_or (memory_after m load mask l t) p 0 ≡ get_or l p 0) ⊎ Writes m load mask p t
memory_changed eeprom load mask p l (Eeprom a) = store_changed l (page_of a.0) (bit_and load.offsets mask) load.bytes 8 p
memory_changed eeprom load mask p l (Id a) = inl refl
memory_changed eeprom load mask p l (Status s) = inl refl
memory_changed id load mask p l (Eeprom a) = inl refl
memory_changed id load mask p l (Id a) = store_changed l (page_of a.0) (bit_and load.offsets mask) load.bytes 8 p
memory_changed id load mask p l (Status s) = inl refl

-- so a place that changed is one that the cycle writes
module _ (w : World) (m : Memory) (p mask : ℕ) (after : List ℕ) where
  wrote :
      after ≡ memory_after m w.device.load mask (memory_of m w) w.device.cycle.target → get_or after p 0 ≢ get_or (memory_of m w) p 0
      → Writes m w.device.load mask p w.device.cycle.target
  wrote e c =
      ⊎_elim (λ q. absurd (c (ap (λ (l : List ℕ). get_or l p 0) e ∙ q))) (λ x. x)
      (memory_changed m w.device.load mask p (memory_of m w) w.device.cycle.target)

wait_changes :
    (part n : ℕ) (w : World) (m : Memory) (p : ℕ) → InRange part w.device
    → get_or (memory_of m (waited (boots_of part) n w).after) p 0 ≢ get_or (memory_of m w) p 0
    → EndedOver m Wait (waited (boots_of part) n w).used w p
wait_changes part n w m p g c =
    let r : Waited World = waited (boots_of part) n w in
    let q : Spent w r = wait_spent part (boots_of part) n w g in
    let e = wait_memory m w r q in
    by_cases (wip w.device && leb w.device.cycle.left r.used)
    (λ t.
    let runs : 0 < w.device.cycle.left = ltb-true 0 w.device.cycle.left (both_left (wip w.device) _ t) in
    record {
      waits = refl;
      runs = runs;
      ends = omega (arith, leb-true w.device.cycle.left r.used (both_right (wip w.device) _ t), q.within runs);
      writes = wrote w m p whole_mask (memory_of m r.after) (rw (spent_ended w r q, t) at e) c;
    })
    (λ t. absurd (c (ap (λ (l : List ℕ). get_or l p 0) (rw (spent_ended w r q, t) at e))))

cut_changes :
    (mask : ℕ) (w : World) (m : Memory) (p : ℕ) → get_or (memory_of m (cut_world mask w)) p 0 ≢ get_or (memory_of m w) p 0 → CutOver m Cut mask w p
cut_changes mask w m p c =
    let e = cut_memory m mask w in
    by_cases (eqb w.device.cycle.left 0)
    (λ z. absurd (c (ap (λ (l : List ℕ). get_or l p 0) (rw z at e))))
    (λ z.
    record {
      cuts = refl;
      runs = omega (arith, eqb-false w.device.cycle.left 0 z);
      writes = wrote w m p mask (memory_of m (cut_world mask w)) (rw z at e) c;
    })

accepted_changes :
    (part : ℕ) (act : Act) (n : ℕ) (w : World) (m : Memory) (p : ℕ) → InRange part w.device
    → get_or (memory_of m (accepted part n w act).after) p 0 ≢ get_or (memory_of m w) p 0
    → EndedOver m act (accepted part n w act).count w p ⊎ CutOver m act n w p
accepted_changes part Wait n w m p g c = inl (wait_changes part n w m p g c)
accepted_changes part Cut n w m p g c = inr (cut_changes n w m p c)
accepted_changes part Select n w m p g c = absurd (c (ap (λ (l : List ℕ). get_or l p 0) (moved_memory m w _)))
accepted_changes part Byte n w m p g c = absurd (c (ap (λ (l : List ℕ). get_or l p 0) (moved_memory m w _)))
accepted_changes part End n w m p g c = absurd (c (ap (λ (l : List ℕ). get_or l p 0) (moved_memory m w _)))
accepted_changes part Up n w m p g c = absurd (c (ap (λ (l : List ℕ). get_or l p 0) (moved_memory m w _)))
accepted_changes part (Set q) n w m p g c = absurd (c (ap (λ (l : List ℕ). get_or l p 0) (moved_memory m w _)))

pub changes_only : ChangesOnly
unfolding ChangesOnly performed
changes_only part act n w m p g =
    by_cases (eqb (refusal_in part act n w) 0) (λ z. rw z (accepted_changes part act n w m p g))
    (λ z. rw z (λ c. absurd (c refl)))
