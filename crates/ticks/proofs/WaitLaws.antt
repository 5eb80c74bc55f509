-- Laws of a wait of the chip: what it does to a write cycle and the memories, that the record's wait and one store of a page serve, and that it
-- keeps the number of registers. Where it stops, and how it splits, are the laws of any wait (base).
-- Assumes nothing.
use mathlib.Core.Path.{◌≡◌, refl, sym, ap, subst, ◌∙◌}
use mathlib.Core.Bool.{Bool, true, false, not, ◌&&◌, and-false}
use mathlib.Core.List.{List}
use mathlib.Core.Logic.{◌⊎◌, inl, inr, ⊎_elim, ◌≢◌}
use Prim.Native.Nat.{ℕ, zero, suc, ◌-◌, ◌<◌, ◌≤◌}
use native.Mathlib.Numerals.{add-one}
use native.Mathlib.Omega.{arith}
use borrow.Author.Tests.{ltb-true, ltb-false, lt-ltb, le-ltb, le-leb, lt-leb, eq-eqb, ne_eqb, eqb-true, eqb-false}
use lib.Dec.{ltb, leb, eqb}
use lib.ListN.{length}
use Rattle.base.specs.Words.{pick}
use Rattle.base.specs.Wait.{Waited, plus}
use Rattle.base.proofs.Tests.{by_cases, no, pick_case, neither_left, both_true, true_false}
use Rattle.base.proofs.WaitLaws.{wait_none, wait_go, wait_each, wait_map}
use Rattle.record.specs.declared.Device.{Device}
use Rattle.record.specs.World.{World}
use Rattle.record.specs.Stored.{whole_mask, store_page, eeprom_after, id_after, protection_after}
use Rattle.record.proofs.WorldLaws.{eeprom_case, id_case}
use Rattle.refusals.specs.InRange.{InRange}
use Rattle.ticks.specs.Lines.{wip, changed}
use Rattle.ticks.specs.Tick.{alive, tick, line_changed, waited}
use Rattle.ticks.specs.RecordTick.{device_tick, ends, device_waited, ended, settled}
use Rattle.ticks.proofs.LineLaws.{same_wip, changed_same}
use Rattle.ticks.proofs.TickLaws.{Steady, steady, steady_then, Ticked, ticked, tick_device, tick_eeprom, tick_id, tick_dead, device_alive, device_tick_regs_length}

-- a chip that is not alive waits all the ticks, and nothing changes
pub wait_dead : (boots : Bool) (n : ℕ) (w : World) → alive w.device ≡ false → waited boots n w ≡ record { used = n; after = w }
wait_dead boots zero w a = wait_none (tick boots) line_changed w
wait_dead boots (suc n) w a =
    let t : tick boots w ≡ w = tick_dead boots w a in
    rw (← (add-one n))
    (wait_go (tick boots) line_changed n w (rw t (changed_same w.device)) ∙ ap (λ (v : World). plus 1 (waited boots n v)) t
    ∙ ap (plus 1) (wait_dead boots n w a) ∙ ap (λ (k : ℕ). record { used = k; after = w }) (omega arith))

-- What a wait does to all but registers and counts: the ticks used come off the cycle, no wait passes its end, and what a finished cycle does
-- is done where it ended.
pub record Spent (w : World) (r : Waited World) : Type 0 where
  pub still : Steady w.device r.after.device
  pub left : r.after.device.cycle.left ≡ w.device.cycle.left - r.used
  pub within : 0 < w.device.cycle.left → r.used ≤ w.device.cycle.left
  pub wel : r.after.device.guard.wel ≡ pick (ended w.device r.after.device) false w.device.guard.wel
  pub protection :
      r.after.device.guard.protection
      ≡ pick (ended w.device r.after.device) (protection_after whole_mask w.device.guard.protection w.device.cycle.target) w.device.guard.protection
  pub eeprom :
      r.after.eeprom
      ≡ pick (ended w.device r.after.device) (eeprom_after w.device.load whole_mask w.eeprom w.device.cycle.target) w.eeprom
  pub id :
      r.after.id
      ≡ pick (ended w.device r.after.device) (id_after w.device.load whole_mask w.id w.device.cycle.target) w.id

-- no tick, or ticks that change nothing with no cycle running
not_ended : (d : Device) → ended d d ≡ false
not_ended d = by_cases (wip d) (λ b. simp b) (λ b. simp b)

spent_still : (w : World) (k : ℕ) → (k ≡ 0) ⊎ (w.device.cycle.left ≡ 0) → Spent w (record { used = k; after = w })
spent_still w k h =
    let e = not_ended w.device in
    record {
      still = steady w.device;
      left = ⊎_elim (λ z. omega arith) (λ z. omega arith) h;
      within = λ l. ⊎_elim (λ z. omega arith) (λ z. omega arith) h;
      wel = no _ _ e;
      protection = no _ _ e;
      eeprom = no _ _ e;
      id = no _ _ e;
    }

-- a cycle ends at a tick of a chip that is alive just where it had one tick left
ends_ended : (boots : Bool) (w : World) → alive w.device ≡ true → ends w.device ≡ ended w.device (tick boots w).device
ends_ended boots w a =
    let d : Device = w.device in
    let left : (tick boots w).device.cycle.left ≡ d.cycle.left - 1 = (ticked boots w).left ∙ simp a in
    by_cases (eqb d.cycle.left 1)
    (λ o.
    let e : d.cycle.left ≡ 1 = eqb-true d.cycle.left 1 o in
    both_true a o ∙ sym (both_true (lt-ltb 0 d.cycle.left (omega arith)) (ap not (le-ltb 0 (tick boots w).device.cycle.left (omega arith)))))
    (λ o.
    let e : d.cycle.left ≢ 1 = eqb-false d.cycle.left 1 o in
    simp (a, o)
    (by_cases (wip d)
    (λ b. sym (simp (b, lt-ltb 0 (tick boots w).device.cycle.left (omega (arith, ltb-true 0 d.cycle.left b)))))
    (λ b. sym (simp b))))

-- one tick
spent_one : (boots : Bool) (w : World) → alive w.device ≡ true → Spent w (record { used = 1; after = tick boots w })
spent_one boots w a =
    let t : Ticked w.device (tick boots w).device = ticked boots w in
    let e = ends_ended boots w a in
    record {
      still = t.still;
      left = t.left ∙ simp a;
      within = λ h. h;
      wel = rw (← e) t.wel;
      protection = rw (← e) t.protection;
      eeprom = rw (← e) (tick_eeprom boots w);
      id = rw (← e) (tick_id boots w);
    }

-- one tick that changed no line, and more: the cycle does not end at it, since WIP did not fall
spent_more :
    (boots : Bool) (w : World) (r : Waited World) → alive w.device ≡ true → changed w.device (tick boots w).device ≡ false
    → Spent (tick boots w) r → Spent w (plus 1 r)
spent_more boots w r a c s =
    let d : Device = w.device in
    let n : Device = (tick boots w).device in
    let e : Device = r.after.device in
    let t : Ticked d n = ticked boots w in
    let left : n.cycle.left ≡ d.cycle.left - 1 = t.left ∙ simp a in
    let busy : wip d ≡ wip n = same_wip d n c in
    let more : d.cycle.left ≢ 1 =
    λ q. true_false (lt-ltb 0 d.cycle.left (omega arith)) (busy ∙ le-ltb 0 n.cycle.left (omega arith))
    in
    let on : ends d ≡ false = simp (ne_eqb d.cycle.left 1 more) (and-false (alive d)) in
    let wel : n.guard.wel ≡ d.guard.wel = t.wel ∙ sym (no _ _ on) in
    let protection : n.guard.protection ≡ d.guard.protection = t.protection ∙ sym (no _ _ on) in
    let eeprom : (tick boots w).eeprom ≡ w.eeprom = tick_eeprom boots w ∙ sym (no _ _ on) in
    let id : (tick boots w).id ≡ w.id = tick_id boots w ∙ sym (no _ _ on) in
    let same : ended n e ≡ ended d e = ap (λ (b : Bool). b && not (wip e)) (sym busy) in
    record {
      still = steady_then t.still s.still;
      left = omega (arith, s.left);
      within = λ h. omega (arith, s.within (omega arith));
      wel = s.wel ∙ (λ i. pick (same i) false (wel i));
      protection = s.protection ∙ (λ i. pick (same i) (protection_after whole_mask (protection i) (t.still.target i)) (protection i));
      eeprom = s.eeprom ∙ (λ i. pick (same i) (eeprom_after (t.still.load i) whole_mask (eeprom i) (t.still.target i)) (eeprom i));
      id = s.id ∙ (λ i. pick (same i) (id_after (t.still.load i) whole_mask (id i) (t.still.target i)) (id i));
    }

-- each wait of a chip that is alive, and of one that is not, with no cycle
pub wait_alive : (boots : Bool) (n : ℕ) (w : World) → alive w.device ≡ true → Spent w (waited boots n w)
wait_alive boots =
    wait_each (tick boots) line_changed (λ n w r. alive w.device ≡ true → Spent w r)
    (λ w a. spent_still w 0 (inl refl))
    (λ n w c a. spent_one boots w a)
    (λ n w r c s a. spent_more boots w r a c (s (ap alive (tick_device boots w) ∙ device_alive boots w.device ∙ a)))

-- of a record in range, alive or not
pub wait_spent : (part : ℕ) (boots : Bool) (n : ℕ) (w : World) → InRange part w.device → Spent w (waited boots n w)
wait_spent part boots n w r =
    by_cases (alive w.device)
    (λ a. wait_alive boots n w a)
    (λ a. rw (wait_dead boots n w a) (spent_still w n (inr (r.power.still (neither_left w.device.power _ a)))))

-- what holds of both memories after a wait: what held, and holds where any page is stored
pub wait_memories :
    (P Q : List ℕ → Type 0) (part : ℕ) (boots : Bool) (n : ℕ) (w : World) → InRange part w.device
    → P w.eeprom → ((a : ℕ) → P (store_page w.device.load whole_mask a w.eeprom))
    → Q w.id → ((a : ℕ) → Q (store_page w.device.load whole_mask a w.id))
    → P (waited boots n w).after.eeprom × Q (waited boots n w).after.id
wait_memories P Q part boots n w r e es i is =
    let d : Device = w.device in
    let s = wait_spent part boots n w r in
    let over : Bool = ended d (waited boots n w).after.device in (
      subst P (sym s.eeprom) (pick_case P over (eeprom_case P d.load whole_mask w.eeprom e es d.cycle.target) e),
      subst Q (sym s.id) (pick_case Q over (id_case Q d.load whole_mask w.id i is d.cycle.target) i),
    )

-- The record and the ticks used of a wait need no memory: a wait of any world is its record's wait, and one store of a page.
pub wait_device :
    (boots : Bool) (n : ℕ) (w : World)
    → device_waited boots n w.device ≡ record { used = (waited boots n w).used; after = (waited boots n w).after.device }
wait_device boots =
    wait_map (λ (w : World). w.device) (tick boots) line_changed (device_tick boots) changed (tick_device boots) (λ v w. refl)

pub wait_settled : (boots : Bool) (n : ℕ) (w : World) → waited boots n w ≡ settled w (device_waited boots n w.device)
wait_settled boots n w =
    by_cases (alive w.device)
    (λ a.
    let s : Spent w (waited boots n w) = wait_alive boots n w a in
    λ i. record { used = (waited boots n w).used; after = record { device = (waited boots n w).after.device; eeprom = s.eeprom i; id = s.id i } })
    (λ a.
    let s : Spent w (record { used = 0; after = w }) = spent_still w 0 (inl refl) in
    wait_dead boots n w a ∙ (λ i. record { used = n; after = record { device = w.device; eeprom = s.eeprom i; id = s.id i } })
    ∙ ap (λ (r : Waited World). settled w (record { used = r.used; after = r.after.device })) (sym (wait_dead boots n w a)))
    ∙ ap (settled w) (sym (wait_device boots n w))

-- the test of the two records by the ticks used, and by the countdowns
pub spent_ended :
    (w : World) (r : Waited World) → Spent w r
    → ended w.device r.after.device ≡ (wip w.device && leb w.device.cycle.left r.used)
spent_ended w r s =
    let left : ℕ = w.device.cycle.left in
    let rest : ℕ = r.after.device.cycle.left in
    by_cases (ltb 0 left)
    (λ b.
    let h : 0 < left = ltb-true 0 left b in
    by_cases (ltb 0 rest)
    (λ o.
    let m : r.used < left = omega (arith, s.left, ltb-true 0 rest o) in
    simp (b, o, lt-leb left r.used m))
    (λ o. simp (b, o, le-leb left r.used (omega (arith, s.left, s.within h, ltb-false 0 rest o)))))
    (λ b. simp b)

pub ended_left : (d e : Device) → (not (eqb d.cycle.left 0) && eqb e.cycle.left 0) ≡ ended d e
ended_left d e = ap (λ (b : Bool). not b && eqb e.cycle.left 0) (zero_test d.cycle.left) ∙ ap (λ (b : Bool). not (not (wip d)) && b) (zero_test e.cycle.left) ∙ ap (λ (b : Bool). b && not (wip e)) (twice (wip d))
  where
    zero_test : (k : ℕ) → eqb k 0 ≡ not (ltb 0 k)
    zero_test k = by_cases (ltb 0 k) (λ t. ne_eqb k 0 (λ q. omega (arith, ltb-true 0 k t)) ∙ ap not (sym t)) (λ t. eq-eqb k 0 (omega (arith, ltb-false 0 k t)) ∙ ap not (sym t))

    twice : (b : Bool) → not (not b) ≡ b
    twice true = refl
    twice false = refl

-- There are as many registers after a wait.
pub wait_regs_length : (boots : Bool) (n : ℕ) (d : Device) → length (device_waited boots n d).after.regs ≡ length d.regs
wait_regs_length boots =
    wait_each (device_tick boots) changed (λ n d r. length r.after.regs ≡ length d.regs)
    (λ d. refl)
    (λ n d c. device_tick_regs_length boots d)
    (λ n d r c e. e ∙ device_tick_regs_length boots d)
