-- Each accepted act keeps the agreement of a chip with its memories and a ledger. That the record stays in range and keeps its lengths
-- is taken, and proved elsewhere.
-- Assumes nothing.
use Prim.Native.Nat.{ℕ, ◌<◌}
use native.Mathlib.Omega.{arith}
use mathlib.Core.Path.{◌≡◌, refl, sym, ap, subst, ◌∙◌}
use mathlib.Core.Bool.{Bool, true, false, ◌&&◌, false≢true}
use mathlib.Core.List.{List}
use borrow.Author.Tests.{ltb-true, leb-true}
use lib.Dec.{leb, ltb}
use lib.ListN.{get_or}
use Rattle.base.specs.Wait.{Waited}
use Rattle.base.proofs.Tests.{by_cases, both_left, both_right}
use Rattle.record.specs.declared.Cycle.{Cycle}
use Rattle.record.specs.declared.Device.{Device}
use Rattle.record.specs.declared.Frame.{Frame}
use Rattle.record.specs.declared.Guard.{Guard}
use Rattle.record.specs.declared.Load.{Load}
use Rattle.record.specs.declared.Target.{Target}
use Rattle.record.specs.declared.Target.TheVariants.{Eeprom, Id, Status}
use Rattle.record.specs.Numbers.{protection_number}
use Rattle.record.specs.Part.{is_part, top_of, boots_of}
use Rattle.record.specs.Stages.{selected}
use Rattle.record.specs.Stored.{whole_mask}
use Rattle.record.specs.World.{World, moved}
use Rattle.ticks.specs.Lines.{wip}
use Rattle.ticks.specs.RecordTick.{ended}
use Rattle.ticks.specs.Tick.{waited}
use Rattle.ticks.proofs.WaitLaws.{Spent, wait_spent, spent_ended}
use Rattle.frames.specs.Frame.{load_after, after_byte, after_select}
use Rattle.frames.proofs.FrameLaws.{written_beside, stage_selected}
use Rattle.ends.specs.End.{after_end}
use Rattle.power.specs.Power.{after_cut, cut_world, after_up}
use Rattle.power.proofs.PowerLaws.{cut_beside}
use Rattle.acts.proofs.ValidLaws.{Valid}
use Rattle.ledger.specs.State.{Ledger, no_byte, no_cycle}
use Rattle.ledger.specs.State as state
use Rattle.ledger.specs.Frames.{running}
use Rattle.ledger.specs.Steps as ledger
use Rattle.refusals.proofs.KeepLaws.{Beside}
use Rattle.run.proofs.Agree.{LockAgrees, FrameAgrees, TargetAgrees, CycleAgrees, StateAgrees, Agree}
use Rattle.run.proofs.ByteAgrees.{byte_frame, byte_cycle}
use Rattle.run.proofs.EndAgrees.{wel_agrees, lock_agrees, cycle_agrees}
use Rattle.run.proofs.Entries.{Holds}
use Rattle.run.proofs.Stored.{moved_memory, wait_memory, cut_memory, stored_holds, stored_bp, cut_holds, cut_bp}

module _ (s : World) (part : ℕ) (w : World) (l : Ledger) (a : Agree s part w l) where
  abbrev d : Device
  d = w.device

  -- an act that moves the record alone
  record_agrees : (e : Device) (m : Ledger) → m.entries ≡ l.entries → StateAgrees e m → Valid part (moved w e) → Agree s part (moved w e) m
  record_agrees e m q x v =
      record { valid = v; state = x; bytes = λ k p h. rw q (ap (λ (n : List ℕ). get_or n p 0) (moved_memory k w e) ∙ a.bytes k p h) }

  -- an act that leaves power, guard, frame, load, cycle and both memories alone, of which the ledger is told nothing: a pin is set
  pub beside_agrees : (e : Device) → Beside d e → Valid part (moved w e) → Agree s part (moved w e) l
  beside_agrees e b =
      record_agrees e l refl
      (record {
        power = a.state.power ∙ sym b.power;
        chosen = a.state.chosen ∙ ap (λ (f : Frame). selected f.stage) (sym b.frame);
        wel = a.state.wel ∙ ap (λ (g : Guard). g.wel) (sym b.guard);
        bp = a.state.bp ∙ ap (λ (g : Guard). protection_number g.protection) (sym b.guard);
        lock = subst (λ (g : Guard). LockAgrees g.lock l.lock) (sym b.guard) a.state.lock;
        frame = rw (b.frame, b.load) a.state.frame;
        cycle = rw (b.cycle, b.load) a.state.cycle;
      })

  pub select_agrees : Valid part (moved w (after_select d)) → Agree s part (moved w (after_select d)) (ledger.on_select l)
  unfolding after_select ledger.on_select no_byte
  select_agrees =
      record_agrees _ _ refl
      (record {
        power = a.state.power;
        chosen = refl;
        wel = a.state.wel;
        bp = a.state.bp;
        lock = a.state.lock;
        frame = record { heard = refl; code = λ h. absurd (false≢true h); count = refl; brought = tt };
        cycle = a.state.cycle;
      })

  pub up_agrees : Valid part (moved w (after_up d)) → Agree s part (moved w (after_up d)) (ledger.on_up l)
  unfolding after_up ledger.on_up
  up_agrees =
      record_agrees _ _ refl
      (record {
        power = refl;
        chosen = a.state.chosen;
        wel = refl;
        bp = a.state.bp;
        lock = a.state.lock;
        frame = a.state.frame;
        cycle = a.state.cycle;
      })

  pub byte_agrees :
      (v : ℕ) → is_part part ≡ true → selected d.frame.stage ≡ true → Valid part (moved w (after_byte (boots_of part) (top_of part) v d))
      → Agree s part (moved w (after_byte (boots_of part) (top_of part) v d)) (ledger.on_byte part v l)
  unfolding after_byte ledger.on_byte
  byte_agrees v known h =
      let b = written_beside (boots_of part) d v d.frame.stage in
      record_agrees _ _ refl
      (record {
        power = a.state.power ∙ sym b.power;
        chosen = a.state.chosen ∙ sym (stage_selected (top_of part) (wip d) v d.frame.stage);
        wel = a.state.wel ∙ ap (λ (g : Guard). g.wel) (sym b.guard);
        bp = a.state.bp ∙ ap (λ (g : Guard). protection_number g.protection) (sym b.guard);
        lock = subst (λ (g : Guard). LockAgrees g.lock l.lock) (sym b.guard) a.state.lock;
        frame =
            byte_frame part v l.cycle (wip d) d.load l.frame known (ap (λ (n : ℕ). ltb 0 n) a.state.cycle.left)
            a.valid.range.frame.offset a.valid.shaped.sized.bytes d.frame.stage h a.state.frame;
        cycle =
            subst (λ (y : Cycle). CycleAgrees y (load_after d.load v d.frame.stage) l.cycle) (sym b.cycle)
            (byte_cycle d.cycle d.frame.stage d.load v l.cycle a.valid.range.power.heard a.state.cycle);
      })

  pub end_agrees :
      (k : ℕ) → is_part part ≡ true → Valid part (moved w (after_end (top_of part) k d)) → Agree s part (moved w (after_end (top_of part) k d)) (ledger.on_end part k l)
  unfolding after_end ledger.on_end no_byte
  end_agrees k known =
      record_agrees _ _ refl
      (record {
        power = a.state.power;
        chosen = refl;
        wel = wel_agrees part k d l known a.state;
        bp = a.state.bp;
        lock = lock_agrees part k d l known a.state;
        frame = record { heard = refl; code = λ h. absurd (false≢true h); count = refl; brought = tt };
        cycle = cycle_agrees part k d l known a.state;
      })

  pub cut_agrees : (mask : ℕ) → Valid part (cut_world mask w) → Agree s part (cut_world mask w) (ledger.on_cut mask l)
  unfolding cut_world ledger.on_cut no_byte no_cycle Holds
  cut_agrees mask v =
      let b = cut_beside mask d in
      record {
        valid = v;
        state =
            record {
              power = sym b.power;
              chosen = ap (λ (f : Frame). selected f.stage) (sym b.frame);
              wel = ap (λ (g : Guard). g.wel) (sym b.guard);
              bp = cut_bp s part w l a mask ∙ ap (λ (g : Guard). protection_number g.protection) (sym b.guard);
              lock = subst (λ (g : Guard). LockAgrees g.lock state.closed) (sym b.guard) refl;
              frame =
                  subst (λ (f : Frame). FrameAgrees f.stage (after_cut mask d).load no_byte) (sym b.frame)
                  (record { heard = refl; code = λ h. absurd (false≢true h); count = refl; brought = tt });
              cycle = subst (λ (y : Cycle). CycleAgrees y (after_cut mask d).load no_cycle) (sym b.cycle) (record { left = refl; target = λ h. absurd (omega arith) });
            };
        bytes = λ k p h. ap (λ (n : List ℕ). get_or n p 0) (cut_memory k mask w) ∙ cut_holds s part w l a mask k p h;
      }

-- fewer ticks left make no other cycle
same_target : (t : Target) (load : Load) (c : state.Cycle) (n : ℕ) → TargetAgrees t load c → TargetAgrees t load (ledger.ticked n c)
unfolding ledger.ticked
same_target (Eeprom x) load c n g = record { kind = g.kind; page = g.page; loaded = g.loaded }
same_target (Id x) load c n g = record { kind = g.kind; page = g.page; loaded = g.loaded }
same_target (Status p) load c n g = record { kind = g.kind; loaded = g.loaded; bits = g.bits }

-- a wait, by whether the cycle ended in it
module _ (s : World) (part : ℕ) (w : World) (l : Ledger) (a : Agree s part w l) (r : Waited World) (q : Spent w r) (v : Valid part r.after) where
  abbrev e : Device
  e = r.after.device

  -- what no wait changes
  still : (m : Ledger) → m.power ≡ l.power → m.selected ≡ l.selected → m.lock ≡ l.lock → m.frame ≡ l.frame → m.wel ≡ e.guard.wel
      → m.bp ≡ protection_number e.guard.protection → CycleAgrees e.cycle e.load m.cycle → StateAgrees e m
  still m p c k f x b y =
      record {
        power = p ∙ a.state.power ∙ sym q.still.power;
        chosen = c ∙ a.state.chosen ∙ ap (λ (f : Frame). selected f.stage) (sym q.still.frame);
        wel = x;
        bp = b;
        lock = rw (k, q.still.lock) a.state.lock;
        frame =
            rw f
            (subst (λ (g : Frame). FrameAgrees g.stage e.load l.frame) (sym q.still.frame)
            (subst (λ (x : Load). FrameAgrees w.device.frame.stage x l.frame) (sym q.still.load) a.state.frame));
        cycle = y;
      }

  abbrev over : Bool
  over = running l.cycle && leb l.cycle.left r.used

  same_end : over ≡ ended w.device e
  same_end = ap (λ (n : ℕ). ltb 0 n && leb n r.used) a.state.cycle.left ∙ sym (spent_ended w r q)

  goes_on : over ≡ false → Agree s part r.after (ledger.waited r.used l)
  unfolding ledger.waited ledger.ticked
  goes_on t =
      let n = sym same_end ∙ t in
      record {
        valid = v;
        state =
            still _ refl refl refl refl (a.state.wel ∙ sym (rw n at q.wel)) (a.state.bp ∙ ap protection_number (sym (rw n at q.protection)))
            (record {
              left = omega (arith, q.left, a.state.cycle.left);
              target =
                  λ h.
                  subst (λ (t : Target). TargetAgrees t e.load (ledger.ticked r.used l.cycle)) (sym q.still.target)
                  (subst (λ (x : Load). TargetAgrees w.device.cycle.target x (ledger.ticked r.used l.cycle)) (sym q.still.load)
                  (same_target w.device.cycle.target w.device.load l.cycle r.used (a.state.cycle.target (omega (arith, q.left)))));
            });
        bytes = λ k p h. ap (λ (m : List ℕ). get_or m p 0) (rw n at (wait_memory k w r q)) ∙ a.bytes k p h;
      }

  is_over_lem : over ≡ true → Agree s part r.after (ledger.finished l)
  unfolding ledger.finished no_cycle Holds
  is_over_lem t =
      let n = sym same_end ∙ t in
      record {
        valid = v;
        state =
            still _ refl refl refl refl (sym (rw n at q.wel)) (stored_bp s part w l a whole_mask runs ∙ ap protection_number (sym (rw n at q.protection)))
            (record { left = omega (arith, all); target = λ h. absurd (omega (arith, all)) });
        bytes = λ k p h. ap (λ (m : List ℕ). get_or m p 0) (rw n at (wait_memory k w r q)) ∙ stored_holds s part w l a whole_mask runs k p h;
      }
    where
      runs : 0 < w.device.cycle.left
      runs = omega (arith, a.state.cycle.left, ltb-true 0 l.cycle.left (both_left (running l.cycle) (leb l.cycle.left r.used) t))

      all : e.cycle.left ≡ 0
      all = omega (arith, q.left, a.state.cycle.left, leb-true l.cycle.left r.used (both_right (running l.cycle) (leb l.cycle.left r.used) t))

pub wait_agrees :
    (s : World) (part : ℕ) (w : World) (l : Ledger) → Agree s part w l → (boots : Bool) (n : ℕ) → Valid part (waited boots n w).after
    → Agree s part (waited boots n w).after (ledger.on_wait (waited boots n w).used l)
unfolding ledger.on_wait
wait_agrees s part w l a boots n v =
    let r : Waited World = waited boots n w in
    let q : Spent w r = wait_spent part boots n w a.valid.range in
    by_cases (over s part w l a r q v) (λ t. rw t (is_over_lem s part w l a r q v t)) (λ t. rw t (goes_on s part w l a r q v t))
