-- Runs as moves: the event inputs after an act, and after a run, are those after its moves.
-- Assumes nothing.
use Prim.Native.Nat.{ℕ, zero, suc, ◌<◌}
use native.Mathlib.Omega.{arith}
use mathlib.Core.Path.{◌≡◌, refl, sym, ap, subst, ◌∙◌}
use mathlib.Core.Bool.{Bool, false}
use mathlib.Core.List.{List, [], ◌∷◌}
use borrow.Author.Tests.{eqb-true, eqb-false, eq-eqb, ltb-false}
use lib.Dec.{eqb}
use lib.ListN.{length}
use Rattle.base.specs.Words.{pick}
use Rattle.base.specs.Wait.{steps}
use Rattle.base.proofs.Tests.{by_cases, pick_when, yes, no}
use Rattle.base.proofs.WaitLaws.{wait_stops}
use Rattle.events.specs.declared.Inputs.{Inputs}
use Rattle.events.specs.Tick.{events_tick}
use Rattle.events.specs.Story.{Move, after}
use Rattle.events.proofs.StoryLaws.{after_join}
use Rattle.record.specs.declared.Act.{Act}
use Rattle.record.specs.declared.Act.TheVariants.{Select, Byte, End, Wait, Cut, Up, Set}
use Rattle.record.specs.declared.Device.{Device}
use Rattle.record.specs.declared.Pin.TheVariants.{Evls, Evhs}
use Rattle.record.specs.declared.Place.{Place}
use Rattle.record.specs.declared.Place.TheVariants.{EepromAt, ClockAt, IdAt}
use Rattle.record.specs.declared.Stage.{Stage}
use Rattle.record.specs.declared.Stage.TheVariants.{Idle, Opened, Unheard, Instruction, Reading, Writing, Second, Over}
use Rattle.record.specs.Part.{top_of, boots_of}
use Rattle.record.specs.Registers.{vbaten, event_at}
use Rattle.record.specs.Setters.{inputs_of}
use Rattle.record.specs.World.{World}
use Rattle.refusals.proofs.TableLaws as table
use Rattle.registers.specs.Write.{write_clock}
use Rattle.ticks.specs.Tick.{tick, line_changed, waited}
use Rattle.ticks.proofs.TickLaws.{tick_device, device_tick_regs_length}
use Rattle.frames.specs.Frame.{written_place, written_at, after_byte, after_select}
use Rattle.ends.specs.End.{after_end}
use Rattle.power.specs.Power.{after_cut}
use Rattle.power.proofs.PowerLaws.{cut_device}
use Rattle.acts.specs.Act.{Outcome, accepted, refusal_in, performed}
use Rattle.acts.proofs.OutcomeLaws.{done_zero, by_refusal, by_acceptance}
use Rattle.acts.proofs.ValidLaws.{Valid, performed_valid}
use Rattle.run.specs.Claim.{Input, our_chip, world_after}
use Rattle.signals.specs.Moves.{run_of, counted, tick_moves, place_moves, byte_moves, cut_moves, done_moves, moves_of, run_moves}
use Rattle.signals.proofs.InputLaws.{tick_inputs, write_event, write_other, cut_kept, cut_forgets, up_inputs, door_inputs, drum_inputs}

-- the last of so many steps
pub steps_last : {S : Type 0} (step : S → S) (k : ℕ) (s : S) → steps step (suc k) s ≡ step (steps step k s)
unfolding steps
steps_last step zero s = refl
steps_last step (suc k) s = steps_last step k (step s)

-- ticks
pub ticks_length : (boots : Bool) (k : ℕ) (w : World) → length (steps (tick boots) k w).device.regs ≡ length w.device.regs
unfolding steps
ticks_length boots zero w = refl
ticks_length boots (suc k) w =
    ticks_length boots k (tick boots w) ∙ ap (λ (d : Device). length d.regs) (tick_device boots w) ∙ device_tick_regs_length boots w.device

pub tick_moved : (boots : Bool) (w : World) → length w.device.regs ≡ 32 → inputs_of (tick boots w).device ≡ events_tick (counted w.device) (inputs_of w.device)
tick_moved boots w l = ap inputs_of (tick_device boots w) ∙ tick_inputs boots w.device l

pub ticks_moves :
    (boots : Bool) (k : ℕ) (w : World) → length w.device.regs ≡ 32
    → inputs_of (steps (tick boots) k w).device ≡ after (inputs_of w.device) (tick_moves boots k w)
unfolding steps tick_moves after
ticks_moves boots zero w l = refl
ticks_moves boots (suc k) w l =
    let v : World = steps (tick boots) k w in
    ap (λ (x : World). inputs_of x.device) (steps_last (tick boots) k w) ∙ tick_moved boots v (ticks_length boots k w ∙ l)
    ∙ ap (events_tick (counted v.device)) (ticks_moves boots k w l)

pub wait_moves :
    (boots : Bool) (n : ℕ) (w : World) → length w.device.regs ≡ 32
    → inputs_of (waited boots n w).after.device ≡ after (inputs_of w.device) (tick_moves boots (waited boots n w).used w)
wait_moves boots n w l =
    ap (λ (x : World). inputs_of x.device) (wait_stops (tick boots) line_changed n w).after ∙ ticks_moves boots (waited boots n w).used w l

-- a byte
module _ (boots : Bool) (d : Device) (v : ℕ) (l : length d.regs ≡ 32) (h : v < 256) where
  place_moves_lem : (p : Place) → inputs_of (written_place boots d v p) ≡ after (inputs_of d) (place_moves v p)
  unfolding after
  place_moves_lem (EepromAt a) = refl
  place_moves_lem (ClockAt a) =
      pick_when (λ (ms : List Move). inputs_of (write_clock boots d a v) ≡ after (inputs_of d) ms) (eqb a.0 event_at)
      (λ t. write_event boots d a v l h (eqb-true a.0 event_at t)) (λ f. write_other boots d a v (eqb-false a.0 event_at f))
  place_moves_lem (IdAt a) = refl

  written_moves : (s : Stage) → inputs_of (written_at boots d v s) ≡ after (inputs_of d) (byte_moves v s)
  unfolding after
  written_moves Idle = refl
  written_moves Opened = refl
  written_moves Unheard = refl
  written_moves (Instruction c) = refl
  written_moves (Reading p) = refl
  written_moves (Writing p) = place_moves_lem p
  written_moves (Second q) = refl
  written_moves (Over o) = refl

  pub byte_moves_lem : (top : ℕ) → inputs_of (after_byte boots top v d) ≡ after (inputs_of d) (byte_moves v d.frame.stage)
  unfolding after_byte
  byte_moves_lem top = written_moves d.frame.stage

-- a cut
pub cut_moves_lem : (mask : ℕ) (d : Device) → inputs_of (after_cut mask d) ≡ after (inputs_of d) (cut_moves d)
unfolding after
cut_moves_lem mask d =
    pick_when (λ (ms : List Move). inputs_of (after_cut mask d) ≡ after (inputs_of d) ms) (vbaten d.regs) (cut_kept mask d) (cut_forgets mask d)

-- V18. an act that is done
pub accepted_moves :
    (part : ℕ) (act : Act) (arg : ℕ) (w : World) → Valid part w → refusal_in part act arg w ≡ 0
    → inputs_of (accepted part arg w act).after.device ≡ after (inputs_of w.device) (done_moves part (accepted part arg w act).count arg w act)
unfolding after after_select after_end
accepted_moves part Select arg w v e = refl
accepted_moves part Byte arg w v e =
    byte_moves_lem (boots_of part) w.device arg v.shaped.sized.regs (omega (arith, ltb-false 255 arg (table.accepted part Byte arg w.device _ _ e).arg)) (top_of part)
accepted_moves part End arg w v e = refl
accepted_moves part Wait arg w v e = wait_moves (boots_of part) arg w v.shaped.sized.regs
accepted_moves part Cut arg w v e = ap inputs_of (cut_device arg w) ∙ cut_moves_lem arg w.device
accepted_moves part Up arg w v e = up_inputs w.device
accepted_moves part (Set Evls) arg w v e = door_inputs arg w.device v.shaped.sized.regs
accepted_moves part (Set Evhs) arg w v e = drum_inputs arg w.device v.shaped.sized.regs

-- the moves of an act, done and refused
pub moves_done :
    (part : ℕ) (act : Act) (arg : ℕ) (w : World) → refusal_in part act arg w ≡ 0
    → moves_of part act arg w ≡ done_moves part (accepted part arg w act).count arg w act
unfolding moves_of
moves_done part act arg w e =
    ap (λ (o : Outcome). pick (eqb o.number 0) (done_moves part o.count arg w act) []) (by_acceptance part act arg w e)
    ∙ sym (yes (done_moves part (accepted part arg w act).count arg w act) [] (eq-eqb (accepted part arg w act).number 0 (done_zero part arg w act)))

pub moves_refused : (part : ℕ) (act : Act) (arg : ℕ) (w : World) → eqb (refusal_in part act arg w) 0 ≡ false → moves_of part act arg w ≡ []
unfolding moves_of
moves_refused part act arg w f =
    ap (λ (o : Outcome). pick (eqb o.number 0) (done_moves part o.count arg w act) []) (by_refusal part act arg w f)
    ∙ sym (no (done_moves part 0 arg w act) [] f)

-- V18. any act
pub act_moves :
    (part : ℕ) (act : Act) (arg : ℕ) (w : World) → Valid part w
    → inputs_of (performed part act arg w).after.device ≡ after (inputs_of w.device) (moves_of part act arg w)
unfolding after
act_moves part act arg w v =
    by_cases (eqb (refusal_in part act arg w) 0)
    (λ t.
    let e = eqb-true (refusal_in part act arg w) 0 t in
    ap (λ (o : Outcome). inputs_of o.after.device) (by_acceptance part act arg w e) ∙ accepted_moves part act arg w v e
    ∙ ap (after (inputs_of w.device)) (sym (moves_done part act arg w e)))
    (λ f.
    ap (λ (o : Outcome). inputs_of o.after.device) (by_refusal part act arg w f)
    ∙ ap (after (inputs_of w.device)) (sym (moves_refused part act arg w f)))

-- a run of no act, and of one more
pub run_none : (part : ℕ) (w : World) → run_of part [] w ≡ w
unfolding world_after
run_none part w = refl

pub run_more : (part : ℕ) (x : Input) (xs : List Input) (w : World) → run_of part (x ∷ xs) w ≡ run_of part xs (performed part x.act x.arg w).after
unfolding world_after our_chip
run_more part x xs w = refl

pub run_valid : (part : ℕ) (xs : List Input) (w : World) → Valid part w → Valid part (run_of part xs w)
run_valid part [] w v = subst (Valid part) (sym (run_none part w)) v
run_valid part (x ∷ xs) w v =
    subst (Valid part) (sym (run_more part x xs w))
    (run_valid part xs (performed part x.act x.arg w).after (performed_valid part x.act x.arg w v))

-- V18. THE INPUTS AFTER A RUN are those after its moves.
pub run_moves_valid :
    (part : ℕ) (xs : List Input) (w : World) → Valid part w → inputs_of (run_of part xs w).device ≡ after (inputs_of w.device) (run_moves part xs w)
unfolding run_moves after
run_moves_valid part [] w v = ap (λ (x : World). inputs_of x.device) (run_none part w)
run_moves_valid part (x ∷ xs) w v =
    let u : World = (performed part x.act x.arg w).after in
    ap (λ (y : World). inputs_of y.device) (run_more part x xs w)
    ∙ run_moves_valid part xs u (performed_valid part x.act x.arg w v)
    ∙ ap (λ (s : Inputs). after s (run_moves part xs u)) (act_moves part x.act x.arg w v)
    ∙ sym (after_join (inputs_of w.device) (run_moves part xs u) (moves_of part x.act x.arg w))
