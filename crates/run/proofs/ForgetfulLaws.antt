-- The forgetful chip has demand 3 from fresh, since in a run from fresh WEL is set while a cycle runs, so that its runs are ours. It does not have demand 3
-- from any beginning.
-- Assumes nothing.
use Prim.Native.Nat.{ℕ, ◌<◌}
use native.Mathlib.Omega.{arith}
use mathlib.Core.Path.{◌≡◌, refl, sym, ap, subst, ◌∙◌}
use mathlib.Core.Bool.{Bool, true, false, ◌&&◌}
use mathlib.Core.List.{List, [], ◌∷◌, ◌++◌}
use borrow.Author.Tests.{eqb-true, eqb-false}
use lib.Dec.{eqb}
use lib.ListN.{replicate}
use Rattle.base.specs.Wait.{waited_by}
use Rattle.base.specs.Words.{pick, every, store_under, members}
use Rattle.base.proofs.Tests.{by_cases, pick_when, both_left, both_right, true_false}
use Rattle.record.specs.declared.Act.{Act}
use Rattle.record.specs.declared.Act.TheVariants.{Select, Byte, End, Wait, Cut, Up, Set}
use Rattle.record.specs.declared.Cycle.{Cycle}
use Rattle.record.specs.declared.Device.{Device}
use Rattle.record.specs.declared.Guard.{Guard}
use Rattle.record.specs.Fresh.{fresh}
use Rattle.record.specs.Part.{top_of, boots_of}
use Rattle.record.specs.Setters.{with_left}
use Rattle.record.specs.Stages.{foreign_to_wip}
use Rattle.record.specs.World.{World, moved, Shaped, fresh_world}
use Rattle.record.proofs.WorldLaws.{set_bytes, replicate_bytes}
use Rattle.refusals.specs.InRange.{InRange}
use Rattle.refusals.specs.Range.{out_of_range, clock_out, frame_out, cycle_out, power_out, bit_outside}
use Rattle.refusals.specs.Refusal.{refusal_of}
use Rattle.refusals.proofs.RangeLaws.{in_range_lem}
use Rattle.refusals.proofs.TableLaws as table
use Rattle.events.specs.Control.{pulls_irq}
use Rattle.events.specs.Tick.{events_tick}
use Rattle.events.specs.Range.{window_out, debounce_out, events_out}
use Rattle.ticks.specs.Lines.{irq_low, wdo_low, flags_changed, changed}
use Rattle.ticks.specs.Oscillator.{oscillator_tick}
use Rattle.ticks.specs.Watchdog.{watchdog_tick}
use Rattle.ticks.specs.Event.{event_tick}
use Rattle.ticks.specs.Clock.{calendar_tick}
use Rattle.ticks.specs.Tick.{cycle_device, cycle_tick, clockwork, tick, waited}
use Rattle.ticks.proofs.WaitLaws.{wait_spent}
use Rattle.frames.specs.Frame.{after_byte, after_select}
use Rattle.frames.proofs.FrameLaws.{written_beside}
use Rattle.ends.specs.End.{after_end}
use Rattle.ends.specs.Write.{data_fits, allowed, carried, cycle_after, wel_after}
use Rattle.ends.proofs.LatchLaws.{end_cleared}
use Rattle.pins.proofs.SetLaws.{set_beside}
use Rattle.power.specs.Power.{cut_world, after_up}
use Rattle.power.proofs.PowerLaws.{cut_device, cut_beside}
use Rattle.acts.specs.Act.{Outcome, accepted, refusal_in, performed}
use Rattle.acts.proofs.ValidLaws.{Valid, fresh_valid, performed_valid}
use Rattle.ledger.specs.State.{Step, eeprom, no_byte, no_cycle, start}
use Rattle.ledger.specs.Frames as frames
use Rattle.ledger.specs.Bytes as bytes
use Rattle.ledger.specs.Steps as steps
use Rattle.run.specs.Claim.{Input, Stepped, Accounted, DemandThree, told, our_chip, world_after, steps_of}
use Rattle.run.specs.Begin.{loaded_below, ledger_of, DemandThreeFrom}
use Rattle.run.specs.Forgetful.{stilled, forgetful_chip, mid_cycle, five_ticks, BegunRuns, SaysMore}
use Rattle.run.proofs.LatchLaws.{wait_told}
use Rattle.run.proofs.DemandThree.{demand_three_lem}
use Rattle.run.proofs.BeginAgrees.{from_gives_fresh}

-- WEL is set while a cycle runs
abbrev Latched : Device → Type 0
Latched d = 0 < d.cycle.left → d.guard.wel ≡ true

-- a write is carried with WEL set and with data
carried_by : (top k : ℕ) (d : Device) → carried top k d ≡ true → (d.guard.wel && data_fits d.load d.frame.stage) ≡ true
unfolding carried
carried_by top k d c =
    let t : Bool = d.guard.wel && data_fits d.load d.frame.stage in
    both_left t (eqb k 0) (both_left (t && eqb k 0) (allowed top d.guard d.frame.stage) c)

-- an end that clears WEL is that of EEWRDI, which starts no cycle and is not heard while one runs
end_latched : (part k : ℕ) (d : Device) → InRange part d → Latched d → Latched (after_end (top_of part) k d)
unfolding after_end cycle_after
end_latched part k d range l h =
    let top : ℕ = top_of part in
    let fits : Bool = data_fits d.load d.frame.stage in
    by_cases (wel_after k d.guard.wel d.frame.stage) (λ t. t)
    (λ f.
    by_cases (carried top k d)
    (λ c.
    let g : (d.guard.wel && fits) ≡ true = carried_by top k d c in
    let s = ((end_cleared top k d (both_left d.guard.wel fits g)).0 f).0 in
    absurd (true_false (both_right d.guard.wel fits g) (ap (data_fits d.load) s)))
    (λ c.
    let some : 0 < d.cycle.left = rw c at h in
    let s = ((end_cleared top k d (l some)).0 f).0 in
    absurd (true_false (ap foreign_to_wip s) (range.power.heard some))))

-- a wait that clears WEL used all the ticks that the cycle had left
wait_latched : (part n : ℕ) (w : World) → InRange part w.device → Latched w.device → Latched (waited (boots_of part) n w).after.device
wait_latched part n w range l h =
    let q = wait_spent part (boots_of part) n w range in
    by_cases (waited (boots_of part) n w).after.device.guard.wel (λ t. t)
    (λ f. absurd (omega (arith, h, q.left, (wait_told part n w range (l (omega (arith, h, q.left))) f).1)))

accepted_latched :
    (part : ℕ) (act : Act) (arg : ℕ) (w : World) → InRange part w.device → refusal_in part act arg w ≡ 0 → Latched w.device
    → Latched (accepted part arg w act).after.device
unfolding after_select after_byte after_up
accepted_latched part Select arg w range e l = l
accepted_latched part Byte arg w range e l =
    let b = written_beside (boots_of part) w.device arg w.device.frame.stage in
    λ h. ap (λ (g : Guard). g.wel) b.guard ∙ l (subst (λ (y : Cycle). 0 < y.left) b.cycle h)
accepted_latched part End arg w range e l = end_latched part arg w.device range l
accepted_latched part Wait arg w range e l = wait_latched part arg w range l
accepted_latched part Cut arg w range e l =
    let gone : (cut_world arg w).device.cycle.left ≡ 0 =
    ap (λ (d : Device). d.cycle.left) (cut_device arg w) ∙ ap (λ (y : Cycle). y.left) (cut_beside arg w.device).cycle in
    λ h. absurd (omega (arith, h, gone))
accepted_latched part (Set p) arg w range e l =
    let b = set_beside p arg w.device in
    λ h. ap (λ (g : Guard). g.wel) b.guard ∙ l (subst (λ (y : Cycle). 0 < y.left) b.cycle h)
accepted_latched part Up arg w range e l =
    let off : w.device.power ≡ false = (table.accepted part Up arg w.device _ _ e).power in
    λ h. absurd (omega (arith, h, range.power.still off))

step_latched :
    (part : ℕ) (act : Act) (arg : ℕ) (w : World) → InRange part w.device → Latched w.device → Latched (performed part act arg w).after.device
unfolding performed
step_latched part act arg w range l =
    pick_when (λ (o : Outcome). Latched o.after.device) (eqb (refusal_in part act arg w) 0)
    (λ t. accepted_latched part act arg w range (eqb-true (refusal_in part act arg w) 0 t) l) (λ t. l)

-- So the two chips do the same,
same_world : (w : World) → Latched w.device → pick w.device.guard.wel w (stilled w) ≡ w
same_world w l =
    pick_when (λ (v : World). v ≡ w) w.device.guard.wel (λ t. refl)
    (λ t.
    by_cases (eqb w.device.cycle.left 0)
    (λ z. ap (λ (n : ℕ). moved w (with_left w.device n)) (sym (eqb-true w.device.cycle.left 0 z)))
    (λ z. absurd (true_false (l (omega (arith, eqb-false w.device.cycle.left 0 z))) t)))

record SameRun (part : ℕ) (xs : List Input) (w : World) : Type 0 where
  after : world_after forgetful_chip part xs w ≡ world_after our_chip part xs w
  same : steps_of forgetful_chip part xs w ≡ steps_of our_chip part xs w

same_run : (part : ℕ) (xs : List Input) (w : World) → Valid part w → Latched w.device → SameRun part xs w
unfolding world_after steps_of forgetful_chip our_chip
same_run part [] w v l = record { after = refl; same = refl }
same_run part (x ∷ xs) w v l =
    let e : forgetful_chip part x.act x.arg w ≡ our_chip part x.act x.arg w = ap (our_chip part x.act x.arg) (same_world w l) in
    let o : Stepped = our_chip part x.act x.arg w in
    let r =
    same_run part xs o.after (performed_valid part x.act x.arg w v) (step_latched part x.act x.arg w v.range l) in
    record {
      after = ap (λ (y : Stepped). world_after forgetful_chip part xs y.after) e ∙ r.after;
      same =
          ap (λ (y : Stepped). told x.act x.arg y.used ++ steps_of forgetful_chip part xs y.after) e
          ∙ ap (λ (ss : List Step). told x.act x.arg o.used ++ ss) r.same;
    }

-- and the forgetful one has what ours has from fresh.
fresh_latched : Latched fresh
unfolding fresh
fresh_latched h = absurd (omega arith)

forgetful_from_fresh : DemandThree forgetful_chip
unfolding DemandThree
forgetful_from_fresh part known xs =
    let s : World = fresh_world part in
    let r = same_run part xs s (fresh_valid part) fresh_latched in
    subst (λ (v : World). Accounted part v (steps.ledger_run part (steps_of forgetful_chip part xs s) start)) (sym r.after)
    (subst (λ (ss : List Step). Accounted part (world_after our_chip part xs s) (steps.ledger_run part ss start)) (sym r.same) (demand_three_lem part known xs))

-- The runs compute.
pub begun_runs : BegunRuns
unfolding BegunRuns world_after steps_of forgetful_chip our_chip performed refusal_of out_of_range clock_out frame_out cycle_out power_out events_out window_out debounce_out bit_outside every fresh after_end carried cycle_after wel_after waited_by tick cycle_tick cycle_device clockwork changed flags_changed irq_low pulls_irq wdo_low oscillator_tick watchdog_tick event_tick events_tick calendar_tick store_under members no_byte no_cycle loaded_below ledger_of frames.carried frames.cycle_of frames.wel_after frames.lock_after bytes.is_loaded bytes.loaded_byte bytes.entries_under bytes.entries_after bytes.bp_after bytes.byte_of steps.refused steps.on_end steps.ticked steps.waited steps.finished steps.on_wait steps.follow steps.ledger_run
begun_runs = ((refl, refl), (refl, refl), (refl, refl), (refl, refl), (refl, refl), (refl, refl))

-- the beginning is one of those that the claim speaks of
mid_range : InRange 2 mid_cycle.device
unfolding out_of_range clock_out frame_out cycle_out power_out events_out window_out debounce_out bit_outside every fresh
mid_range = in_range_lem 2 mid_cycle.device refl

mid_shaped : Shaped 2 mid_cycle
unfolding fresh
mid_shaped =
    record {
      sized =
          record {
            regs = refl;
            sram = refl;
            bytes = refl;
            offsets = omega arith;
            sram_bytes = replicate_bytes 64 0 (omega arith);
            load_bytes = set_bytes (replicate 8 0) 0 0x07 (omega arith) (replicate_bytes 8 0 (omega arith));
          };
      eeprom = refl;
      id = refl;
      eeprom_bytes = replicate_bytes 256 0x5a (omega arith);
      id_bytes = replicate_bytes 16 0x5a (omega arith);
    }

forgetful_fails : DemandThreeFrom forgetful_chip → ⊥
unfolding DemandThreeFrom BegunRuns
forgetful_fails claim =
    let b = begun_runs.5 in
    eqb-false 0x5a 0x07 refl (sym b.0 ∙ claim 2 refl mid_cycle mid_range mid_shaped five_ticks eeprom 0 (omega arith) ∙ b.1)

pub says_more : SaysMore
says_more = record { gives = from_gives_fresh; from_fresh = forgetful_from_fresh; fails = forgetful_fails }
