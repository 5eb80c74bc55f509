-- As before: where nothing is counted and no flag is set, each part of today's chip is that of the chip of before, and an act leaves it so.
-- Assumes nothing.
use Prim.Native.Nat.{ℕ, zero, suc, ◌-◌}
use mathlib.Core.Path.{◌≡◌, refl, sym, ap, subst, ◌∙◌}
use mathlib.Core.Bool.{Bool, false, not, ◌&&◌, ◌||◌, or-false, true≢false}
use mathlib.Core.Logic.{⊎_elim}
use mathlib.Core.List.{List, [], ◌∷◌}
use borrow.Author.Tests.{eqb-true}
use lib.Dec.{ltb, eqb}
use lib.ListN.{length, get_or, set}
use lib.Seq.{set-get_or}
use Rattle.std.specs.Prelude.{Result, Ok, Err}
use Rattle.base.specs.Words.{pick, bit}
use Rattle.base.specs.Wait.{plus, waited_by, steps}
use Rattle.base.proofs.Tests.{by_cases, pick_case, neither, neither_left}
use Rattle.base.proofs.WaitLaws.{wait_none, wait_stop, wait_go, wait_each}
use Rattle.events.specs.declared.Events.{Events}
use Rattle.events.specs.declared.Inputs.{Inputs}
use Rattle.events.specs.Control.{high_runs, low_runs, pulls_irq}
use Rattle.events.specs.Pins.{no_counts, control_written}
use Rattle.events.specs.Range.{events_out}
use Rattle.events.specs.Tick.{events_tick}
use Rattle.events.specs.Story.{Move, after}
use Rattle.record.specs.declared.Act.{Act}
use Rattle.record.specs.declared.Act.TheVariants.{Select, Byte, End, Wait, Cut, Up, Set}
use Rattle.record.specs.declared.ClockAddress.{ClockAddress}
use Rattle.record.specs.declared.Device.{Device}
use Rattle.record.specs.declared.Pin.{Pin}
use Rattle.record.specs.declared.Place.{Place}
use Rattle.record.specs.declared.Place.TheVariants.{EepromAt, ClockAt, IdAt}
use Rattle.std.specs.Prelude.{None}
use Rattle.record.specs.declared.Stage.{Stage}
use Rattle.record.specs.declared.Stage.TheVariants.{Idle, Opened, Unheard, Instruction, Reading, Writing, Second, Over}
use Rattle.record.specs.Fresh.{fresh}
use Rattle.record.specs.Part.{is_part, top_of, boots_of}
use Rattle.record.specs.Registers.{st, vbaten, vbat, oscon, seconds_at, day_at, watchdog_at, event_at, writable}
use Rattle.record.specs.Setters.{with_regs, with_sram, with_startup, with_watchdog, with_delay, with_events, with_stage, with_load, inputs_of, with_inputs}
use Rattle.record.specs.Stages.{selected}
use Rattle.record.specs.World.{World, world, moved, fresh_world}
use Rattle.refusals.specs.InRange.{InRange}
use Rattle.refusals.specs.Range.{out_of_range}
use Rattle.refusals.specs.Refusal.{wrong_length, wrong_arg, wrong_power, wrong_select, first_refusal, refusal_of}
use Rattle.refusals.proofs.RangeLaws.{out_of_range_lem}
use Rattle.registers.specs.Write.{delay_after, day_written, after_write, under_mask, write_clock}
use Rattle.ticks.specs.Lines.{irq_low, wdo_low, wip, differ, flags_changed, changed}
use Rattle.ticks.specs.Event.{event_tick}
use Rattle.ticks.specs.Clock.{calendar_tick, alarm_tick}
use Rattle.ticks.specs.Tick.{cycle_device, cycle_tick, clockwork, alive, tick, line_changed, waited}
use Rattle.ticks.proofs.TickLaws.{tick_device, device_tick_regs_length}
use Rattle.frames.specs.Frame.{stage_after, load_after, written_place, written_at, after_byte}
use Rattle.power.specs.Power.{watchdog_cut, failure_stamped, stopped_by, after_cut, cut_count, cut_world}
use Rattle.acts.specs.Act.{Outcome, outcome, refused, waited_outcome, accepted, refusal_in, performed}
use Rattle.acts.proofs.OutcomeLaws.{answered_by_table}
use Rattle.acts.proofs.ValidLaws.{Valid, performed_valid, fresh_valid}
use Rattle.run.specs.Claim.{Input}
use Rattle.lines.specs.declared.Fault.{Fault}
use Rattle.lines.specs.declared.Request.{Request}
use Rattle.lines.specs.declared.Request.TheVariants.{Part as PartLine, Act as ActLine}
use Rattle.lines.specs.Request.{request_of}
use Rattle.lines.specs.Print.{answer_line}
use Rattle.answers.specs.Answer.{Setup, setup, no_part, fresh_setup, LineAnswer, outcome_answer, request_answer, level_high, answer_text}
use Rattle.signals.specs.Moves.{counted, tick_moves, byte_moves, done_moves, moves_of}
use Rattle.signals.specs.Claim.{to_event}
use Rattle.signals.specs.Before.{clockwork_before, tick_before, irq_before, changed_before, stops_before, waited_before, after_write_before, write_before, place_by, stored_by, byte_before, forgotten_before, cut_before, out_before, refusal_before, accepted_before, performed_before, today, before, seen_of, seen_by, left_by, Quiet, NoPin, NoPins, NoFlag, NoFlags, answer_by, text_by, printed_by, PlainRequest, PlainLines, AsBefore}
use Rattle.signals.proofs.InputLaws.{cycle_inputs, watched, watched_inputs}
use Rattle.signals.proofs.MoveLaws.{tick_moved, act_moves, moves_done, moves_refused}
use Rattle.signals.proofs.StretchLaws.{none_runs}
use Rattle.signals.proofs.ActLaws.{event_stage}

-- where nothing is counted a tick of the inputs is none
quiet_tick : (c : Bool) (s : Inputs) → Quiet s → events_tick c s ≡ s
unfolding events_tick
quiet_tick c s q =
    rw (none_runs (high_runs c s.control) s.events.edges q.edges, none_runs (low_runs c s.control) s.events.debounce q.debounce)

-- and there is no count to make 0
no_counts_lem : (s : Inputs) → Quiet s → no_counts s.events ≡ s.events
no_counts_lem s q =
    λ i.
    record { door = s.events.door; drum = s.events.drum; edges = sym q.edges i; since = sym q.since i; debounce = sym q.debounce i }

put_back : (d : Device) → with_inputs d (inputs_of d) ≡ d
put_back d = ap (λ (l : List ℕ). with_regs d l) (set-get_or d.regs event_at 0)

event_none : (c : Bool) (d : Device) → Quiet (inputs_of d) → event_tick c d ≡ d
unfolding event_tick
event_none c d q = ap (with_inputs d) (quiet_tick c (inputs_of d) q) ∙ put_back d

-- A tick.
clockwork_before_lem : (boots : Bool) (d : Device) → Quiet (inputs_of d) → clockwork boots d ≡ clockwork_before boots d
unfolding clockwork clockwork_before
clockwork_before_lem boots d q =
    let c : Bool = oscon d.counters in
    ap (λ (w : Device). alarm_tick c w (calendar_tick c w)) (event_none c (watched boots d) (subst Quiet (sym (watched_inputs boots d)) q))

tick_before_lem : (boots : Bool) (w : World) → Quiet (inputs_of w.device) → tick boots w ≡ tick_before boots w
unfolding tick tick_before cycle_tick
tick_before_lem boots w q =
    let c : World = cycle_tick w in
    ap (λ (d : Device). pick (alive w.device) (world d c.eeprom c.id) w)
    (clockwork_before_lem boots (cycle_device w.device) (subst Quiet (sym (cycle_inputs w.device)) q))

-- The lines, and what stops a wait.
pub irq_before_lem : (d : Device) → Quiet (inputs_of d) → irq_low d ≡ irq_before d
unfolding irq_low irq_before pulls_irq
irq_before_lem d q = ap (λ (b : Bool). irq_before d || b) (neither q.high q.low) ∙ or-false (irq_before d)

quiet_flags : (d e : Device) → Quiet (inputs_of d) → Quiet (inputs_of e) → flags_changed (get_or d.regs event_at 0) (get_or e.regs event_at 0) ≡ false
unfolding flags_changed
quiet_flags d e p q = rw (p.high, q.high, p.low, q.low)

changed_before_lem : (d e : Device) → Quiet (inputs_of d) → Quiet (inputs_of e) → changed d e ≡ changed_before d e
unfolding changed changed_before
changed_before_lem d e p q =
    (λ i.
    differ (irq_before_lem d p i) (irq_before_lem e q i) || differ (wdo_low d) (wdo_low e) || quiet_flags d e p q i || differ (wip d) (wip e))
    ∙ ap (λ (b : Bool). b || differ (wip d) (wip e)) (or-false (differ (irq_before d) (irq_before e) || differ (wdo_low d) (wdo_low e)))

-- Two waits whose steps and tests agree where something holds, which a step keeps, are the same.
wait_alike :
    {S : Type 0} (step : S → S) (stops : S → S → Bool) (step' : S → S) (stops' : S → S → Bool) (Q : S → Type 0)
    → ((s : S) → Q s → step s ≡ step' s) → ((s : S) → Q s → Q (step s)) → ((s t : S) → Q s → Q t → stops s t ≡ stops' s t)
    → (n : ℕ) (s : S) → Q s → waited_by step' stops' n s ≡ waited_by step stops n s
wait_alike {S} step stops step' stops' Q p k q =
    wait_each step stops (λ n s r. Q s → waited_by step' stops' n s ≡ r)
    (λ s h. wait_none step' stops' s)
    (λ n s c h.
    wait_stop step' stops' n s (ap (stops' s) (sym (p s h)) ∙ sym (q s (step s) h (k s h)) ∙ c)
    ∙ ap (λ (t : S). record { used = 1; after = t }) (sym (p s h)))
    (λ n s r c e h.
    wait_go step' stops' n s (ap (stops' s) (sym (p s h)) ∙ sym (q s (step s) h (k s h)) ∙ c)
    ∙ ap (plus 1) (ap (waited_by step' stops' n) (sym (p s h)) ∙ e (k s h)))

record Still (w : World) : Type 0 where
  size : length w.device.regs ≡ 32
  quiet : Quiet (inputs_of w.device)

tick_still : (boots : Bool) (w : World) → Still w → Still (tick boots w)
tick_still boots w t =
    record {
      size = ap (λ (d : Device). length d.regs) (tick_device boots w) ∙ device_tick_regs_length boots w.device ∙ t.size;
      quiet =
          subst Quiet (sym (tick_moved boots w t.size ∙ quiet_tick (counted w.device) (inputs_of w.device) t.quiet)) t.quiet;
    }

wait_before : (boots : Bool) (n : ℕ) (w : World) → Still w → waited boots n w ≡ waited_before boots n w
wait_before boots n w t =
    sym
    (wait_alike (tick boots) line_changed (tick_before boots) stops_before Still (λ v s. tick_before_lem boots v s.quiet) (tick_still boots)
    (λ u v s r. changed_before_lem u.device v.device s.quiet r.quiet) n w t)

-- A byte.
after_write_before_lem :
    (boots old : Bool) (a : ℕ) (d : Device) → no_counts d.events ≡ d.events → after_write boots old a d ≡ after_write_before boots old a d
unfolding after_write after_write_before
after_write_before_lem boots old a d e =
    ap
    (λ (x : Device).
    pick (eqb a seconds_at) (pick (not boots && not (st d.regs)) (with_startup d 0) d)
    (pick (eqb a day_at) (with_regs d (day_written old d.regs))
    (pick (eqb a watchdog_at) (with_delay (with_watchdog d 0) (delay_after (get_or d.regs watchdog_at 0))) x)))
    (pick_case (λ (x : Device). x ≡ d) (eqb a event_at) (ap (with_events d) e) refl)

write_before_lem : (boots : Bool) (d : Device) (v : ℕ) (a : ClockAddress) → Quiet (inputs_of d) → write_clock boots d a v ≡ write_before boots d v a
unfolding write_clock write_before
write_before_lem boots d v a q =
    ap (λ (x : Device). pick (ltb a.0 0x20) x (pick (ltb a.0 0x60) (with_sram d (set d.sram (a.0 - 0x20) v)) d))
    (after_write_before_lem boots (vbat d.regs) a.0
    (with_regs d (set d.regs a.0 (under_mask (get_or writable a.0 0) (get_or d.regs a.0 0) v))) (no_counts_lem (inputs_of d) q))

module _ (boots : Bool) (d : Device) (v : ℕ) (q : Quiet (inputs_of d)) where
  place_before : (p : Place) → written_place boots d v p ≡ place_by (write_before boots d v) d p
  place_before (EepromAt a) = refl
  place_before (ClockAt a) = write_before_lem boots d v a q
  place_before (IdAt a) = refl

  stored_before : (s : Stage) → written_at boots d v s ≡ stored_by (write_before boots d v) d s
  stored_before Idle = refl
  stored_before Opened = refl
  stored_before Unheard = refl
  stored_before (Instruction c) = refl
  stored_before (Reading p) = refl
  stored_before (Writing p) = place_before p
  stored_before (Second x) = refl
  stored_before (Over l) = refl

  byte_before_lem : (top : ℕ) → after_byte boots top v d ≡ byte_before boots top v d
  unfolding after_byte byte_before
  byte_before_lem top =
      ap (λ (x : Device). with_load (with_stage x (stage_after top (wip d) v d.frame.stage)) (load_after d.load v d.frame.stage))
      (stored_before d.frame.stage)

-- A cut.
cut_before_lem : (mask : ℕ) (w : World) → Quiet (inputs_of w.device) → cut_world mask w ≡ cut_before mask w
unfolding cut_world cut_before after_cut
cut_before_lem mask w q =
    let s : Device = stopped_by mask w.device in
    ap
    (λ (e : Events).
    moved (cut_world mask w)
    (pick (vbaten s.regs) (watchdog_cut (with_regs s (failure_stamped s.regs))) (with_events (forgotten_before s) e)))
    (no_counts_lem (inputs_of w.device) q)

-- The table: no row of the event inputs holds.
out_before_lem : (part : ℕ) (d : Device) → InRange part d → out_of_range part d ≡ out_before part d
unfolding out_of_range out_before
out_before_lem part d r =
    let e : (out_before part d || events_out (get_or d.regs event_at 0) d.events) ≡ false = out_of_range_lem part d r in
    e ∙ sym (neither_left (out_before part d) (events_out (get_or d.regs event_at 0) d.events) e)

refusal_before_lem : (part : ℕ) (act : Act) (arg : ℕ) (w : World) → InRange part w.device → refusal_in part act arg w ≡ refusal_before part act arg w
unfolding refusal_of refusal_before
refusal_before_lem part act arg w r =
    λ i.
    first_refusal (not (is_part part)) (wrong_length part (length w.eeprom) (length w.id)) (out_before_lem part w.device r i) (wrong_arg act arg)
    (wrong_power act w.device.power) (wrong_select act (selected w.device.frame.stage))

-- An act.
accepted_before_lem :
    (part arg : ℕ) (w : World) → Still w → (act : Act) → ((p : Pin) → act ≡ Set p → ⊥) → accepted part arg w act ≡ accepted_before part arg w act
accepted_before_lem part arg w t Select n = refl
accepted_before_lem part arg w t Byte n =
    ap (λ (d : Device). outcome 0 (accepted part arg w Byte).reply 0 (moved w d)) (byte_before_lem (boots_of part) w.device arg t.quiet (top_of part))
accepted_before_lem part arg w t End n = refl
accepted_before_lem part arg w t Wait n = ap waited_outcome (wait_before (boots_of part) arg w t)
accepted_before_lem part arg w t Cut n = ap (λ (v : World). outcome 0 None (cut_count arg w.device) v) (cut_before_lem arg w t.quiet)
accepted_before_lem part arg w t Up n = refl
accepted_before_lem part arg w t (Set p) n = absurd (n p refl)

pub performed_before_lem :
    (part : ℕ) (act : Act) (arg : ℕ) (w : World) → Valid part w → Quiet (inputs_of w.device) → ((p : Pin) → act ≡ Set p → ⊥)
    → performed part act arg w ≡ performed_before part act arg w
unfolding performed performed_before
performed_before_lem part act arg w v q n =
    let e = refusal_before_lem part act arg w v.range in
    let a = accepted_before_lem part arg w (record { size = v.shaped.sized.regs; quiet = q }) act n in
    λ i. pick (eqb (e i) 0) (a i) (refused (e i) w)

-- An act leaves nothing counted and no flag, where it sets no pin and writes none.
quiet_ticks_lem : (boots : Bool) (k : ℕ) (w : World) (s : Inputs) → Quiet s → after s (tick_moves boots k w) ≡ s
unfolding tick_moves after
quiet_ticks_lem boots zero w s q = refl
quiet_ticks_lem boots (suc k) w s q =
    ap (events_tick (counted (steps (tick boots) k w).device)) (quiet_ticks_lem boots k w s q) ∙ quiet_tick (counted (steps (tick boots) k w).device) s q

quiet_written : (v : ℕ) (s : Inputs) → bit v 7 ≡ false → bit v 6 ≡ false → Quiet (control_written v s)
unfolding control_written
quiet_written v s h l = record { edges = refl; since = refl; debounce = refl; high = h; low = l }

module _ (part arg : ℕ) (w : World) (s : Inputs) (q : Quiet s) where
  quiet_made :
      (act : Act) (count : ℕ) → ((p : Pin) → act ≡ Set p → ⊥)
      → (act ≡ Byte → w.device.frame.stage ≡ to_event → (bit arg 7 ≡ false) × (bit arg 6 ≡ false)) → Quiet (after s (done_moves part count arg w act))
  unfolding after
  quiet_made Select count n f = q
  quiet_made Byte count n f =
      ⊎_elim
      (λ e.
      let b = f refl e in
      subst (λ (x : Stage). Quiet (after s (byte_moves arg x))) (sym e) (quiet_written arg s b.0 b.1))
      (λ e. subst (λ (x : List Move). Quiet (after s x)) (sym e) q)
      (event_stage arg w.device.frame.stage)
  quiet_made End count n f = q
  quiet_made Wait count n f = subst Quiet (sym (quiet_ticks_lem (boots_of part) count w s q)) q
  quiet_made Cut count n f = pick_case (λ (x : List Move). Quiet (after s x)) (vbaten w.device.regs) q (quiet_written 0 s refl refl)
  quiet_made Up count n f = q
  quiet_made (Set p) count n f = absurd (n p refl)

  quiet_moves :
      (act : Act) → ((p : Pin) → act ≡ Set p → ⊥)
      → (act ≡ Byte → (performed part act arg w).number ≡ 0 → w.device.frame.stage ≡ to_event → (bit arg 7 ≡ false) × (bit arg 6 ≡ false))
      → Quiet (after s (moves_of part act arg w))
  unfolding after
  quiet_moves act n f =
      by_cases (eqb (refusal_in part act arg w) 0)
      (λ t.
      let e = eqb-true (refusal_in part act arg w) 0 t in
      subst (λ (x : List Move). Quiet (after s x)) (sym (moves_done part act arg w e))
      (quiet_made act (accepted part arg w act).count n (λ b. f b (answered_by_table part act arg w ∙ e))))
      (λ t. subst (λ (x : List Move). Quiet (after s x)) (sym (moves_refused part act arg w t)) q)

-- One act: answered as before, and as quiet after it.
step_before :
    (part : ℕ) (act : Act) (arg : ℕ) (w : World) → Valid part w → Quiet (inputs_of w.device) → NoPin act → NoFlag part act arg w
    → (performed part act arg w ≡ performed_before part act arg w) × Quiet (inputs_of (performed part act arg w).after.device)
step_before part act arg w v q n f =
    let e : performed part act arg w ≡ performed_before part act arg w = performed_before_lem part act arg w v q n in
    let b : act ≡ Byte → (performed part act arg w).number ≡ 0 → w.device.frame.stage ≡ to_event → (bit arg 7 ≡ false) × (bit arg 6 ≡ false) =
    λ a z. f a (sym (ap (λ (y : Outcome). y.number) e) ∙ z) in
    (e, subst Quiet (sym (act_moves part act arg w v)) (quiet_moves part arg w (inputs_of w.device) q act n b))

-- A run.
run_before :
    (part : ℕ) (xs : List Input) (w : World) → Valid part w → Quiet (inputs_of w.device) → NoPins xs → NoFlags part xs w
    → (seen_by today part xs w ≡ seen_by before part xs w) × (left_by today part xs w ≡ left_by before part xs w)
unfolding seen_by left_by NoPins NoFlags
run_before part [] w v q n f = (refl, refl)
run_before part (x ∷ xs) w v q n f =
    let act : Act = x.act in
    let arg : ℕ = x.arg in
    let one = step_before part act arg w v q n.0 f.0 in
    let o : Outcome = performed part act arg w in
    let g : NoFlags part xs o.after = subst (λ (y : Outcome). NoFlags part xs y.after) (sym one.0) f.1 in
    let r = run_before part xs o.after (performed_valid part act arg w v) one.1 n.1 g in (
      (λ i. record { number = o.number; reply = o.reply; count = o.count; irq = irq_before_lem o.after.device one.1 i; wdo = wdo_low o.after.device } ∷ r.0 i)
          ∙ ap (λ (y : Outcome). seen_of before y ∷ seen_by before part xs y.after) one.0,
      r.1 ∙ ap (λ (y : Outcome). left_by before part xs y.after) one.0,
    )

fresh_quiet : Quiet (inputs_of fresh)
unfolding fresh
fresh_quiet = record { edges = refl; since = refl; debounce = refl; high = refl; low = refl }

-- A tape: where there is a part, its chip is in range and quiet.
record Ready (s : Setup) : Type 0 where
  known : no_part s ≡ false → Valid s.part s.chip × Quiet (inputs_of s.chip.device)

fresh_ready : (part : ℕ) → Ready (fresh_setup part)
fresh_ready part = record { known = λ h. (fresh_valid part, fresh_quiet) }

-- the levels that are printed
text_before : (a : LineAnswer) → Ready a.after → text_by today a ≡ text_by before a
text_before a r =
    by_cases (no_part a.after)
    (λ t. rw t)
    (λ f. ap (λ (b : Bool). answer_line a.number a.out (level_high a.after.part b) (level_high a.after.part (wdo_low a.after.chip.device)))
    (irq_before_lem a.after.chip.device (r.known f).1))

line_before : (q : Result Request Fault) (s : Setup) → Ready s → PlainRequest q s → (answer_by today q s ≡ answer_by before q s) × Ready (answer_by today q s).after
line_before (Ok (PartLine arg)) s r p = (
  refl,
  pick_case (λ (a : LineAnswer). Ready a.after) (no_part s) (pick_case (λ (a : LineAnswer). Ready a.after) (is_part arg) (fresh_ready arg) r) r,
)
line_before (Ok (ActLine act arg)) s r p =
    by_cases (no_part s)
    (λ t. rw t (refl, r))
    (λ f.
    let k = r.known f in
    let one = step_before s.part act arg s.chip k.0 k.1 p.0 p.1 in
    rw f
    (ap (outcome_answer s.part act) one.0, record { known = λ h. (performed_valid s.part act arg s.chip k.0, one.1) }))
line_before (Err fault) s r p = (refl, r)

lines_before : (lines : List (List ℕ)) (s : Setup) → Ready s → PlainLines lines s → printed_by today lines s ≡ printed_by before lines s
unfolding printed_by PlainLines
lines_before [] s r p = refl
lines_before (line ∷ lines) s r p =
    let q : Result Request Fault = request_of line in
    let one = line_before q s r p.0 in
    let a : LineAnswer = answer_by today q s in
    let g : PlainLines lines a.after = subst (λ (y : LineAnswer). PlainLines lines y.after) (sym one.0) p.1 in
    (λ i. text_before a one.1 i ∷ lines_before lines a.after one.1 g i)
    ∙ ap (λ (y : LineAnswer). text_by before y ∷ printed_by before lines y.after) one.0

printed_today : (q : Result Request Fault) (s : Setup) → text_by today (answer_by today q s) ≡ answer_text (request_answer q s)
unfolding answer_text
printed_today (Ok (PartLine arg)) s = refl
printed_today (Ok (ActLine act arg)) s = refl
printed_today (Err fault) s = refl

-- V17. The promise.
pub as_before_lem : AsBefore
as_before_lem =
    record {
      run = λ part xs w r z. run_before part xs w (record { range = r; shaped = z });
      fresh = λ part xs. run_before part xs (fresh_world part) (fresh_valid part) fresh_quiet;
      act = λ part act arg w r z. performed_before_lem part act arg w (record { range = r; shaped = z });
      tape = λ lines w. lines_before lines (setup 0 w) (record { known = λ h. absurd (true≢false h) });
      prints = printed_today;
      lines = irq_before_lem;
    }
