-- The promise of the event inputs over runs, proved: by the moves of a run and the events' own claims about moves.
-- Assumes nothing.
use Prim.Native.Nat.{ℕ, ◌<◌}
use native.Mathlib.Omega.{arith}
use mathlib.Core.Path.{◌≡◌, sym, ap, subst, ◌∙◌}
use mathlib.Core.Bool.{Bool, true, false}
use mathlib.Core.Logic.{◌↔◌}
use mathlib.Core.List.{List, ◌∷◌, ◌++◌}
use borrow.Author.Tests.{eqb-true}
use lib.Dec.{eqb}
use Rattle.base.specs.Wait.{steps}
use Rattle.base.proofs.Tests.{by_cases, true_false}
use Rattle.events.specs.declared.Inputs.{Inputs}
use Rattle.events.specs.Control.{evhif, evlif, number_of, debounce_of}
use Rattle.events.specs.Pins.{control_written}
use Rattle.events.specs.Beginning.{high_back, low_back}
use Rattle.events.specs.Story.{Move, after, written, Window, Steady}
use Rattle.events.proofs.MoveLaws.{high_before, low_before}
use Rattle.events.proofs.StoryLaws.{after_join}
use Rattle.record.specs.declared.Act.{Act}
use Rattle.record.specs.declared.Act.TheVariants.{Byte, Wait}
use Rattle.record.specs.declared.Stage.{Stage}
use Rattle.record.specs.Part.{boots_of}
use Rattle.record.specs.Setters.{inputs_of}
use Rattle.record.specs.World.{World, Shaped}
use Rattle.refusals.specs.InRange.{InRange}
use Rattle.ticks.specs.Tick.{tick}
use Rattle.acts.specs.Act.{Outcome, refusal_in, performed}
use Rattle.acts.proofs.OutcomeLaws.{by_acceptance, by_refusal, done_passed, done_as}
use Rattle.acts.proofs.ValidLaws.{Valid}
use Rattle.run.specs.Claim.{Input}
use Rattle.signals.specs.Moves.{run_of, byte_moves, moves_of, run_moves}
use Rattle.signals.specs.Claim.{control, high, low, to_event, next_of, next_moves, EventsRight}
use Rattle.signals.proofs.MoveLaws.{accepted_moves, act_moves, run_valid, run_moves_valid}
use Rattle.signals.proofs.StretchLaws.{Exact, Lasting, high_window, low_steady, exact_at, written_older, high_offs, low_offs, high_kept, low_kept}
use Rattle.signals.proofs.LoadedLaws.{high_loaded, low_loaded}
use Rattle.signals.proofs.PinLaws.{irq_pulled, act_kicks, act_leaves}
use Rattle.signals.proofs.ActLaws.{control_byte, calm_flags, written_by_lem, tail_flags, high_by_lem, low_by_lem}

valid : {part : ℕ} {w : World} → InRange part w.device → Shaped part w → Valid part w
valid r z = record { range = r; shaped = z }

-- One act more after a run. Of a flag g is supposed that it lasts, and that of the moves of an act only the newest may set it.
abbrev OneByOne : (ℕ → Bool) → Type 0
OneByOne g =
    (part arg : ℕ) (v : World) → Valid part v → (act : Act) (m : Move) (rest : List Move) → moves_of part act arg v ≡ m ∷ rest
    → g (after (inputs_of v.device) rest).control ≡ g (control v)

flag_run :
    (g : ℕ → Bool) → OneByOne g → (part : ℕ) (xs : List Input) (x : Input) (w : World) → Valid part w → Lasting g (inputs_of w.device)
    → (P : List Move → Type 0) → Exact g (inputs_of w.device) P → written (next_moves part xs x w) ≡ false → g (control (run_of part xs w)) ≡ false
    → (g (control (next_of part xs x w)) ≡ true) ↔ P (next_moves part xs x w)
flag_run g single part xs x w ok lasting P exact q f =
    let s : Inputs = inputs_of w.device in
    let v : World = run_of part xs w in
    let past : List Move = run_moves part xs w in
    let new : List Move = moves_of part x.act x.arg v in
    let u = run_valid part xs w ok in
    let leads : after s past ≡ inputs_of v.device = sym (run_moves_valid part xs w ok) in
    let joined : (ms : List Move) → after s (ms ++ past) ≡ after (inputs_of v.device) ms = λ ms. after_join s ms past ∙ ap (λ (t : Inputs). after t ms) leads in
    let e : g (control (next_of part xs x w)) ≡ g (after s (new ++ past)).control =
    ap (λ (t : Inputs). g t.control) (act_moves part x.act x.arg v u ∙ sym (joined new)) in
    let y =
    exact_at g s lasting P exact new past q (ap (λ (t : Inputs). g t.control) leads ∙ f)
    (λ m rest z. ap (λ (t : Inputs). g t.control) (joined rest) ∙ single part x.arg v u x.act m rest z ∙ f) in
    (λ t. y.0 (sym e ∙ t), λ p. e ∙ y.1 p)

-- V15, V16. Whatever law of the events says of the next move when it sets a flag, it says of the next act of a run.
pub high_run :
    (part : ℕ) (xs : List Input) (x : Input) (w : World) → InRange part w.device → Shaped part w → (P : List Move → Type 0)
    → Exact evhif (inputs_of w.device) P → written (next_moves part xs x w) ≡ false → high (run_of part xs w) ≡ false
    → (high (next_of part xs x w) ≡ true) ↔ P (next_moves part xs x w)
high_run part xs x w r z =
    flag_run evhif (λ k n v u act m rest e. (tail_flags k n v u act m rest e).0) part xs x w (valid r z)
    (λ m past q f. high_before (inputs_of w.device) m past q (control_byte part w.device r) f)

pub low_run :
    (part : ℕ) (xs : List Input) (x : Input) (w : World) → InRange part w.device → Shaped part w → (P : List Move → Type 0)
    → Exact evlif (inputs_of w.device) P → written (next_moves part xs x w) ≡ false → low (run_of part xs w) ≡ false
    → (low (next_of part xs x w) ≡ true) ↔ P (next_moves part xs x w)
low_run part xs x w r z =
    flag_run evlif (λ k n v u act m rest e. (tail_flags k n v u act m rest e).1) part xs x w (valid r z)
    (λ m past q f. low_before (inputs_of w.device) m past q (control_byte part w.device r) f)

-- a flag that is clear after a run in which 0Bh was not written was clear before it
clear_first :
    (g : ℕ → Bool)
    → ((s : Inputs) (past : List Move) → written past ≡ false → s.control < 256 → g s.control ≡ true → g (after s past).control ≡ true)
    → (part : ℕ) (xs : List Input) (x : Input) (w : World) → InRange part w.device → Shaped part w → written (next_moves part xs x w) ≡ false
    → g (control (run_of part xs w)) ≡ false → g (control w) ≡ false
clear_first g stays part xs x w r z q f =
    by_cases (g (control w))
    (λ t.
    let p = written_older (moves_of part x.act x.arg (run_of part xs w)) (run_moves part xs w) q in
    absurd
    (true_false
    (ap (λ (s : Inputs). g s.control) (run_moves_valid part xs w (valid r z))
    ∙ stays (inputs_of w.device) (run_moves part xs w) p (control_byte part w.device r) t) f))
    (λ c. c)

-- a byte at 0Bh
byte_begins :
    (part arg : ℕ) (w : World) → Valid part w → (performed part Byte arg w).number ≡ 0 → w.device.frame.stage ≡ to_event
    → inputs_of (performed part Byte arg w).after.device ≡ control_written arg (inputs_of w.device)
unfolding after
byte_begins part arg w v e s =
    ap (λ (o : Outcome). inputs_of o.after.device) (done_as part Byte arg w e)
    ∙ accepted_moves part Byte arg w v (done_passed part Byte arg w e)
    ∙ ap (λ (x : Stage). after (inputs_of w.device) (byte_moves arg x)) s

-- a wait that is refused has used no tick
wait_calm :
    (part n : ℕ) (w : World) (k : ℕ) → k < (performed part Wait n w).count
    → (high (steps (tick (boots_of part)) k w) ≡ high w) × (low (steps (tick (boots_of part)) k w) ≡ low w)
wait_calm part n w k h =
    by_cases (eqb (refusal_in part Wait n w) 0)
    (λ t.
    calm_flags (boots_of part) n w k
    (subst (λ (o : Outcome). k < o.count) (by_acceptance part Wait n w (eqb-true (refusal_in part Wait n w) 0 t)) h))
    (λ f.
    let z : k < 0 = subst (λ (o : Outcome). k < o.count) (by_refusal part Wait n w f) h in
    absurd (omega arith))

-- what is known of the inputs after the moves of a run holds after the run
run_flag :
    (g : ℕ → Bool) (part : ℕ) (xs : List Input) (w : World) → Valid part w → {b : Bool} → g (after (inputs_of w.device) (run_moves part xs w)).control ≡ b
    → g (control (run_of part xs w)) ≡ b
run_flag g part xs w v e = ap (λ (s : Inputs). g s.control) (run_moves_valid part xs w v) ∙ e

-- The promise.
pub events_right : EventsRight
events_right =
    record {
      moves = λ part xs w r z. run_moves_valid part xs w (valid r z);
      begins = λ part arg w r z. byte_begins part arg w (valid r z);
      high_exact =
          λ part xs x w r z p.
          high_run part xs x w r z (Window w.device.events.drum (number_of (control w))) (high_window (inputs_of w.device) p);
      high_from =
          λ part xs x w r z on ev q f.
          high_run part xs x w r z (λ (ms : List Move). Window 0 (number_of (control w)) (ms ++ high_back (inputs_of w.device)))
          (high_loaded (inputs_of w.device)
          (record { byte = control_byte part w.device r; inside = r.clock.events; enabled = on; event = ev; clear = clear_first evhif high_kept part xs x w r z q f })) q f;
      low_exact =
          λ part xs x w r z p.
          low_run part xs x w r z (Steady w.device.events.door (debounce_of (control w))) (low_steady (inputs_of w.device) p);
      low_from =
          λ part xs x w r z on q f.
          low_run part xs x w r z (λ (ms : List Move). Steady 0 (debounce_of (control w)) (ms ++ low_back (inputs_of w.device)))
          (low_loaded (inputs_of w.device)
          (record { byte = control_byte part w.device r; inside = r.clock.events; enabled = on; clear = clear_first evlif low_kept part xs x w r z q f })) q f;
      stops = wait_calm;
      pulls = irq_pulled;
      kicks = act_kicks;
      kicks_not = act_leaves;
      high_off =
          λ part xs w r z o q. run_flag evhif part xs w (valid r z) (high_offs (inputs_of w.device) (run_moves part xs w) q (control_byte part w.device r) o);
      low_off =
          λ part xs w r z o q. run_flag evlif part xs w (valid r z) (low_offs (inputs_of w.device) (run_moves part xs w) q (control_byte part w.device r) o);
      high_stays =
          λ part xs w r z t q. run_flag evhif part xs w (valid r z) (high_kept (inputs_of w.device) (run_moves part xs w) q (control_byte part w.device r) t);
      low_stays =
          λ part xs w r z t q. run_flag evlif part xs w (valid r z) (low_kept (inputs_of w.device) (run_moves part xs w) q (control_byte part w.device r) t);
      high_by = λ part act arg w r z. high_by_lem part arg w (valid r z) act;
      low_by = λ part act arg w r z. low_by_lem part arg w (valid r z) act;
      written_by = written_by_lem;
    }

-- V18. The inputs after a run are those after its moves.
pub run_moves_lem :
    (part : ℕ) (xs : List Input) (w : World) → InRange part w.device → Shaped part w
    → inputs_of (run_of part xs w).device ≡ after (inputs_of w.device) (run_moves part xs w)
run_moves_lem part xs w r z = run_moves_valid part xs w (valid r z)
