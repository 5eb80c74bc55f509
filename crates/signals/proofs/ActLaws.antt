-- What one act may do to the flags: which acts write 0Bh, which set a flag, and that a wait stops where a flag changes.
-- Assumes nothing.
use Prim.Native.Nat.{ℕ, zero, suc, ◌<◌, ◌≤◌}
use native.Mathlib.Numerals.{add-one}
use native.Mathlib.Omega.{arith}
use mathlib.Core.Path.{◌≡◌, refl, sym, ap, subst, ◌∙◌}
use mathlib.Core.Bool.{Bool, true, false, not, ◌&&◌, ◌||◌, true≢false, false≢true}
use mathlib.Core.Logic.{◌⊎◌, inl, inr, ⊎_elim}
use mathlib.Core.List.{List, [], ◌∷◌, nil≢cons, tail-eq_of_cons-eq}
use borrow.Author.Tests.{eqb-true, ltb-true, ltb-false, not-true}
use lib.Dec.{eqb, ltb}
use lib.ListN.{get_or}
use Rattle.base.specs.Wait.{steps}
use Rattle.base.proofs.Tests.{by_cases, pick_case, yes, no, both_left, both_right, neither_left, neither_right, true_false}
use Rattle.base.proofs.WaitLaws.{wait_stops}
use Rattle.events.specs.declared.Inputs.{Inputs}
use Rattle.events.specs.Control.{evhif, evlif, even0, evwdt, high_runs, low_runs}
use Rattle.events.specs.Pins.{rising, falling, counts_edge, drum_set, door_set, control_written}
use Rattle.events.specs.Story.{Move, Drum, Door, Write, after, written}
use Rattle.events.proofs.ControlLaws.{high_parts}
use Rattle.events.proofs.MoveLaws.{Low, drum_low, settings_after}
use Rattle.record.specs.declared.Act.{Act}
use Rattle.record.specs.declared.Act.TheVariants.{Select, Byte, End, Wait, Cut, Up, Set}
use Rattle.record.specs.declared.Device.{Device}
use Rattle.record.specs.declared.Pin.TheVariants.{Evls, Evhs}
use Rattle.record.specs.declared.Place.{Place}
use Rattle.record.specs.declared.Place.TheVariants.{EepromAt, ClockAt, IdAt}
use Rattle.record.specs.declared.Stage.{Stage}
use Rattle.record.specs.declared.Stage.TheVariants.{Idle, Opened, Unheard, Instruction, Reading, Writing, Second, Over}
use Rattle.record.specs.Part.{boots_of}
use Rattle.record.specs.Registers.{vbaten, oscon, event_at}
use Rattle.record.specs.Setters.{inputs_of}
use Rattle.record.specs.World.{World}
use Rattle.refusals.specs.InRange.{InRange}
use Rattle.refusals.proofs.KeepLaws.{inside_byte}
use Rattle.refusals.specs.Refusal.{wrong_arg}
use Rattle.refusals.proofs.TableLaws as table
use Rattle.ticks.specs.Lines.{irq_low, wdo_low, wip, differ, flags_changed, changed}
use Rattle.ticks.specs.Tick.{tick, line_changed, waited}
use Rattle.acts.specs.Act.{Outcome, accepted, refusal_in, performed}
use Rattle.acts.proofs.OutcomeLaws.{by_acceptance, by_refusal, answered_by_table}
use Rattle.acts.proofs.ValidLaws.{Valid}
use Rattle.signals.specs.Moves.{counted, tick_moves, place_moves, byte_moves, cut_moves, done_moves, moves_of}
use Rattle.signals.specs.Claim.{control, high, low, to_event, HighAct, rises, writes_high, LowAct, waits, writes_low, WriteAct, byte, cut}
use Rattle.signals.proofs.MoveLaws.{ticks_moves, accepted_moves, moves_done, moves_refused}
use Rattle.signals.proofs.StretchLaws.{tick_high, tick_rests, low_offs}

-- 0Bh of a record in range is a byte
pub control_byte : (part : ℕ) (d : Device) → InRange part d → get_or d.regs event_at 0 < 256
control_byte part d r = inside_byte event_at (get_or d.regs event_at 0) (omega arith) (r.clock.inside event_at (omega arith))

-- V11. A tick that stops no wait leaves both flags.
differ_false : (a b : Bool) → differ a b ≡ false → b ≡ a
differ_false true true e = refl
differ_false true false e = absurd (true≢false e)
differ_false false true e = absurd (true≢false e)
differ_false false false e = refl

pub unchanged_flags :
    (d e : Device) → changed d e ≡ false
    → (evhif (get_or e.regs event_at 0) ≡ evhif (get_or d.regs event_at 0)) × (evlif (get_or e.regs event_at 0) ≡ evlif (get_or d.regs event_at 0))
unfolding changed flags_changed
unchanged_flags d e h =
    let v : ℕ = get_or d.regs event_at 0 in
    let w : ℕ = get_or e.regs event_at 0 in
    let high : Bool = differ (evhif v) (evhif w) in
    let low : Bool = differ (evlif v) (evlif w) in
    let lines : Bool = differ (irq_low d) (irq_low e) || differ (wdo_low d) (wdo_low e) in
    let f : (high || low) ≡ false = neither_right lines (high || low) (neither_left (lines || (high || low)) (differ (wip d) (wip e)) h) in
    (differ_false (evhif v) (evhif w) (neither_left high low f), differ_false (evlif v) (evlif w) (neither_right high low f))

pub calm_flags :
    (boots : Bool) (n : ℕ) (w : World) (k : ℕ) → k < (waited boots n w).used
    → (high (steps (tick boots) k w) ≡ high w) × (low (steps (tick boots) k w) ≡ low w)
unfolding steps
calm_flags boots n w zero h = (refl, refl)
calm_flags boots n w (suc k) h =
    let q = calm_flags boots n w k (omega arith) in
    let e : changed (steps (tick boots) k w).device (steps (tick boots) (suc k) w).device ≡ false =
    rw (← (add-one k)) ((wait_stops (tick boots) line_changed n w).earlier k (omega arith)) in
    let p = unchanged_flags (steps (tick boots) k w).device (steps (tick boots) (suc k) w).device e in
    (p.0 ∙ q.0, p.1 ∙ q.1)

-- A byte writes 0Bh at one stage, and at no other.
event_place : (v : ℕ) (p : Place) → (Writing p ≡ to_event) ⊎ (place_moves v p ≡ [])
event_place v (EepromAt a) = inr refl
event_place v (ClockAt a) =
    by_cases (eqb a.0 event_at)
    (λ t. let q = eqb-true a.0 event_at t in inl (λ i. Writing (ClockAt (record { 0 = q i }))))
    (λ f. inr (sym (no (Write v ∷ []) [] f)))
event_place v (IdAt a) = inr refl

pub event_stage : (v : ℕ) (s : Stage) → (s ≡ to_event) ⊎ (byte_moves v s ≡ [])
event_stage v Idle = inr refl
event_stage v Opened = inr refl
event_stage v Unheard = inr refl
event_stage v (Instruction c) = inr refl
event_stage v (Reading p) = inr refl
event_stage v (Writing p) = event_place v p
event_stage v (Second q) = inr refl
event_stage v (Over l) = inr refl

-- the moves of a wait are ticks
pub ticks_unwritten : (boots : Bool) (k : ℕ) (w : World) → written (tick_moves boots k w) ≡ false
unfolding tick_moves written
ticks_unwritten boots zero w = refl
ticks_unwritten boots (suc k) w = rw (ticks_unwritten boots k w)

-- V12, V13. the acts that write 0Bh
written_of : (part count arg : ℕ) (w : World) (act : Act) → written (done_moves part count arg w act) ≡ true → WriteAct act w.device
unfolding written
written_of part count arg w Select t = absurd (false≢true t)
written_of part count arg w Byte t =
    ⊎_elim (λ s. byte refl s) (λ n. absurd (true_false t (ap written n))) (event_stage arg w.device.frame.stage)
written_of part count arg w End t = absurd (false≢true t)
written_of part count arg w Wait t = absurd (true_false t (ticks_unwritten (boots_of part) count w))
written_of part count arg w Cut t =
    by_cases (vbaten w.device.regs) (λ v. absurd (true_false t (ap written (sym (yes [] (Write 0 ∷ []) v))))) (λ f. cut refl f)
written_of part count arg w Up t = absurd (false≢true t)
written_of part count arg w (Set Evls) t = absurd (false≢true t)
written_of part count arg w (Set Evhs) t = absurd (false≢true t)

pub written_by_lem :
    (part : ℕ) (act : Act) (arg : ℕ) (w : World) → written (moves_of part act arg w) ≡ true
    → ((performed part act arg w).number ≡ 0) × WriteAct act w.device
unfolding written
written_by_lem part act arg w t =
    by_cases (eqb (refusal_in part act arg w) 0)
    (λ p.
    let e = eqb-true (refusal_in part act arg w) 0 p in (
      answered_by_table part act arg w ∙ e,
      written_of part (accepted part arg w act).count arg w act (rw (moves_done part act arg w e) at t),
    ))
    (λ f. absurd (true_false t (ap written (moves_refused part act arg w f))))

-- Of the moves of one act all but the newest leave both flags: it is one move at most, or a wait.
abbrev pub SameFlags : Inputs → Inputs → Type 0
SameFlags s t = (evhif t.control ≡ evhif s.control) × (evlif t.control ≡ evlif s.control)

-- one move at most
abbrev Short : List Move → Type 0
Short ms = (m : Move) (rest : List Move) → ms ≡ m ∷ rest → rest ≡ []

short_none : Short []
short_none m rest e = absurd (nil≢cons e)

short_one : (x : Move) → Short (x ∷ [])
short_one x m rest e = sym (tail-eq_of_cons-eq e)

byte_short : (v : ℕ) (s : Stage) → Short (byte_moves v s)
byte_short v s =
    ⊎_elim (λ e. subst (λ (x : Stage). Short (byte_moves v x)) (sym e) (short_one (Write v))) (λ e. subst Short (sym e) short_none) (event_stage v s)

module _ (part arg : ℕ) (w : World) (v : Valid part w) where
  abbrev now : Inputs
  now = inputs_of w.device

  tail_short : (ms : List Move) → Short ms → (m : Move) (rest : List Move) → ms ≡ m ∷ rest → SameFlags now (after now rest)
  unfolding after
  tail_short ms h m rest e = subst (λ (x : List Move). SameFlags now (after now x)) (sym (h m rest e)) (refl, refl)

  tail_ticks :
      (k : ℕ) → k ≤ (waited (boots_of part) arg w).used → (m : Move) (rest : List Move) → tick_moves (boots_of part) k w ≡ m ∷ rest
      → SameFlags now (after now rest)
  unfolding tick_moves
  tail_ticks zero h m rest e = absurd (nil≢cons e)
  tail_ticks (suc k) h m rest e =
      let q = calm_flags (boots_of part) arg w k (omega arith) in
      let p = ticks_moves (boots_of part) k w v.shaped.sized.regs ∙ ap (after now) (tail-eq_of_cons-eq e) in
      (ap (λ (s : Inputs). evhif s.control) (sym p) ∙ q.0, ap (λ (s : Inputs). evlif s.control) (sym p) ∙ q.1)

  tail_of :
      (act : Act) (m : Move) (rest : List Move) → done_moves part (accepted part arg w act).count arg w act ≡ m ∷ rest → SameFlags now (after now rest)
  tail_of Select = tail_short [] short_none
  tail_of Byte = tail_short (byte_moves arg w.device.frame.stage) (byte_short arg w.device.frame.stage)
  tail_of End = tail_short [] short_none
  tail_of Wait = tail_ticks (waited (boots_of part) arg w).used (omega arith)
  tail_of Cut = tail_short (cut_moves w.device) (pick_case Short (vbaten w.device.regs) short_none (short_one (Write 0)))
  tail_of Up = tail_short [] short_none
  tail_of (Set Evls) = tail_short (Door (oscon w.device.counters) arg ∷ []) (short_one (Door (oscon w.device.counters) arg))
  tail_of (Set Evhs) = tail_short (Drum (oscon w.device.counters) arg ∷ []) (short_one (Drum (oscon w.device.counters) arg))

  pub tail_flags : (act : Act) (m : Move) (rest : List Move) → moves_of part act arg w ≡ m ∷ rest → SameFlags now (after now rest)
  tail_flags act m rest e =
      by_cases (eqb (refusal_in part act arg w) 0)
      (λ t. tail_of act m rest (sym (moves_done part act arg w (eqb-true (refusal_in part act arg w) 0 t)) ∙ e))
      (λ f. absurd (nil≢cons (sym (moves_refused part act arg w f) ∙ e)))

-- V15. Which act may set EVHIF.
ticks_high : (boots : Bool) (k : ℕ) (w : World) (s : Inputs) → s.control < 256 → evhif (after s (tick_moves boots k w)).control ≡ evhif s.control
unfolding tick_moves after
ticks_high boots zero w s b = refl
ticks_high boots (suc k) w s b =
    tick_high (counted (steps (tick boots) k w).device) (after s (tick_moves boots k w))
    (settings_after s (tick_moves boots k w) (ticks_unwritten boots k w) b).byte
    ∙ ticks_high boots k w s b

ticks_rest :
    (boots : Bool) (k : ℕ) (w : World) (s : Inputs) → s.events.debounce ≡ 0
    → ((after s (tick_moves boots k w)).control ≡ s.control) × ((after s (tick_moves boots k w)).events.debounce ≡ 0)
unfolding tick_moves after
ticks_rest boots zero w s z = (refl, z)
ticks_rest boots (suc k) w s z =
    let q = ticks_rest boots k w s z in
    let p = tick_rests (counted (steps (tick boots) k w).device) (after s (tick_moves boots k w)) q.1 in
    (p.0 ∙ q.0, p.1)

-- a level at EVHS sets it only as a counted rise
drum_rises :
    (c : Bool) (level : ℕ) (s : Inputs) → evhif s.control ≡ false → evhif (drum_set c level s).control ≡ true
    → (rising s.events.drum level && counts_edge c s.control) ≡ true
unfolding drum_set
drum_rises c level s f t =
    by_cases (rising s.events.drum level && counts_edge c s.control) (λ r. r)
    (λ r. absurd (true_false (rw r at t) f))

door_leaves : (c : Bool) (level : ℕ) (s : Inputs) → (door_set c level s).control ≡ s.control
unfolding door_set
door_leaves c level s =
    let P : Inputs → Type 0 = λ t. t.control ≡ s.control in
    pick_case P (falling s.events.door level) refl (pick_case P (rising s.events.door level && low_runs c s.control) refl refl)

module _ (part arg : ℕ) (w : World) (v : Valid part w) where
  abbrev d : Device
  d = w.device

  abbrev s : Inputs
  s = inputs_of d

  abbrev made : Act → List Move
  made act = done_moves part (accepted part arg w act).count arg w act

  small : s.control < 256
  small = control_byte part d v.range

  -- a byte sets a flag only where it stores into 0Bh
  byte_sets :
      (g : ℕ → Bool) {Q : Type 0} → (d.frame.stage ≡ to_event → g (after s (byte_moves arg to_event)).control ≡ true → Q) → g s.control ≡ false
      → g (after s (byte_moves arg d.frame.stage)).control ≡ true → Q
  unfolding after
  byte_sets g q f t =
      ⊎_elim (λ e. q e (subst (λ (x : Stage). g (after s (byte_moves arg x)).control ≡ true) e t))
      (λ n. absurd (true_false (subst (λ (x : List Move). g (after s x).control ≡ true) n t) f))
      (event_stage arg d.frame.stage)

  -- a cut sets no flag
  cut_clear : (g : ℕ → Bool) → g 0 ≡ false → g s.control ≡ false → g (after s (cut_moves d)).control ≡ false
  unfolding after control_written
  cut_clear g z f = pick_case (λ (x : List Move). g (after s x).control ≡ false) (vbaten d.regs) f z

  drum_act : arg ≤ 1 → (rising s.events.drum arg && counts_edge (oscon d.counters) s.control) ≡ true → HighAct (Set Evhs) arg d
  drum_act l t =
      let c : Bool = oscon d.counters in
      let r = both_left (rising s.events.drum arg) (counts_edge c s.control) t in
      let e = both_right (rising s.events.drum arg) (counts_edge c s.control) t in
      let p = high_parts c s.control (both_left (high_runs c s.control) (not (evwdt s.control)) e) in
      rises refl (eqb-true s.events.drum 0 (both_left (eqb s.events.drum 0) (ltb 0 arg) r))
      (omega (arith, l, ltb-true 0 arg (both_right (eqb s.events.drum 0) (ltb 0 arg) r)))
      p.0 (not-true (evwdt s.control) (both_right (high_runs c s.control) (not (evwdt s.control)) e)) p.2

  high_made : (act : Act) → wrong_arg act arg ≡ false → evhif s.control ≡ false → evhif (after s (made act)).control ≡ true → HighAct act arg d
  unfolding after control_written
  high_made Select a f t = absurd (true_false t f)
  high_made Byte a f t = byte_sets evhif (writes_high refl) f t
  high_made End a f t = absurd (true_false t f)
  high_made Wait a f t = absurd (true_false (sym (ticks_high (boots_of part) (waited (boots_of part) arg w).used w s small) ∙ t) f)
  high_made Cut a f t = absurd (true_false t (cut_clear evhif refl f))
  high_made Up a f t = absurd (true_false t f)
  high_made (Set Evls) a f t = absurd (true_false (ap evhif (sym (door_leaves (oscon d.counters) arg s)) ∙ t) f)
  high_made (Set Evhs) a f t = drum_act (ltb-false 1 arg a) (drum_rises (oscon d.counters) arg s f t)

  wait_low : evlif s.control ≡ false → evlif (after s (made Wait)).control ≡ true → LowAct Wait arg d
  wait_low f t =
      let boots : Bool = boots_of part in
      let k : ℕ = (waited boots arg w).used in
      by_cases (even0 s.control)
      (λ o.
      by_cases (ltb 0 s.events.debounce)
      (λ r. waits refl o (ltb-true 0 s.events.debounce r))
      (λ r. absurd (true_false (ap evlif (sym (ticks_rest boots k w s (omega (arith, ltb-false 0 s.events.debounce r))).0) ∙ t) f)))
      (λ o. absurd (true_false (sym (low_offs s (tick_moves boots k w) (ticks_unwritten boots k w) small o) ∙ t) f))

  low_made : (act : Act) → evlif s.control ≡ false → evlif (after s (made act)).control ≡ true → LowAct act arg d
  unfolding after control_written
  low_made Select f t = absurd (true_false t f)
  low_made Byte f t = byte_sets evlif (writes_low refl) f t
  low_made End f t = absurd (true_false t f)
  low_made Wait f t = wait_low f t
  low_made Cut f t = absurd (true_false t (cut_clear evlif refl f))
  low_made Up f t = absurd (true_false t f)
  low_made (Set Evls) f t = absurd (true_false (ap evlif (sym (door_leaves (oscon d.counters) arg s)) ∙ t) f)
  low_made (Set Evhs) f t = absurd (true_false (sym (ap (λ (h : Low). h.flagged) (drum_low (oscon d.counters) arg s small)) ∙ t) f)

  -- what an act sets it sets as one that is done
  set_by :
      (g : ℕ → Bool) (Q : Act → Type 0) (act : Act)
      → (wrong_arg act arg ≡ false → g s.control ≡ false → g (after s (made act)).control ≡ true → Q act)
      → g (control w) ≡ false → g (control (performed part act arg w).after) ≡ true → ((performed part act arg w).number ≡ 0) × Q act
  set_by g Q act q f t =
      by_cases (eqb (refusal_in part act arg w) 0)
      (λ p.
      let e = eqb-true (refusal_in part act arg w) 0 p in
      let i = ap (λ (o : Outcome). inputs_of o.after.device) (by_acceptance part act arg w e) ∙ accepted_moves part act arg w v e in (
        answered_by_table part act arg w ∙ e,
        q (table.accepted part act arg d _ _ e).arg f (sym (ap (λ (x : Inputs). g x.control) i) ∙ t),
      ))
      (λ p. absurd (true_false (sym (ap (λ (o : Outcome). g (control o.after)) (by_refusal part act arg w p)) ∙ t) f))

  pub high_by_lem :
      (act : Act) → high w ≡ false → high (performed part act arg w).after ≡ true → ((performed part act arg w).number ≡ 0) × HighAct act arg d
  high_by_lem act = set_by evhif (λ (x : Act). HighAct x arg d) act (high_made act)

  pub low_by_lem :
      (act : Act) → low w ≡ false → low (performed part act arg w).after ≡ true → ((performed part act arg w).number ≡ 0) × LowAct act arg d
  low_by_lem act = set_by evlif (λ (x : Act). LowAct x arg d) act (λ a. low_made act)
