-- The promise of the latch, proved: of each act by the laws of its own crate, of a frame by an induction over its bytes and waits.
-- Assumes nothing.
use Prim.Native.Nat.{ℕ, ◌<◌, ◌≤◌}
use native.Mathlib.Omega.{arith}
use mathlib.Core.Path.{◌≡◌, refl, sym, ap, subst, ◌∙◌}
use mathlib.Core.Bool.{Bool, true, false, not, ◌&&◌, true≢false, false≢true}
use mathlib.Core.Logic.{◌↔◌}
use mathlib.Core.List.{List, [], ◌∷◌}
use borrow.Author.Tests.{eqb-true, eq-eqb, ltb-true, ltb-false, leb-true, le-ltb, lt-ltb, le-leb, not-true}
use lib.Dec.{eqb, leb}
use Rattle.base.specs.Wait.{Waited}
use Rattle.base.proofs.Tests.{by_cases, both_left, both_right, both_true, true_false}
use Rattle.record.specs.declared.Act.{Act}
use Rattle.record.specs.declared.Pin.{Pin}
use Rattle.record.specs.declared.Act.TheVariants.{Select, Byte, End, Wait, Cut, Up, Set}
use Rattle.record.specs.declared.Code.{Code}
use Rattle.record.specs.declared.Code.TheVariants.{Eewrdi, Eewren, Other, Srread}
use Rattle.record.specs.declared.Device.{Device}
use Rattle.record.specs.declared.Guard.{Guard}
use Rattle.record.specs.declared.Stage.{Stage}
use Rattle.record.specs.declared.Stage.TheVariants.{Opened, Instruction}
use Rattle.record.specs.Codes.{code_of, code_number, is_code, heard_under_wip}
use Rattle.record.specs.Numbers.{stage_kind}
use Rattle.record.specs.Part.{top_of, boots_of}
use Rattle.record.specs.World.{World}
use Rattle.refusals.specs.InRange.{InRange}
use Rattle.ticks.specs.Lines.{wip}
use Rattle.ticks.specs.RecordTick.{ended}
use Rattle.ticks.specs.Tick.{waited}
use Rattle.ticks.proofs.WaitLaws.{Spent, wait_spent, spent_ended}
use Rattle.frames.specs.Frame.{first_stage, stage_after, after_byte, after_select}
use Rattle.frames.proofs.AloneLaws.{Past, stage_past, first_begun, first_exactly}
use Rattle.frames.proofs.FrameLaws.{written_beside}
use Rattle.ends.specs.End.{after_end}
use Rattle.ends.proofs.LatchLaws.{end_cleared, end_set}
use Rattle.pins.proofs.SetLaws.{set_beside}
use Rattle.power.proofs.PowerLaws.{cut_device, cut_wel, up_wel}
use Rattle.acts.specs.Act.{Outcome, accepted, refusal_in, performed}
use Rattle.acts.proofs.OutcomeLaws.{by_acceptance, changed_by_lem, done_passed}
use Rattle.acts.proofs.SuitedLaws.{passed_range}
use Rattle.run.specs.Claim.{our_chip, world_after}
use Rattle.run.specs.Pieces.{Piece, byte, wait, acts_of, WholeBytes, some_byte, framed}
use Rattle.run.specs.Latch.{wel_of, EndsAlone, Resets, cuts, ups, disables, completes, SentAlone, Latch}
use Rattle.run.proofs.FramedLaws.{InFrame, stage_of, frame_done, byte_moves_lem, wait_moves, still_framed, begun, at_opened}

-- a wait: where a cycle ended in it WEL is clear, else as it was
module _ (part n : ℕ) (w : World) (r : InRange part w.device) where
  abbrev q : Waited World
  q = waited (boots_of part) n w

  spent : Spent w q
  spent = wait_spent part (boots_of part) n w r

  -- it used all the ticks that the cycle had left
  abbrev All : Type 0
  All = (0 < w.device.cycle.left) × (q.used ≡ w.device.cycle.left)

  all_used : ended w.device q.after.device ≡ true → All
  all_used e =
      let t : (wip w.device && leb w.device.cycle.left q.used) ≡ true = sym (spent_ended w q spent) ∙ e in
      let runs : 0 < w.device.cycle.left = ltb-true 0 _ (both_left (wip w.device) (leb w.device.cycle.left q.used) t) in
      let most : w.device.cycle.left ≤ q.used = leb-true _ _ (both_right (wip w.device) (leb w.device.cycle.left q.used) t) in
      (runs, omega (arith, spent.within runs))

  pub wait_told : wel_of w ≡ true → wel_of q.after ≡ false → All
  wait_told on e =
      by_cases (ended w.device q.after.device) all_used
      (λ f. absurd (true≢false (sym on ∙ sym (rw f at spent.wel) ∙ e)))

  wait_clears : All → wel_of q.after ≡ false
  wait_clears a =
      let t : ended w.device q.after.device ≡ true =
      spent_ended w q spent ∙ both_true (lt-ltb 0 w.device.cycle.left a.0) (le-leb w.device.cycle.left q.used (omega (arith, a.1))) in
      rw t at spent.wel

  wait_leaves : wel_of w ≡ false → wel_of q.after ≡ false
  wait_leaves off =
      by_cases (ended w.device q.after.device) (λ t. rw t at spent.wel) (λ f. (rw f at spent.wel) ∙ off)

-- What an accepted act leaves of WEL.
module _ (part arg : ℕ) (w : World) where
  abbrev d : Device
  d = w.device

  byte_same : wel_of (accepted part arg w Byte).after ≡ wel_of w
  unfolding after_byte
  byte_same = ap (λ (g : Guard). g.wel) (written_beside (boots_of part) d arg d.frame.stage).guard

  set_same : (p : Pin) → wel_of (accepted part arg w (Set p)).after ≡ wel_of w
  set_same p = ap (λ (g : Guard). g.wel) (set_beside p arg d).guard

  cut_clear : wel_of (accepted part arg w Cut).after ≡ false
  cut_clear = ap (λ (x : Device). x.guard.wel) (cut_device arg w) ∙ cut_wel arg d

  -- an accepted act that cleared it is one of the list
  told :
      (act : Act) → refusal_in part act arg w ≡ 0 → wel_of w ≡ true → wel_of (accepted part arg w act).after ≡ false
      → Resets act arg (accepted part arg w act).count d
  unfolding after_select
  told Select r on e = absurd (true≢false (sym on ∙ e))
  told Byte r on e = absurd (true≢false (sym on ∙ sym byte_same ∙ e))
  told End r on e = let l = (end_cleared (top_of part) arg d on).0 e in disables (refl, l.0, l.1)
  told Wait r on e = let a = wait_told part arg w (passed_range part Wait arg w r) on e in completes refl a.0 a.1
  told Cut r on e = cuts refl
  told Up r on e = ups refl
  told (Set p) r on e = absurd (true≢false (sym on ∙ sym (set_same p) ∙ e))

  -- and each of the list clears it
  given :
      (act : Act) → refusal_in part act arg w ≡ 0 → wel_of w ≡ true → Resets act arg (accepted part arg w act).count d
      → wel_of (accepted part arg w act).after ≡ false
  given act r on (cuts e) = rw e cut_clear
  given act r on (ups e) = rw e (up_wel d)
  given act r on (disables e) = rw e.0 ((end_cleared (top_of part) arg d on).1 (e.1, e.2))
  given act r on (completes e runs all) = subst Clears (sym e) clears_wait r runs all
    where
      Clears : Act → Type 0
      Clears a =
          refusal_in part a arg w ≡ 0 → 0 < d.cycle.left → (accepted part arg w a).count ≡ d.cycle.left
          → wel_of (accepted part arg w a).after ≡ false

      clears_wait : Clears Wait
      clears_wait r runs all = wait_clears part arg w (passed_range part Wait arg w r) (runs, all)

  -- the same of what sets it
  set_told :
      (act : Act) → refusal_in part act arg w ≡ 0 → wel_of w ≡ false → wel_of (accepted part arg w act).after ≡ true → EndsAlone Eewren act arg d
  unfolding after_select
  set_told Select r off e = absurd (false≢true (sym off ∙ e))
  set_told Byte r off e = absurd (false≢true (sym off ∙ sym byte_same ∙ e))
  set_told End r off e = let l = (end_set (top_of part) arg d off).0 e in (refl, l.0, l.1)
  set_told Wait r off e = absurd (false≢true (sym (wait_leaves part arg w (passed_range part Wait arg w r) off) ∙ e))
  set_told Cut r off e = absurd (false≢true (sym cut_clear ∙ e))
  set_told Up r off e = absurd (false≢true (sym (up_wel d) ∙ e))
  set_told (Set p) r off e = absurd (false≢true (sym off ∙ sym (set_same p) ∙ e))

  set_given : (act : Act) → wel_of w ≡ false → EndsAlone Eewren act arg d → wel_of (accepted part arg w act).after ≡ true
  set_given act off e = rw e.0 ((end_set (top_of part) arg d off).1 (e.1, e.2))

-- So of every act.
module _ (part : ℕ) (act : Act) (arg : ℕ) (w : World) where
  -- the outcome of an act that the table passes
  passed_wel : refusal_in part act arg w ≡ 0 → wel_of (accepted part arg w act).after ≡ wel_of (performed part act arg w).after
  passed_wel r = ap (λ (o : Outcome). wel_of o.after) (sym (by_acceptance part act arg w r))

  cleared_by :
      wel_of w ≡ true
      → (wel_of (performed part act arg w).after ≡ false)
      ↔ (((performed part act arg w).number ≡ 0) × Resets act arg (performed part act arg w).count w.device)
  cleared_by on = (
    λ e. changed_by_lem wel_of (Resets act arg (performed part act arg w).count w.device) part act arg w
        (λ r n.
        subst (λ (o : Outcome). Resets act arg o.count w.device) (sym (by_acceptance part act arg w r)) (told part arg w act r on (passed_wel r ∙ e)))
        (λ s. true≢false (sym on ∙ sym s ∙ e)),
    λ p.
        let r = done_passed part act arg w p.0 in
        sym (passed_wel r)
        ∙ given part arg w act r on (subst (λ (o : Outcome). Resets act arg o.count w.device) (by_acceptance part act arg w r) p.1),
  )

  set_by :
      wel_of w ≡ false
      → (wel_of (performed part act arg w).after ≡ true) ↔ (((performed part act arg w).number ≡ 0) × EndsAlone Eewren act arg w.device)
  set_by off = (
    λ e. changed_by_lem wel_of (EndsAlone Eewren act arg w.device) part act arg w (λ r n. set_told part arg w act r off (passed_wel r ∙ e))
        (λ s. false≢true (sym off ∙ sym s ∙ e)),
    λ p. sym (passed_wel (done_passed part act arg w p.0)) ∙ set_given part arg w act off p.1,
  )

-- the stage that the pieces of a frame bring, of a code that a second byte moves on and that is not heard in a cycle
module _ (part : ℕ) (c : Code) (known : is_code c Other ≡ false) (moved : is_code c Srread ≡ false) (deaf : heard_under_wip c ≡ false) where
  abbrev Gone : Stage → Type 0
  Gone = Past c (top_of part) known moved

  abbrev after : List Piece → World → World
  after ps v = world_after our_chip part (acts_of ps) v

  -- past it no piece brings the frame back
  gone : (ps : List Piece) (v : World) → WholeBytes ps → InFrame part v → Gone (stage_of v) → Gone (stage_of (after ps v))
  unfolding world_after our_chip
  gone [] v z f g = g
  gone (byte b ∷ ps) v z f g =
      let m = byte_moves_lem part b v z.0 f in
      gone ps (performed part Byte b v).after z.1 m.frame
      (subst Gone (sym m.stage) (stage_past c (top_of part) known moved (wip v.device) b (stage_of v) g.0))
  gone (wait n ∷ ps) v z f g =
      let m = wait_moves part n v f in
      gone ps (performed part Wait n v).after z m.frame (subst Gone (sym m.stage) g)

  -- at it a byte brings the frame past it, and waits leave it there
  there : (ps : List Piece) (v : World) → WholeBytes ps → InFrame part v → stage_of v ≡ Instruction c → (stage_of (after ps v) ≡ Instruction c) ↔ (some_byte ps ≡ false)
  unfolding world_after our_chip
  there [] v z f s = (λ e. refl, λ e. s)
  there (byte b ∷ ps) v z f s =
      let m = byte_moves_lem part b v z.0 f in
      let g : Gone (stage_of (performed part Byte b v).after) =
      subst Gone (sym m.stage)
      (stage_past c (top_of part) known moved (wip v.device) b (stage_of v) (λ e. omega (arith, ap stage_kind (sym s ∙ e)))) in
      (λ e. absurd ((gone ps (performed part Byte b v).after z.1 m.frame g).1 e), λ e. absurd (true≢false e))
  there (wait n ∷ ps) v z f s = let m = wait_moves part n v f in there ps (performed part Wait n v).after z m.frame (m.stage ∙ s)

  -- from the select on
  alone :
      (ps : List Piece) (v : World) → WholeBytes ps → InFrame part v → stage_of v ≡ Opened
      → (stage_of (after ps v) ≡ Instruction c) ↔ SentAlone part (code_number c) ps v
  unfolding world_after our_chip
  alone [] v z f s = (λ e. omega (arith, ap stage_kind (sym s ∙ e)), λ e. absurd e)
  alone (byte b ∷ ps) v z f s =
      let x : World = (performed part Byte b v).after in
      let m = byte_moves_lem part b v z.0 f in
      let q : stage_of x ≡ first_stage (wip v.device) (code_of b) = m.stage ∙ ap (stage_after (top_of part) (wip v.device) b) s in
      let l = first_exactly c (top_of part) known moved deaf (wip v.device) b in (
        λ e.
            by_cases (eqb b (code_number c) && not (wip v.device))
            (λ t.
            let p : (b ≡ code_number c) × (wip v.device ≡ false) =
            (eqb-true b (code_number c) (both_left _ (not (wip v.device)) t), not-true (wip v.device) (both_right (eqb b (code_number c)) _ t)) in
            (p.0, omega (arith, ltb-false 0 v.device.cycle.left p.1), (there ps x z.1 m.frame (q ∙ l.1 p)).0 e))
            (λ t.
            absurd
            ((gone ps x z.1 m.frame
            (subst Gone (sym q) (first_begun (wip v.device) (code_of b), λ r. apart (l.0 r) t))).1 e)),
        λ p. (there ps x z.1 m.frame (q ∙ l.1 (p.0, le-ltb 0 v.device.cycle.left (omega (arith, p.1))))).1 p.2,
      )
    where
      apart : (b ≡ code_number c) × (wip v.device ≡ false) → (eqb b (code_number c) && not (wip v.device)) ≡ false → ⊥
      apart p t = true_false (both_true (eq-eqb b (code_number c) p.0) (ap not p.1)) t
  alone (wait n ∷ ps) v z f s = let m = wait_moves part n v f in alone ps (performed part Wait n v).after z m.frame (m.stage ∙ s)

-- the frame of a select, up to its end
module _ (part leftover : ℕ) (ps : List Piece) (w : World) (e : (performed part Select 0 w).number ≡ 0) (h : leftover < 8) (z : WholeBytes ps) where
  abbrev v : World
  v = (performed part Select 0 w).after

  -- so a law of the end is one of the frame
  moves :
      (c : Code) → is_code c Other ≡ false → is_code c Srread ≡ false → heard_under_wip c ≡ false → (b : Bool)
      → ((after_end (top_of part) leftover (framed part ps w).device).guard.wel ≡ b) ↔ ((stage_of (framed part ps w) ≡ Instruction c) × (leftover ≡ 0))
      → (wel_of (performed part End leftover (framed part ps w)).after ≡ b) ↔ (SentAlone part (code_number c) ps v × (leftover ≡ 0))
  moves c o s d b l =
      let a = alone part c o s d ps v z (begun part w e) (at_opened part w e) in
      let q : wel_of (performed part End leftover (framed part ps w)).after ≡ (after_end (top_of part) leftover (framed part ps w).device).guard.wel =
      ap (λ (x : Outcome). wel_of x.after) (frame_done part End leftover (framed part ps w) (le-ltb 7 leftover (omega arith)) refl refl (still_framed part ps v z (begun part w e))) in (
        λ y. let p = l.0 (sym q ∙ y) in (a.0 p.0, p.1),
        λ y. q ∙ l.1 (a.1 y.0, y.1),
      )

  frame_cleared_lem :
      wel_of (framed part ps w) ≡ true
      → (wel_of (performed part End leftover (framed part ps w)).after ≡ false) ↔ (SentAlone part 0x04 ps v × (leftover ≡ 0))
  frame_cleared_lem on = moves Eewrdi refl refl refl false (end_cleared (top_of part) leftover (framed part ps w).device on)

  frame_set_lem :
      wel_of (framed part ps w) ≡ false
      → (wel_of (performed part End leftover (framed part ps w)).after ≡ true) ↔ (SentAlone part 0x06 ps v × (leftover ≡ 0))
  frame_set_lem off = moves Eewren refl refl refl true (end_set (top_of part) leftover (framed part ps w).device off)

-- The promise.
pub latch : Latch
latch = record { cleared = cleared_by; set = set_by; frame_cleared = frame_cleared_lem; frame_set = frame_set_lem }
