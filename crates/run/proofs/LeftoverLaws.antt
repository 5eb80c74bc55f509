-- The promise of the leftover bits, proved: of an end by the law of its reply, of a frame by an induction over its bytes and waits.
-- Assumes nothing.
use Prim.Native.Nat.{ℕ, ◌^◌, ◌<◌}
use native.Mathlib.Omega.{arith}
use mathlib.Core.Path.{◌≡◌, refl, sym, ap, subst, ◌∙◌}
use mathlib.Core.Bool.{Bool, false, not, ◌&&◌, ◌||◌}
use mathlib.Core.Logic.{◌↔◌, ◌⊎◌, ◌≢◌, inl, inr, ⊎_elim}
use mathlib.Core.List.{List, [], ◌∷◌}
use borrow.Author.Tests.{eqb-true, ne_eqb, le-ltb}
use lib.Dec.{eqb}
use Rattle.base.specs.Words.{pick}
use Rattle.base.proofs.Tests.{by_cases, pick_case, pick_or, not_positive}
use Rattle.record.specs.declared.Act.TheVariants.{Select, Byte, End, Wait}
use Rattle.std.specs.Prelude.{Option, Some, None}
use Rattle.record.specs.declared.Stage.{Stage}
use Rattle.record.specs.declared.Stage.TheVariants.{Idle, Opened}
use Rattle.record.specs.Codes.{code_of}
use Rattle.record.specs.Part.{top_of}
use Rattle.record.specs.Setters.{with_stage, with_lock}
use Rattle.record.specs.World.{World, moved, Shaped}
use Rattle.ticks.specs.Lines.{wip}
use Rattle.replies.specs.Reply.{next_reply, leftover_reply}
use Rattle.frames.specs.Frame.{first_stage, stage_after}
use Rattle.replies.specs.Leftover.{BrokenOff}
use Rattle.frames.proofs.AloneLaws.{stage_begun, first_begun}
use Rattle.replies.proofs.ReplyLaws.{driven_off, is_driven, off_undriven, driving, next_driven}
use Rattle.replies.proofs.LeftoverLaws.{first_none}
use Rattle.ends.proofs.LeftoverLaws.{rest_stays}
use Rattle.acts.specs.Act.{Outcome, accepted, refusal_in, performed}
use Rattle.acts.proofs.AcceptedLaws.{few_bits}
use Rattle.acts.proofs.DrivenLaws.{driving_on, goes_on, first_drives, first_goes_on}
use Rattle.acts.proofs.LeftoverLaws.{byte_passes, end_broken_off}
use Rattle.acts.proofs.OutcomeLaws.{by_acceptance, done_passed, done_as, refused_same}
use Rattle.acts.proofs.SuitedLaws.{passed_range}
use Rattle.run.specs.Claim.{our_chip, world_after}
use Rattle.run.specs.Pieces.{Piece, byte, wait, acts_of, WholeBytes, some_byte, framed}
use Rattle.run.specs.Leftover.{InItsPlace, so_driven, LeftoverBits}
use Rattle.run.proofs.FramedLaws.{InFrame, stage_of, frame_done, byte_moves_lem, wait_moves, still_framed, begun, at_opened}
use Rattle.run.proofs.RunLaws.{reached_valid}

-- An end that is done, and a byte in its place.
module _ (part k v : ℕ) (w : World) (h : v < 256) (e : (performed part End k w).number ≡ 0) where
  passed : refusal_in part End k w ≡ 0
  passed = done_passed part End k w e

  as_end : performed part End k w ≡ accepted part k w End
  as_end = done_as part End k w e

  as_byte : performed part Byte v w ≡ accepted part v w Byte
  as_byte = by_acceptance part Byte v w (byte_passes part k v w h passed)

  agreed : Shaped part w → InItsPlace part k v w
  agreed z =
      let b = end_broken_off part k v w (record { range = passed_range part End k w passed; shaped = z }) (few_bits part k w.device _ _ passed) in (
        ap (λ (o : Outcome). o.number) as_byte,
        subst (λ (o : Outcome). BrokenOff k o.reply (performed part End k w).reply) (sym as_byte)
            (subst (λ (o : Outcome). BrokenOff k (accepted part v w Byte).reply o.reply) (sym as_end) b),
      )

  none_by : ((performed part End k w).reply ≡ None) ↔ ((k ≡ 0) ⊎ ((performed part Byte v w).reply ≡ None))
  unfolding leftover_reply
  none_by =
      let n = first_none k (next_reply w.eeprom w.id w.device) in
      let re = ap (λ (o : Outcome). o.reply) as_end in
      let rb = ap (λ (o : Outcome). o.reply) as_byte in (
        λ q. ⊎_elim (λ z. inl z) (λ z. inr (rb ∙ z)) (n.0 (sym re ∙ q)),
        λ q. re ∙ n.1 (⊎_elim (λ z. inl z) (λ z. inr (sym rb ∙ z)) q),
      )

-- what an end with leftover bits leaves
rest_left :
    (part k : ℕ) (w : World) → 0 < k → (performed part End k w).number ≡ 0
    → (performed part End k w).after ≡ moved w (with_lock (with_stage w.device Idle) (performed part End k w).after.device.guard.lock)
rest_left part k w h e =
    let q = ap (λ (o : Outcome). o.after) (done_as part End k w e) in
    q ∙ ap (moved w) (rest_stays (top_of part) k w.device h)
    ∙ sym (ap (λ (x : World). moved w (with_lock (with_stage w.device Idle) x.device.guard.lock)) q)

no_count : (part k : ℕ) (w : World) → (performed part End k w).count ≡ 0
no_count part k w =
    by_cases (eqb (performed part End k w).number 0)
    (λ t. ap (λ (o : Outcome). o.count) (done_as part End k w (eqb-true _ 0 t)))
    (λ t. ap (λ (o : Outcome). o.count) (refused_same part End k w t))

-- an end that is refused
refused_none : (part k : ℕ) (w : World) → (performed part End k w).number ≢ 0 → (performed part End k w).reply ≡ None
refused_none part k w n = ap (λ (o : Outcome). o.reply) (refused_same part End k w (ne_eqb _ 0 n))

-- a number is below 2 to the power k
broken_below : (k n : ℕ) (r : Option ℕ) → BrokenOff k r (Some n) → n < 2 ^ k
broken_below k n (Some b) x = x.1
broken_below k n None x = absurd x

number_below : (part k n : ℕ) (w : World) → Shaped part w → (performed part End k w).reply ≡ Some n → n < 2 ^ k
number_below part k n w z e =
    by_cases (eqb (performed part End k w).number 0)
    (λ t.
    broken_below k n (performed part Byte 0 w).reply
    (subst (BrokenOff k (performed part Byte 0 w).reply) e (agreed part k 0 w (omega arith) (eqb-true _ 0 t) z).1))
    (λ t. absurd (driven_off n (sym e ∙ ap (λ (o : Outcome). o.reply) (refused_same part End k w t))))

-- whether SO is driven after the pieces of a frame
module _ (part : ℕ) where
  abbrev after : List Piece → World → World
  after ps v = world_after our_chip part (acts_of ps) v

  -- past the first byte: by the stage, and whether a byte came
  going :
      (ps : List Piece) (v : World) → WholeBytes ps → InFrame part v → stage_of v ≢ Opened
      → driving (stage_of (after ps v)) ≡ pick (some_byte ps) (driving_on (stage_of v)) (driving (stage_of v))
  unfolding world_after our_chip
  going [] v z f n = refl
  going (byte b ∷ ps) v z f n =
      let m = byte_moves_lem part b v z.0 f in
      let g = goes_on (top_of part) (wip v.device) b (stage_of v) n in
      going ps (performed part Byte b v).after z.1 m.frame
      (λ q. stage_begun (top_of part) (wip v.device) b (stage_of v) n (sym m.stage ∙ q))
      ∙ pick_case (λ (t : Bool). t ≡ driving_on (stage_of v)) (some_byte ps) (ap driving_on m.stage ∙ g.later) (ap driving m.stage ∙ g.now)
  going (wait t ∷ ps) v z f n =
      let m = wait_moves part t v f in
      going ps (performed part Wait t v).after z m.frame (λ q. n (sym m.stage ∙ q))
      ∙ ap (λ (s : Stage). pick (some_byte ps) (driving_on s) (driving s)) m.stage

  -- from the select on: by the bytes
  driven_by : (ps : List Piece) (v : World) → WholeBytes ps → InFrame part v → stage_of v ≡ Opened → driving (stage_of (after ps v)) ≡ so_driven part ps v
  unfolding world_after our_chip
  driven_by [] v z f s = ap driving s
  driven_by (byte b ∷ ps) v z f s =
      let busy : Bool = wip v.device in
      let x : World = (performed part Byte b v).after in
      let m = byte_moves_lem part b v z.0 f in
      let q : stage_of x ≡ first_stage busy (code_of b) = m.stage ∙ ap (stage_after (top_of part) busy b) s in
      let rest : Bool → Bool = λ t. eqb b 0x13 || (t && (eqb b 0x03 || eqb b 0x33)) in
      going ps x z.1 m.frame (λ r. first_begun busy (code_of b) (sym q ∙ r))
      ∙ (λ i. pick (some_byte ps) ((ap driving_on q ∙ first_goes_on busy b z.0) i) ((ap driving q ∙ first_drives busy b z.0) i))
      ∙ pick_or (some_byte ps) (eqb b 0x05) (rest (not busy))
      ∙ ap (λ (t : Bool). eqb b 0x05 || (some_byte ps && rest t)) (not_positive v.device.cycle.left)
  driven_by (wait n ∷ ps) v z f s = let m = wait_moves part n v f in driven_by ps (performed part Wait n v).after z m.frame (m.stage ∙ s)

-- so of the frame of a select
frame_none_lem :
    (part k : ℕ) (ps : List Piece) (w : World) → (performed part Select 0 w).number ≡ 0 → k < 8 → WholeBytes ps
    → ((performed part End k (framed part ps w)).reply ≡ None) ↔ ((k ≡ 0) ⊎ (so_driven part ps (performed part Select 0 w).after ≡ false))
unfolding leftover_reply
frame_none_lem part k ps w e h z =
    let v : World = (performed part Select 0 w).after in
    let x : World = framed part ps w in
    let f = begun part w e in
    let r = ap (λ (o : Outcome). o.reply) (frame_done part End k x (le-ltb 7 k (omega arith)) refl refl (still_framed part ps v z f)) in
    let n = first_none k (next_reply x.eeprom x.id x.device) in
    let d : is_driven (next_reply x.eeprom x.id x.device) ≡ so_driven part ps v =
    next_driven x.eeprom x.id x.device ∙ driven_by part ps v z f (at_opened part w e) in (
      λ q. ⊎_elim (λ y. inl y) (λ y. inr (sym d ∙ ap is_driven y)) (n.0 (sym r ∙ q)),
      λ q. r ∙ n.1 (⊎_elim (λ y. inl y) (λ y. inr (off_undriven (next_reply x.eeprom x.id x.device) (d ∙ y))) q),
    )

-- The promise.
pub leftover_bits_lem : LeftoverBits
leftover_bits_lem =
    record {
      agrees = λ part k v w z h e. agreed part k v w h e z;
      in_runs = λ part p xs k v h e. agreed part k v _ h e (reached_valid part p xs).shaped;
      none = none_by;
      frame_none = frame_none_lem;
      below = number_below;
      refused = refused_none;
      rest = rest_left;
      uncounted = no_count;
    }
