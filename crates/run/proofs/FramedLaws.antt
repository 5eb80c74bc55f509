-- A frame from its select on: its bytes are done and move the stage; a wait, done or refused, leaves it.
-- Assumes nothing.
use Prim.Native.Nat.{ℕ, ◌<◌}
use native.Mathlib.Omega.{arith}
use mathlib.Core.Path.{◌≡◌, refl, ap, ◌∙◌}
use mathlib.Core.Bool.{true, false}
use mathlib.Core.List.{List, [], ◌∷◌}
use borrow.Author.Tests.{le-ltb, not-false}
use lib.ListN.{length}
use Rattle.record.specs.declared.Act.{Act}
use Rattle.record.specs.declared.Act.TheVariants.{Select, Byte, Wait}
use Rattle.record.specs.declared.Frame.{Frame}
use Rattle.record.specs.declared.Stage.{Stage}
use Rattle.record.specs.declared.Stage.TheVariants.{Opened}
use Rattle.record.specs.Part.{top_of, boots_of}
use Rattle.record.specs.Stages.{selected}
use Rattle.record.specs.World.{World}
use Rattle.refusals.specs.Refusal.{wrong_arg, wrong_power, wrong_select, setup_refusal}
use Rattle.refusals.proofs.TableLaws as table
use Rattle.ticks.specs.Lines.{wip}
use Rattle.ticks.proofs.WaitLaws.{wait_spent}
use Rattle.frames.specs.Frame.{stage_after, after_byte, after_select}
use Rattle.frames.proofs.FrameLaws.{written_beside, stage_selected}
use Rattle.acts.specs.Act.{Outcome, accepted, performed}
use Rattle.acts.proofs.OutcomeLaws.{by_acceptance, performed_case, done_passed, done_as}
use Rattle.acts.proofs.SuitedLaws.{passed_range, performed_suited}
use Rattle.run.specs.Claim.{our_chip, world_after}
use Rattle.run.specs.Pieces.{Piece, byte, wait, acts_of, WholeBytes}

-- A frame. In it no row of the setup holds, power is on, and the chip is selected.
pub record InFrame (part : ℕ) (v : World) : Type 0 where
  pub setup : setup_refusal part v.device (length v.eeprom) (length v.id) ≡ 0
  pub power : v.device.power ≡ true
  pub chosen : selected v.device.frame.stage ≡ true

abbrev pub stage_of : World → Stage
stage_of v = v.device.frame.stage

-- an act of a frame in it is done
pub frame_done :
    (part : ℕ) (act : Act) (arg : ℕ) (v : World) → wrong_arg act arg ≡ false → wrong_power act true ≡ false → wrong_select act true ≡ 0 → InFrame part v
    → performed part act arg v ≡ accepted part arg v act
frame_done part act arg v a p s f =
    by_acceptance part act arg v
    (table.passed part act arg v.device _ _
    (record {
      setup = table.setup_passed part v.device _ _ f.setup;
      arg = a;
      power = ap (wrong_power act) f.power ∙ p;
      select = ap (wrong_select act) f.chosen ∙ s;
    }))

-- a byte moves the stage, a wait does not, and after both it is still a frame
pub record Moved (part : ℕ) (x : World) (s : Stage) : Type 0 where
  pub frame : InFrame part x
  pub stage : stage_of x ≡ s

pub byte_moves_lem :
    (part b : ℕ) (v : World) → b < 256 → InFrame part v → Moved part (performed part Byte b v).after (stage_after (top_of part) (wip v.device) b (stage_of v))
unfolding after_byte
byte_moves_lem part b v h f =
    let o : performed part Byte b v ≡ accepted part b v Byte = frame_done part Byte b v (le-ltb 255 b (omega arith)) refl refl f in
    let m = written_beside (boots_of part) v.device b (stage_of v) in
    let e = ap (λ (x : Outcome). stage_of x.after) o in
    record {
      frame =
          record {
            setup = performed_suited part Byte b v f.setup;
            power = ap (λ (x : Outcome). x.after.device.power) o ∙ m.power ∙ f.power;
            chosen = ap selected e ∙ stage_selected (top_of part) (wip v.device) b (stage_of v) ∙ f.chosen;
          };
      stage = e;
    }

pub wait_moves : (part n : ℕ) (v : World) → InFrame part v → Moved part (performed part Wait n v).after (stage_of v)
wait_moves part n v f =
    let k =
    performed_case (λ (x : World). (x.device.power ≡ v.device.power) × (stage_of x ≡ stage_of v)) part Wait n v (refl, refl)
    (λ e.
    let s = (wait_spent part (boots_of part) n v (passed_range part Wait n v e)).still in
    (s.power, ap (λ (x : Frame). x.stage) s.frame)) in
    record {
      frame = record { setup = performed_suited part Wait n v f.setup; power = k.0 ∙ f.power; chosen = ap selected k.1 ∙ f.chosen };
      stage = k.1;
    }

-- a frame stays one
pub still_framed : (part : ℕ) (ps : List Piece) (v : World) → WholeBytes ps → InFrame part v → InFrame part (world_after our_chip part (acts_of ps) v)
unfolding world_after our_chip
still_framed part [] v z f = f
still_framed part (byte b ∷ ps) v z f = still_framed part ps (performed part Byte b v).after z.1 (byte_moves_lem part b v z.0 f).frame
still_framed part (wait n ∷ ps) v z f = still_framed part ps (performed part Wait n v).after z (wait_moves part n v f).frame

-- A select that is done opens a frame.
module _ (part : ℕ) (w : World) (e : (performed part Select 0 w).number ≡ 0) where
  opened : performed part Select 0 w ≡ accepted part 0 w Select
  opened = done_as part Select 0 w e

  taken : table.Accepted part Select 0 w.device (length w.eeprom) (length w.id)
  taken = table.accepted part Select 0 w.device _ _ (done_passed part Select 0 w e)

  pub begun : InFrame part (performed part Select 0 w).after
  unfolding after_select
  begun =
      record {
        setup = performed_suited part Select 0 w (table.setup_passes part w.device _ _ taken.setup);
        power = ap (λ (o : Outcome). o.after.device.power) opened ∙ not-false w.device.power taken.power;
        chosen = ap (λ (o : Outcome). selected (stage_of o.after)) opened;
      }

  pub at_opened : stage_of (performed part Select 0 w).after ≡ Opened
  unfolding after_select
  at_opened = ap (λ (o : Outcome). stage_of o.after) opened
