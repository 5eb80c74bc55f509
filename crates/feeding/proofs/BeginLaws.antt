-- Laws of a tape that begins with a setup: cut at a line, its pieces answer and leave what the whole does; on a chip each line is answered by the chip, and the
-- lines are a run of acts on it, so that what is owed after every run of acts from a chip is owed after every tape that begins with it.
-- Assumes nothing.
use mathlib.Core.Path.{◌≡◌, refl, sym, ap, subst, ◌∙◌}
use mathlib.Core.Bool.{true, false}
use mathlib.Core.List.{List, [], ◌∷◌, ◌++◌, append_assoc}
use mathlib.Core.Logic.{inl, inr}
use Prim.Native.Nat.{ℕ}
use lib.Dec.{eqb}
use Rattle.std.specs.Prelude.{Result}
use Rattle.base.proofs.Tests.{no}
use Rattle.record.specs.Part.{is_part, size_of, id_size}
use Rattle.record.specs.World.{World, Shaped}
use Rattle.refusals.specs.InRange.{InRange}
use Rattle.refusals.proofs.RangeLaws.{in_range_lem}
use Rattle.refusals.proofs.TableLaws.{setup_passed}
use Rattle.ledger.specs.State.{Step}
use Rattle.run.specs.Claim.{Input, our_chip, world_after, steps_of}
use Rattle.text.specs.Bytes.{newline}
use Rattle.lines.specs.declared.Fault.{Fault}
use Rattle.lines.specs.declared.Request.{Request}
use Rattle.answers.specs.Answer.{Setup, no_part, misplaced, request_answer, line_answer, answer_text}
use Rattle.answers.proofs.AnswerLaws.{ready_suits}
use Rattle.tape.specs.Tape.{lines_from, answers_to}
use Rattle.feeding.specs.Told.{steps_told}
use Rattle.feeding.specs.Steps.{setup_after}
use Rattle.feeding.specs.Begin.{answers_with, left_with, Begun, ChipAnswers, CutAt, CutInTwo, TapeRuns}
use Rattle.feeding.proofs.WholeLaws.{pick_both}
use Rattle.feeding.proofs.ToldLaws.{answers_cut}
use Rattle.feeding.proofs.LedgerLaws.{acts_of, lines_setup, lines_steps}

-- bytes up to a line's end, and bytes behind it
lines_cut :
    (a begun b : List ℕ) → lines_from begun ((a ++ (newline ∷ [])) ++ b) ≡ lines_from begun (a ++ (newline ∷ [])) ++ lines_from [] b
unfolding lines_from
lines_cut [] begun b = refl
lines_cut (x ∷ a) begun b =
    pick_both (λ (l m : List (List ℕ)). l ≡ m ++ lines_from [] b) (eqb x newline)
    (ap (λ (l : List (List ℕ)). begun ∷ l) (lines_cut a [] b))
    (lines_cut a (begun ++ (x ∷ [])) b)

-- lines, and then others
answers_append : (x y : List (List ℕ)) (s : Setup) → answers_to s (x ++ y) ≡ answers_to s x ++ answers_to (setup_after s x) y
unfolding answers_to setup_after
answers_append [] y s = refl
answers_append (line ∷ x) y s =
    let a = line_answer line s in
    ap (λ (l : List ℕ). answer_text a ++ l) (answers_append x y a.after)
    ∙ sym (append_assoc (answer_text a) (answers_to a.after x) (answers_to (setup_after a.after x) y))

setup_append : (x y : List (List ℕ)) (s : Setup) → setup_after s (x ++ y) ≡ setup_after (setup_after s x) y
unfolding setup_after
setup_append [] y s = refl
setup_append (line ∷ x) y s = setup_append x y (line_answer line s).after

none_cut : (s : Setup) (b : List ℕ) → CutAt s [] b
unfolding lines_from answers_to setup_after
none_cut s b = record { answers = refl; left = refl }

line_cut : (s : Setup) (a b : List ℕ) → CutAt s (a ++ (newline ∷ [])) b
line_cut s a b =
    let x = lines_from [] (a ++ (newline ∷ [])) in
    let e = lines_cut a [] b in
    record {
      answers = ap (answers_to s) e ∙ answers_append x (lines_from [] b) s;
      left = ap (setup_after s) e ∙ setup_append x (lines_from [] b) s;
    }

pub cut_in_two : CutInTwo
unfolding CutInTwo
cut_in_two s a b (inl e) = subst (λ (x : List ℕ). CutAt s x b) (sym e) (none_cut s b)
cut_in_two s a b (inr e) = subst (λ (x : List ℕ). CutAt s x b) (sym e.1) (line_cut s e.0 b)

pub chip_answers : ChipAnswers
unfolding ChipAnswers line_answer
chip_answers s f line =
    record {
      part_line = λ arg e. ap (λ (r : Result Request Fault). request_answer r s) e ∙ sym (no _ (misplaced s) f);
      act_line = λ act arg e. ap (λ (r : Result Request Fault). request_answer r s) e ∙ sym (no (misplaced s) _ f);
      bad_line_lem = λ fault e. ap (λ (r : Result Request Fault). request_answer r s) e;
    }

pub tape_runs : TapeRuns
unfolding TapeRuns
tape_runs s f bytes =
    let lines = lines_from [] bytes in (
      acts_of lines,
      record {
        left = lines_setup s.part f lines s.chip;
        told = ap (steps_told lines) (answers_cut lines s) ∙ lines_steps s.part f lines s.chip;
      },
    )

-- What is owed after every run of acts from any chip in range, by what the run tells the ledger, is owed after a tape that begins with one, by what the bytes of
-- the tape and the bytes of its answers tell.
module _
    (Owed : ℕ → World → World → List Step → Type 0)
    (owed :
    (part : ℕ) → is_part part ≡ true → (s : World) → InRange part s.device → Shaped part s → (xs : List Input)
    → Owed part s (world_after our_chip part xs s) (steps_of our_chip part xs s))
  where
    pub tape_owed :
        (s : Setup) → Begun s → no_part s ≡ false → (bytes : List ℕ)
        → Owed s.part s.chip (left_with s bytes).chip (steps_told (lines_from [] bytes) (lines_from [] (answers_with s bytes)))
    unfolding TapeRuns
    tape_owed s b f bytes =
        let r = tape_runs s f bytes in
        let k = setup_passed s.part s.chip.device (size_of s.part) id_size (ready_suits s.part s.chip.device _ _ f b.goes refl refl) in
        subst (λ (x : Setup). Owed s.part s.chip x.chip (steps_told (lines_from [] bytes) (lines_from [] (answers_with s bytes)))) (sym r.1.left)
        (subst (Owed s.part s.chip (world_after our_chip s.part r.0 s.chip)) (sym r.1.told)
        (owed s.part k.known s.chip (in_range_lem s.part s.chip.device k.ranged) (b.shaped f) r.0))
