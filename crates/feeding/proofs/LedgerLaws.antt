-- Demand 3 of a tape. Once a part is accepted, the lines that name acts run them as a list of acts runs, and the ticks read from the answer to
-- a wait are those that it used; so the memories are the ledger's.
-- Assumes nothing.
use mathlib.Core.Path.{◌≡◌, refl, sym, ap, subst, ◌∙◌}
use mathlib.Core.Bool.{true, false, true≢false}
use mathlib.Core.List.{List, [], ◌∷◌, ◌++◌, append-nil}
use Prim.Native.Nat.{ℕ}
use lib.Dec.{eqb}
use Rattle.std.specs.Prelude.{Option, Some, None, Result, Ok, Err}
use Rattle.base.proofs.Tests.{by_cases, yes, no, pick_when}
use Rattle.record.specs.declared.Act.{Act}
use Rattle.record.specs.declared.Act.TheVariants.{Select, Byte, End, Wait, Cut, Up, Set}
use Rattle.record.specs.Part.{is_part}
use Rattle.record.proofs.PartLaws.{part_cases}
use Rattle.record.specs.World.{World}
use Rattle.acts.specs.Act.{Outcome, performed}
use Rattle.acts.proofs.OutcomeLaws.{refused_same}
use Rattle.ledger.specs.State.{Step}
use Rattle.run.specs.Claim.{Input, our_chip, world_after, steps_of, told, used_by, DemandThree}
use Rattle.run.proofs.DemandThree.{demand_three_lem}
use Rattle.run.proofs.RunLaws.{after_append, steps_append}
use Rattle.lines.specs.declared.Fault.{Fault}
use Rattle.lines.specs.declared.Request.{Request}
use Rattle.lines.specs.declared.Request.TheVariants.{Part as PartLine, Act as ActLine}
use Rattle.lines.specs.Request.{request_of}
use Rattle.lines.specs.Print.{out_of}
use Rattle.lines.specs.Read.{shown_or}
use Rattle.answers.specs.Answer.{Setup, setup, LineAnswer, misplaced, outcome_answer, fresh_setup, request_answer, line_answer}
use Rattle.tape.specs.Tape.{lines_from, tape_answers, empty_setup}
use Rattle.feeding.specs.Told.{Told, tells, line_told, steps_told, part_told, lines_told}
use Rattle.feeding.specs.Steps.{setup_after, told_by, AccountsFor, BytesAccounted}
use Rattle.feeding.proofs.WholeLaws.{setup_lines, before_any}
use Rattle.feeding.proofs.ToldLaws.{chars_of, chars_out, answer_lines, answers_cut}

-- the acts that lines name
abbrev pub input_of : Result Request Fault → List Input
input_of (Ok (PartLine arg)) = []
input_of (Ok (ActLine act arg)) = record { act = act; arg = arg } ∷ []
input_of (Err fault) = []

unfoldable pub acts_of : List (List ℕ) → List Input
acts_of [] = []
acts_of (line ∷ lines) = input_of (request_of line) ++ acts_of lines

-- the ticks printed for a wait are those that it used
wait_ticks : (o : Outcome) → (eqb o.number 0 ≡ false → o.count ≡ 0) → shown_or 0 (out_of o.number Wait o.reply o.count) ≡ o.count
wait_ticks o h =
    by_cases (eqb o.number 0)
    (λ e. ap (shown_or 0) (sym (yes (Some o.count) None e)))
    (λ e. ap (shown_or 0) (sym (no (Some o.count) None e)) ∙ sym (h e))

printed :
    (part : ℕ) (act : Act) (arg : ℕ) (w : World)
    → used_by act (shown_or 0 (outcome_answer part act (performed part act arg w)).out) ≡ used_by act (performed part act arg w).count
printed part Select arg w = refl
printed part Byte arg w = refl
printed part End arg w = refl
printed part Wait arg w = wait_ticks (performed part Wait arg w) (λ e. ap (λ (o : Outcome). o.count) (refused_same part Wait arg w e))
printed part Cut arg w = refl
printed part Up arg w = refl
printed part (Set p) arg w = refl

-- with a part, a line's answer leaves and tells the ledger what its act does
module _ (part : ℕ) (some : eqb part 0 ≡ false) where
  line_setup : (r : Result Request Fault) (w : World) → (request_answer r (setup part w)).after ≡ setup part (world_after our_chip part (input_of r) w)
  unfolding world_after our_chip
  line_setup (Ok (PartLine arg)) w = ap (λ (a : LineAnswer). a.after) (sym (no _ (misplaced (setup part w)) some))
  line_setup (Ok (ActLine act arg)) w =
      ap (λ (x : LineAnswer). x.after) (sym (no (misplaced (setup part w)) (outcome_answer part act (performed part act arg w)) some))
  line_setup (Err fault) w = refl

  line_steps : (r : Result Request Fault) (w : World) → line_told r (chars_of (request_answer r (setup part w))) ≡ steps_of our_chip part (input_of r) w
  unfolding steps_of our_chip
  line_steps (Ok (PartLine arg)) w = refl
  line_steps (Ok (ActLine act arg)) w =
      let a = outcome_answer part act (performed part act arg w) in
      ap (λ (x : LineAnswer). line_told (Ok (ActLine act arg)) (chars_of x)) (sym (no (misplaced (setup part w)) a some))
      ∙ ap (λ (o : Option ℕ). told act arg (used_by act (shown_or 0 o))) (chars_out a)
      ∙ ap (told act arg) (printed part act arg w)
      ∙ sym (append-nil (told act arg (used_by act (performed part act arg w).count)))
  line_steps (Err fault) w = refl

  -- and so do lines
  pub lines_setup : (lines : List (List ℕ)) (w : World) → setup_after (setup part w) lines ≡ setup part (world_after our_chip part (acts_of lines) w)
  unfolding setup_after acts_of line_answer world_after
  lines_setup [] w = refl
  lines_setup (line ∷ lines) w =
      ap (λ (s : Setup). setup_after s lines) (line_setup (request_of line) w)
      ∙ lines_setup lines (world_after our_chip part (input_of (request_of line)) w)
      ∙ ap (setup part) (sym (after_append our_chip part (input_of (request_of line)) (acts_of lines) w))

  pub lines_steps :
      (lines : List (List ℕ)) (w : World) → steps_told lines (answer_lines (setup part w) lines) ≡ steps_of our_chip part (acts_of lines) w
  unfolding steps_told answer_lines acts_of line_answer steps_of
  lines_steps [] w = refl
  lines_steps (line ∷ lines) w =
      let r = request_of line in
      ap (λ (x : List Step). x ++ steps_told lines (answer_lines (request_answer r (setup part w)).after lines)) (line_steps r w)
      ∙ ap (λ (s : Setup). steps_of our_chip part (input_of r) w ++ steps_told lines (answer_lines s lines)) (line_setup r w)
      ∙ ap (λ (x : List Step). steps_of our_chip part (input_of r) w ++ x) (lines_steps lines (world_after our_chip part (input_of r) w))
      ∙ sym (steps_append our_chip part (input_of r) (acts_of lines) w)

is_some : (n : ℕ) → is_part n ≡ true → eqb n 0 ≡ false
is_some = part_cases (λ (n : ℕ). eqb n 0 ≡ false) refl refl refl refl

-- from an accepted part on
fresh_owes :
    (n : ℕ) → is_part n ≡ true → (lines : List (List ℕ))
    → AccountsFor (tells n (steps_told lines (answer_lines (fresh_setup n) lines))) (setup_after (fresh_setup n) lines)
unfolding DemandThree
fresh_owes n p lines =
    let k = is_some n p in
    let w = (fresh_setup n).chip in
    let s = lines_setup n k lines w in
    let f = lines_steps n k lines w in
    subst (λ (y : Setup). AccountsFor (tells n (steps_told lines (answer_lines (fresh_setup n) lines))) y) (sym s)
    (subst (λ (y : List Step). AccountsFor (tells n y) (setup n (world_after our_chip n (acts_of lines) w))) (sym f)
    (record { same_part = refl; same_bytes = λ q. demand_three_lem n p (acts_of lines) }))

-- before it: the claim of lines, and of a line with its answer before them
abbrev Owed : List (List ℕ) → Setup → Type 0
Owed lines s = AccountsFor (lines_told lines (answer_lines s lines)) (setup_after s lines)

abbrev OwedAfter : Result Request Fault → List (List ℕ) → LineAnswer → Type 0
OwedAfter r lines a =
    let answers : List (List ℕ) = answer_lines a.after lines in
    AccountsFor (part_told r (steps_told lines answers) (lines_told lines answers)) (setup_after a.after lines)

line_owes : (r : Result Request Fault) (lines : List (List ℕ)) (w : World) → Owed lines (setup 0 w) → OwedAfter r lines (request_answer r (setup 0 w))
line_owes (Ok (PartLine n)) lines w h =
    pick_when (OwedAfter (Ok (PartLine n)) lines) (is_part n)
    (λ p. subst (λ (t : Told). AccountsFor t (setup_after (fresh_setup n) lines)) (yes _ _ p) (fresh_owes n p lines))
    (λ p. subst (λ (t : Told). AccountsFor t (setup_after (setup 0 w) lines)) (no _ _ p) h)
line_owes (Ok (ActLine act arg)) lines w h = h
line_owes (Err fault) lines w h = h

tape_owes : (lines : List (List ℕ)) (w : World) → Owed lines (setup 0 w)
unfolding setup_after lines_told answer_lines line_answer
tape_owes [] w = record { same_part = refl; same_bytes = λ q. absurd (true≢false q) }
tape_owes (line ∷ lines) w = line_owes (request_of line) lines w (tape_owes lines w)

pub bytes_accounted : BytesAccounted
unfolding BytesAccounted tape_answers
bytes_accounted bytes w =
    let lines = lines_from [] bytes in
    let e = ap (lines_from []) (before_any lines empty_setup.chip w) ∙ answers_cut lines (setup 0 w) in
    subst (λ (s : Setup). AccountsFor (told_by bytes (tape_answers bytes)) s) (sym (setup_lines bytes (setup 0 w) []))
    (subst (λ (answers : List (List ℕ)). AccountsFor (lines_told lines answers) (setup_after (setup 0 w) lines)) (sym e) (tape_owes lines w))
