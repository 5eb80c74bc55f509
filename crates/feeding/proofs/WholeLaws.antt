-- Laws of a whole tape: fed byte by byte and ended, it answers line by line; what lay in the memories before its part tells nothing; and
-- how many bytes a call takes.
-- Assumes nothing.
use mathlib.Core.Path.{◌≡◌, refl, sym, ap, ◌∙◌}
use mathlib.Core.Bool.{Bool, true, false, ◌&&◌, and-false}
use mathlib.Core.List.{List, [], ◌∷◌, ◌++◌, append-nil}
use Prim.Native.Nat.{ℕ, suc, ◌+◌, ◌-◌, ◌<◌, ◌≤◌, suc-le-suc}
use native.Mathlib.Omega.{arith}
use borrow.Author.Tests.{le-ltb, ne_eqb}
use lib.Dec.{ltb, eqb}
use lib.ListN.{length, length-append}
use Rattle.std.specs.Prelude.{Result, Ok, Err}
use Rattle.base.specs.Words.{pick}
use Rattle.base.proofs.Tests.{no, pick_case}
use Rattle.record.specs.Part.{is_part}
use Rattle.record.specs.World.{World}
use Rattle.lines.specs.declared.Fault.{Fault}
use Rattle.lines.specs.declared.Request.{Request}
use Rattle.lines.specs.declared.Request.TheVariants.{Part as PartLine, Act as ActLine}
use Rattle.lines.specs.Request.{request_of, fault_number, fault_column}
use Rattle.text.specs.Bytes.{newline}
use Rattle.lines.specs.Print.{answer_room}
use Rattle.answers.specs.Answer.{Setup, setup, LineAnswer, refused_line, faulty_line, misplaced, request_answer, line_answer, answer_text}
use Rattle.tape.specs.Tape.{last_line, lines_from, answers_to, tape_answers, FedByLines, empty_setup, State, state, head, Fed, fed_to, fed_byte, ahead, fed, finished, answers_from, taken_within}
use Rattle.feeding.specs.Steps.{setup_after}
use Rattle.tape.proofs.TapeLaws.{ahead_join, head_join, head_answers}

-- what lines answer, and what is left after them
abbrev pub lines_fed : Setup → List (List ℕ) → Fed
lines_fed s lines = fed_to (state (setup_after s lines) []) (answers_to s lines)

-- the end of a tape answers its last line
last_fed : (s : Setup) (b : List ℕ) → finished (state s (head b)) ≡ lines_fed s (last_line b)
unfolding finished setup_after answers_to
last_fed s [] = refl
last_fed s (c ∷ b) =
    sym (no _ _ (ne_eqb (length (head (c ∷ b))) 0 (λ e. omega arith)))
    ∙ ap (λ (a : LineAnswer). fed_to (state a.after []) (answer_text a)) (head_answers (c ∷ b) s)
    ∙ ap (fed_to (state (line_answer (c ∷ b) s).after [])) (sym (append-nil (answer_text (line_answer (c ∷ b) s))))

-- a tape to its end
abbrev pub to_end : Fed → Fed
to_end f = ahead f.answers (finished f.after)

-- what holds of both answers of two choices by one test
pub pick_both : {A B : Type 0} (P : A → B → Type 0) (t : Bool) {a b : A} {c d : B} → P a c → P b d → P (pick t a b) (pick t c d)
pick_both P true p q = p
pick_both P false p q = q

-- fed byte by byte and ended, a tape answers and leaves what its lines do
pub fed_lines : (bytes : List ℕ) (s : Setup) (b : List ℕ) → to_end (fed (state s (head b)) bytes) ≡ lines_fed s (lines_from b bytes)
unfolding setup_after answers_to fed lines_from
fed_lines [] s b = last_fed s b
fed_lines (x ∷ bytes) s b =
    let a = line_answer (head b) s in
    let f = fed (state a.after []) bytes in
    pick_both (λ (g : Fed) (lines : List (List ℕ)). to_end (ahead g.answers (fed g.after bytes)) ≡ lines_fed s lines) (eqb x newline)
    (sym (ahead_join (answer_text a) f.answers (finished f.after))
    ∙ ap (ahead (answer_text a)) (fed_lines bytes a.after [])
    ∙ ap (λ (y : LineAnswer). ahead (answer_text y) (lines_fed y.after (lines_from [] bytes))) (head_answers b s))
    (ap (λ (r : List ℕ). to_end (ahead [] (fed (state s r) bytes))) (head_join b (x ∷ [])) ∙ fed_lines bytes s (b ++ (x ∷ [])))

pub answers_lines : (bytes : List ℕ) (s : Setup) (b : List ℕ) → answers_from (state s (head b)) bytes ≡ answers_to s (lines_from b bytes)
answers_lines bytes s b = ap (λ (f : Fed). f.answers) (fed_lines bytes s b)

pub setup_lines :
    (bytes : List ℕ) (s : Setup) (b : List ℕ) → (finished (fed (state s (head b)) bytes).after).after.setup ≡ setup_after s (lines_from b bytes)
setup_lines bytes s b = ap (λ (f : Fed). f.after.setup) (fed_lines bytes s b)

-- before a part the chip tells nothing
before_part :
    (r : Result Request Fault) (lines : List (List ℕ)) (v w : World) → answers_to (setup 0 v) lines ≡ answers_to (setup 0 w) lines
    → answer_text (request_answer r (setup 0 v)) ++ answers_to (request_answer r (setup 0 v)).after lines
    ≡ answer_text (request_answer r (setup 0 w)) ++ answers_to (request_answer r (setup 0 w)).after lines
unfolding answer_text
before_part (Ok (PartLine arg)) lines v w e =
    let t : LineAnswer → List ℕ = λ a. answer_text a ++ answers_to a.after lines in
    pick_both (λ (x y : LineAnswer). t x ≡ t y) (is_part arg) refl (ap (λ (l : List ℕ). answer_text (refused_line 3 (setup 0 v)) ++ l) e)
before_part (Ok (ActLine act arg)) lines v w e = ap (λ (l : List ℕ). answer_text (misplaced (setup 0 v)) ++ l) e
before_part (Err fault) lines v w e = ap (λ (l : List ℕ). answer_text (faulty_line (fault_number fault) (fault_column fault) (setup 0 v)) ++ l) e

pub before_any : (lines : List (List ℕ)) (v w : World) → answers_to (setup 0 v) lines ≡ answers_to (setup 0 w) lines
unfolding answers_to line_answer
before_any [] v w = refl
before_any (line ∷ lines) v w = before_part (request_of line) lines v w (before_any lines v w)

-- the answers to a whole tape, as it comes
pub tape_whole : FedByLines
unfolding FedByLines tape_answers
tape_whole w bytes = answers_lines bytes (setup 0 w) [] ∙ before_any (lines_from [] bytes) w empty_setup.chip

-- how many bytes a call takes: no more than there are; some, where there is room for an answer; all, where all the answers have room
pub taken_within_lem : (bytes : List ℕ) (room : ℕ) (s : State) → taken_within room s bytes ≤ length bytes
unfolding taken_within
taken_within_lem [] room s = omega arith
taken_within_lem (x ∷ bytes) room s =
    pick_case (λ (n : ℕ). n ≤ suc (length bytes)) (eqb x newline && ltb room answer_room) (omega arith)
    (suc-le-suc (taken_within_lem bytes (room - length (fed_byte x s).answers) (fed_byte x s).after))

pub taken_some : (x : ℕ) (bytes : List ℕ) (room : ℕ) (s : State) → answer_room ≤ room → 0 < taken_within room s (x ∷ bytes)
unfolding taken_within
taken_some x bytes room s h = simp (le-ltb room answer_room h, and-false) (omega arith)

pub taken_all :
    (bytes : List ℕ) (room : ℕ) (s : State) → length (fed s bytes).answers + answer_room ≤ room → taken_within room s bytes ≡ length bytes
unfolding taken_within fed
taken_all [] room s h = refl
taken_all (x ∷ bytes) room s h =
    let a = (fed_byte x s).answers in
    let f = fed (fed_byte x s).after bytes in
    let l : length (a ++ f.answers) ≡ length a + length f.answers = length-append a f.answers in
    simp (le-ltb room answer_room (omega arith), and-false)
    (ap suc (taken_all bytes (room - length a) (fed_byte x s).after (omega arith)))
