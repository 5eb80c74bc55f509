-- A tape that begins with a setup: without a part, as every tape did at first, or with a chip that is there. What its lines answer and leave; that a tape may be
-- cut at any line and go on with what the first piece left; and that a tape that begins with a chip is a run of acts on it. Not where the chip came from.
-- Assumes nothing.
use Rattle.std.specs.Prelude.{ℕ, ◌≡◌, true, false, List, [], ◌∷◌, ◌++◌, ◌⊎◌, length, take, Ok, Err}
use Rattle.record.specs.declared.Act.{Act}
use Rattle.record.specs.declared.Device.{Device}
use Rattle.record.specs.Part.{size_of, id_size}
use Rattle.record.specs.World.{world, Shaped}
use Rattle.acts.specs.Act.{performed}
use Rattle.run.specs.Claim.{Input, our_chip, world_after, steps_of}
use Rattle.text.specs.Bytes.{newline}
use Rattle.lines.specs.declared.Fault.{Fault}
use Rattle.lines.specs.declared.Request.TheVariants.{Part as PartLine, Act as ActLine}
use Rattle.lines.specs.Request.{request_of, fault_number, fault_column}
use Rattle.answers.specs.Ready.{ready}
use Rattle.answers.specs.Answer.{Setup, setup, no_part, faulty_line, misplaced, outcome_answer, line_answer, eeprom_bytes, id_bytes}
use Rattle.tape.specs.Tape.{lines_from, answers_to, state, fed, Loan, loan, state_in, is_tape, resumes, resumed_tape, Typed}
use Rattle.feeding.specs.Told.{steps_told}
use Rattle.feeding.specs.Steps.{setup_after}

-- the answers to a tape of these bytes that begins with a setup, and what it leaves
abbrev pub answers_with : Setup → List ℕ → List ℕ
answers_with s bytes = answers_to s (lines_from [] bytes)

abbrev pub left_with : Setup → List ℕ → Setup
left_with s bytes = setup_after s (lines_from [] bytes)

-- What a tape may begin with: no part and no memory, or a part with its chip, the record in range, the memories of the part's lengths, and bytes in them.
pub record Begun (s : Setup) : Type 0 where
  pub goes : ready s.part s.chip.device ≡ true
  pub eeprom : length s.chip.eeprom ≡ eeprom_bytes s.part
  pub id : length s.chip.id ≡ id_bytes s.part
  pub shaped : no_part s ≡ false → Shaped s.part s.chip

-- How a caller that feeds piece by piece says how far it is: what is lent holds the state that these bytes of a tape lead to, which began with this setup. Other
-- bytes may lead to it too, since a refused line changes nothing; so such a caller also has to tell what was answered. With no bytes the tape begins.
pub record HasFed (s : Setup) (l : Loan) (bytes : List ℕ) : Type 0 where
  pub begun : Begun s
  pub tape : is_tape l ≡ true
  pub reached : state_in l ≡ (fed (state s []) bytes).after

-- R21. The tape that `resume` answers begins with that part and record and with the memories lent, of which a part has the first bytes; no line is begun.
unfoldable pub ResumesWith : Type 0
ResumesWith =
    (part : ℕ) (d : Device) (line ee id : List ℕ) → Typed d ee id → length line ≡ 65 → resumes part d (length ee) (length id) ≡ true
    → HasFed (setup part (world d (take (size_of part) ee) (take id_size id))) (loan (resumed_tape part d (length ee) (length id)) line ee id) []

-- R21. On a chip that is there a line that names a part is out of its place, and a bad one is refused with its number and column; a line that names an act
-- shows and leaves what that act does to the chip.
pub record AnsweredByChip (s : Setup) (line : List ℕ) : Type 0 where
  pub part_line : (arg : ℕ) → request_of line ≡ Ok (PartLine arg) → line_answer line s ≡ misplaced s
  pub act_line :
      (act : Act) (arg : ℕ) → request_of line ≡ Ok (ActLine act arg) → line_answer line s ≡ outcome_answer s.part act (performed s.part act arg s.chip)
  pub bad_line_lem : (fault : Fault) → request_of line ≡ Err fault → line_answer line s ≡ faulty_line (fault_number fault) (fault_column fault) s

unfoldable pub ChipAnswers : Type 0
ChipAnswers = (s : Setup) → no_part s ≡ false → (line : List ℕ) → AnsweredByChip s line

-- the end of a line, or the start of a tape
abbrev pub AtLine : List ℕ → Type 0
AtLine a = (a ≡ []) ⊎ ((line : List ℕ) × (a ≡ line ++ (newline ∷ [])))

-- R22. A tape that is cut in two at a line, the second piece beginning with what the first left, answers and leaves what the uncut one does.
pub record CutAt (s : Setup) (a b : List ℕ) : Type 0 where
  pub answers : answers_with s (a ++ b) ≡ answers_with s a ++ answers_with (left_with s a) b
  pub left : left_with s (a ++ b) ≡ left_with (left_with s a) b

unfoldable pub CutInTwo : Type 0
CutInTwo = (s : Setup) (a b : List ℕ) → AtLine a → CutAt s a b

-- L1. A tape that begins with a chip is a run of acts on it: it leaves what they leave, and the bytes of the tape and the bytes of its answers tell the ledger
-- (01's term) the acts, their arguments and the ticks that each wait used.
pub record RunsActs (s : Setup) (bytes : List ℕ) (xs : List Input) : Type 0 where
  pub left : left_with s bytes ≡ setup s.part (world_after our_chip s.part xs s.chip)
  pub told : steps_told (lines_from [] bytes) (lines_from [] (answers_with s bytes)) ≡ steps_of our_chip s.part xs s.chip

unfoldable pub TapeRuns : Type 0
TapeRuns = (s : Setup) → no_part s ≡ false → (bytes : List ℕ) → (xs : List Input) × RunsActs s bytes xs
