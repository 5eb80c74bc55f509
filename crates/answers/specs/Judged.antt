-- When a line of a tape is bad, with which number and at which column, said apart from the choices that decide (Answer): by the rows of a line by itself, and
-- the row of the part behind them. And the one number of before, 7, in the words that it had, with what a line was answered then.
-- Assumes nothing.
use Rattle.std.specs.Prelude.{ℕ, ◌<◌, ◌≡◌, true, false, List, [], ◌∷◌, ◌++◌, ◌⊎◌, ◌↔◌, ltb, None, Result, Ok, Err}
use Rattle.base.specs.Words.{pick}
use Rattle.record.specs.declared.Act.{Act}
use Rattle.record.specs.Part.{is_part}
use Rattle.acts.specs.Act.{performed}
use Rattle.text.specs.Bytes.{Listed}
use Rattle.text.specs.Decimal.{value_of}
use Rattle.lines.specs.declared.Name.TheVariants.{Part as PartName, Act as ActName}
use Rattle.lines.specs.declared.Fault.{Fault}
use Rattle.lines.specs.declared.Request.{Request}
use Rattle.lines.specs.declared.Request.TheVariants.{Part as PartLine, Act as ActLine}
use Rattle.lines.specs.Line.{names, name_of, name_text, digits_text}
use Rattle.lines.specs.Request.{asked_by, bad_line, request_of}
use Rattle.lines.specs.Faults.{Formed, LineRow, line_rows, FirstRow, NoRow}
use Rattle.answers.specs.Answer.{Setup, no_part, fresh_setup, LineAnswer, answer, refused_line, faulty_line, outcome_answer, line_answer}

-- 74, T18. the line names an act, and there is no part yet; or it names a part, and there is one. No column is to blame.
pub record PartRow (line : List ℕ) (s : Setup) (column : ℕ) : Type 0 where
  pub form : Formed line
  pub wrong :
      ((act : Act) × (Listed names form.name (ActName act) × (no_part s ≡ true)))
      ⊎ (Listed names form.name PartName × (no_part s ≡ false))
  pub at : column ≡ 0

-- T16. The order of the five: 71, 72, 73, 75, 74.
abbrev pub tape_rows : List ℕ → Setup → List LineRow
tape_rows line s = line_rows line ++ (record { number = 74; holds = PartRow line s } ∷ [])

-- A31. When a line was 7, as it was said then.
pub data SevenRow (line : List ℕ) (s : Setup) : Type 0 where
  -- the line is bad by itself
  bad : bad_line line ≡ true → SevenRow line s
  -- T6. It names an act, and there is no part yet.
  early : (act : Act) (arg : ℕ) → request_of line ≡ Ok (ActLine act arg) → no_part s ≡ true → SevenRow line s
  -- T6. It names a part, and there is one.
  again : (arg : ℕ) → request_of line ≡ Ok (PartLine arg) → no_part s ≡ false → SevenRow line s

-- T17. What a line was answered before the five numbers.
abbrev pub request_before : Result Request Fault → Setup → LineAnswer
request_before (Ok (PartLine arg)) s = pick (no_part s) (pick (is_part arg) (answer 0 None (fresh_setup arg)) (refused_line 3 s)) (refused_line 7 s)
request_before (Ok (ActLine act arg)) s = pick (no_part s) (refused_line 7 s) (outcome_answer s.part act (performed s.part act arg s.chip))
request_before (Err fault) s = refused_line 7 s

unfoldable pub answer_before : List ℕ → Setup → LineAnswer
answer_before line s = pick (bad_line line) (refused_line 7 s) (request_before (asked_by (name_of (name_text line)) (value_of (digits_text line))) s)

-- an answer with the five put together again
abbrev pub together : LineAnswer → LineAnswer
together a = pick (ltb 6 a.number) (refused_line 7 a.after) a

-- How a line of bytes is judged, whatever part, record and memories there are.
pub record Judged (line : List ℕ) (s : Setup) : Type 0 where
  -- no row holds, or there is a first that does, and then one number and one column
  pub some : NoRow (tape_rows line s) ⊎ ((number column : ℕ) × FirstRow (tape_rows line s) number column)
  pub once :
      (m n c d : ℕ) → FirstRow (tape_rows line s) m c → FirstRow (tape_rows line s) n d → (m ≡ n) × (c ≡ d)
  -- a number above 6 is answered with a column, and both are those of the first row that holds
  pub fault :
      (number column : ℕ) → ((line_answer line s ≡ faulty_line number column s) × (6 < number)) ↔ FirstRow (tape_rows line s) number column
  -- the line is good, and has one of the other numbers, exactly if no row holds
  pub good : ((line_answer line s).number < 7) ↔ NoRow (tape_rows line s)
  -- a number above 6 is answered exactly where it was 7, and nothing else of an answer changed
  pub seven : (6 < (line_answer line s).number) ↔ SevenRow line s
  pub before : together (line_answer line s) ≡ answer_before line s

-- A31, A32, T16, T17. So it is with every line.
unfoldable pub LinesJudged : Type 0
LinesJudged = (line : List ℕ) (s : Setup) → Judged line s
