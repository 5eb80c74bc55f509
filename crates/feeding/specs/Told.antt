-- What a reader of a tape and of its answers tells the ledger (01's term), from the lines of both, side by side. The tape's lines name the
-- part, the acts and their arguments; of the answers only the ticks of a wait are read, and no refusal. It is no record of the chip, and no
-- definition of an act or of an answer stands here.
-- Assumes nothing.
use Rattle.std.specs.Prelude.{ℕ, ◌&&◌, List, [], ◌∷◌, ◌++◌, leb, Result, Ok, Err}
use Rattle.base.specs.Words.{pick}
use Rattle.ledger.specs.State.{Step}
use Rattle.run.specs.Claim.{told, used_by}
use Rattle.lines.specs.declared.Fault.{Fault}
use Rattle.lines.specs.declared.Request.{Request}
use Rattle.lines.specs.declared.Request.TheVariants.{Part as PartLine, Act as ActLine}
use Rattle.lines.specs.Request.{request_of}
use Rattle.lines.specs.Read.{shown_or, out_read}

-- the part, 0 where the lines name none, and the steps after it
pub record Told : Type 0 where
  pub part : ℕ
  pub steps : List Step

abbrev pub tells : ℕ → List Step → Told
tells part steps = record { part = part; steps = steps }

-- L1. With a part, a line that names an act tells what its act does: the act, its argument, and of the answer a wait's ticks, 0 where z is shown. A pin's line and
-- other lines tell nothing.
abbrev pub line_told : Result Request Fault → List ℕ → List Step
line_told (Ok (PartLine arg)) answer = []
line_told (Ok (ActLine act arg)) answer = told act arg (used_by act (shown_or 0 (out_read answer)))
line_told (Err fault) answer = []

unfoldable pub steps_told : List (List ℕ) → List (List ℕ) → List Step
steps_told [] answers = []
steps_told (line ∷ lines) [] = []
steps_told (line ∷ lines) (answer ∷ answers) = line_told (request_of line) answer ++ steps_told lines answers

-- T6. The first line that asks for one of the parts 1 to 4 makes it, and the steps begin, whatever it is answered; a line before it tells nothing.
abbrev pub part_told : Result Request Fault → List Step → Told → Told
part_told (Ok (PartLine n)) steps later = pick (leb 1 n && leb n 4) (tells n steps) later
part_told (Ok (ActLine act arg)) steps later = later
part_told (Err fault) steps later = later

-- L1. what lines with their answers tell
unfoldable pub lines_told : List (List ℕ) → List (List ℕ) → Told
lines_told [] answers = tells 0 []
lines_told (line ∷ lines) [] = tells 0 []
lines_told (line ∷ lines) (answer ∷ answers) = part_told (request_of line) (steps_told lines answers) (lines_told lines answers)
