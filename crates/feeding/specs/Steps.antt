-- Demand 3 of a tape: what a reader of two texts, the bytes of a tape and the bytes of its answers, tells the ledger (01's term) accounts for
-- every byte of the memories that the tape leaves. A line that the tape itself refuses, bad, before a part or a part again, stands in no run.
-- Assumes nothing.
use Rattle.std.specs.Prelude.{ℕ, ◌≡◌, false, List, [], ◌∷◌, eqb}
use Rattle.record.specs.World.{World}
use Rattle.ledger.specs.State.{start}
use Rattle.ledger.specs.Steps.{ledger_run}
use Rattle.run.specs.Claim.{Accounted}
use Rattle.answers.specs.Answer.{Setup, setup, line_answer}
use Rattle.tape.specs.Tape.{state, fed, finished, lines_from, tape_answers}
use Rattle.feeding.specs.Told.{Told, lines_told}

-- what is left at the end of a tape of these bytes
abbrev pub left_after : World → List ℕ → Setup
left_after w bytes = (finished (fed (state (setup 0 w) []) bytes).after).after.setup

-- L1. what the bytes of a tape and the bytes that are printed for it tell
abbrev pub told_by : List ℕ → List ℕ → Told
told_by bytes printed = lines_told (lines_from [] bytes) (lines_from [] printed)

-- The part told is the part that there is; and where there is one, each byte of its memories is the ledger's for the steps told.
pub record AccountsFor (t : Told) (s : Setup) : Type 0 where
  pub same_part : t.part ≡ s.part
  pub same_bytes : eqb t.part 0 ≡ false → Accounted t.part s.chip (ledger_run t.part t.steps start)

-- R8. So it is at the end of every tape, fed in chunks of any size, since chunks join; whatever lay in the memories before.
unfoldable pub BytesAccounted : Type 0
BytesAccounted = (bytes : List ℕ) (w : World) → AccountsFor (told_by bytes (tape_answers bytes)) (left_after w bytes)

-- What is left after lines. It is no part of the claim: the proof goes by lines, and a tape that is fed leaves the same.
unfoldable pub setup_after : Setup → List (List ℕ) → Setup
setup_after s [] = s
setup_after s (line ∷ lines) = setup_after (line_answer line s).after lines
