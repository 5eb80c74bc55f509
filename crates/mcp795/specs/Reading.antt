-- What the program's functions promise of a tape: the state that the bytes fed lead to, and that the answers to a piece of it, whole and in their order, are
-- the first bytes of the output when that is written. No contract can say what is read from a descriptor or written to one.
-- Assumes nothing.
use Rattle.std.specs.Prelude.{ℕ, ◌≡◌, Bool, true, false, List, ◌++◌, ◌⊎◌, length, take, Result, Ok, Err}
use Rattle.record.specs.declared.Device.{Device}
use Rattle.record.specs.Part.{size_of, id_size}
use Rattle.record.specs.World.{world}
use Rattle.text.specs.Buffer.{buffer}
use Rattle.answers.specs.Answer.{Setup, setup}
use Rattle.tape.specs.declared.Tape.{Tape}
use Rattle.tape.specs.Tape.{fed, Loan, loan, state_in, finish_into, resumes}
use Rattle.feeding.specs.Begin.{HasFed}
use Rattle.mcp795.specs.declared.one_tape.Put.{Put}
use Rattle.mcp795.specs.declared.one_tape.Put.TheVariants.{More, Last}

-- what is lent holds the state that some bytes of a tape lead to, whatever setup it began with
abbrev pub IsFed : Loan → Type 0
IsFed l = (s : Setup) × ((bytes : List ℕ) × HasFed s l bytes)

-- A piece of a tape has been fed behind other bytes, and the first bytes of the output, so many, are its answers.
pub record PieceFed (s : Setup) (l : Loan) (bytes piece : List ℕ) (l' : Loan) (out : List ℕ) (put : ℕ) : Type 0 where
  pub behind : HasFed s l' (bytes ++ piece)
  pub answered : take put out ≡ (fed (state_in l) piece).answers

-- R11. A chunk has been fed whole, behind what was fed before.
abbrev pub FeedsAll : Loan → List ℕ → Loan → List ℕ → ℕ → Type 0
FeedsAll l chunk l' out put = (s : Setup) (bytes : List ℕ) → HasFed s l bytes → PieceFed s l bytes chunk l' out put

-- R11. The end of a tape, its answer put at an output's beginning: all that is lent, and the output, are what `finish_into` gives.
abbrev pub Ends : Loan → List ℕ → Loan → List ℕ → ℕ → Type 0
Ends l out l' out' put = (l' ≡ (finish_into l (buffer out 0)).after) × (buffer out' put ≡ (finish_into l (buffer out 0)).written)

-- First bytes of the input have been fed; or `finish` was called, and nothing more is read. How many were read no contract says.
abbrev pub FeedsRead : Loan → List ℕ → List ℕ → Loan → List ℕ → ℕ → Bool → Type 0
FeedsRead l out input l' out' put more =
    (s : Setup) (bytes : List ℕ) → HasFed s l bytes
    → ((n : ℕ) × PieceFed s l bytes (take n input) l' out' put) ⊎ ((more ≡ false) × Ends l out l' out' put)

-- R21. A tape that began with a chip: what is lent at last, with some bytes for a line, holds the state that some bytes lead to from that chip.
abbrev pub RunsFrom : ℕ → Device → List ℕ → List ℕ → Tape → List ℕ → List ℕ → Type 0
RunsFrom part d ee id t ee' id' =
    resumes part d (length ee) (length id) ≡ true
    → (line : List ℕ) × ((bytes : List ℕ) × HasFed (setup part (world d (take (size_of part) ee) (take id_size id))) (loan t line ee' id') bytes)

-- R11. Something has been fed behind what was fed before: the setup that the tape began with is the same.
abbrev pub FedOn : Loan → Loan → Type 0
FedOn l l' = (s : Setup) (bytes : List ℕ) → HasFed s l bytes → (piece : List ℕ) × HasFed s l' (bytes ++ piece)

-- what a read gave, in these words: how many bytes of the output are answers, and whether to read on; none, and not to, after a failure
abbrev pub put_by : {E : Type 0} → Result Put E → ℕ
put_by (Ok (More n)) = n
put_by (Ok (Last n)) = n
put_by (Err _) = 0

abbrev pub more_after : {E : Type 0} → Result Put E → Bool
more_after (Ok (More _)) = true
more_after (Ok (Last _)) = false
more_after (Err _) = false
