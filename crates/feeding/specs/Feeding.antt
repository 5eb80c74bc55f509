-- Every way to feed a tape: calls of `feed`, one after another, each offered a beginning of what is left of the tape's bytes and a buffer for its
-- answers; what was not taken is offered again; then `finish`. The calls are the functions' promises (Tape). Not who reads the bytes, and who
-- writes the answers out.
-- Assumes nothing.
use Rattle.std.specs.Prelude.{ℕ, suc, ◌-◌, ◌≤◌, ◌≡◌, Bool, false, ◌&&◌, List, [], ◌∷◌, ◌++◌, ltb, leb, length, take, drop}
use Rattle.base.specs.Words.{pick}
use Rattle.ledger.specs.Steps.{ledger_run}
use Rattle.run.specs.Begin.{ledger_of, AccountedFrom}
use Rattle.text.specs.Buffer.{Buffer, room_in}
use Rattle.lines.specs.Print.{answer_room}
use Rattle.answers.specs.Answer.{Setup, no_part, setup_in}
use Rattle.tape.specs.Tape.{lines_from, tape_answers, state, fed, Loan, held_in, start_tape, Given, feed_into, finish_into}
use Rattle.feeding.specs.Told.{steps_told}
use Rattle.feeding.specs.Steps.{AccountsFor, told_by}
use Rattle.feeding.specs.Begin.{answers_with, left_with, HasFed, AtLine}

-- a call of `feed`: how many bytes of what is left it is offered, and the buffer for its answers
pub record Offer : Type 0 where
  pub size : ℕ
  pub into : Buffer

-- what a call wrote: the bytes between the buffer's place before it and its place after it
abbrev pub wrote : Buffer → Buffer → List ℕ
wrote before after = take (after.at - before.at) (drop before.at after.bytes)

-- how far calls have come: all that is lent, what is left of the tape's bytes, and what was written
pub record Course : Type 0 where
  pub loan : Loan
  pub left : List ℕ
  pub written : List ℕ

-- calls, one after another
unfoldable pub course_of : Loan → List ℕ → List Offer → Course
course_of l left [] = record { loan = l; left = left; written = [] }
course_of l left (x ∷ xs) =
    let g : Given = feed_into l (take x.size left) x.into in
    let c : Course = course_of g.after (drop g.count left) xs in
    record { loan = c.loan; left = c.left; written = wrote x.into g.written ++ c.written }

-- the end of it: `finish`, and all that was written
abbrev pub last_call : Course → Buffer → Given
last_call c o = finish_into c.loan o

abbrev pub printed : Course → Buffer → List ℕ
printed c o = c.written ++ wrote o (last_call c o).written

-- a call gets on if it is offered a byte at least, and has room for an answer
abbrev pub gets_on : Offer → Bool
gets_on x = ltb 0 x.size && leb answer_room (room_in x.into)

-- how many of the calls do
unfoldable pub getting_on : List Offer → ℕ
getting_on [] = 0
getting_on (x ∷ xs) = pick (gets_on x) (suc (getting_on xs)) (getting_on xs)

-- what is lent to a tape before its first byte: the tape that `start` answers, and buffers of their sizes, whatever lies in them
pub record Begins (l : Loan) : Type 0 where
  pub tape : l.tape ≡ start_tape
  pub line : length l.line ≡ 65
  pub eeprom : length l.eeprom ≡ 256
  pub id : length l.id ≡ 16

-- A tape of these bytes, fed by these calls, from what is lent at first.
pub record FeedsWell (l : Loan) (bytes : List ℕ) (xs : List Offer) : Type 0 where
  -- it ends: as many calls that get on as there are bytes leave nothing, whatever calls stand between them
  pub ends : length bytes ≤ getting_on xs → (course_of l bytes xs).left ≡ []
  -- at any time what was written is a beginning of the answers to the whole tape
  pub begins : (rest : List ℕ) × ((course_of l bytes xs).written ++ rest ≡ tape_answers bytes)
  -- when nothing is left and `finish` has room, it is all of them
  pub whole : (course_of l bytes xs).left ≡ [] → (o : Buffer) → answer_room ≤ room_in o → printed (course_of l bytes xs) o ≡ tape_answers bytes
  -- R8. demand 3: what the tape's bytes and the bytes written tell the ledger accounts for the memories that are lent, as they are then
  pub accounts :
      (course_of l bytes xs).left ≡ [] → (o : Buffer) → answer_room ≤ room_in o
      → AccountsFor (told_by bytes (printed (course_of l bytes xs) o)) (setup_in (held_in (last_call (course_of l bytes xs) o).after))

-- R9. So it is for every tape and every list of calls.
unfoldable pub AnyFeeding : Type 0
AnyFeeding = (l : Loan) → Begins l → (bytes : List ℕ) (xs : List Offer) → FeedsWell l bytes xs

-- The same of a tape that begins with a setup, from what is lent at first. What is lent at last begins the next tape.
pub record FeedsFrom (s : Setup) (l : Loan) (bytes : List ℕ) (xs : List Offer) : Type 0 where
  pub ends : length bytes ≤ getting_on xs → (course_of l bytes xs).left ≡ []
  pub begins : (rest : List ℕ) × ((course_of l bytes xs).written ++ rest ≡ answers_with s bytes)
  pub whole : (course_of l bytes xs).left ≡ [] → (o : Buffer) → answer_room ≤ room_in o → printed (course_of l bytes xs) o ≡ answers_with s bytes
  pub leaves :
      (course_of l bytes xs).left ≡ [] → (o : Buffer) → answer_room ≤ room_in o
      → HasFed (left_with s bytes) (last_call (course_of l bytes xs) o).after []

-- R21. So it is for every setup that a tape may begin with, every tape and every list of calls.
unfoldable pub AnyResumed : Type 0
AnyResumed = (s : Setup) (l : Loan) → HasFed s l [] → (bytes : List ℕ) (xs : List Offer) → FeedsFrom s l bytes xs

-- R8. Demand 3 of a tape that begins with a chip, however it is fed: the ledger (01's term) begins with that chip's record and is told what the bytes of the tape
-- and the bytes written tell; each byte of the memories that are lent at last is the one that it gives, else the byte with which the tape began.
unfoldable pub ResumedAccounted : Type 0
ResumedAccounted =
    (s : Setup) (l : Loan) → HasFed s l [] → no_part s ≡ false → (bytes : List ℕ) (xs : List Offer) → (course_of l bytes xs).left ≡ [] → (o : Buffer)
    → answer_room ≤ room_in o
    → AccountedFrom s.part s.chip (setup_in (held_in (last_call (course_of l bytes xs) o).after)).chip
    (ledger_run s.part (steps_told (lines_from [] bytes) (lines_from [] (printed (course_of l bytes xs) o))) (ledger_of s.chip.device))

-- R22. A run that is cut in two at a line: what the two feedings write, one after the other, are the answers to the whole tape. The second may be lent anything
-- that holds what the first left: the same bytes, or others into which a saved chip was loaded.
unfoldable pub CutFeeding : Type 0
CutFeeding =
    (s : Setup) (a b : List ℕ) → AtLine a → (l m : Loan) (xs ys : List Offer) → HasFed s l [] → HasFed (left_with s a) m []
    → (course_of l a xs).left ≡ [] → (course_of m b ys).left ≡ [] → (o p : Buffer) → answer_room ≤ room_in o → answer_room ≤ room_in p
    → printed (course_of l a xs) o ++ printed (course_of m b ys) p ≡ answers_with s (a ++ b)

-- R9. If a caller that feeds piece by piece calls `finish`, with room for an answer, what that writes stands behind the answers to the bytes that were fed, and
-- the two are the answers to the whole tape.
unfoldable pub EndsWhole : Type 0
EndsWhole =
    (s : Setup) (l : Loan) (bytes : List ℕ) → HasFed s l bytes → (o : Buffer) → answer_room ≤ room_in o
    → (fed (state s []) bytes).answers ++ wrote o (finish_into l o).written ≡ answers_with s bytes
