-- A tape as bytes: the lines of a byte string and their answers; and the same as it comes, chunk by chunk, with the beginning of a line that
-- has not ended yet. A line ends at a newline; a last line without one is a line too, and so is an empty one. No input, no answer.
-- Assumes nothing.
use Rattle.std.specs.Prelude.{ℕ, suc, ◌-◌, ◌≡◌, Bool, not, ◌&&◌, List, [], ◌∷◌, ◌++◌, leb, ltb, eqb, length, take}
use Rattle.base.specs.Words.{pick, over}
use Rattle.record.specs.declared.Device.{Device}
use Rattle.record.specs.Part.{id_size}
use Rattle.record.specs.Fresh.{fresh}
use Rattle.record.specs.World.{World, world, Bytes, Sized}
use Rattle.text.specs.Bytes.{newline}
use Rattle.text.specs.Buffer.{Buffer, buffer, append, room_in}
use Rattle.lines.specs.Line.{line_limit}
use Rattle.lines.specs.Print.{answer_room}
use Rattle.answers.specs.Answer.{Setup, setup, LineAnswer, line_answer, answer_text, eeprom_room, Held, setup_in, holding}
use Rattle.answers.specs.Ready.{ready}
use Rattle.answers.specs.declared.progress.Progress.{Progress}
use Rattle.tape.specs.declared.Tape.{Tape}
use Rattle.tape.specs.declared.Feed.{Feed}

-- a last line without a newline, where it has begun
abbrev pub last_line : List ℕ → List (List ℕ)
last_line [] = []
last_line (b ∷ begun) = (b ∷ begun) ∷ []

-- the lines of a byte string, of which the first begins with the bytes of begun
unfoldable pub lines_from : List ℕ → List ℕ → List (List ℕ)
lines_from begun [] = last_line begun
lines_from begun (b ∷ bytes) = pick (eqb b newline) (begun ∷ lines_from [] bytes) (lines_from (begun ++ (b ∷ [])) bytes)

-- T8. The answers to lines, one for each, in their order.
unfoldable pub answers_to : Setup → List (List ℕ) → List ℕ
answers_to s [] = []
answers_to s (line ∷ lines) = answer_text (line_answer line s) ++ answers_to (line_answer line s).after lines

-- a tape begins without a part
abbrev pub empty_setup : Setup
empty_setup = setup 0 (world fresh [] [])

-- the answers to a whole tape
unfoldable pub tape_answers : List ℕ → List ℕ
tape_answers bytes = answers_to empty_setup (lines_from [] bytes)

-- what is carried from one chunk of a tape to the next: the setup, and the head of a line that has not ended
pub record State : Type 0 where
  pub setup : Setup
  pub begun : List ℕ

abbrev pub state : Setup → List ℕ → State
state s begun = record { setup = s; begun = begun }

-- T3. The head of a line: as many of its characters as tell that it is too long, one more than it may have.
abbrev pub head_limit : ℕ
head_limit = suc line_limit

abbrev pub head : List ℕ → List ℕ
head line = take head_limit line

-- the answers to a chunk, and what is carried on
pub record Fed : Type 0 where
  pub after : State
  pub answers : List ℕ

abbrev pub fed_to : State → List ℕ → Fed
fed_to s answers = record { after = s; answers = answers }

-- the end of a line
abbrev pub ended : State → Fed
ended s =
    let a : LineAnswer = line_answer s.begun s.setup in
    fed_to (state a.after []) (answer_text a)

-- one byte: the end of a line, or one more character of it
abbrev pub fed_byte : ℕ → State → Fed
fed_byte b s = pick (eqb b newline) (ended s) (fed_to (state s.setup (head (s.begun ++ (b ∷ [])))) [])

-- answers, and then those of what is fed
abbrev pub ahead : List ℕ → Fed → Fed
ahead answers f = fed_to f.after (answers ++ f.answers)

-- a chunk of any length
unfoldable pub fed : State → List ℕ → Fed
fed s [] = fed_to s []
fed s (b ∷ bytes) = ahead (fed_byte b s).answers (fed (fed_byte b s).after bytes)

-- the end of a tape: a last line that has begun is a line
unfoldable pub finished : State → Fed
finished s = pick (eqb (length s.begun) 0) (fed_to s []) (ended s)

-- the answers to all that is left of a tape, its end among it
abbrev pub answers_from : State → List ℕ → List ℕ
answers_from s bytes = (fed s bytes).answers ++ (finished (fed s bytes).after).answers

-- R9. Two chunks answer and leave what their join does.
unfoldable pub ChunksJoin : Type 0
ChunksJoin = (s : State) (a b : List ℕ) → fed s (a ++ b) ≡ ahead (fed s a).answers (fed (fed s a).after b)

-- R9. A tape that is fed to its end is answered as its lines are, whatever lay in the chip and the memories before.
unfoldable pub FedByLines : Type 0
FedByLines = (w : World) (bytes : List ℕ) → answers_from (state (setup 0 w) []) bytes ≡ tape_answers bytes

-- how many bytes are taken, with room for so many bytes of answers: those before the first newline whose answer may not have room
unfoldable pub taken_within : ℕ → State → List ℕ → ℕ
taken_within room s [] = 0
taken_within room s (b ∷ bytes) =
    pick (eqb b newline && ltb room answer_room) 0
    (suc (taken_within (room - length (fed_byte b s).answers) (fed_byte b s).after bytes))

-- what a call does with a state and a lent buffer: the answers are put at its place, and so many bytes of the chunk are taken
pub record Taken : Type 0 where
  pub after : State
  pub written : Buffer
  pub count : ℕ

abbrev pub put_into : Buffer → ℕ → Fed → Taken
put_into o count f = record { after = f.after; written = append o f.answers; count = count }

-- a chunk, as far as its answers have room
unfoldable pub taken_from : State → List ℕ → Buffer → Taken
taken_from s chunk o =
    let k : ℕ = taken_within (room_in o) s chunk in
    put_into o k (fed s (take k chunk))

-- R10. All that a call may change beside the output: the code's tape, and the lent bytes of a line, of the EEPROM and of the ID
pub record Loan : Type 0 where
  pub tape : Tape
  pub line : List ℕ
  pub eeprom : List ℕ
  pub id : List ℕ

abbrev pub loan : Tape → List ℕ → List ℕ → List ℕ → Loan
loan t line ee id = record { tape = t; line = line; eeprom = ee; id = id }

-- part, record and memories of it; the state in it: of the line the bytes that have begun it
abbrev pub held_in : Loan → Held
held_in l = record { part = l.tape.part; device = l.tape.device; eeprom = l.eeprom; id = l.id }

abbrev pub state_in : Loan → State
state_in l = state (setup_in (held_in l)) (take l.tape.begun l.line)

-- another state in its place; lent bytes past those of the state stay as they were
abbrev pub lending : Loan → State → Loan
lending l s =
    let h : Held = holding (held_in l) s.setup in
    loan (record { part = h.part; device = h.device; begun = length s.begun }) (over s.begun l.line) h.eeprom h.id

-- The lent buffers fit, by their lengths: the head of a line lies in the bytes for it, and the memories have their sizes.
unfoldable pub buffers_fit : ℕ → ℕ → ℕ → ℕ → Bool
buffers_fit begun line ee id = leb begun head_limit && eqb line head_limit && eqb ee eeprom_room && eqb id id_size

-- With what is lent, by its lengths, it is a tape: the buffers fit, and the acts may go on with its part and record.
abbrev pub tape_with : Tape → ℕ → ℕ → ℕ → Bool
tape_with t line ee id = buffers_fit t.begun line ee id && ready t.part t.device

unfoldable pub is_tape : Loan → Bool
is_tape l = tape_with l.tape (length l.line) (length l.eeprom) (length l.id)

-- the code's tape before its first byte
abbrev pub start_tape : Tape
start_tape = record { part = 0; device = fresh; begun = 0 }

-- With a part, a record and memories lent by these lengths a tape may begin: one of the four parts with a record in range, and the sizes that a tape is lent.
unfoldable pub resumes : ℕ → Device → ℕ → ℕ → Bool
resumes part d ee id = not (eqb part 0) && ready part d && (eqb ee eeprom_room && eqb id id_size)

-- `resume`: the code's tape that begins with a chip, before its first byte. What is no chip leaves the tape without a part.
abbrev pub resumed_tape : ℕ → Device → ℕ → ℕ → Tape
resumed_tape part d ee id = pick (resumes part d ee id) (record { part = part; device = d; begun = 0 }) start_tape

-- What the types of code tell of a record and two memories: arrays of their lengths, and bytes. A theorem about definitions asks for it.
pub record Typed (d : Device) (ee ids : List ℕ) : Type 0 where
  pub sized : Sized d
  pub eeprom : Bytes ee
  pub id : Bytes ids

-- what a call gives: all that is lent after it, the output, and how many bytes of the chunk were taken
pub record Given : Type 0 where
  pub after : Loan
  pub written : Buffer
  pub count : ℕ

abbrev pub gives : Loan → Taken → Given
gives l t = record { after = lending l t.after; written = t.written; count = t.count }

-- nothing is answered, taken or changed
abbrev pub unchanged : Loan → Buffer → Given
unchanged l o = record { after = l; written = o; count = 0 }

-- `feed`: a chunk, as far as its answers have room
unfoldable pub feed_into : Loan → List ℕ → Buffer → Given
feed_into l chunk o = pick (is_tape l) (gives l (taken_from (state_in l) chunk o)) (unchanged l o)

-- `finish`: the end of a tape, where its answer has room
unfoldable pub finish_into : Loan → Buffer → Given
finish_into l o = pick (is_tape l && leb answer_room (room_in o)) (gives l (put_into o 0 (finished (state_in l)))) (unchanged l o)

-- the code's tape of a progress, with so many bytes of a line
abbrev pub tape_of : Progress → ℕ → Tape
tape_of p begun = record { part = p.part; device = p.device; begun = begun }

-- what the code's answer and the lent bytes say together
abbrev pub given_by : Feed → List ℕ → List ℕ → List ℕ → List ℕ → Given
given_by r line ee id bytes = record { after = loan r.tape line ee id; written = buffer bytes r.at; count = r.taken }
