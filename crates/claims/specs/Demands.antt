-- The three demands on the copy, and what the change requests promise, as one statement. Each part is a claim over definitions that stand elsewhere, or a
-- function's contract as the checker states it; nothing of the chip is defined here. 'Proved' means: equal to the outline's rules as the requests amend
-- them, and as docs/RULES.md tells them; not: equal to silicon.
-- Assumes nothing.
use Rattle.std.specs.Prelude.{ℕ, ◌≡◌, List, ◌↔◌, ◌≢◌, length, Ok}
use Rattle.record.specs.declared.Act.{Act}
use Rattle.record.specs.World.{World}
use Rattle.refusals.specs.Rows.{TableGives}
use Rattle.acts.specs.Act.{performed, refused}
use Rattle.run.specs.Claim.{our_chip, DemandThree}
use Rattle.run.specs.Begin.{DemandThreeFrom, Resumes}
use Rattle.run.specs.Forgetful.{SaysMore}
use Rattle.run.specs.Latch.{Latch}
use Rattle.run.specs.Leftover.{LeftoverBits}
use Rattle.run.specs.Stamps.{TimeStamps}
use Rattle.run.specs.Wrong.{WrongChipsFail}
use Rattle.lines.specs.declared.Name.{Name}
use Rattle.lines.specs.Request.{request_of, asked, Spelled}
use Rattle.answers.specs.Answer.{Setup, line_answer, RepliesShown}
use Rattle.answers.specs.Judged.{LinesJudged}
use Rattle.feeding.specs.Begin.{ResumesWith, ChipAnswers, CutInTwo, TapeRuns}
use Rattle.feeding.specs.Feeding.{AnyFeeding, AnyResumed, ResumedAccounted, CutFeeding}
use Rattle.form.specs.Claim.{SavedRight}
use Rattle.export.specs.Claim.{CallsRight}
use Rattle.events.specs.Claims.{EventClaims}
use Rattle.signals.specs.Claim.{EventsRight}
use Rattle.signals.specs.Before.{AsBefore}
use Rattle.acts.proofs.perform.Statement as perform
use Rattle.batch.proofs.run.Statement as run
use Rattle.batch.proofs.run_from.Statement as run_from
use Rattle.batch.proofs.tekuravy_run.Statement as tekuravy_run
use Rattle.tape.proofs.chunk.start.Statement as start
use Rattle.tape.proofs.chunk.resume.Statement as resume
use Rattle.tape.proofs.chunk.feed.Statement as feed
use Rattle.tape.proofs.chunk.finish.Statement as finish
use Rattle.saved.proofs.save.Statement as save
use Rattle.saved.proofs.load.Statement as load
use Rattle.export.proofs.mcp795_new.Statement as mcp795_new
use Rattle.calls.proofs.mcp795_act.Statement as mcp795_act
use Rattle.export.proofs.mcp795_save.Statement as mcp795_save
use Rattle.export.proofs.mcp795_load.Statement as mcp795_load

-- Demand 1, total: whatever the part, the act, its argument, the record and the memories are, there is an answer; and so of any line of bytes on a
-- tape. `performed` is the definition of an act, `line_answer` that of a line; that code computes them and always ends is demand 2.
pub record Total : Type 0 where
  -- the answer's number is k exactly when the refusal table gives k: it is the number of a row that holds, no row before it holding, or k is 0 and no
  -- row holds
  pub table :
      (part : ℕ) (act : Act) (arg : ℕ) (w : World) (k : ℕ)
      → ((performed part act arg w).number ≡ k) ↔ TableGives part act arg w.device (length w.eeprom) (length w.id) k
  -- a refused act has no reply and no count, and changes neither record nor memories
  pub unchanged :
      (part : ℕ) (act : Act) (arg : ℕ) (w : World) → (performed part act arg w).number ≢ 0
      → performed part act arg w ≡ refused (performed part act arg w).number w
  -- a tape's line asks for a part or an act exactly if it is its text: `op=`, the name, ` arg=` and the number, of at most 8 digits
  pub asks : (line : List ℕ) (x : Name) (arg : ℕ) → (request_of line ≡ Ok (asked x arg)) ↔ Spelled line x arg
  -- a line is answered 71 to 75, and with which column, exactly by the first row that holds, in the order 71, 72, 73, 75, 74; it is good exactly if none holds;
  -- together the five are the one number of before, and nothing else of an answer changed
  pub judged : LinesJudged
  -- and a refused line leaves part, record and memories as they were
  pub line_unchanged : (line : List ℕ) (s : Setup) → (line_answer line s).number ≢ 0 → (line_answer line s).after ≡ s

-- Demand 2, exact: each function below meets its contract, for every input, and ends; none asks anything of its caller. A contract stands above its
-- function's body, in the file named here; `statement` is what the kit makes of it, for every model M of its logic.
pub record Exact : Type 2 where
  -- crates/acts/src/lib.rt. One equation: answer, record and both memories are those of `performed`
  pub perform : {M : Type 1} → perform.statement M
  -- crates/batch/src/lib.rt. A list of acts on a fresh chip; and the same for a caller in another language
  pub run : {M : Type 1} → run.statement M
  pub tekuravy_run : {M : Type 1} → tekuravy_run.statement M
  -- the same file. A list of acts that begins with any record and memories; those that an act would be refused for are refused
  pub run_from : {M : Type 1} → run_from.statement M
  -- crates/tape/src/chunk.rt. A tape: before its first byte, without a part or with a chip that is there; a chunk of it, its end
  pub start : {M : Type 1} → start.statement M
  pub resume : {M : Type 1} → resume.statement M
  pub feed : {M : Type 1} → feed.statement M
  pub finish : {M : Type 1} → finish.statement M
  -- crates/saved/src/lib.rt. A chip as text, and from text
  pub save : {M : Type 1} → save.statement M
  pub load : {M : Type 1} → load.statement M
  -- crates/calls/src/lib.rt, crates/export/src/lib.rt. The chip as arrays of a caller in another language: a fresh one, an act, its text, and from text
  pub mcp795_new : {M : Type 1} → mcp795_new.statement M
  pub mcp795_act : {M : Type 1} → mcp795_act.statement M
  pub mcp795_save : {M : Type 1} → mcp795_save.statement M
  pub mcp795_load : {M : Type 1} → mcp795_load.statement M

-- Demand 3, accountable: after every list of acts on a fresh chip each EEPROM and ID byte is the one that the ledger gives, which is told the part, acts,
-- arguments and ticks alone.
pub record Accountable : Type 0 where
  pub acts : DemandThree our_chip
  -- from any beginning: of a record in range, a frame open and a cycle running or not, the ledger is told the record once, at the beginning, and where it
  -- has no entry the byte is the one that was there
  pub begun : DemandThreeFrom our_chip
  -- of any chip this gives the claim above, and it says more: a chip that loses a cycle with which it begins has that one and not this
  pub more : SaysMore
  -- and a run from fresh that is broken off and begun anew is accounted for as the whole run is
  pub resumed : Resumes
  -- of every tape, fed in any way: what is written is its answers, it ends, and the ledger accounts for the memories, from the bytes of the tape and the
  -- bytes written
  pub tapes : AnyFeeding
  -- the claim is no empty one: six wrong chips do not have it
  pub wrong : WrongChipsFail

-- A tape that begins with a chip that is there: what it begins with, how its lines are answered, every way to feed it; and that a tape may be cut in two at any
-- line, the second piece beginning with what the first left.
pub record Resumed : Type 0 where
  pub begins : ResumesWith
  pub answers : ChipAnswers
  pub tapes : AnyResumed
  pub cut : CutInTwo
  pub cut_feeding : CutFeeding
  pub runs : TapeRuns
  -- demand 3, fed in any way: the ledger begins with that chip's record and is told what the bytes of the tape and the bytes written tell; where it has no
  -- entry the byte is the one with which the tape began
  pub accounts : ResumedAccounted

-- R12. The three together, and of each change request what it promises of every act and every run.
pub record Demands : Type 2 where
  pub total : Total
  pub exact : Exact
  pub accountable : Accountable
  -- the time-stamps of a power failure
  pub time_stamps : TimeStamps
  -- what sets the latch, and the whole list of what resets it
  pub latch : Latch
  -- the bits that an end answers of the exchange that it broke off; and a tape shows them
  pub leftover_bits : LeftoverBits
  pub replies_shown : RepliesShown
  -- a chip in range as text, and back: what was saved is loaded as it was, what was loaded is saved as it was read, and a text is refused exactly with its
  -- first bad line
  pub saved : SavedRight
  -- a tape that begins with a saved chip, and a run that is cut in two
  pub resumed : Resumed
  -- a caller's arrays: each call is the act on the chip that they are, calls in a row are a run, and the ledger accounts for their memories
  pub calls : CallsRight
  -- the event inputs: of lists of levels, ticks and writes when a flag is set; of every run which moves it is, and so when it sets a flag; and that a run without
  -- a pin act whose writes of 0Bh set no flag is answered as before there were inputs
  pub event_moves : EventClaims
  pub event_runs : EventsRight
  pub as_before : AsBefore
