-- What a line answers, and what the chip on the tape is after it. What an act does is not said here: it is the act's definition.
-- Assumes nothing.
use Rattle.std.specs.Prelude.{ℕ, ◌≡◌, Bool, false, not, ◌||◌, List, ◌≢◌, eqb, take, Option, Some, None, Result, Ok, Err}
use Rattle.base.specs.Words.{pick, over}
use Rattle.record.specs.declared.Act.{Act}
use Rattle.record.specs.declared.Act.TheVariants.{Wait, Cut}
use Rattle.record.specs.declared.Device.{Device}
use Rattle.record.specs.Part.{is_part, size_of, id_size}
use Rattle.record.specs.World.{World, world, fresh_world}
use Rattle.ticks.specs.Lines.{irq_low, wdo_low}
use Rattle.acts.specs.Act.{Outcome, performed}
use Rattle.text.specs.Buffer.{Buffer, buffer, append}
use Rattle.lines.specs.declared.Fault.{Fault}
use Rattle.lines.specs.declared.Request.{Request}
use Rattle.lines.specs.declared.Request.TheVariants.{Part as PartLine, Act as ActLine}
use Rattle.lines.specs.Request.{request_of, fault_number, fault_column}
use Rattle.lines.specs.Print.{out_of, answer_line}
use Rattle.answers.specs.declared.progress.Progress.{Progress}

-- the part that was accepted, 0 while there is none, and its chip with the memories
pub record Setup : Type 0 where
  pub part : ℕ
  pub chip : World

abbrev pub setup : ℕ → World → Setup
setup part chip = record { part = part; chip = chip }

abbrev pub no_part : Setup → Bool
no_part s = eqb s.part 0

-- A36. A tape's part begins fresh (01's term).
abbrev pub fresh_setup : ℕ → Setup
fresh_setup part = setup part (fresh_world part)

-- an answer: its number, what it shows, and what is left
pub record LineAnswer : Type 0 where
  pub number : ℕ
  pub out : Option ℕ
  pub after : Setup

abbrev pub answer : ℕ → Option ℕ → Setup → LineAnswer
answer number out after = record { number = number; out = out; after = after }

-- A34. A line that is refused shows none and changes nothing.
abbrev pub refused_line : ℕ → Setup → LineAnswer
refused_line number s = answer number None s

-- A31, A34. A line that is bad shows its column, and changes nothing.
abbrev pub faulty_line : ℕ → ℕ → Setup → LineAnswer
faulty_line number column s = answer number (Some column) s

-- T6, T18. An act before the part, or a part again, has no column of its own.
abbrev pub misplaced : Setup → LineAnswer
misplaced s = faulty_line 74 0 s

-- T6, T7. A part is taken once. One that is none of the four is refused with 3, and the tape stays without a part.
abbrev pub part_answer : ℕ → Setup → LineAnswer
part_answer arg s = pick (no_part s) (pick (is_part arg) (answer 0 None (fresh_setup arg)) (refused_line 3 s)) (misplaced s)

-- what an act's outcome shows
abbrev pub outcome_answer : ℕ → Act → Outcome → LineAnswer
outcome_answer part act o = answer o.number (out_of o.number act o.reply o.count) (setup part o.after)

-- T6. An act wants a part.
abbrev pub act_answer : Act → ℕ → Setup → LineAnswer
act_answer act arg s = pick (no_part s) (misplaced s) (outcome_answer s.part act (performed s.part act arg s.chip))

abbrev pub request_answer : Result Request Fault → Setup → LineAnswer
request_answer (Ok (PartLine arg)) s = part_answer arg s
request_answer (Ok (ActLine act arg)) s = act_answer act arg s
request_answer (Err fault) s = faulty_line (fault_number fault) (fault_column fault) s

unfoldable pub line_answer : List ℕ → Setup → LineAnswer
line_answer line s = request_answer (request_of line) s

-- T8, A4, A38. What a line shows of an act other than a wait and a cut, once there is a part: the number that its reply drives, a byte's or that of an end's
-- bits, else z; said apart from the choices above.
unfoldable pub RepliesShown : Type 0
RepliesShown =
    (line : List ℕ) (act : Act) (arg : ℕ) (s : Setup) → request_of line ≡ Ok (ActLine act arg) → no_part s ≡ false → act ≢ Wait → act ≢ Cut
    → ((n : ℕ) → (performed s.part act arg s.chip).reply ≡ Some n → (line_answer line s).out ≡ Some n)
    × ((performed s.part act arg s.chip).reply ≡ None → (line_answer line s).out ≡ None)

-- T9. A level is high without a part, and where the chip does not hold it low.
abbrev pub level_high : ℕ → Bool → Bool
level_high part low = eqb part 0 || not low

-- an answer's line, with the levels of a part and a record
abbrev pub line_of : ℕ → Option ℕ → ℕ → Device → List ℕ
line_of number out part d = answer_line number out (level_high part (irq_low d)) (level_high part (wdo_low d))

-- T8. The text of an answer, with the levels after it.
unfoldable pub answer_text : LineAnswer → List ℕ
answer_text a = line_of a.number a.out a.after.part a.after.chip.device

-- The memory that a part has: none without a part, else the bytes of its EEPROM and of its ID.
abbrev pub eeprom_bytes : ℕ → ℕ
eeprom_bytes part = pick (eqb part 0) 0 (size_of part)

abbrev pub id_bytes : ℕ → ℕ
id_bytes part = pick (eqb part 0) 0 id_size

-- all that an answer may change beside the output: the part, the record, and the lent bytes of both memories
pub record Held : Type 0 where
  pub part : ℕ
  pub device : Device
  pub eeprom : List ℕ
  pub id : List ℕ

-- the setup in it: a part has the first of the lent bytes
abbrev pub setup_in : Held → Setup
setup_in h = setup h.part (world h.device (take (eeprom_bytes h.part) h.eeprom) (take (id_bytes h.part) h.id))

-- another setup in its place; lent bytes past its own stay as they were
abbrev pub holding : Held → Setup → Held
holding h s =
    record { part = s.part; device = s.chip.device; eeprom = over s.chip.eeprom h.eeprom; id = over s.chip.id h.id }

-- an answer written into a buffer, and all that is held after it
pub record Shown : Type 0 where
  pub after : Held
  pub written : Buffer

unfoldable pub shown_in : Held → Buffer → LineAnswer → Shown
shown_in h o a = record { after = holding h a.after; written = append o (answer_text a) }

-- The EEPROM is lent as the bytes of the largest part; a smaller part has the first of them.
abbrev pub eeprom_room : ℕ
eeprom_room = 256

-- what the code's progress, the memories and the buffer say together
abbrev pub held_by : Progress → List ℕ → List ℕ → Held
held_by p ee id = record { part = p.part; device = p.device; eeprom = ee; id = id }

abbrev pub shown_by : Progress → List ℕ → List ℕ → List ℕ → Shown
shown_by r ee id bytes = record { after = held_by r ee id; written = buffer bytes r.at }

-- an answer's line put into a buffer, with the levels of what is held
abbrev pub line_in : Held → Buffer → ℕ → Option ℕ → Shown
line_in h o number out = record { after = h; written = append o (line_of number out h.part h.device) }
