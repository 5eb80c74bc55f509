-- What a frame answers: the byte that the next whole exchange drives on SO, and the first bits of it, where an end breaks the exchange off. Not where the
-- frame goes: that is another definition (D10).
-- Assumes nothing.
use Rattle.std.specs.Prelude.{ℕ, ◌+◌, ◌-◌, ◌*◌, ◌/◌, ◌^◌, List, eqb, get_or, Option, Some, None}
use Rattle.base.specs.Words.{pick, flag}
use Rattle.record.specs.declared.Code.{Code}
use Rattle.record.specs.declared.Code.TheVariants.{Srread}
use Rattle.record.specs.declared.Device.{Device}
use Rattle.record.specs.declared.Place.{Place}
use Rattle.record.specs.declared.Place.TheVariants.{EepromAt, ClockAt, IdAt}
use Rattle.record.specs.declared.Stage.{Stage}
use Rattle.record.specs.declared.Stage.TheVariants.{Idle, Opened, Unheard, Instruction, Reading, Writing, Second, Over}
use Rattle.record.specs.Codes.{is_code}
use Rattle.record.specs.Numbers.{protection_number}
use Rattle.registers.specs.Read.{read_clock}
use Rattle.ticks.specs.Lines.{wip}

-- F5. STATUS: WIP is bit 0, WEL bit 1, BP0 and BP1 bits 2 and 3, the rest 0.
unfoldable pub status_byte : Device → ℕ
status_byte d = flag (wip d) + flag d.guard.wel * 2 + protection_number d.guard.protection * 4

-- F3, F5. After the instruction byte only SRREAD answers: every other read takes its address first.
abbrev pub instruction_reply : Device → Code → Option ℕ
instruction_reply d c = pick (is_code c Srread) (Some (status_byte d)) None

-- F4. A read answers the byte at its pointer.
abbrev pub reading_reply : List ℕ → List ℕ → Device → Place → Option ℕ
reading_reply ee id d (EepromAt a) = Some (get_or ee a.0 0)
reading_reply ee id d (ClockAt a) = Some (read_clock d a)
reading_reply ee id d (IdAt a) = Some (get_or id a.0 0)

abbrev pub reply_at : List ℕ → List ℕ → Device → Stage → Option ℕ
reply_at ee id d Idle = None
reply_at ee id d Opened = None
reply_at ee id d Unheard = None
reply_at ee id d (Instruction c) = instruction_reply d c
reply_at ee id d (Reading p) = reading_reply ee id d p
reply_at ee id d (Writing p) = None
reply_at ee id d (Second q) = None
reply_at ee id d (Over l) = None

-- A4, W5. what the next whole exchange answers
unfoldable pub next_reply : List ℕ → List ℕ → Device → Option ℕ
next_reply ee id d = reply_at ee id d d.frame.stage

-- A38. The first k bits of a byte, which leaves SO with its most significant bit first: the number that its k highest make.
abbrev pub top_bits : ℕ → ℕ → ℕ
top_bits k b = b / 2 ^ (8 - k)

-- A38. The first k bits of a reply: none if k is 0, and none where SO is off, which is not the number 0 (D151).
abbrev pub first_bits : ℕ → Option ℕ → Option ℕ
first_bits k (Some b) = pick (eqb k 0) None (Some (top_bits k b))
first_bits k None = None

-- A38. What has come out of SO where k bits of the next exchange are clocked and no more. It moves nothing.
unfoldable pub leftover_reply : ℕ → List ℕ → List ℕ → Device → Option ℕ
leftover_reply k ee id d = first_bits k (next_reply ee id d)
