-- How the lock of the ID bytes moves at the end of a frame with k leftover bits (bench).
-- Assumes nothing.
use Rattle.std.specs.Prelude.{ℕ, Bool, ◌||◌, eqb, Option, Some, None}
use Rattle.base.specs.Words.{pick}
use Rattle.record.specs.declared.Lock.{Lock}
use Rattle.record.specs.declared.Lock.TheVariants.{Closed, First, Open}
use Rattle.record.specs.declared.Code.{Code}
use Rattle.record.specs.declared.Code.TheVariants.{Eewren, Srread, Unlock}
use Rattle.record.specs.declared.Pair.{Pair}
use Rattle.record.specs.declared.Pair.TheVariants.{StatusData, UnlockData, ClearWatchdog, ClearRam}
use Rattle.record.specs.declared.Stage.{Stage}
use Rattle.record.specs.declared.Stage.TheVariants.{Idle, Opened, Unheard, Instruction, Reading, Writing, Second, Over}
use Rattle.record.specs.Codes.{is_code}
use Rattle.record.specs.Stages.{heard, code_at}

-- F33. The second step opens a lock that took the first, and closes any other (F35).
abbrev pub second_step : Lock → Lock
second_step Closed = Closed
second_step First = Open
second_step Open = Closed

-- The byte of an UNLOCK of exactly two; any other frame has none.
abbrev pub pair_byte : Pair → Option ℕ
pair_byte (StatusData v) = None
pair_byte (UnlockData v) = Some v
pair_byte ClearWatchdog = None
pair_byte ClearRam = None

abbrev pub unlock_byte : Stage → Option ℕ
unlock_byte Idle = None
unlock_byte Opened = None
unlock_byte Unheard = None
unlock_byte (Instruction c) = None
unlock_byte (Reading p) = None
unlock_byte (Writing p) = None
unlock_byte (Second q) = pair_byte q
unlock_byte (Over l) = None

-- F33, F34, F35. UNLOCK with no bit left over: 55h is the first step, whatever came before, AAh the second; anything else closes.
abbrev pub unlocked : ℕ → Option ℕ → Lock → Lock
unlocked k None l = Closed
unlocked k (Some v) l = pick (eqb k 0) (pick (eqb v 0x55) First (pick (eqb v 0xaa) (second_step l) Closed)) Closed

-- F36. The codes that leave the lock as it is.
abbrev pub leaves_lock : Code → Bool
leaves_lock c = is_code c Eewren || is_code c Srread

-- F35, F36. How the lock moves: an UNLOCK takes its step, another heard frame closes it unless its code leaves it.
abbrev pub lock_after : ℕ → Lock → Stage → Lock
lock_after k l s =
    pick (heard s) (pick (is_code (code_at s) Unlock) (unlocked k (unlock_byte s) l) (pick (leaves_lock (code_at s)) l Closed)) l
