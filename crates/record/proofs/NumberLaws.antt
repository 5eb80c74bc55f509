-- The numbers of the enums' cases go back to the cases: each enum is what its number says.
-- Not the other way round: a byte that is no code has the number of none.
-- Assumes nothing.
use Prim.Native.Nat.{ℕ, ◌<◌}
use native.Mathlib.Omega.{arith}
use mathlib.Core.Path.{◌≡◌, refl, ap}
use borrow.Author.Tests.{ne_eqb}
use Rattle.record.specs.declared.Protection.{Protection}
use Rattle.record.specs.declared.Protection.TheVariants.{Nothing, Quarter, Half, All}
use Rattle.record.specs.declared.Lock.{Lock}
use Rattle.record.specs.declared.Lock.TheVariants.{Closed, First, Open}
use Rattle.record.specs.declared.Act.{Act}
use Rattle.record.specs.declared.Act.TheVariants.{Select, Byte, End, Wait, Cut, Up, Set}
use Rattle.record.specs.declared.Pin.TheVariants.{Evls, Evhs}
use Rattle.record.specs.declared.Place.{Place}
use Rattle.record.specs.declared.Place.TheVariants.{EepromAt, ClockAt, IdAt}
use Rattle.record.specs.declared.Pair.{Pair}
use Rattle.record.specs.declared.Pair.TheVariants.{StatusData, UnlockData, ClearWatchdog, ClearRam}
use Rattle.record.specs.declared.Long.{Long}
use Rattle.record.specs.declared.Long.TheVariants.{StatusOver, UnlockOver, WatchdogOver, RamOver, EnableOver, DisableOver}
use Rattle.record.specs.declared.Stage.{Stage}
use Rattle.record.specs.declared.Stage.TheVariants.{Idle, Opened, Unheard, Instruction, Reading, Writing, Second, Over}
use Rattle.record.specs.declared.Target.{Target}
use Rattle.record.specs.declared.Target.TheVariants.{Eeprom, Id, Status}
use Rattle.std.specs.Prelude.{Some, None}
use Rattle.record.specs.Numbers.{protection_of, protection_number, lock_of, lock_number, act_of, act_number, place_of, place_kind, place_value, pair_of, pair_kind, pair_value, long_of, long_kind, stage_of, stage_kind, stage_case, stage_value, target_of, target_kind, target_value, reply_of, reply_number}
use Rattle.record.proofs.CodeLaws.{code_back}

pub protection_back : (x : Protection) → protection_of (protection_number x) ≡ x
protection_back Nothing = refl
protection_back Quarter = refl
protection_back Half = refl
protection_back All = refl

pub protection_below : (x : Protection) → protection_number x < 4
protection_below Nothing = omega arith
protection_below Quarter = omega arith
protection_below Half = omega arith
protection_below All = omega arith

pub lock_back : (x : Lock) → lock_of (lock_number x) ≡ x
lock_back Closed = refl
lock_back First = refl
lock_back Open = refl

pub act_back : (x : Act) → act_of (act_number x) ≡ x
act_back Select = refl
act_back Byte = refl
act_back End = refl
act_back Wait = refl
act_back Cut = refl
act_back Up = refl
act_back (Set Evls) = refl
act_back (Set Evhs) = refl

pub place_back : (p : Place) → place_of (place_kind p) (place_value p) ≡ p
place_back (EepromAt a) = refl
place_back (ClockAt a) = refl
place_back (IdAt a) = refl

pub pair_back : (q : Pair) → pair_of (pair_kind q) (pair_value q) ≡ q
pair_back (StatusData v) = refl
pair_back (UnlockData v) = refl
pair_back ClearWatchdog = refl
pair_back ClearRam = refl

pub long_back : (l : Long) → long_of (long_kind l) ≡ l
long_back StatusOver = refl
long_back UnlockOver = refl
long_back WatchdogOver = refl
long_back RamOver = refl
long_back EnableOver = refl
long_back DisableOver = refl

pub stage_back : (s : Stage) → stage_of (stage_kind s) (stage_case s) (stage_value s) ≡ s
stage_back Idle = refl
stage_back Opened = refl
stage_back Unheard = refl
stage_back (Instruction c) = ap Instruction (code_back c)
stage_back (Reading p) = ap Reading (place_back p)
stage_back (Writing p) = ap Writing (place_back p)
stage_back (Second q) = ap Second (pair_back q)
stage_back (Over l) = ap Over (long_back l)

pub target_back : (t : Target) → target_of (target_kind t) (target_value t) ≡ t
target_back (Eeprom a) = refl
target_back (Id a) = refl
target_back (Status p) = ap Status (protection_back p)

-- a driven byte is below 256, which is the number of none
pub driven_back : (b : ℕ) → b < 256 → reply_of (reply_number (Some b)) ≡ Some b
driven_back b h = simp (ne_eqb b 256 (λ e. omega arith))

pub off_back : reply_of (reply_number None) ≡ None
off_back = refl
