-- When a chip with its memories and a ledger agree. The frame agrees by whether it is heard, by its code, by how many bytes came and by
-- what they brought. The record has no field for the ledger's sake, and once a run has begun neither is computed from the other.
-- Assumes nothing.
use Prim.Native.Nat.{ℕ, ◌/◌, ◌%◌, ◌<◌}
use mathlib.Core.Path.{◌≡◌}
use mathlib.Core.Bool.{Bool, true, false, ◌||◌}
use mathlib.Core.List.{List, []}
use lib.ListN.{get_or}
use Rattle.base.specs.Words.{bit}
use Rattle.record.specs.declared.Device.{Device}
use Rattle.record.specs.declared.Load.{Load}
use Rattle.record.specs.declared.Cycle.{Cycle}
use Rattle.record.specs.declared.Code.{Code}
use Rattle.record.specs.declared.Code.TheVariants.{Srread, Other}
use Rattle.record.specs.declared.Place.{Place}
use Rattle.record.specs.declared.Place.TheVariants.{EepromAt, ClockAt, IdAt}
use Rattle.record.specs.declared.Pair.{Pair}
use Rattle.record.specs.declared.Pair.TheVariants.{StatusData, UnlockData, ClearWatchdog, ClearRam}
use Rattle.record.specs.declared.Stage.{Stage}
use Rattle.record.specs.declared.Stage.TheVariants.{Idle, Opened, Unheard, Instruction, Reading, Writing, Second, Over}
use Rattle.record.specs.declared.Lock.{Lock}
use Rattle.record.specs.declared.Lock.TheVariants.{Closed, First, Open}
use Rattle.record.specs.declared.Target.{Target}
use Rattle.record.specs.declared.Target.TheVariants.{Eeprom, Id, Status}
use Rattle.record.specs.Address.{page_of}
use Rattle.record.specs.Codes.{code_of, is_code}
use Rattle.record.specs.Numbers.{protection_number}
use Rattle.record.specs.Stages as stages
use Rattle.record.specs.Stages.{selected, over_code, code_at}
use Rattle.record.specs.World.{World}
use Rattle.acts.proofs.ValidLaws.{Valid}
use Rattle.ledger.specs.State.{Loaded, Ledger, closed, first_step, opened, Kind, eeprom_cycle, id_cycle, status_cycle}
use Rattle.ledger.specs.State as ledger
use Rattle.ledger.specs.Bytes.{is_loaded, loaded_byte}
use Rattle.run.specs.Begin.{taken, AccountedFrom}

-- the same steps of UNLOCK were taken
abbrev pub LockAgrees : Lock → ledger.Lock → Type 0
LockAgrees Closed l = l ≡ closed
LockAgrees First l = l ≡ first_step
LockAgrees Open l = l ≡ opened

-- the same offsets are loaded, with the same bytes
pub record LoadAgrees (load : Load) (xs : List Loaded) : Type 0 where
  pub offsets : (k : ℕ) → k < 8 → is_loaded k xs ≡ bit load.offsets k
  pub bytes : (k : ℕ) → k < 8 → bit load.offsets k ≡ true → loaded_byte k xs ≡ get_or load.bytes k 0

-- the codes that stay at their instruction byte, whatever comes after it
abbrev pub stays : Code → Bool
stays c = is_code c Srread || is_code c Other

-- how many bytes came
abbrev pub CountAgrees : Stage → ℕ → Type 0
CountAgrees Idle n = n ≡ 0
CountAgrees Opened n = n ≡ 0
CountAgrees Unheard n = 0 < n
CountAgrees (Instruction c) n = (0 < n) × (stays c ≡ false → n ≡ 1)
CountAgrees (Reading p) n = 1 < n
CountAgrees (Writing p) n = 1 < n
CountAgrees (Second q) n = n ≡ 2
CountAgrees (Over l) n = taken (over_code l) < n

-- at the instruction byte nothing is loaded
pub record Empty (f : ledger.Frame) : Type 0 where
  pub page : f.page ≡ 0
  pub next : f.next ≡ 0
  pub loaded : f.loaded ≡ []

-- a page write with its address: the page, the next offset, what is loaded, and that a data byte came just where one is loaded
pub record PageAgrees (a : ℕ) (load : Load) (f : ledger.Frame) : Type 0 where
  pub page : f.page ≡ page_of a
  pub next : f.next ≡ load.next
  pub loaded : LoadAgrees load f.loaded
  pub none : f.count ≡ 2 → load.offsets ≡ 0
  pub some : 2 < f.count → 0 < load.offsets

abbrev pub PlaceAgrees : Place → Load → ledger.Frame → Type 0
PlaceAgrees (EepromAt a) load f = PageAgrees a.0 load f
PlaceAgrees (ClockAt a) load f = Unit {0}
PlaceAgrees (IdAt a) load f = PageAgrees a.0 load f

-- the second byte of SRWRITE is loaded, that of UNLOCK is noted
abbrev pub PairAgrees : Pair → ledger.Frame → Type 0
PairAgrees (StatusData v) f = (is_loaded 0 f.loaded ≡ true) × (loaded_byte 0 f.loaded ≡ v)
PairAgrees (UnlockData v) f = f.second ≡ v
PairAgrees ClearWatchdog f = Unit {0}
PairAgrees ClearRam f = Unit {0}

-- what the bytes brought
abbrev pub DataAgrees : Stage → Load → ledger.Frame → Type 0
DataAgrees Idle load f = Unit {0}
DataAgrees Opened load f = Unit {0}
DataAgrees Unheard load f = Unit {0}
DataAgrees (Instruction c) load f = Empty f
DataAgrees (Reading p) load f = Unit {0}
DataAgrees (Writing p) load f = PlaceAgrees p load f
DataAgrees (Second q) load f = PairAgrees q f
DataAgrees (Over l) load f = Unit {0}

-- the ledger's frame is the stage's
pub record FrameAgrees (s : Stage) (load : Load) (f : ledger.Frame) : Type 0 where
  pub heard : f.heard ≡ stages.heard s
  pub code : stages.heard s ≡ true → code_of f.code ≡ code_at s
  pub count : CountAgrees s f.count
  pub brought : DataAgrees s load f

-- the ledger's cycle writes what the target says
pub record WritesPage (c : ledger.Cycle) (k : Kind) (a : ℕ) (load : Load) : Type 0 where
  pub kind : c.kind ≡ k
  pub page : c.page ≡ page_of a
  pub loaded : LoadAgrees load c.loaded

pub record WritesBits (c : ledger.Cycle) (n : ℕ) : Type 0 where
  pub kind : c.kind ≡ status_cycle
  pub loaded : is_loaded 0 c.loaded ≡ true
  pub bits : loaded_byte 0 c.loaded / 4 % 4 ≡ n

abbrev pub TargetAgrees : Target → Load → ledger.Cycle → Type 0
TargetAgrees (Eeprom a) load c = WritesPage c eeprom_cycle a.0 load
TargetAgrees (Id a) load c = WritesPage c id_cycle a.0 load
TargetAgrees (Status p) load c = WritesBits c (protection_number p)

-- the same ticks are left, and while any are the cycle is the same
pub record CycleAgrees (y : Cycle) (load : Load) (c : ledger.Cycle) : Type 0 where
  pub left : c.left ≡ y.left
  pub target : 0 < y.left → TargetAgrees y.target load c

-- the record and what the ledger keeps of it
pub record StateAgrees (d : Device) (l : Ledger) : Type 0 where
  pub power : l.power ≡ d.power
  pub chosen : l.selected ≡ selected d.frame.stage
  pub wel : l.wel ≡ d.guard.wel
  pub bp : l.bp ≡ protection_number d.guard.protection
  pub lock : LockAgrees d.guard.lock l.lock
  pub frame : FrameAgrees d.frame.stage d.load l.frame
  pub cycle : CycleAgrees d.cycle d.load l.cycle

-- all of it; s is where the run began, whose bytes stand where there is no entry
pub record Agree (s : World) (part : ℕ) (w : World) (l : Ledger) : Type 0 where
  pub valid : Valid part w
  pub state : StateAgrees w.device l
  pub bytes : AccountedFrom part s w l
