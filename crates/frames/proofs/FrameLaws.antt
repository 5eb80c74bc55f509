-- What select and a byte keep: a record in range, the lengths of its lists, the loaded offsets and every byte a byte; and the bit of each offset.
-- Not what a frame answers.
-- Assumes nothing.
use Prim.Native.Nat.{ℕ, ◌+◌, ◌^◌, ◌<◌}
use native.Mathlib.Omega.{arith}
use mathlib.Core.Path.{◌≡◌, refl, sym, subst, ◌∙◌}
use mathlib.Core.Bool.{Bool, true, false, not, ◌&&◌, false≢true}
use mathlib.Core.List.{List, [], ◌∷◌}
use borrow.Author.Tests.{ltb-true, lt-ltb}
use lib.Bits.{and_le_r, or_lt}
use lib.Dec.{ltb}
use lib.ListN.{length, get_or, set, length-set}
use Rattle.base.specs.Words.{every}
use Rattle.base.proofs.Tests.{pick_case, pick_when, true_false}
use Rattle.base.proofs.Every.{same_below, bound_below}
use Rattle.record.specs.declared.Device.{Device}
use Rattle.record.specs.declared.Load.{Load}
use Rattle.record.specs.declared.EepromAddress.{EepromAddress}
use Rattle.record.specs.declared.ClockAddress.{ClockAddress}
use Rattle.record.specs.declared.IdAddress.{IdAddress}
use Rattle.record.specs.declared.Code.{Code}
use Rattle.record.specs.declared.Code.TheVariants.{Eeread, Eewrite, Eewrdi, Eewren, Srread, Srwrite, Read, Write, Unlock, Idwrite, Idread, Clrwdt, Clrram, Other}
use Rattle.record.specs.declared.Place.{Place}
use Rattle.record.specs.declared.Place.TheVariants.{EepromAt, ClockAt, IdAt}
use Rattle.record.specs.declared.Pair.{Pair}
use Rattle.record.specs.declared.Pair.TheVariants.{StatusData, UnlockData, ClearWatchdog, ClearRam}
use Rattle.record.specs.declared.Stage.{Stage}
use Rattle.record.specs.declared.Stage.TheVariants.{Idle, Opened, Unheard, Instruction, Reading, Writing, Second, Over}
use Rattle.record.specs.Address.{taken_eeprom, taken_id, offset_of}
use Rattle.record.specs.Codes.{code_of, heard_under_wip, writes_page}
use Rattle.record.specs.Part.{top_of, size_of, boots_of}
use Rattle.record.specs.Setters.{with_stage, with_load}
use Rattle.record.specs.Stages.{selected, heard, reading_code, writing_code, second_code, over_code, code_at, foreign_to_wip, frame_place}
use Rattle.record.specs.World.{Bytes, Sized}
use Rattle.record.proofs.StageLaws.{heard_selected}
use Rattle.record.proofs.WorldLaws.{sized_by, set_bytes}
use Rattle.refusals.specs.InRange.{PlaceRange, InRange}
use Rattle.refusals.proofs.KeepLaws.{Beside, beside}
use Rattle.registers.specs.Write.{write_clock}
use Rattle.registers.proofs.WriteLaws.{write_beside, write_regs_length, write_sram, write_in_range}
use Rattle.ticks.specs.Lines.{wip}
use Rattle.frames.specs.Frame.{second_stage, read_on, written_on, third_byte, stage_after, emptied, loaded_with, writing_load, load_after, written_place, written_at, after_byte, after_select}

-- The bit of each offset: the table of the code is the power of the definition.
abbrev offsets : List ℕ
offsets = 1 ∷ 2 ∷ 4 ∷ 8 ∷ 16 ∷ 32 ∷ 64 ∷ 128 ∷ []

pub offset_bit : (k : ℕ) → k < 8 → get_or offsets k 0 ≡ 2 ^ k
unfolding every
offset_bit k h = same_below (λ (n : ℕ). get_or offsets n 0) (λ (n : ℕ). 2 ^ n) 8 refl k h

offset_below : (k : ℕ) → k < 8 → 2 ^ k < 256
unfolding every
offset_below k h = bound_below (λ (n : ℕ). 2 ^ n) 256 8 refl k h

-- What holds of the load, of an emptied one and of one with one byte more holds after a byte.
module _ (P : Load → Type 0) (l : Load) (v : ℕ) (p : P l) (q : P (emptied l v)) (r : P (loaded_with l v)) where
  writing_case : (x : Place) → P (writing_load l v x)
  writing_case (EepromAt a) = r
  writing_case (ClockAt a) = p
  writing_case (IdAt a) = r

  pub load_case : (s : Stage) → P (load_after l v s)
  load_case Idle = p
  load_case Opened = p
  load_case Unheard = p
  load_case (Instruction c) = pick_case P (writes_page c) q p
  load_case (Reading x) = p
  load_case (Writing x) = writing_case x
  load_case (Second x) = p
  load_case (Over x) = p

-- What holds of the device, and of it after the byte as a WRITE's where the frame is a WRITE, holds after a byte's store.
module _ (P : Device → Type 0) (boots : Bool) (d : Device) (v : ℕ) (p : P d) where
  place_when : (x : Place) → ((a : ClockAddress) → Writing x ≡ Writing (ClockAt a) → P (write_clock boots d a v)) → P (written_place boots d v x)
  place_when (EepromAt a) q = p
  place_when (ClockAt a) q = q a refl
  place_when (IdAt a) q = p

  pub written_when : (s : Stage) → ((a : ClockAddress) → s ≡ Writing (ClockAt a) → P (write_clock boots d a v)) → P (written_at boots d v s)
  written_when Idle q = p
  written_when Opened q = p
  written_when Unheard q = p
  written_when (Instruction c) q = p
  written_when (Reading x) q = p
  written_when (Writing x) q = place_when x q
  written_when (Second x) q = p
  written_when (Over x) q = p

  -- of every WRITE
  pub written_case : ((a : ClockAddress) → P (write_clock boots d a v)) → (s : Stage) → P (written_at boots d v s)
  written_case q s = written_when s (λ a e. q a)

-- what holds of the SRAM, and of it with the byte stored, holds of the SRAM after a byte
sram_case :
    (P : List ℕ → Type 0) (boots : Bool) (d : Device) (v : ℕ) → P d.sram → ((k : ℕ) → P (set d.sram k v))
    → (s : Stage) → P (written_at boots d v s).sram
sram_case P boots d v p q = written_case (λ (e : Device). P e.sram) boots d v p (λ a. write_sram P boots d a v p q)

-- a byte leaves alone what is no register, SRAM, count, stage or load
pub written_beside : (boots : Bool) (d : Device) (v : ℕ) (s : Stage) → Beside d (written_at boots d v s)
written_beside boots d v = written_case (Beside d) boots d v (beside d) (λ a. write_beside boots d a v)

-- The pointers of a stage: an ID pointer below 16, an EEPROM pointer up to the top address.
nowhere : (top : ℕ) → (a : ClockAddress) → PlaceRange (top + 1) (ClockAt a)
nowhere top a = record { id = omega arith; eeprom = omega arith }

taken_place : (top v : ℕ) → PlaceRange (top + 1) (EepromAt (taken_eeprom top v))
taken_place top v = record { id = omega arith; eeprom = omega (arith, and_le_r v top) }

id_place : (top v : ℕ) → PlaceRange (top + 1) (IdAt (taken_id v))
id_place top v = record { id = omega arith; eeprom = omega arith }

second_place : (top v : ℕ) (c : Code) → PlaceRange (top + 1) (frame_place (second_stage top v c))
second_place top v Eeread = taken_place top v
second_place top v Eewrite = taken_place top v
second_place top v Eewrdi = nowhere top _
second_place top v Eewren = nowhere top _
second_place top v Srread = nowhere top _
second_place top v Srwrite = nowhere top _
second_place top v Read = nowhere top _
second_place top v Write = nowhere top _
second_place top v Unlock = nowhere top _
second_place top v Idwrite = id_place top v
second_place top v Idread = id_place top v
second_place top v Clrwdt = nowhere top _
second_place top v Clrram = nowhere top _
second_place top v Other = nowhere top _

read_place : (top : ℕ) (p : Place) → PlaceRange (top + 1) p → PlaceRange (top + 1) (read_on top p)
read_place top (EepromAt a) h =
    record { id = omega arith; eeprom = pick_when (λ (b : EepromAddress). b.0 < top + 1) (ltb a.0 top) (λ t. omega (arith, ltb-true a.0 top t)) (λ t. omega arith) }
read_place top (ClockAt a) h = nowhere top _
read_place top (IdAt a) h =
    record { id = pick_when (λ (b : IdAddress). b.0 < 16) (ltb a.0 0x0f) (λ t. omega (arith, ltb-true a.0 0x0f t)) (λ t. omega arith); eeprom = omega arith }

written_place_lem : (top : ℕ) (p : Place) → PlaceRange (top + 1) p → PlaceRange (top + 1) (written_on p)
written_place_lem top (EepromAt a) h = h
written_place_lem top (ClockAt a) h = nowhere top _
written_place_lem top (IdAt a) h = h

stage_place : (top : ℕ) (busy : Bool) (v : ℕ) (s : Stage) → PlaceRange (top + 1) (frame_place s) → PlaceRange (top + 1) (frame_place (stage_after top busy v s))
stage_place top busy v Idle h = h
stage_place top busy v Opened h =
    pick_case (λ (s : Stage). PlaceRange (top + 1) (frame_place s)) (busy && not (heard_under_wip (code_of v))) (nowhere top _) (nowhere top _)
stage_place top busy v Unheard h = h
stage_place top busy v (Instruction c) h = second_place top v c
stage_place top busy v (Reading p) h = read_place top p h
stage_place top busy v (Writing p) h = written_place_lem top p h
stage_place top busy v (Second q) h = h
stage_place top busy v (Over l) h = h

-- A heard frame stays heard, and keeps its code.
pub record Keeps (c : Code) (s : Stage) : Type 0 where
  pub heard : heard s ≡ true
  pub code : code_at s ≡ c

second_keeps : (top v : ℕ) (c : Code) → Keeps c (second_stage top v c)
second_keeps top v Eeread = record { heard = refl; code = refl }
second_keeps top v Eewrite = record { heard = refl; code = refl }
second_keeps top v Eewrdi = record { heard = refl; code = refl }
second_keeps top v Eewren = record { heard = refl; code = refl }
second_keeps top v Srread = record { heard = refl; code = refl }
second_keeps top v Srwrite = record { heard = refl; code = refl }
second_keeps top v Read = record { heard = refl; code = refl }
second_keeps top v Write = record { heard = refl; code = refl }
second_keeps top v Unlock = record { heard = refl; code = refl }
second_keeps top v Idwrite = record { heard = refl; code = refl }
second_keeps top v Idread = record { heard = refl; code = refl }
second_keeps top v Clrwdt = record { heard = refl; code = refl }
second_keeps top v Clrram = record { heard = refl; code = refl }
second_keeps top v Other = record { heard = refl; code = refl }

read_code_lem : (top : ℕ) (p : Place) → reading_code (read_on top p) ≡ reading_code p
read_code_lem top (EepromAt a) = refl
read_code_lem top (ClockAt a) = refl
read_code_lem top (IdAt a) = refl

written_code : (p : Place) → writing_code (written_on p) ≡ writing_code p
written_code (EepromAt a) = refl
written_code (ClockAt a) = refl
written_code (IdAt a) = refl

third_code : (q : Pair) → over_code (third_byte q) ≡ second_code q
third_code (StatusData v) = refl
third_code (UnlockData v) = refl
third_code ClearWatchdog = refl
third_code ClearRam = refl

pub stage_keeps : (top : ℕ) (busy : Bool) (v : ℕ) (s : Stage) → heard s ≡ true → Keeps (code_at s) (stage_after top busy v s)
stage_keeps top busy v Idle h = absurd (false≢true h)
stage_keeps top busy v Opened h = absurd (false≢true h)
stage_keeps top busy v Unheard h = absurd (false≢true h)
stage_keeps top busy v (Instruction c) h = second_keeps top v c
stage_keeps top busy v (Reading p) h = record { heard = refl; code = read_code_lem top p }
stage_keeps top busy v (Writing p) h = record { heard = refl; code = written_code p }
stage_keeps top busy v (Second q) h = record { heard = refl; code = third_code q }
stage_keeps top busy v (Over l) h = record { heard = refl; code = refl }

-- A byte leaves the chip selected as it was.
pub stage_selected : (top : ℕ) (busy : Bool) (v : ℕ) (s : Stage) → selected (stage_after top busy v s) ≡ selected s
stage_selected top busy v Idle = refl
stage_selected top busy v Opened = pick_case (λ (s : Stage). selected s ≡ true) (busy && not (heard_under_wip (code_of v))) refl refl
stage_selected top busy v Unheard = refl
stage_selected top busy v (Instruction c) = heard_selected (second_stage top v c) (second_keeps top v c).heard
stage_selected top busy v (Reading p) = refl
stage_selected top busy v (Writing p) = refl
stage_selected top busy v (Second q) = refl
stage_selected top busy v (Over l) = refl

-- So while a cycle runs a frame of another code than the five stays unheard.
heard_foreign : (top v : ℕ) (s : Stage) → heard s ≡ true → foreign_to_wip s ≡ false → foreign_to_wip (stage_after top true v s) ≡ false
heard_foreign top v s h f =
    let k : Keeps (code_at s) (stage_after top true v s) = stage_keeps top true v s h in
    simp (k.heard, k.code) (rw h at f)

stage_foreign : (top v : ℕ) (s : Stage) → foreign_to_wip s ≡ false → foreign_to_wip (stage_after top true v s) ≡ false
stage_foreign top v Idle f = f
stage_foreign top v Opened f = pick_when (λ (s : Stage). foreign_to_wip s ≡ false) (not (heard_under_wip (code_of v))) (λ t. refl) (λ t. t)
stage_foreign top v Unheard f = f
stage_foreign top v (Instruction c) f = heard_foreign top v (Instruction c) refl f
stage_foreign top v (Reading p) f = heard_foreign top v (Reading p) refl f
stage_foreign top v (Writing p) f = heard_foreign top v (Writing p) refl f
stage_foreign top v (Second q) f = heard_foreign top v (Second q) refl f
stage_foreign top v (Over l) f = f

-- a record in range at another stage and with another load
moved_in_range :
    (part : ℕ) (d : Device) (s : Stage) (l : Load) → d.power ≡ true → InRange part d → PlaceRange (size_of part) (frame_place s) → l.next < 8
    → (0 < d.cycle.left → foreign_to_wip s ≡ false) → InRange part (with_load (with_stage d s) l)
moved_in_range part d s l on r p o h =
    record {
      clock = r.clock;
      frame = record { offset = o; place = p };
      cycle = r.cycle;
      power = record { unmarked = r.power.unmarked; idle = λ off. absurd (true_false on off); still = r.power.still; heard = h };
    }

-- select leaves a record in range
pub select_in_range : (part : ℕ) (d : Device) → d.power ≡ true → InRange part d → InRange part (after_select d)
unfolding after_select
select_in_range part d on r = moved_in_range part d Opened d.load on r (nowhere (top_of part) _) r.frame.offset (λ h. refl)

-- a byte leaves a record in range, whatever its value
pub byte_in_range :
    (part v : ℕ) (d : Device) → d.power ≡ true → InRange part d → InRange part (after_byte (boots_of part) (top_of part) v d)
unfolding after_byte
byte_in_range part v d on r =
    let s : Stage = d.frame.stage in
    let boots : Bool = boots_of part in
    let top : ℕ = top_of part in
    let e : Device = written_at boots d v s in
    let b : Beside d e = written_beside boots d v s in
    moved_in_range part e (stage_after top (wip d) v s) (load_after d.load v s) (b.power ∙ on)
    (written_case (InRange part) boots d v r (λ a. write_in_range part d a v r) s)
    (stage_place top (wip d) v s r.frame.place)
    (load_case (λ (l : Load). l.next < 8) d.load v r.frame.offset (omega arith) (omega arith) s)
    (λ h.
    let q : 0 < d.cycle.left = rw b.cycle at h in
    subst (λ (t : Bool). foreign_to_wip (stage_after top t v s) ≡ false) (sym (lt-ltb 0 d.cycle.left q)) (stage_foreign top v s (r.power.heard q)))

-- Lengths and bytes: a byte that is stored is one.
pub select_sized : (d : Device) → Sized d → Sized (after_select d)
unfolding after_select
select_sized d = sized_by d (with_stage d Opened) refl refl refl

pub byte_sized : (boots : Bool) (top v : ℕ) (d : Device) → v < 256 → Sized d → Sized (after_byte boots top v d)
unfolding after_byte
byte_sized boots top v d h z =
    let s : Stage = d.frame.stage in
    let l : Load = d.load in
    let o : ℕ = offset_of l.next in
    record {
      regs = written_case (λ (e : Device). length e.regs ≡ 32) boots d v z.regs (λ a. write_regs_length boots d a v ∙ z.regs) s;
      sram = sram_case (λ (m : List ℕ). length m ≡ 64) boots d v z.sram (λ k. length-set d.sram k v ∙ z.sram) s;
      bytes = load_case (λ (m : Load). length m.bytes ≡ 8) l v z.bytes z.bytes (length-set l.bytes o v ∙ z.bytes) s;
      offsets =
          load_case (λ (m : Load). m.offsets < 256) l v z.offsets (omega arith)
          (or_lt 8 l.offsets (2 ^ o) z.offsets (offset_below o (omega arith))) s;
      sram_bytes = sram_case Bytes boots d v z.sram_bytes (λ k. set_bytes d.sram k v h z.sram_bytes) s;
      load_bytes = load_case (λ (m : Load). Bytes m.bytes) l v z.load_bytes z.load_bytes (set_bytes l.bytes o v h z.load_bytes) s;
    }
