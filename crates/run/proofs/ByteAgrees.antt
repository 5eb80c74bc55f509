-- A byte of a frame: where the chip's stage goes and what the ledger's frame gets agree, for every stage of a selected chip; and a byte
-- that comes while a cycle runs leaves the load, so that the cycle writes what it did.
-- Assumes nothing.
use Prim.Native.Nat.{ℕ, ◌+◌, ◌*◌, ◌/◌, ◌%◌, ◌<◌}
use native.Mathlib.Omega.{arith}
use mathlib.Core.Path.{◌≡◌, refl, sym, ap, subst, ◌∙◌}
use mathlib.Core.Bool.{Bool, true, false, not, ◌&&◌, ◌||◌, false≢true, true≢false}
use mathlib.Core.Logic.{⊎_elim}
use lib.Bits.{bit_and}
use lib.Dec.{eqb, leb}
use lib.ListN.{length}
use borrow.Author.Tests.{eq-eqb, ne_eqb, le-leb}
use Rattle.base.specs.Words.{pick}
use Rattle.base.proofs.Tests.{either, pick_case, pick_when, true_false}
use Rattle.record.specs.declared.Load.{Load}
use Rattle.record.specs.declared.Cycle.{Cycle}
use Rattle.record.specs.declared.Code.{Code}
use Rattle.record.specs.declared.Code.TheVariants.{Eeread, Eewrite, Eewrdi, Eewren, Srread, Srwrite, Read, Write, Unlock, Idwrite, Idread, Clrwdt, Clrram, Other}
use Rattle.record.specs.declared.Place.{Place}
use Rattle.record.specs.declared.Place.TheVariants.{EepromAt, ClockAt, IdAt}
use Rattle.record.specs.declared.Stage.{Stage}
use Rattle.record.specs.declared.Stage.TheVariants.{Idle, Opened, Unheard, Instruction, Reading, Writing, Second, Over}
use Rattle.record.specs.Address.{page_of, offset_of}
use Rattle.record.specs.Codes.{code_of, is_code, heard_under_wip, writes_page}
use Rattle.record.specs.Part.{is_part, top_of}
use Rattle.record.specs.Stages.{selected, heard, writing_code, over_code, foreign_to_wip}
use Rattle.record.proofs.CodeLaws.{same_code}
use Rattle.frames.specs.Frame.{first_stage, second_stage, written_on, third_byte, stage_after, emptied, loaded_with, writing_load, load_after}
use Rattle.frames.proofs.FrameLaws.{stage_keeps}
use Rattle.ledger.specs.State as ledger
use Rattle.ledger.specs.Frames.{running, addressed, address_of, is_write, first_byte, later_byte, frame_after}
use Rattle.ledger.specs.Bytes.{is_loaded, loaded_byte}
use Rattle.run.proofs.Agree.{CountAgrees, Empty, PageAgrees, PlaceAgrees, DataAgrees, FrameAgrees, TargetAgrees, CycleAgrees}
use Rattle.run.proofs.Codes.{code_at_lem, addressed_at, write_at, heard_agrees}
use Rattle.run.proofs.LoadLaws.{load_empty, load_more, load_some}
use Rattle.run.proofs.PartLaws.{page_agrees, offset_agrees}

-- The first byte.
first_frame : (y : ledger.Cycle) (busy : Bool) (v : ℕ) (load : Load) → running y ≡ busy → FrameAgrees (first_stage busy (code_of v)) load (first_byte y v)
unfolding first_byte
first_frame y busy v load e =
    let h = heard_agrees y busy v e in
    pick_when (λ (s : Stage). FrameAgrees s load (first_byte y v)) (busy && not (heard_under_wip (code_of v)))
    (λ t. record { heard = h ∙ ap not t; code = λ n. absurd (false≢true n); count = omega arith; brought = tt })
    (λ t. record { heard = h ∙ ap not t; code = λ n. refl; count = (omega arith, λ n. refl); brought = record { page = refl; next = refl; loaded = refl } })

-- A later byte, by what the ledger finds of the code.
module _ (part v : ℕ) (f : ledger.Frame) where
  -- a code that writes nothing leaves the frame as empty as it was
  later_empty : is_write f.code ≡ false → addressed f.code ≡ false → Empty f → Empty (later_byte part v f)
  unfolding later_byte
  later_empty w a q = record { page = rw a q.page; next = rw (w, a) q.next; loaded = rw w q.loaded }

  -- the data byte of SRWRITE, and the second byte of UNLOCK
  later_status :
      eqb f.code 0x01 ≡ true → addressed f.code ≡ false → f.count ≡ 1 → Empty f
      → (is_loaded 0 (later_byte part v f).loaded ≡ true) × (loaded_byte 0 (later_byte part v f).loaded ≡ v)
  unfolding later_byte is_loaded loaded_byte
  later_status w a n q = (rw (a, w, n, q.next), rw (a, w, n, q.next))

  later_unlock : f.count ≡ 1 → (later_byte part v f).second ≡ v
  unfolding later_byte
  later_unlock n = rw n

  -- the address of a page write
  later_address :
      (a : ℕ) (load : Load) → addressed f.code ≡ true → f.count ≡ 1 → address_of part f.code v / 8 * 8 ≡ page_of a
      → address_of part f.code v % 8 ≡ offset_of v → Empty f → PageAgrees a (emptied load v) (later_byte part v f)
  unfolding later_byte
  later_address a load w n p o q =
      record {
        page = rw (w, n) p;
        next = rw (w, n) o;
        loaded = rw (w, n, q.loaded) (load_empty load v);
        none = λ h. refl;
        some = λ h. absurd (omega arith);
      }

  -- a data byte of a page write
  later_data :
      (a : ℕ) (load : Load) → addressed f.code ≡ true → load.next < 8 → length load.bytes ≡ 8 → 1 < f.count → PageAgrees a load f
      → PageAgrees a (loaded_with load v) (later_byte part v f)
  unfolding later_byte
  later_data a load w hn hl c q =
      let one : eqb f.count 1 ≡ false = ne_eqb f.count 1 (λ e. omega arith) in
      let two : leb 2 f.count ≡ true = le-leb 2 f.count (omega arith) in
      record {
        page = rw (w, one) q.page;
        next = rw (w, one, two, q.next) (omega arith);
        loaded = rw (w, two, q.next) (load_more load v f.loaded hn hl q.loaded);
        none = λ h. absurd (omega arith);
        some = λ h. load_some load v;
      }

-- the second byte of a heard frame
module _ (part v : ℕ) (load : Load) (f : ledger.Frame) (known : is_part part ≡ true) where
  abbrev Brings : Code → Type 0
  Brings c =
      CountAgrees (second_stage (top_of part) v c) (f.count + 1)
      × DataAgrees (second_stage (top_of part) v c) (pick (writes_page c) (emptied load v) load) (later_byte part v f)

  second_data : (c : Code) → code_of f.code ≡ c → CountAgrees (Instruction c) f.count → Empty f → Brings c
  second_data Eeread e n q = (omega arith, tt)
  second_data Eewrite e n q = (
    omega arith,
    later_address part v f (bit_and v (top_of part)) load (addressed_at f Eewrite e) (n.1 refl)
        (rw (code_at_lem f Idwrite refl Eewrite e) (page_agrees part known v)) (rw (code_at_lem f Idwrite refl Eewrite e) (offset_agrees part known v)) q,
  )
  second_data Eewrdi e n q = (omega arith, tt)
  second_data Eewren e n q = (omega arith, tt)
  second_data Srread e n q = ((omega arith, λ h. absurd (true≢false h)), later_empty part v f (write_at f Srread e) (addressed_at f Srread e) q)
  second_data Srwrite e n q = (omega (arith, n.1 refl), later_status part v f (code_at_lem f Srwrite refl Srwrite e) (addressed_at f Srwrite e) (n.1 refl) q)
  second_data Read e n q = (omega arith, tt)
  second_data Write e n q = (omega arith, tt)
  second_data Unlock e n q = (omega (arith, n.1 refl), later_unlock part v f (n.1 refl))
  second_data Idwrite e n q = (
    omega arith,
    later_address part v f (v % 16) load (addressed_at f Idwrite e) (n.1 refl)
        (rw (code_at_lem f Idwrite refl Idwrite e)) (rw (code_at_lem f Idwrite refl Idwrite e) (omega arith)) q,
  )
  second_data Idread e n q = (omega arith, tt)
  second_data Clrwdt e n q = (omega (arith, n.1 refl), tt)
  second_data Clrram e n q = (omega (arith, n.1 refl), tt)
  second_data Other e n q = ((omega arith, λ h. absurd (true≢false h)), later_empty part v f (write_at f Other e) (addressed_at f Other e) q)

-- A byte at each stage.
module _ (part v : ℕ) (y : ledger.Cycle) (busy : Bool) (load : Load) (f : ledger.Frame) where
  -- a frame that is heard goes on with its code
  goes_on :
      (s : Stage) → heard s ≡ true → 0 < f.count → FrameAgrees s load f
      → CountAgrees (stage_after (top_of part) busy v s) (f.count + 1) → DataAgrees (stage_after (top_of part) busy v s) (load_after load v s) (later_byte part v f)
      → FrameAgrees (stage_after (top_of part) busy v s) (load_after load v s) (frame_after part y v f)
  unfolding later_byte
  goes_on s h some q n b =
      let k = stage_keeps (top_of part) busy v s h in
      rw (ne_eqb f.count 0 (λ e. omega arith))
      (record { heard = q.heard ∙ h ∙ sym k.heard; code = λ t. q.code h ∙ sym k.code; count = n; brought = b })

  module _ (known : is_part part ≡ true) (runs : running y ≡ busy) (hn : load.next < 8) (hl : length load.bytes ≡ 8) where
    place_data :
        (p : Place) → code_of f.code ≡ writing_code p → 1 < f.count → PlaceAgrees p load f
        → PlaceAgrees (written_on p) (writing_load load v p) (later_byte part v f)
    place_data (EepromAt a) e n q = later_data part v f a.0 load (addressed_at f Eewrite e) hn hl n q
    place_data (ClockAt a) e n q = tt
    place_data (IdAt a) e n q = later_data part v f a.0 load (addressed_at f Idwrite e) hn hl n q

    pub byte_frame :
        (s : Stage) → selected s ≡ true → FrameAgrees s load f
        → FrameAgrees (stage_after (top_of part) busy v s) (load_after load v s) (frame_after part y v f)
    unfolding later_byte
    byte_frame Idle h q = absurd (false≢true h)
    byte_frame Opened h q = rw (eq-eqb f.count 0 q.count) (first_frame y busy v load runs)
    byte_frame Unheard h q =
        rw (ne_eqb f.count 0 (λ e. omega (arith, q.count)))
        (record { heard = q.heard; code = λ n. absurd (false≢true n); count = omega (arith, q.count); brought = tt })
    byte_frame (Instruction c) h q =
        let b = second_data part v load f known c (q.code refl) q.count q.brought in
        goes_on (Instruction c) refl q.count.0 q b.0 b.1
    byte_frame (Reading p) h q = goes_on (Reading p) refl (omega (arith, q.count)) q (omega (arith, q.count)) tt
    byte_frame (Writing p) h q =
        goes_on (Writing p) refl (omega (arith, q.count)) q (omega (arith, q.count)) (place_data p (q.code refl) q.count q.brought)
    byte_frame (Second x) h q =
        goes_on (Second x) refl (omega (arith, q.count)) q
        (pick_case (λ (k : ℕ). k < f.count + 1) (is_code (over_code (third_byte x)) Eewren || is_code (over_code (third_byte x)) Eewrdi) (omega (arith, q.count)) (omega (arith, q.count))) tt
    byte_frame (Over x) h q = goes_on (Over x) refl (omega (arith, q.count)) q (omega (arith, q.count)) tt

-- A byte of a frame that is heard while a cycle runs, or of one that is not heard, leaves the load.
page_foreign : (c : Code) → writes_page c ≡ true → heard_under_wip c ≡ false
page_foreign c w =
    ⊎_elim (λ e. ap heard_under_wip (same_code c Eewrite e)) (λ e. ap heard_under_wip (same_code c Idwrite e)) (either (is_code c Eewrite) (is_code c Idwrite) w)

load_still : (s : Stage) (load : Load) (v : ℕ) → foreign_to_wip s ≡ false → load_after load v s ≡ load
load_still Idle load v h = refl
load_still Opened load v h = refl
load_still Unheard load v h = refl
load_still (Instruction c) load v h =
    pick_when (λ (l : Load). l ≡ load) (writes_page c) (λ w. absurd (true_false (ap not (page_foreign c w)) h)) (λ w. refl)
load_still (Reading p) load v h = refl
load_still (Writing p) load v h = place_still p h
  where
    place_still : (p : Place) → not (heard_under_wip (writing_code p)) ≡ false → writing_load load v p ≡ load
    place_still (EepromAt a) e = absurd (true≢false e)
    place_still (ClockAt a) e = refl
    place_still (IdAt a) e = absurd (true≢false e)
load_still (Second q) load v h = refl
load_still (Over l) load v h = refl

pub byte_cycle :
    (y : Cycle) (s : Stage) (load : Load) (v : ℕ) (c : ledger.Cycle) → (0 < y.left → foreign_to_wip s ≡ false)
    → CycleAgrees y load c → CycleAgrees y (load_after load v s) c
byte_cycle y s load v c h q =
    record {
      left = q.left;
      target = λ r. subst (λ (l : Load). TargetAgrees y.target l c) (sym (load_still s load v (h r))) (q.target r);
    }
