-- Every record in range, with memories of its part's lengths, agrees with the ledger that begins with it. So demand 3 holds from any beginning; the claim
-- from fresh is an instance of it, of any chip; and a run that is broken off and begun anew is accounted for as the whole one is.
-- Assumes nothing.
use Prim.Native.Nat.{ℕ, zero, suc, ◌+◌, ◌*◌, ◌/◌, ◌%◌, ◌<◌, ◌≤◌}
use native.Mathlib.Omega.{arith}
use mathlib.Core.Path.{◌≡◌, refl, sym, ap, subst, ◌∙◌}
use mathlib.Core.Bool.{true, false}
use mathlib.Core.List.{◌++◌}
use borrow.Author.Tests.{eqb-true, eqb-false, ne_eqb}
use lib.Dec.{eqb}
use lib.ListN.{get_or}
use Rattle.base.specs.Words.{pick, bit}
use Rattle.base.proofs.Tests.{by_cases, pick_when}
use Rattle.record.specs.declared.Load.{Load}
use Rattle.record.specs.declared.Lock.{Lock}
use Rattle.record.specs.declared.Lock.TheVariants.{Closed, First, Open}
use Rattle.record.specs.declared.Place.{Place}
use Rattle.record.specs.declared.Place.TheVariants.{EepromAt, ClockAt, IdAt}
use Rattle.record.specs.declared.Pair.{Pair}
use Rattle.record.specs.declared.Pair.TheVariants.{StatusData, UnlockData, ClearWatchdog, ClearRam}
use Rattle.record.specs.declared.Protection.{Protection}
use Rattle.record.specs.declared.Protection.TheVariants.{Nothing, Quarter, Half, All}
use Rattle.record.specs.declared.Stage.{Stage}
use Rattle.record.specs.declared.Stage.TheVariants.{Idle, Opened, Unheard, Instruction, Reading, Writing, Second, Over}
use Rattle.record.specs.declared.Target.{Target}
use Rattle.record.specs.declared.Target.TheVariants.{Eeprom, Id, Status}
use Rattle.record.specs.Fresh.{fresh}
use Rattle.record.specs.Numbers.{protection_number}
use Rattle.record.specs.Stages.{code_at, over_code}
use Rattle.record.specs.World.{World, fresh_world}
use Rattle.record.proofs.CodeLaws.{code_back}
use Rattle.acts.proofs.ValidLaws.{Valid, fresh_valid}
use Rattle.ledger.specs.State.{Ledger, start, no_byte, no_cycle}
use Rattle.ledger.specs.Bytes.{is_loaded, loaded_byte, byte_of}
use Rattle.ledger.specs.Steps.{ledger_run}
use Rattle.run.specs.Claim.{Chip, our_chip, world_after, steps_of, memory_of, reached, DemandThree}
use Rattle.run.specs.Begin.{lock_named, loaded_below, loaded_of, taken, plain_frame, writing_frame, second_frame, open_frame, cycle_with, ledger_of, AccountedFrom, DemandThreeFrom, Resumes}
use Rattle.run.proofs.Agree.{LockAgrees, LoadAgrees, CountAgrees, DataAgrees, FrameAgrees, TargetAgrees, Agree}
use Rattle.run.proofs.DemandThree.{run_agrees, fresh_byte, demand_three_lem}
use Rattle.run.proofs.RunLaws.{after_append, reached_valid}

-- The load: an offset is in the list just where its bit is set, and with its byte.
module _ (load : Load) where
  above : (n k : ℕ) → n ≤ k → is_loaded k (loaded_below n load) ≡ false
  unfolding loaded_below is_loaded
  above zero k h = refl
  above (suc n) k h =
      let other : eqb k n ≡ false = ne_eqb k n (λ e. omega arith) in
      by_cases (bit load.offsets n) (λ t. rw (t, other) (above n k (omega arith))) (λ t. rw t (above n k (omega arith)))

  offsets_below : (n k : ℕ) → k < n → is_loaded k (loaded_below n load) ≡ bit load.offsets k
  unfolding loaded_below is_loaded
  offsets_below zero k h = absurd (omega arith)
  offsets_below (suc n) k h =
      by_cases (eqb k n)
      (λ e.
      let same : k ≡ n = eqb-true k n e in
      by_cases (bit load.offsets n)
      (λ t. rw (t, e) (sym (ap (bit load.offsets) same ∙ t)))
      (λ t. rw t (above n k (omega arith) ∙ sym (ap (bit load.offsets) same ∙ t))))
      (λ e.
      let other = eqb-false k n e in
      by_cases (bit load.offsets n)
      (λ t. rw (t, e) (offsets_below n k (omega arith)))
      (λ t. rw t (offsets_below n k (omega arith))))

  bytes_below : (n k : ℕ) → k < n → bit load.offsets k ≡ true → loaded_byte k (loaded_below n load) ≡ get_or load.bytes k 0
  unfolding loaded_below loaded_byte
  bytes_below zero k h b = absurd (omega arith)
  bytes_below (suc n) k h b =
      by_cases (eqb k n)
      (λ e.
      let same : k ≡ n = eqb-true k n e in
      let t : bit load.offsets n ≡ true = ap (bit load.offsets) (sym same) ∙ b in
      rw (t, e) (ap (λ (i : ℕ). get_or load.bytes i 0) (sym same)))
      (λ e.
      let other = eqb-false k n e in
      by_cases (bit load.offsets n)
      (λ t. rw (t, e) (bytes_below n k (omega arith) b))
      (λ t. rw t (bytes_below n k (omega arith) b)))

  load_begins : LoadAgrees load (loaded_of load)
  load_begins = record { offsets = offsets_below 8; bytes = bytes_below 8 }

lock_begins : (k : Lock) → LockAgrees k (lock_named k)
lock_begins Closed = refl
lock_begins First = refl
lock_begins Open = refl

-- two bytes, or three where some are loaded
module _ (o : ℕ) where
  two_least : 1 < pick (eqb o 0) 2 3
  two_least = pick_when (λ (n : ℕ). 1 < n) (eqb o 0) (λ t. omega arith) (λ t. omega arith)

  two_none : ◌≡◌ {A = ℕ} (pick (eqb o 0) 2 3) 2 → o ≡ 0
  two_none = pick_when (λ (n : ℕ). n ≡ 2 → o ≡ 0) (eqb o 0) (λ t e. eqb-true o 0 t) (λ t e. absurd (omega arith))

  three_some : 2 < pick (eqb o 0) 2 3 → 0 < o
  three_some =
      pick_when (λ (n : ℕ). 2 < n → 0 < o) (eqb o 0) (λ t h. absurd (omega arith)) (λ t h. omega (arith, eqb-false o 0 t))

-- The frame: heard and code are the stage's at every stage, so that bytes and what they brought are left.
module _ (load : Load) where
  plain_begins : (s : Stage) (n : ℕ) → CountAgrees s n → DataAgrees s load (plain_frame s n) → FrameAgrees s load (plain_frame s n)
  plain_begins s n c b = record { heard = refl; code = λ h. code_back (code_at s); count = c; brought = b }

  writing_begins : (p : Place) → FrameAgrees (Writing p) load (writing_frame p load)
  writing_begins (EepromAt a) =
      record {
        heard = refl;
        code = λ h. refl;
        count = two_least load.offsets;
        brought = record { page = refl; next = refl; loaded = load_begins load; none = two_none load.offsets; some = three_some load.offsets };
      }
  writing_begins (ClockAt a) = plain_begins (Writing (ClockAt a)) 2 (omega arith) tt
  writing_begins (IdAt a) =
      record {
        heard = refl;
        code = λ h. refl;
        count = two_least load.offsets;
        brought = record { page = refl; next = refl; loaded = load_begins load; none = two_none load.offsets; some = three_some load.offsets };
      }

  second_begins : (q : Pair) → FrameAgrees (Second q) load (second_frame q)
  unfolding is_loaded loaded_byte
  second_begins (StatusData v) = record { heard = refl; code = λ h. refl; count = refl; brought = (refl, refl) }
  second_begins (UnlockData v) = record { heard = refl; code = λ h. refl; count = refl; brought = refl }
  second_begins ClearWatchdog = plain_begins (Second ClearWatchdog) 2 refl tt
  second_begins ClearRam = plain_begins (Second ClearRam) 2 refl tt

  frame_begins : (s : Stage) → FrameAgrees s load (open_frame s load)
  frame_begins Idle = plain_begins Idle 0 refl tt
  frame_begins Opened = plain_begins Opened 0 refl tt
  frame_begins Unheard = plain_begins Unheard 1 (omega arith) tt
  frame_begins (Instruction c) =
      plain_begins (Instruction c) 1 (omega arith, λ e. refl) (record { page = refl; next = refl; loaded = refl })
  frame_begins (Reading p) = plain_begins (Reading p) 2 (omega arith) tt
  frame_begins (Writing p) = writing_begins p
  frame_begins (Second q) = second_begins q
  frame_begins (Over l) = plain_begins (Over l) (taken (over_code l) + 1) (omega arith) tt

-- The cycle.
bits_begin : (p : Protection) → protection_number p * 4 / 4 % 4 ≡ protection_number p
bits_begin Nothing = refl
bits_begin Quarter = refl
bits_begin Half = refl
bits_begin All = refl

target_begins : (n : ℕ) (load : Load) (t : Target) → TargetAgrees t load (cycle_with n load t)
unfolding is_loaded loaded_byte
target_begins n load (Eeprom a) = record { kind = refl; page = refl; loaded = load_begins load }
target_begins n load (Id a) = record { kind = refl; page = refl; loaded = load_begins load }
target_begins n load (Status p) = record { kind = refl; loaded = refl; bits = bits_begin p }

left_begins : (n : ℕ) (load : Load) (t : Target) → (cycle_with n load t).left ≡ n
left_begins n load (Eeprom a) = refl
left_begins n load (Id a) = refl
left_begins n load (Status p) = refl

-- the agreement, of every record in range
pub begin_agrees : (part : ℕ) (s : World) → Valid part s → Agree s part s (ledger_of s.device)
unfolding ledger_of byte_of
begin_agrees part s v =
    let d = s.device in
    record {
      valid = v;
      state =
          record {
            power = refl;
            chosen = refl;
            wel = refl;
            bp = refl;
            lock = lock_begins d.guard.lock;
            frame = frame_begins d.load d.frame.stage;
            cycle = record { left = left_begins _ d.load d.cycle.target; target = λ h. target_begins _ d.load d.cycle.target };
          };
      bytes = λ m p h. refl;
    }

pub demand_three_from : DemandThreeFrom our_chip
unfolding DemandThreeFrom
demand_three_from part known s range shaped xs =
    (run_agrees s part known xs s (ledger_of s.device) (begin_agrees part s (record { range = range; shaped = shaped }))).bytes

-- the ledger of a fresh record is the ledger's start
ledger_of_fresh : ledger_of fresh ≡ start
unfolding ledger_of loaded_below fresh start no_byte no_cycle
ledger_of_fresh = refl

-- so the claim from fresh is an instance, of any chip
pub from_gives_fresh : (chip : Chip) → DemandThreeFrom chip → DemandThree chip
unfolding DemandThreeFrom DemandThree
from_gives_fresh chip claim part known xs m p h =
    let s = fresh_world part in
    let v = fresh_valid part in
    let l = ledger_run part (steps_of chip part xs s) start in
    let a : AccountedFrom part s (world_after chip part xs s) l =
    subst (λ (b : Ledger). AccountedFrom part s (world_after chip part xs s) (ledger_run part (steps_of chip part xs s) b)) ledger_of_fresh
    (claim part known s v.range v.shaped xs) in
    a m p h ∙ ap (λ (b : ℕ). byte_of b m p l.entries) (fresh_byte m part p h)

-- both ledgers give the chip's own bytes
pub resumes : Resumes
unfolding Resumes DemandThree DemandThreeFrom
resumes part known xs ys m p h =
    let v = reached_valid part known xs in
    sym (demand_three_from part known (reached part xs) v.range v.shaped ys m p h)
    ∙ ap (λ (w : World). get_or (memory_of m w) p 0) (sym (after_append our_chip part xs ys (fresh_world part)))
    ∙ demand_three_lem part known (xs ++ ys) m p h
