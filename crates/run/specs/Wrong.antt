-- Wrong chips, each ours with one change around it, and the runs that refute them. They show that demand 3 is no empty promise.
-- Assumes nothing.
use Rattle.std.specs.Prelude.{ℕ, Bool, true, false, not, ◌&&◌, List, [], ◌∷◌, ◌++◌, ◌≡◌, get_or}
use Rattle.base.specs.Words.{pick}
use Rattle.record.specs.declared.Act.TheVariants.{Select, Byte, End, Wait, Cut, Up, Set}
use Rattle.record.specs.declared.Lock.TheVariants.{Open}
use Rattle.record.specs.Setters.{with_wel, with_lock}
use Rattle.record.specs.Stages.{selected}
use Rattle.record.specs.World.{World, moved, fresh_world}
use Rattle.ticks.specs.Lines.{wip}
use Rattle.ends.specs.Write.{data_came}
use Rattle.ledger.specs.State.{Memory, eeprom, id, start}
use Rattle.ledger.specs.Bytes.{byte_of}
use Rattle.ledger.specs.Steps.{ledger_run}
use Rattle.run.specs.Claim.{Chip, Input, DemandThree, our_chip, world_after, steps_of, memory_of}
use Rattle.run.specs.Script.{does, ragged_frame, frame_of}

-- a chip whose WEL is set to a value, and one whose lock is open
abbrev pub latched_at : Bool → World → World
latched_at b w = moved w (with_wel w.device b)

abbrev pub unlocked_world : World → World
unlocked_world w = moved w (with_lock w.device Open)

-- our chip, with something done to it before an end, or with another mask at a cut
abbrev pub changed_at : (World → World) → (ℕ → ℕ) → Chip
changed_at before mask part Select arg w = our_chip part Select arg w
changed_at before mask part Byte arg w = our_chip part Byte arg w
changed_at before mask part End arg w = our_chip part End arg (before w)
changed_at before mask part Wait arg w = our_chip part Wait arg w
changed_at before mask part Cut arg w = our_chip part Cut (mask arg) w
changed_at before mask part Up arg w = our_chip part Up arg w
changed_at before mask part (Set p) arg w = our_chip part (Set p) arg w

-- R3. A chip that needs no enable: at an end the latch counts as set, so that a write goes through without it.
unfoldable pub enableless_chip : Chip
enableless_chip = changed_at (latched_at true) (λ m. m)

-- R3. A chip whose IDWRITE needs no lock: at an end the lock counts as open.
unfoldable pub lockless_chip : Chip
lockless_chip = changed_at unlocked_world (λ m. m)

-- R3. A chip that stores all loaded bytes at a cut, whatever the mask.
unfoldable pub maskless_chip : Chip
maskless_chip = changed_at (λ w. w) (λ m. 255)

-- a chip after whose acts something is done to it; the world before the act comes first
abbrev pub changed_by : (World → World → World) → Chip
changed_by f part act arg w = record { used = (our_chip part act arg w).used; after = f w (our_chip part act arg w).after }

-- R3, W10. A chip that never hears an enable: its latch is clear after every act.
unfoldable pub deaf_chip : Chip
deaf_chip = changed_by (λ v w. latched_at false w)

-- R3. A chip whose cycles store nothing.
unfoldable pub empty_chip : Chip
empty_chip = changed_by (λ v w. moved v w.device)

-- a heard write frame with data was open, is closed, and no cycle runs
abbrev pub came_to_nothing : World → World → Bool
came_to_nothing v w = data_came v.device.load v.device.frame.stage && not (selected w.device.frame.stage) && not (wip w.device)

-- R3, F30. A chip whose latch is cleared by a write that starts no cycle.
unfoldable pub lapsing_chip : Chip
lapsing_chip = changed_by (λ v w. pick (came_to_nothing v w) (latched_at false w) w)

-- T10. the whole case, after its part
abbrev pub whole_case : List Input
whole_case =
    frame_of (6 ∷ []) ++ frame_of (2 ∷ 7 ∷ 18 ∷ 52 ∷ []) ++ (does Wait 200 ∷ []) ++ frame_of (3 ∷ 0 ∷ 0 ∷ [])

-- the same without its first frame: the enable is forgotten
abbrev pub enable_forgotten : List Input
enable_forgotten = frame_of (2 ∷ 7 ∷ 18 ∷ 52 ∷ []) ++ (does Wait 200 ∷ []) ++ frame_of (3 ∷ 0 ∷ 0 ∷ [])

-- a page of two bytes whose cycle is cut with no mask bit set
abbrev pub cut_with_nothing : List Input
cut_with_nothing = frame_of (6 ∷ []) ++ frame_of (2 ∷ 7 ∷ 18 ∷ 52 ∷ []) ++ (does Cut 0 ∷ [])

-- an ID byte written with the lock never opened, and with it opened
abbrev pub lock_forgotten : List Input
lock_forgotten = frame_of (6 ∷ []) ++ frame_of (0x32 ∷ 3 ∷ 77 ∷ []) ++ (does Wait 200 ∷ [])

abbrev pub id_programmed : List Input
id_programmed = frame_of (0x14 ∷ 0x55 ∷ []) ++ frame_of (0x14 ∷ 0xaa ∷ []) ++ lock_forgotten

-- The last quarter is protected, F0h on both sizes: a write there comes to nothing, and one to 00h follows it without a new enable.
abbrev pub after_protected : List Input
after_protected =
    frame_of (6 ∷ []) ++ frame_of (1 ∷ 4 ∷ []) ++ (does Wait 200 ∷ []) ++ frame_of (6 ∷ []) ++ frame_of (2 ∷ 0xf0 ∷ 18 ∷ [])
    ++ frame_of (2 ∷ 0 ∷ 52 ∷ []) ++ (does Wait 200 ∷ [])

-- the same after a write with the lock not open, after SRWRITE with two data bytes, and after a write with a leftover bit
abbrev pub after_locked : List Input
after_locked = frame_of (6 ∷ []) ++ frame_of (0x32 ∷ 3 ∷ 77 ∷ []) ++ frame_of (2 ∷ 0 ∷ 52 ∷ []) ++ (does Wait 200 ∷ [])

abbrev pub after_two_data : List Input
after_two_data = frame_of (6 ∷ []) ++ frame_of (1 ∷ 12 ∷ 12 ∷ []) ++ frame_of (2 ∷ 0 ∷ 52 ∷ []) ++ (does Wait 200 ∷ [])

abbrev pub after_leftover : List Input
after_leftover = frame_of (6 ∷ []) ++ ragged_frame 1 (2 ∷ 0 ∷ 18 ∷ []) ++ frame_of (2 ∷ 0 ∷ 52 ∷ []) ++ (does Wait 200 ∷ [])

-- the byte that a chip holds at a place after a run from fresh, and the byte that the ledger gives for it
abbrev pub held : Chip → ℕ → List Input → Memory → ℕ → ℕ
held chip part xs m p = get_or (memory_of m (world_after chip part xs (fresh_world part))) p 0

abbrev pub owed : Chip → ℕ → List Input → Memory → ℕ → ℕ
owed chip part xs m p = byte_of 255 m p (ledger_run part (steps_of chip part xs (fresh_world part)) start).entries

-- what a chip holds and what it owes differ at that place, after that run
abbrev pub Differs : Chip → ℕ → List Input → Memory → ℕ → ℕ → ℕ → Type 0
Differs chip part xs m p holds owes = (held chip part xs m p ≡ holds) × (owed chip part xs m p ≡ owes)

-- R3. each wrong chip with the run, the place and the two bytes that refute it
unfoldable pub Refutations : Type 0
Refutations =
    Differs enableless_chip 2 enable_forgotten eeprom 0 52 255
    × Differs deaf_chip 2 whole_case eeprom 0 255 52
    × Differs empty_chip 2 whole_case eeprom 0 255 52
    × Differs maskless_chip 2 cut_with_nothing eeprom 0 52 255
    × Differs lockless_chip 2 lock_forgotten id 3 77 255
    × Differs lapsing_chip 2 after_protected eeprom 0 255 52

-- R3. None of them has demand 3.
pub record WrongChipsFail : Type 0 where
  pub enableless : ¬ DemandThree enableless_chip
  pub deaf : ¬ DemandThree deaf_chip
  pub empty : ¬ DemandThree empty_chip
  pub maskless : ¬ DemandThree maskless_chip
  pub lockless : ¬ DemandThree lockless_chip
  pub lapsing : ¬ DemandThree lapsing_chip

-- our chip on each part: the whole case stores 18 at 07h and 52 at 00h; with the enable forgotten the byte stays FFh; an ID byte is programmed;
-- a write that follows one that came to nothing needs no new enable
abbrev pub Runs : ℕ → Type 0
Runs part =
    (held our_chip part whole_case eeprom 0 ≡ 52)
    × (held our_chip part whole_case eeprom 7 ≡ 18)
    × ((our_chip part Wait 200 (world_after our_chip part (frame_of (6 ∷ []) ++ frame_of (2 ∷ 7 ∷ 18 ∷ 52 ∷ [])) (fresh_world part))).used ≡ 164)
    × (held our_chip part enable_forgotten eeprom 0 ≡ 255)
    × (held our_chip part id_programmed id 3 ≡ 77)
    × (held our_chip part after_protected eeprom 0 ≡ 52)
    × (held our_chip part after_locked eeprom 0 ≡ 52)
    × (held our_chip part after_two_data eeprom 0 ≡ 52)
    × (held our_chip part after_leftover eeprom 0 ≡ 52)

-- R6, W6.
unfoldable pub RunsShown : Type 0
RunsShown = Runs 1 × Runs 2 × Runs 3 × Runs 4
