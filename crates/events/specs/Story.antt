-- What the chip is to promise over time, said of a list of moves and not of its counts. A list of moves has the newest first.
-- Edges and ticks are told here by the moves, in words of the story's own: of the chip's rules it has only `moved`, and what 0Bh sets.
-- Assumes nothing.
use Rattle.std.specs.Prelude.{ℕ, ◌+◌, ◌<◌, ◌≤◌, ◌≡◌, Bool, true, false, not, ◌&&◌, ◌||◌, List, [], ◌∷◌, ◌++◌, eqb}
use Rattle.base.specs.Words.{flag}
use Rattle.events.specs.declared.Inputs.{Inputs}
use Rattle.events.specs.Control.{evhif, evlif, even1, even0, evwdt}
use Rattle.events.specs.Pins.{drum_set, door_set, control_written}
use Rattle.events.specs.Tick.{events_tick}

-- V15, V16. A move: a level set at EVHS or EVLS, a tick, each with OSCON (set: the move is counted); a write of 0Bh.
pub data Move : Type 0 where
  Drum : Bool → ℕ → Move
  Door : Bool → ℕ → Move
  Tick : Bool → Move
  Write : ℕ → Move

-- the chip's part: what a move and a list of moves leave
abbrev pub moved : Move → Inputs → Inputs
moved (Drum counted level) s = drum_set counted level s
moved (Door counted level) s = door_set counted level s
moved (Tick counted) s = events_tick counted s
moved (Write v) s = control_written v s

unfoldable pub after : Inputs → List Move → Inputs
after s [] = s
after s (m ∷ past) = moved m (after s past)

-- The story's part: levels, edges and ticks as the moves tell them.
abbrev pub drum_in : ℕ → Move → ℕ
drum_in level (Drum counted new) = new
drum_in level (Door counted new) = level
drum_in level (Tick counted) = level
drum_in level (Write v) = level

abbrev pub door_in : ℕ → Move → ℕ
door_in level (Drum counted new) = level
door_in level (Door counted new) = new
door_in level (Tick counted) = level
door_in level (Write v) = level

unfoldable pub drum_after : ℕ → List Move → ℕ
drum_after level [] = level
drum_after level (m ∷ past) = drum_in (drum_after level past) m

unfoldable pub door_after : ℕ → List Move → ℕ
door_after level [] = level
door_after level (m ∷ past) = door_in (door_after level past) m

-- V2. A level is low or high; a rise leaves low, a fall comes to it. These are the story's words: the chip has `rising` and `falling`.
abbrev pub is_low : ℕ → Bool
is_low level = eqb level 0

abbrev pub went_up : ℕ → ℕ → Bool
went_up old new = is_low old && not (is_low new)

abbrev pub went_down : ℕ → ℕ → Bool
went_down old new = not (is_low old) && is_low new

-- with the pin at a level, the move is a counted rise of EVHS; of EVLS; a fall of EVLS, counted or not
abbrev pub drum_rise : ℕ → Move → Bool
drum_rise level (Drum counted new) = went_up level new && counted
drum_rise level (Door counted new) = false
drum_rise level (Tick counted) = false
drum_rise level (Write v) = false

abbrev pub door_rise : ℕ → Move → Bool
door_rise level (Drum counted new) = false
door_rise level (Door counted new) = went_up level new && counted
door_rise level (Tick counted) = false
door_rise level (Write v) = false

abbrev pub door_fall : ℕ → Move → Bool
door_fall level (Drum counted new) = false
door_fall level (Door counted new) = went_down level new
door_fall level (Tick counted) = false
door_fall level (Write v) = false

abbrev pub ticking : Move → Bool
ticking (Drum counted new) = false
ticking (Door counted new) = false
ticking (Tick counted) = counted
ticking (Write v) = false

abbrev pub writing : Move → Bool
writing (Drum counted new) = false
writing (Door counted new) = false
writing (Tick counted) = false
writing (Write v) = true

-- how many counted rises of EVHS, from a level on; how many counted ticks; whether EVLS fell; whether 0Bh was written
unfoldable pub rises : ℕ → List Move → ℕ
rises level [] = 0
rises level (m ∷ past) = rises level past + flag (drum_rise (drum_after level past) m)

unfoldable pub ticks : List Move → ℕ
ticks [] = 0
ticks (m ∷ past) = ticks past + flag (ticking m)

unfoldable pub fell : ℕ → List Move → Bool
fell level [] = false
fell level (m ∷ past) = fell level past || door_fall (door_after level past) m

unfoldable pub written : List Move → Bool
written [] = false
written (m ∷ past) = written past || writing m

-- V6, V15. No window is open: nothing came yet; or none was open and the move is no counted rise; or the move is the 8,193rd counted tick
-- since the first edge of one.
pub data Closed (level : ℕ) : List Move → Type 0 where
  none : Closed level []
  still : {m : Move} {past : List Move} → Closed level past → drum_rise (drum_after level past) m ≡ false → Closed level (m ∷ past)
  beyond :
      {m : Move} (first : Move) (later earlier : List Move) → Closed level earlier → drum_rise (drum_after level earlier) first ≡ true
      → ticks later ≡ 8192 → ticking m ≡ true → Closed level (m ∷ (later ++ (first ∷ earlier)))

-- V15. A window of n edges: a counted rise where none was open, the others since, and no more than 8,192 counted ticks between.
pub record Window (level n : ℕ) (past : List Move) : Type 0 where
  pub later : List Move
  pub first : Move
  pub earlier : List Move
  pub whole : past ≡ later ++ (first ∷ earlier)
  pub opened : Closed level earlier
  pub rose : drum_rise (drum_after level earlier) first ≡ true
  pub count : rises (drum_after level (first ∷ earlier)) later + 1 ≡ n
  pub within : ticks later ≤ 8192

-- V16. A counted rise of EVLS, no fall since, and n counted ticks since.
pub record Steady (level n : ℕ) (past : List Move) : Type 0 where
  pub later : List Move
  pub first : Move
  pub earlier : List Move
  pub whole : past ≡ later ++ (first ∷ earlier)
  pub rose : door_rise (door_after level earlier) first ≡ true
  pub held : fell (door_after level (first ∷ earlier)) later ≡ false
  pub count : ticks later ≡ n

-- V15, V16. Where nothing is counted yet, as a write of 0Bh leaves it: enabled, the flag clear, the counts 0. From any record: Beginning.
pub record HighReady (s : Inputs) : Type 0 where
  pub byte : s.control < 256
  pub enabled : even1 s.control ≡ true
  pub event : evwdt s.control ≡ false
  pub clear : evhif s.control ≡ false
  pub edges : s.events.edges ≡ 0
  pub since : s.events.since ≡ 0

pub record LowReady (s : Inputs) : Type 0 where
  pub byte : s.control < 256
  pub enabled : even0 s.control ≡ true
  pub clear : evlif s.control ≡ false
  pub debounce : s.events.debounce ≡ 0

-- V1. The moves that acts bring: levels 0 and 1, bytes written.
pub data Allowed : Move → Type 0 where
  drum : {counted : Bool} {level : ℕ} → level ≤ 1 → Allowed (Drum counted level)
  door : {counted : Bool} {level : ℕ} → level ≤ 1 → Allowed (Door counted level)
  tick : {counted : Bool} → Allowed (Tick counted)
  write : {v : ℕ} → v < 256 → Allowed (Write v)

pub data Each : List Move → Type 0 where
  end : Each []
  more : {m : Move} {past : List Move} → Allowed m → Each past → Each (m ∷ past)
