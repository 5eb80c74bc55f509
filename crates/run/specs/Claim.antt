-- Demand 3: after every list of acts from a fresh chip each EEPROM and ID byte is the ledger's. It is a predicate of any chip, so that a
-- wrong one can be refuted by it. The ledger is told the part, the acts with their arguments and the ticks that each wait used, and
-- nothing of the chip's record.
-- Assumes nothing.
use Rattle.std.specs.Prelude.{ℕ, ◌<◌, ◌≡◌, true, List, [], ◌∷◌, ◌++◌, get_or}
use Rattle.record.specs.declared.Act.{Act}
use Rattle.record.specs.declared.Act.TheVariants.{Select, Byte, End, Wait, Cut, Up, Set}
use Rattle.record.specs.Part.{is_part, size_of, id_size}
use Rattle.record.specs.World.{World, fresh_world}
use Rattle.acts.specs.Act.{performed}
use Rattle.ledger.specs.State.{Step, Memory, eeprom, id, Ledger, start}
use Rattle.ledger.specs.Bytes.{byte_of}
use Rattle.ledger.specs.Steps.{ledger_run}

-- an act with its argument, any number
pub record Input : Type 0 where
  pub act : Act
  pub arg : ℕ

-- what a chip's step gives: the ticks that a wait used, 0 for another act, and the chip with its memories
pub record Stepped : Type 0 where
  pub used : ℕ
  pub after : World

-- any chip: from a part, an act, its argument, and the chip with its memories
abbrev pub Chip : Type 0
Chip = ℕ → Act → ℕ → World → Stepped

-- the ticks that an act used, of the count that it is answered: a refused wait's count is 0
abbrev pub used_by : Act → ℕ → ℕ
used_by Select count = 0
used_by Byte count = 0
used_by End count = 0
used_by Wait count = count
used_by Cut count = 0
used_by Up count = 0
used_by (Set p) count = 0

-- our chip: the definition that `perform` is proved equal to
unfoldable pub our_chip : Chip
our_chip part act arg w = record { used = used_by act (performed part act arg w).count; after = (performed part act arg w).after }

-- L1. What the ledger is told of an act, its argument and the ticks that it used: one step, as the ledger names it. V19. Of a pin it is told nothing.
abbrev one : Rattle.ledger.specs.State.Act → ℕ → ℕ → List Step
one act arg used = record { act = act; arg = arg; used = used } ∷ []

abbrev pub told : Act → ℕ → ℕ → List Step
told Select = one Rattle.ledger.specs.State.select
told Byte = one Rattle.ledger.specs.State.byte
told End = one Rattle.ledger.specs.State.end
told Wait = one Rattle.ledger.specs.State.wait
told Cut = one Rattle.ledger.specs.State.cut
told Up = one Rattle.ledger.specs.State.up
told (Set p) = λ arg used. []

-- the chip with its memories after a list of acts
unfoldable pub world_after : Chip → ℕ → List Input → World → World
world_after chip part [] w = w
world_after chip part (x ∷ xs) w = world_after chip part xs (chip part x.act x.arg w).after

-- L1. what the ledger is told of it
unfoldable pub steps_of : Chip → ℕ → List Input → World → List Step
steps_of chip part [] w = []
steps_of chip part (x ∷ xs) w =
    told x.act x.arg (chip part x.act x.arg w).used ++ steps_of chip part xs (chip part x.act x.arg w).after

-- a memory and its size
abbrev pub memory_of : Memory → World → List ℕ
memory_of eeprom w = w.eeprom
memory_of id w = w.id

abbrev pub memory_size : Memory → ℕ → ℕ
memory_size eeprom part = size_of part
memory_size id part = id_size

-- each byte of both memories is the one that the ledger gives for its place, else FFh
abbrev pub Accounted : ℕ → World → Ledger → Type 0
Accounted part w l = (m : Memory) (p : ℕ) → p < memory_size m part → get_or (memory_of m w) p 0 ≡ byte_of 255 m p l.entries

-- the chip with its memories after any list of acts from fresh
abbrev pub reached : ℕ → List Input → World
reached part xs = world_after our_chip part xs (fresh_world part)

-- R1, W12, W13. Demand 3, of any chip: one claim about every list of acts, on every part, refused acts among them.
unfoldable pub DemandThree : Chip → Type 0
DemandThree chip =
    (part : ℕ) → is_part part ≡ true → (xs : List Input)
    → Accounted part (world_after chip part xs (fresh_world part)) (ledger_run part (steps_of chip part xs (fresh_world part)) start)
