-- A frame as it comes: a select, then bytes and waits in any order; and our chip before its end. No rule stands here.
-- Assumes nothing.
use Rattle.std.specs.Prelude.{ℕ, ◌<◌, Bool, true, false, List, [], ◌∷◌}
use Rattle.record.specs.declared.Act.TheVariants.{Select, Byte, Wait}
use Rattle.record.specs.World.{World}
use Rattle.acts.specs.Act.{performed}
use Rattle.run.specs.Claim.{Input, our_chip, world_after}
use Rattle.run.specs.Script.{does}

-- what comes in a frame: bytes and waits
pub data Piece : Type 0 where
  byte : ℕ → Piece
  wait : ℕ → Piece

abbrev pub acts_of : List Piece → List Input
acts_of [] = []
acts_of (byte b ∷ ps) = does Byte b ∷ acts_of ps
acts_of (wait n ∷ ps) = does Wait n ∷ acts_of ps

-- every byte is one; a wait may ask for any number
abbrev pub WholeBytes : List Piece → Type 0
WholeBytes [] = Unit {0}
WholeBytes (byte b ∷ ps) = (b < 256) × WholeBytes ps
WholeBytes (wait n ∷ ps) = WholeBytes ps

-- a byte came
abbrev pub some_byte : List Piece → Bool
some_byte [] = false
some_byte (byte b ∷ ps) = true
some_byte (wait n ∷ ps) = some_byte ps

-- the chip before the end of a frame
abbrev pub framed : ℕ → List Piece → World → World
framed part ps w = world_after our_chip part (acts_of ps) (performed part Select 0 w).after
