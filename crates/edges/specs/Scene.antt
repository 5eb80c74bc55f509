-- How edges and witnesses are written: a run from a world, and what the bytes of a frame are answered. No rule stands here.
-- Assumes nothing.
use Rattle.std.specs.Prelude.{ℕ, List, [], ◌∷◌, replicate, Option}
use Rattle.record.specs.declared.Act.TheVariants.{Select, Byte, Wait}
use Rattle.record.specs.declared.Counters.{Counters}
use Rattle.record.specs.declared.Device.{Device}
use Rattle.record.specs.Scene.{chip}
use Rattle.record.specs.World.{World, world}
use Rattle.acts.specs.Act.{performed}
use Rattle.run.specs.Claim.{Input, our_chip, world_after}
use Rattle.run.specs.Script.{does}

-- the world after a list of acts
unfoldable pub after : ℕ → List Input → World → World
after part xs w = world_after our_chip part xs w

abbrev pub waiting : ℕ → List Input
waiting n = does Wait n ∷ []

-- what the bytes of a frame are answered that come after its first ones
unfoldable pub bytes_answered : ℕ → List ℕ → World → List (Option ℕ)
bytes_answered part [] w = []
bytes_answered part (b ∷ bs) w = (performed part Byte b w).reply ∷ bytes_answered part bs (performed part Byte b w).after

unfoldable pub after_bytes : ℕ → List ℕ → World → World
after_bytes part [] w = w
after_bytes part (b ∷ bs) w = after_bytes part bs (performed part Byte b w).after

-- a frame up to its end
abbrev pub sent_in : ℕ → List ℕ → World → World
sent_in part bs w = after_bytes part bs (performed part Select 0 w).after

unfoldable pub replies : ℕ → List ℕ → List ℕ → World → List (Option ℕ)
replies part first bs w = bytes_answered part bs (sent_in part first w)

-- the chip with the memories of a 1 Kbit part, every byte FFh
abbrev pub lent : Device → World
lent d = world d (replicate 128 255) (replicate 16 255)

abbrev pub scene : List ℕ → Counters → World
scene regs c = lent (chip regs c)
