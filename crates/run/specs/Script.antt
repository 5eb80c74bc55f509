-- Acts written short: an act with its argument, and a whole frame. They say nothing of the chip.
-- Assumes nothing.
use Rattle.std.specs.Prelude.{ℕ, List, [], ◌∷◌}
use Rattle.record.specs.declared.Act.{Act}
use Rattle.record.specs.declared.Act.TheVariants.{Select, Byte, End}
use Rattle.run.specs.Claim.{Input}

abbrev pub does : Act → ℕ → Input
does act arg = record { act = act; arg = arg }

-- the bytes of a frame, then its end with that many leftover bits
unfoldable pub sent : ℕ → List ℕ → List Input
sent leftover [] = does End leftover ∷ []
sent leftover (b ∷ bs) = does Byte b ∷ sent leftover bs

-- a frame with leftover bits, and a whole one
abbrev pub ragged_frame : ℕ → List ℕ → List Input
ragged_frame leftover bs = does Select 0 ∷ sent leftover bs

abbrev pub frame_of : List ℕ → List Input
frame_of bs = ragged_frame 0 bs
