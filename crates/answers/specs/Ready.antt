-- With which part and record a tape may go on. It stands apart from what speaks of the code's progress, since each progress is of such a pair.
-- Assumes nothing.
use Rattle.std.specs.Prelude.{ℕ, Bool, ◌||◌, eqb}
use Rattle.record.specs.declared.Device.{Device}
use Rattle.record.specs.Part.{size_of, id_size}
use Rattle.refusals.specs.Refusal.{setup_refusal}

-- a part and a record with which a tape may go on: no part, or one of the four with a record in range
unfoldable pub ready : ℕ → Device → Bool
ready part d = eqb part 0 || eqb (setup_refusal part d (size_of part) id_size) 0
