-- What leftover bits are beside the exchange that an end broke off: in words apart from how they are taken.
-- Assumes nothing.
use Rattle.std.specs.Prelude.{ℕ, ◌-◌, ◌^◌, ◌<◌, ◌≡◌, ◌++◌, Option, Some, None}
use Rattle.base.specs.Words.{msb_first}

-- A38. The replies of a whole exchange and of an end with k leftover bits in its place. Where both drive, the eight bits of the exchange, in the order
-- in which they leave SO, are the k bits of the end's number, which has no more, and the rest. The end's is none exactly if k is 0 or the exchange's is.
abbrev pub BrokenOff : ℕ → Option ℕ → Option ℕ → Type 0
BrokenOff k (Some b) (Some n) = (0 < k) × (n < 2 ^ k) × (msb_first 8 b ≡ msb_first k n ++ msb_first (8 - k) b)
BrokenOff k (Some b) None = k ≡ 0
BrokenOff k None (Some n) = ⊥
BrokenOff k None None = Unit {0}
