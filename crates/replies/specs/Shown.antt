-- The first bits of a reply as numbers: a second statement beside the contracts, so that code and definition cannot go wrong together.
-- Assumes nothing.
use Rattle.std.specs.Prelude.{ℕ, ◌≡◌, refl, true, false, List, [], ◌∷◌, Option, Some, None}
use Rattle.base.specs.Words.{msb_first}
use Rattle.replies.specs.Reply.{first_bits}

-- what ends with 0 to 7 leftover bits answer of a reply
abbrev pub first_bits_of : Option ℕ → List (Option ℕ)
first_bits_of r =
    first_bits 0 r ∷ first_bits 1 r ∷ first_bits 2 r ∷ first_bits 3 r ∷ first_bits 4 r ∷ first_bits 5 r ∷ first_bits 6 r ∷ first_bits 7 r ∷ []

-- none, then these numbers
abbrev pub numbers : ℕ → ℕ → ℕ → ℕ → ℕ → ℕ → ℕ → List (Option ℕ)
numbers a b c d e f g = None ∷ Some a ∷ Some b ∷ Some c ∷ Some d ∷ Some e ∷ Some f ∷ Some g ∷ []

pub BitsShown : Type 0
BitsShown =
    -- A38. A5h is 1010 0101: 1, 10, 101 and so on; 5Ah is 0101 1010
    (first_bits_of (Some 0xa5) ≡ numbers 1 2 5 10 20 41 82)
    × (first_bits_of (Some 0x5a) ≡ numbers 0 1 2 5 11 22 45)
    -- all ones, the last bit alone, and a driven 0, which is the number 0
    × (first_bits_of (Some 0xff) ≡ numbers 1 3 7 15 31 63 127)
    × (first_bits_of (Some 0x01) ≡ numbers 0 0 0 0 0 0 0)
    × (first_bits_of (Some 0x00) ≡ numbers 0 0 0 0 0 0 0)
    -- SO off is none, however many bits
    × (first_bits_of None ≡ None ∷ None ∷ None ∷ None ∷ None ∷ None ∷ None ∷ None ∷ [])
    -- the order in which bits leave SO: A5h whole, and five bits that make 20
    × (msb_first 8 0xa5 ≡ true ∷ false ∷ true ∷ false ∷ false ∷ true ∷ false ∷ true ∷ [])
    × (msb_first 5 20 ≡ true ∷ false ∷ true ∷ false ∷ false ∷ [])

pub bits_shown : BitsShown
unfolding BitsShown msb_first
bits_shown = (refl, refl, refl, refl, refl, refl, refl, refl)
