-- The words that every definition shares: choice by a test, a test of every number below a bound, bits, BCD, a store under a set.
-- They are no rule of any chip: no number of one stands here.
-- Assumes nothing.
use Rattle.std.specs.Prelude.{ℕ, zero, suc, ◌+◌, ◌*◌, ◌/◌, ◌%◌, ◌^◌, Bool, true, false, not, ◌&&◌, ◌||◌, List, [], ◌∷◌, ◌++◌, leb, eqb, length, get_or, set, drop}

-- the first where the test holds, else the second
abbrev pub pick : {A : Type 0} → Bool → A → A → A
pick true a b = a
pick false a b = b

-- f holds at each number below n
unfoldable pub every : (ℕ → Bool) → ℕ → Bool
every f zero = true
every f (suc n) = every f n && f n

-- bit k of a number
abbrev pub bit : ℕ → ℕ → Bool
bit b k = eqb (b / 2 ^ k % 2) 1

-- the lowest n bits of a number, the most significant first
unfoldable pub msb_first : ℕ → ℕ → List Bool
msb_first zero b = []
msb_first (suc n) b = bit b n ∷ msb_first n b

-- the number that is 1 where the test holds, else 0
abbrev pub flag : Bool → ℕ
flag b = pick b 1 0

-- both digits of a BCD byte are decimal
abbrev pub is_bcd : ℕ → Bool
is_bcd x = leb (x / 16) 9 && leb (x % 16) 9

-- the value of a BCD byte, and the BCD byte of a value below 100
abbrev pub bcd_value : ℕ → ℕ
bcd_value x = x / 16 * 10 + x % 16

abbrev pub bcd_byte : ℕ → ℕ
bcd_byte v = v / 10 * 16 + v % 10

-- how many of the numbers below n are in the set s, a number whose bit k is set where k is in it
unfoldable pub members : ℕ → ℕ → ℕ
members s zero = 0
members s (suc n) = members s n + flag (bit s n)

-- the memory m in which, for each offset below n in the set s, the byte at base + offset is that of bytes
unfoldable pub store_under : List ℕ → ℕ → ℕ → List ℕ → ℕ → List ℕ
store_under m base s bytes zero = m
store_under m base s bytes (suc n) =
    pick (bit s n) (set (store_under m base s bytes n) (base + n) (get_or bytes n 0)) (store_under m base s bytes n)

-- a list whose start is replaced by another list; what lies behind that stays
abbrev pub over : List ℕ → List ℕ → List ℕ
over xs l = xs ++ drop (length xs) l

-- at how many places a list differs from another of its length
unfoldable pub changes : List ℕ → List ℕ → ℕ
changes [] l = 0
changes (x ∷ m) [] = 0
changes (x ∷ m) (y ∷ l) = flag (not (eqb x y)) + changes m l

-- of pairs of a key and its value, the value of the first whose key passes the test, and the last value where none does
abbrev pub first_of : {K A : Type 0} → (K → Bool) → List (K × A) → A → A
first_of test [] last = last
first_of test (c ∷ cs) last = pick (test c.0) c.1 (first_of test cs last)

-- every member of a list passes the test
abbrev pub all_of : {A : Type 0} → (A → Bool) → List A → Bool
all_of test [] = true
all_of test (x ∷ xs) = test x && all_of test xs

-- some test of a list holds; they are joined from the left
abbrev pub any_after : Bool → List Bool → Bool
any_after t [] = t
any_after t (u ∷ us) = any_after (t || u) us

abbrev pub any_of : List Bool → Bool
any_of [] = false
any_of (t ∷ ts) = any_after t ts
