-- Words over lists of bytes: the bytes of a plain text, how far a list agrees with a word, how many of its first bytes are of a kind, and the
-- look-up of a thing by its word. They are no rule of a tape.
-- Assumes nothing.
use Rattle.std.specs.Prelude.{ℕ, suc, ◌≡◌, Bool, true, not, ◌&&◌, Option, Some, None, List, [], ◌∷◌, ◌⊎◌, leb, eqb, length}
use Prim.Native.Char.{code}
use Prim.Native.String.{String, [] as none, ◌∷◌ as ◌then◌}
use Rattle.base.specs.Words.{pick, all_of}
use Rattle.text.specs.declared.Kind.{Kind}
use Rattle.text.specs.declared.Kind.TheVariants.{Letter, Digit, Plain}

-- the bytes of a text of plain characters, whose codes lie below 80h and are their bytes
abbrev pub bytes_of : String → List ℕ
bytes_of none = []
bytes_of (c then s) = code c ∷ bytes_of s

-- how many of the first bytes of s are those of the word, in its order, up to the first that is not
unfoldable pub agreed : List ℕ → List ℕ → ℕ
agreed [] s = 0
agreed (w ∷ word) [] = 0
agreed (w ∷ word) (b ∷ s) = pick (eqb b w) (suc (agreed word s)) 0

-- s begins with the word
abbrev pub begins : List ℕ → List ℕ → Bool
begins word s = eqb (agreed word s) (length word)

-- s is the word
abbrev pub is_word : List ℕ → List ℕ → Bool
is_word word s = eqb (length s) (length word) && begins word s

-- how many of the first bytes of s are of a kind, up to the first that is not
unfoldable pub leading : (ℕ → Bool) → List ℕ → ℕ
leading kind [] = 0
leading kind (b ∷ s) = pick (kind b) (suc (leading kind s)) 0

-- a byte from low to high
abbrev pub between : ℕ → ℕ → ℕ → Bool
between low high b = leb low b && leb b high

-- `a` to `z`
abbrev pub letter : ℕ → Bool
letter b = between 0x61 0x7a b

-- `0` to `9`
abbrev pub digit : ℕ → Bool
digit b = between 0x30 0x39 b

abbrev pub newline : ℕ
newline = 0x0a

-- a byte that ends no line
abbrev pub plain : ℕ → Bool
plain b = not (eqb b newline)

abbrev pub of_kind : Kind → ℕ → Bool
of_kind Letter = letter
of_kind Digit = digit
of_kind Plain = plain

-- what stands beside the first word that s is, if it is one
unfoldable pub found : {A : Type 0} → List (String × A) → List ℕ → Option A
found [] s = None
found (row ∷ rows) s = pick (is_word (bytes_of row.0) s) (Some row.1) (found rows s)

-- s is a word of the list, and x stands beside it
unfoldable pub Listed : {A : Type 0} → List (String × A) → List ℕ → A → Type 0
Listed [] s x = ⊥
Listed (row ∷ rows) s x = ((s ≡ bytes_of row.0) × (x ≡ row.1)) ⊎ Listed rows s x

-- a test holds of every row
unfoldable pub all_rows : {A : Type 0} → (List ℕ → A → Bool) → List (String × A) → Bool
all_rows test rows = all_of (λ row. test (bytes_of row.0) row.1) rows

-- no word stands twice
unfoldable pub apart : {A : Type 0} → List (String × A) → Bool
apart [] = true
apart (row ∷ rows) = all_rows (λ word x. not (is_word (bytes_of row.0) word)) rows && apart rows
