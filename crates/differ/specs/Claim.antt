-- What is claimed of comparing, for every two chips in range, all texts that stand for them, and every room. Read this first. It is not proved yet.
-- It speaks of the texts' own lines: neither the table nor the code's walk is in it.
-- Assumes nothing.
use Rattle.std.specs.Prelude.{ℕ, zero, suc, ◌<◌, ◌≤◌, ◌≡◌, ◌⊎◌, ◌↔◌, ◌≢◌, List, [], ◌∷◌, length, take, get_or}
use Rattle.std.proofs.Math.Option.{some}
use Rattle.record.specs.World.{World}
use Rattle.form.specs.Lines.{read_line, lines_in, joined}
use Rattle.form.specs.Chip.{numbers_of, saved_text, Sound}
use Rattle.form.specs.Claim.{TextOf, BadAfter}
use Rattle.form.specs.Save.{loads}
use Rattle.differ.specs.Differ.{Difference, differences, listing, refused_text, put, differs}

-- this stands at place n of a list, from 0
unfoldable pub At : {A : Type 0} → List A → ℕ → A → Type 0
At [] n a = ⊥
At (b ∷ bs) zero a = a ≡ b
At (b ∷ bs) (suc n) a = At bs n a

-- S13. A number stands in a text: line n, from 0, is one of this key, and has the number at this place, from 0.
pub record Stands (text : List ℕ) (n : ℕ) (key : List ℕ) (place number : ℕ) : Type 0 where
  pub line : List ℕ
  pub in_text : At (lines_in text) n line
  pub numbers : List ℕ
  pub reads : read_line key line ≡ some numbers
  pub within : place < length numbers
  pub there : get_or numbers place 0 ≡ number

-- S13. Two texts differ: both have a number of this key and place, these two, and they are not the same.
pub record Differ (a b : List ℕ) (d : Difference) : Type 0 where
  pub line : ℕ
  pub first : Stands a line d.key d.place d.first
  pub other : ℕ
  pub second : Stands b other d.key d.place d.second
  pub apart : d.first ≢ d.second

-- S13. the one stands before the other in a text: on an earlier line, or on the same line at an earlier place
abbrev pub Before : List ℕ → Difference → Difference → Type 0
Before text d e =
    (n m : ℕ) → Stands text n d.key d.place d.first → Stands text m e.key e.place e.first → (n < m) ⊎ ((n ≡ m) × (d.place < e.place))

-- S15. The longest beginning of lines that fits into so much room: some of the first lines, whole; they fit, and no more of them do.
pub record Longest (lines : List (List ℕ)) (room : ℕ) (text : List ℕ) : Type 0 where
  pub many : ℕ
  pub there : many ≤ length lines
  pub whole : joined (take many lines) ≡ text
  pub fits : length text ≤ room
  pub longest : (k : ℕ) → k ≤ length lines → length (joined (take k lines)) ≤ room → k ≤ many

-- a text is good: it stands for a chip in range
abbrev pub GoodText : List ℕ → Type 0
GoodText text = (part : ℕ) × ((w : World) × (Sound part w × TextOf part w text))

-- Two chips in range: what differs between them, listed in full.
module _ (part : ℕ) (w : World) (part' : ℕ) (w' : World) where
  abbrev pub all : List Difference
  all = differences (numbers_of part w) (numbers_of part' w')

  pub record DiffersOf : Type 0 where
    -- listed is exactly each place at which their texts have different numbers
    pub exactly : (d : Difference) → ((n : ℕ) × At all n d) ↔ Differ (saved_text part w) (saved_text part' w') d
    -- in the order of the first chip's text, so none twice
    pub ordered : (n m : ℕ) → n < m → (d e : Difference) → At all n d → At all m e → Before (saved_text part w) d e
    -- whichever texts stand for them, the answer counts all of it, and lists the longest beginning that fits
    pub answered :
        (a b room : List ℕ) → TextOf part w a → TextOf part' w' b
        → (text : List ℕ) × (Longest (listing all) (length room) text × (differs a b room ≡ put (length all) text room))
    -- nothing differs exactly if the two are one chip
    pub alike : (length all ≡ 0) ↔ ((part ≡ part') × (w ≡ w'))

-- R24. For every two chips in range, and for all texts.
pub record DiffersRight : Type 0 where
  pub chips : (part : ℕ) (w : World) (part' : ℕ) (w' : World) → Sound part w → Sound part' w' → DiffersOf part w part' w'
  -- a bad text is refused by 8 with its first bad line, and nothing is written; the first before the second, whatever that is
  pub first_bad : (a b room : List ℕ) (k : ℕ) → (differs a b room ≡ refused_text 1 (suc k) room) ↔ BadAfter (lines_in a) k
  pub second_bad : (a b room : List ℕ) (k : ℕ) → (differs a b room ≡ refused_text 2 (suc k) room) ↔ (GoodText a × BadAfter (lines_in b) k)
  -- nothing else is refused: two texts are compared exactly if both are good
  pub both : (a b room : List ℕ) → ((differs a b room).number ≡ 0) ↔ (GoodText a × GoodText b)
  -- two good texts differ in nothing exactly if they load alike, whatever was there before
  pub same_load :
      (a b room : List ℕ) → (differs a b room).number ≡ 0
      → ((differs a b room).count ≡ 0) ↔ ((part : ℕ) (w : World) → loads a part w ≡ loads b part w)
