-- A saved form, whatever it saves: lines in an order, where the lines read so far tell which line comes next and which numbers are good for it, and,
-- after the last, what was read. At a place it may end before its last line. With it the words for a text: it saves a value, its lines begin something that is saved, its first bad line.
-- Assumes nothing.
use Rattle.std.specs.Prelude.{ℕ, suc, ◌<◌, ◌≡◌, ◌⊎◌, ◌↔◌, Bool, true, false, List, [], ◌∷◌, ◌++◌, length, take}
use Rattle.std.proofs.Math.Option.{Option, none, some}
use Rattle.base.specs.Words.{pick}
use Rattle.form.specs.Lines.{line_text, read_line, lines_in, joined, unbroken}

-- a line: its key, the test of its numbers, and the form after it, by its numbers; S11. it may end here, and then stands for this, or goes on
pub data Form (A : Type 0) : Type 0 where
  done : A → Form A
  line : List ℕ → (List ℕ → Bool) → (List ℕ → Form A) → Form A
  may_end : A → Form A → Form A

-- what the numbers of all lines, a list for each line, stand for; none where a test refuses them
unfoldable pub taken : {A : Type 0} → Form A → List (List ℕ) → Option A
taken (done a) [] = some a
taken (done a) (x ∷ xs) = none
taken (line key test next) [] = none
taken (line key test next) (x ∷ xs) = pick (test x) (taken (next x) xs) none
taken (may_end a f) [] = some a
taken (may_end a f) (x ∷ xs) = taken f (x ∷ xs)

-- their lines
unfoldable pub texts : {A : Type 0} → Form A → List (List ℕ) → List (List ℕ)
texts (done a) xs = []
texts (line key test next) [] = []
texts (line key test next) (x ∷ xs) = line_text key x ∷ texts (next x) xs
texts (may_end a f) xs = texts f xs

-- what a file gives: what was saved, or the number of the first bad line, from 1
pub data Loaded (A : Type 0) : Type 0 where
  loaded : A → Loaded A
  bad : ℕ → Loaded A

abbrev pub later : {A : Type 0} → Loaded A → Loaded A
later (loaded a) = loaded a
later (bad n) = bad (suc n)

abbrev pub on_line : {A : Type 0} → Option (List ℕ) → (List ℕ → Bool) → (List ℕ → Loaded A) → Loaded A
on_line none test go = bad 1
on_line (some x) test go = pick (test x) (later (go x)) (bad 1)

-- line by line
unfoldable pub judged : {A : Type 0} → Form A → List (List ℕ) → Loaded A
judged (done a) [] = loaded a
judged (done a) (p ∷ ps) = bad 1
judged (line key test next) [] = bad 1
judged (line key test next) (p ∷ ps) = on_line (read_line key p) test (λ (x : List ℕ). judged (next x) ps)
judged (may_end a f) [] = loaded a
judged (may_end a f) (p ∷ ps) = judged f (p ∷ ps)

-- a text loaded
unfoldable pub load : {A : Type 0} → Form A → List ℕ → Loaded A
load f text = judged f (lines_in text)

-- these lines are those of something that the form saves
pub record Saves {A : Type 0} (f : Form A) (ps : List (List ℕ)) : Type 0 where
  pub numbers : List (List ℕ)
  pub value : A
  pub good : taken f numbers ≡ some value
  pub lines : texts f numbers ≡ ps

-- these lines are the first of something that the form saves
pub record Begins {A : Type 0} (f : Form A) (ps : List (List ℕ)) : Type 0 where
  pub rest : List (List ℕ)
  pub whole : Saves f (ps ++ rest)

-- k lines are good, and the line after them is bad: nothing saved has it after them; or there is none, and the file is short
pub record FirstBad {A : Type 0} (f : Form A) (ps : List (List ℕ)) (k : ℕ) : Type 0 where
  pub before : Begins f (take k ps)
  pub after : ((k < length ps) × ¬ Begins f (take (suc k) ps)) ⊎ ((k ≡ length ps) × ¬ Saves f ps)

-- A form that can be told line by line: no key has a newline, no line is without numbers, and whatever good lines came before, some numbers are good
-- for the next.
pub record Lively (key : List ℕ) (test : List ℕ → Bool) (Next : List ℕ → Type 0) : Type 0 where
  pub keyed : unbroken key ≡ true
  pub some_number : test [] ≡ false
  pub filler : List ℕ
  pub filled : test filler ≡ true
  pub onwards : (x : List ℕ) → test x ≡ true → Next x

unfoldable pub Live : {A : Type 0} → Form A → Type 0
Live (done a) = Unit {0}
Live (line key test next) = Lively key test (λ (x : List ℕ). Live (next x))
Live (may_end a f) = Live f

-- this text saves this value
pub record Saved {A : Type 0} (f : Form A) (text : List ℕ) (a : A) : Type 0 where
  pub numbers : List (List ℕ)
  pub good : taken f numbers ≡ some a
  pub bytes : text ≡ joined (texts f numbers)

-- What is claimed of loading, for every text: it gives a value exactly where the text saves it; it gives a number exactly where that is the number of
-- the first bad line, from 1.
pub record LoadsRight {A : Type 0} (f : Form A) : Type 0 where
  pub value : (text : List ℕ) (a : A) → (load f text ≡ loaded a) ↔ Saved f text a
  pub refused : (text : List ℕ) (k : ℕ) → (load f text ≡ bad (suc k)) ↔ FirstBad f (lines_in text) k
  pub counted : (text : List ℕ) → load f text ≡ bad 0 → ⊥
