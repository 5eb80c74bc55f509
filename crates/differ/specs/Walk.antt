-- How code compares two lists of numbers: row by row of the table, each row as far as both lists have it, with a place in each list. And how it lists: a line more is put
-- where all before it were and it fits. It is no rule; no law ties it to the definitions yet.
-- Assumes nothing.
use Rattle.std.specs.Prelude.{ℕ, zero, suc, ◌+◌, ◌-◌, Bool, true, false, ◌&&◌, List, [], ◌∷◌, ◌++◌, leb, length, take}
use Rattle.std.proofs.lemmas.List.Edits.{sets}
use Rattle.base.specs.Words.{pick}
use Rattle.form.specs.Table.{Row, key_of, span, numbers_at}
use Rattle.differ.specs.Differ.{Difference, line_differs, difference_text}

-- the smaller of two
unfoldable pub fewer : ℕ → ℕ → ℕ
fewer a b = pick (leb a b) a b

-- n lines of a row from line i on, which begin at place k of the first list and at l of the second; and all rows
unfoldable pub row_differs : Row → ℕ → ℕ → ℕ → ℕ → List ℕ → List ℕ → List Difference
row_differs r zero i k l ns ms = []
row_differs r (suc n) i k l ns ms =
    line_differs (key_of r i) 0 (numbers_at r k ns) (numbers_at r l ms) ++ row_differs r n (suc i) (k + r.width) (l + r.width) ns ms

unfoldable pub rows_differ : List Row → ℕ → ℕ → List ℕ → List ℕ → List Difference
rows_differ [] k l ns ms = []
rows_differ (r ∷ rs) k l ns ms =
    row_differs r (fewer (r.lines (take k ns)) (r.lines (take l ms))) 0 k l ns ms
    ++ rows_differ rs (k + span r (take k ns)) (l + span r (take l ms)) ns ms

-- a listing so far: the room, how many of its bytes are listed, how many differences were met, and whether all of them are listed
pub record Listing : Type 0 where
  pub room : List ℕ
  pub at : ℕ
  pub count : ℕ
  pub whole : Bool

abbrev pub listing_at : List ℕ → ℕ → ℕ → Bool → Listing
listing_at room at count whole = record { room = room; at = at; count = count; whole = whole }

-- one difference more
unfoldable pub listed_one : Listing → Difference → Listing
listed_one s d =
    let text = difference_text d in
    pick (s.whole && leb (length text) (length s.room - s.at))
    (listing_at (sets s.room s.at text) (s.at + length text) (suc s.count) true)
    (listing_at s.room s.at (suc s.count) false)

unfoldable pub listed_all : Listing → List Difference → Listing
listed_all s [] = s
listed_all s (d ∷ ds) = listed_all (listed_one s d) ds
