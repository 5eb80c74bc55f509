-- What is claimed of saving and loading, for every text and every chip in range. Read this first; it is proved in proofs/SavedLaws.
-- Assumes nothing.
use Rattle.std.specs.Prelude.{ℕ, suc, ◌<◌, ◌≤◌, ◌≡◌, ◌⊎◌, ◌↔◌, true, List, [], ◌∷◌, ◌++◌, length, take}
use Rattle.record.specs.declared.Act.{Act}
use Rattle.record.specs.Part.{is_part, size_of, id_size}
use Rattle.record.specs.Fresh.{fresh_events}
use Rattle.record.specs.Setters.{with_events}
use Rattle.record.specs.World.{World, moved}
use Rattle.refusals.specs.InRange.{InRange}
use Rattle.refusals.specs.Refusal.{refusal_of}
use Rattle.form.specs.Lines.{lines_in, lined}
use Rattle.form.specs.Chip.{saved_text, older_text, Sound}
use Rattle.form.specs.Save.{saves, written, not_saved, loads, loading}

-- S11. the chip that an older text stands for: its event inputs are at 0
abbrev pub stilled : World → World
stilled w = moved w (with_events w.device fresh_events)

-- S11. the lines of event inputs at 0
abbrev pub still_lines : List ℕ
still_lines = lined ("evls=0" ∷ "evhs=0" ∷ "edges=0" ∷ "since=0" ∷ "debounce=0" ∷ [])

-- S8, S11. The texts that stand for a chip: today's; and the older one, which ends before the event lines, where its event inputs are at 0.
pub data TextOf (part : ℕ) (w : World) (text : List ℕ) : Type 0 where
  today : saved_text part w ≡ text → TextOf part w text
  older : w.device.events ≡ fresh_events → older_text part w ≡ text → TextOf part w text

-- S8. these lines are the first lines of a chip in range
pub record Begun (ps : List (List ℕ)) : Type 0 where
  pub part : ℕ
  pub chip : World
  pub in_range : Sound part chip
  pub text : List ℕ
  pub stands : TextOf part chip text
  pub rest : List (List ℕ)
  pub lines : lines_in text ≡ ps ++ rest

-- S8. and these are all its lines
pub record Entire (ps : List (List ℕ)) : Type 0 where
  pub part : ℕ
  pub chip : World
  pub in_range : Sound part chip
  pub text : List ℕ
  pub stands : TextOf part chip text
  pub lines : lines_in text ≡ ps

-- S8. Line k + 1 is the first bad one: some chip in range has the k lines before it, and none has the first k + 1; or there are k lines in all, and they are all lines of
-- none.
pub record BadAfter (ps : List (List ℕ)) (k : ℕ) : Type 0 where
  pub before : Begun (take k ps)
  pub after : ((k < length ps) × ¬ Begun (take (suc k) ps)) ⊎ ((k ≡ length ps) × ¬ Entire ps)

-- the lent memories have the lengths of a part
abbrev pub Room : ℕ → World → Type 0
Room part v = (length v.eeprom ≡ size_of part) × (length v.id ≡ id_size)

-- R20. For every part, chip in range and text; q and v are the part and the chip that are there before a load, whatever they are.
pub record SavedRight : Type 0 where
  -- a chip in range is saved wherever its text has room
  pub saved : (part : ℕ) (w : World) (room : List ℕ) → Sound part w → length (saved_text part w) ≤ length room → saves part w room ≡ written (saved_text part w) room
  -- 8 where it has none, and nothing is written
  pub cramped : (part : ℕ) (w : World) (room : List ℕ) → Sound part w → length room < length (saved_text part w) → saves part w room ≡ not_saved 8 room
  -- what is no chip in range is refused by the number that every act on it is refused by, and nothing is written
  pub unsaved :
      (part : ℕ) (w : World) (room : List ℕ) → ¬ ((is_part part ≡ true) × InRange part w.device × Room part w) → (act : Act) (n : ℕ)
      → saves part w room ≡ not_saved (refusal_of part act n w.device (length w.eeprom) (length w.id)) room
  -- loading what was saved gives the same part, record and memories
  pub loaded_back : (part : ℕ) (w : World) → Sound part w → (q : ℕ) (v : World) → Room part v → loads (saved_text part w) q v ≡ loading 0 0 part w
  -- loading an older text gives them with the event inputs at 0, so the same chip exactly where they are at 0
  pub older_back : (part : ℕ) (w : World) → Sound part w → (q : ℕ) (v : World) → Room part v → loads (older_text part w) q v ≡ loading 0 0 part (stilled w)
  -- no chip with another level or count has an older text that gives it
  pub older_still :
      (part : ℕ) (w : World) → Sound part w → (q : ℕ) (v : World) (part' : ℕ) (w' : World) → loads (older_text part w) q v ≡ loading 0 0 part' w'
      → w'.device.events ≡ fresh_events
  -- what is loaded is in range; saving it gives the same text, or, where that was an older one, the text with the lines of event inputs at 0 behind it
  pub saved_back :
      (text : List ℕ) (q : ℕ) (v : World) → (loads text q v).number ≡ 0
      → Sound (loads text q v).part (loads text q v).world
      × ((saved_text (loads text q v).part (loads text q v).world ≡ text)
      ⊎ ((older_text (loads text q v).part (loads text q v).world ≡ text) × (saved_text (loads text q v).part (loads text q v).world ≡ text ++ still_lines)))
  -- 8 exactly with the first bad line, and the chip that was there stays
  pub refused : (text : List ℕ) (q : ℕ) (v : World) (k : ℕ) → (loads text q v ≡ loading 8 (suc k) q v) ↔ BadAfter (lines_in text) k
  -- 4 exactly if the text is a chip's whose memories have other lengths
  pub misfit :
      (text : List ℕ) (q : ℕ) (v : World) → (loads text q v ≡ loading 4 0 q v) ↔ ((part : ℕ) × (w : World) × Sound part w × TextOf part w text × ¬ Room part v)
  -- two chips in range with the same text are the same
  pub once : (part : ℕ) (w : World) (part' : ℕ) (w' : World) → Sound part w → Sound part' w' → saved_text part w ≡ saved_text part' w' → (part ≡ part') × (w ≡ w')
