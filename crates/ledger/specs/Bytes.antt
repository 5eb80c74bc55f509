-- Loaded bytes and entries: which offsets take their byte, what a cycle that ends or is cut enters, and the byte of a place.
-- No memory stands here: an entry says what a place got, and the last one counts.
-- Assumes nothing.
use Rattle.std.specs.Prelude.{Bool, true, false, ◌&&◌, ◌||◌, List, [], ◌∷◌, ℕ, zero, suc, ◌+◌, ◌/◌, ◌%◌, eqb}
use Rattle.base.specs.Words.{pick, bit}
use Rattle.ledger.specs.State.{Memory, eeprom, id, Kind, eeprom_cycle, id_cycle, status_cycle, Loaded, Entry, Cycle}
use Rattle.ledger.specs.Frames.{running}

-- L3. A byte came for the offset.
unfoldable pub is_loaded : ℕ → List Loaded → Bool
is_loaded n [] = false
is_loaded n (x ∷ xs) = eqb n x.offset || is_loaded n xs

-- F22. The newest byte that came for the offset, 0 if none did.
unfoldable pub loaded_byte : ℕ → List Loaded → ℕ
loaded_byte n [] = 0
loaded_byte n (x ∷ xs) = pick (eqb n x.offset) x.byte (loaded_byte n xs)

-- P1, P2. An offset takes its byte if one came for it and its bit of the mask is set.
abbrev pub takes : ℕ → List Loaded → ℕ → Bool
takes mask xs n = bit mask n && is_loaded n xs

-- one entry more where the test holds
abbrev pub enter : Bool → Entry → List Entry → List Entry
enter t e es = pick t (e ∷ es) es

-- L13, L14. An entry for each offset below n that takes its byte, at its place in the page.
unfoldable pub entries_under : Memory → ℕ → ℕ → List Loaded → ℕ → List Entry → List Entry
entries_under m page mask xs zero es = es
entries_under m page mask xs (suc n) es =
    enter (takes mask xs n) (record { memory = m; place = page + n; byte = loaded_byte n xs }) (entries_under m page mask xs n es)

-- L13, L14. The entries after a cycle of a kind, stored under the mask. A STATUS cycle enters nothing.
abbrev pub entries_of : Kind → ℕ → ℕ → List Loaded → List Entry → List Entry
entries_of eeprom_cycle page mask xs es = entries_under eeprom page mask xs 8 es
entries_of id_cycle page mask xs es = entries_under id page mask xs 8 es
entries_of status_cycle page mask xs es = es

-- F6, P3. BP after a cycle of a kind: bits 3:2 of the byte that a STATUS cycle loaded, at offset 0 and so under the mask's bit 0.
abbrev pub bp_of : Kind → ℕ → List Loaded → ℕ → ℕ
bp_of eeprom_cycle mask xs bp = bp
bp_of id_cycle mask xs bp = bp
bp_of status_cycle mask xs bp = pick (takes mask xs 0) (loaded_byte 0 xs / 4 % 4) bp

-- L13, L14, P4. The same of the ledger's cycle; where none runs, nothing is stored.
unfoldable pub entries_after : ℕ → Cycle → List Entry → List Entry
entries_after mask c es = pick (running c) (entries_of c.kind c.page mask c.loaded es) es

unfoldable pub bp_after : ℕ → Cycle → ℕ → ℕ
bp_after mask c bp = pick (running c) (bp_of c.kind mask c.loaded bp) bp

-- L13. The mask of a cycle that comes to its end: every offset's bit is set.
abbrev pub whole_page : ℕ
whole_page = 255

-- the two are one memory
abbrev pub same_memory : Memory → Memory → Bool
same_memory eeprom eeprom = true
same_memory eeprom id = false
same_memory id eeprom = false
same_memory id id = true

-- L16, A36. The byte of a place: that of its newest entry. With no entry it is the first argument: FFh in every run from fresh, the byte that was there in
-- one that begins at work.
unfoldable pub byte_of : ℕ → Memory → ℕ → List Entry → ℕ
byte_of before m p [] = before
byte_of before m p (e ∷ es) = pick (same_memory m e.memory && eqb p e.place) e.byte (byte_of before m p es)
