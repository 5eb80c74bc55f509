-- A page stored into a memory and the entries that the ledger makes of it agree, at every place, and the other memory's places are untouched.
-- Assumes nothing.
use Prim.Native.Nat.{ℕ, zero, suc, ◌+◌, ◌<◌, ◌≤◌}
use mathlib.Core.Path.{◌≡◌, refl, sym, ap, ◌∙◌}
use mathlib.Core.Bool.{Bool, true, false, ◌&&◌, and_comm}
use mathlib.Core.List.{List, ◌∷◌}
use native.Mathlib.Omega.{arith}
use borrow.Author.Tests.{eqb-true, eqb-false}
use lib.Dec.{eqb}
use lib.Bits.{bit_and}
use lib.ListN.{length, get_or, set}
use lib.Seq.{get_or-set_same, get_or-set_other}
use Rattle.base.specs.Words.{pick, bit, store_under}
use Rattle.base.proofs.Tests.{by_cases, both_left}
use Rattle.base.proofs.BitLaws.{and_bit}
use Rattle.base.proofs.StoreLaws.{store_length}
use Rattle.record.specs.declared.Load.{Load}
use Rattle.ledger.specs.State.{Memory, eeprom, id, Entry, Loaded}
use Rattle.ledger.specs.Bytes.{loaded_byte, takes, entries_under, same_memory, byte_of}
use Rattle.run.proofs.Agree.{LoadAgrees}

-- the memory m is what the entries say of the memory k, at each place below n; before is what a place held at the start
unfoldable pub Holds : ℕ → (ℕ → ℕ) → Memory → List ℕ → List Entry → Type 0
Holds n before k m es = (p : ℕ) → p < n → get_or m p 0 ≡ byte_of (before p) k p es

same_memory_lem : (k : Memory) → same_memory k k ≡ true
same_memory_lem eeprom = refl
same_memory_lem id = refl

one_entry :
    (n : ℕ) (before : ℕ → ℕ) (k : Memory) (m : List ℕ) (es : List Entry) (at v : ℕ) → at < length m → Holds n before k m es
    → Holds n before k (set m at v) (record { memory = k; place = at; byte = v } ∷ es)
unfolding Holds byte_of
one_entry n before k m es at v small h p below =
    by_cases (eqb p at)
    (λ e. rw (same_memory_lem k, e, eqb-true p at e) (get_or-set_same m at v 0 small))
    (λ e. rw (same_memory_lem k, e) (get_or-set_other m at p v 0 (eqb-false p at e) ∙ h p below))

-- one offset of the page: the chip goes by its set and its bytes, the ledger by what was loaded
one_offset :
    (n : ℕ) (before : ℕ → ℕ) (k : Memory) (m : List ℕ) (es : List Entry) (t u : Bool) (at v x : ℕ)
    → u ≡ t → (t ≡ true → x ≡ v) → at < length m → Holds n before k m es
    → Holds n before k (pick t (set m at v) m) (pick u (record { memory = k; place = at; byte = x } ∷ es) es)
one_offset n before k m es true u at v x e same small h = rw (e, same refl) (one_entry n before k m es at v small h)
one_offset n before k m es false u at v x e same small h = rw e h

-- a set of loaded offsets under a mask is what the ledger takes
takes_bit :
    (load : Load) (xs : List Loaded) (mask j : ℕ) → LoadAgrees load xs → j < 8
    → takes mask xs j ≡ bit (bit_and load.offsets mask) j
takes_bit load xs mask j a h =
    ap (λ (b : Bool). bit mask j && b) (a.offsets j h) ∙ and_comm (bit mask j) (bit load.offsets j) ∙ sym (and_bit load.offsets mask j)

-- the first j offsets of a page
page_holds :
    (n : ℕ) (before : ℕ → ℕ) (k : Memory) (load : Load) (xs : List Loaded) (mask page : ℕ) (m : List ℕ) (es : List Entry) (j : ℕ)
    → LoadAgrees load xs → j ≤ 8 → page + j ≤ length m → Holds n before k m es
    → Holds n before k (store_under m page (bit_and load.offsets mask) load.bytes j) (entries_under k page mask xs j es)
unfolding store_under entries_under
page_holds n before k load xs mask page m es zero a eight fits h = h
page_holds n before k load xs mask page m es (suc j) a eight fits h =
    one_offset n before k (store_under m page (bit_and load.offsets mask) load.bytes j) (entries_under k page mask xs j es)
    (bit (bit_and load.offsets mask) j) (takes mask xs j) (page + j) (get_or load.bytes j 0) (loaded_byte j xs)
    (takes_bit load xs mask j a (omega arith))
    (λ t. a.bytes j (omega arith) (both_left (bit load.offsets j) (bit mask j) (sym (and_bit load.offsets mask j) ∙ t)))
    (omega (arith, store_length m page (bit_and load.offsets mask) load.bytes j))
    (page_holds n before k load xs mask page m es j a (omega arith) (omega arith) h)

-- a whole page
pub stored_page :
    (n : ℕ) (before : ℕ → ℕ) (k : Memory) (load : Load) (xs : List Loaded) (mask page : ℕ) (m : List ℕ) (es : List Entry)
    → LoadAgrees load xs → page + 8 ≤ length m → Holds n before k m es
    → Holds n before k (store_under m page (bit_and load.offsets mask) load.bytes 8) (entries_under k page mask xs 8 es)
stored_page n before k load xs mask page m es a fits h = page_holds n before k load xs mask page m es 8 a (omega arith) fits h

-- entries for the other memory
pub other_memory :
    (n : ℕ) (before : ℕ → ℕ) (k o : Memory) (xs : List Loaded) (mask page : ℕ) (m : List ℕ) (es : List Entry) (j : ℕ)
    → same_memory k o ≡ false → Holds n before k m es → Holds n before k m (entries_under o page mask xs j es)
unfolding entries_under Holds byte_of
other_memory n before k o xs mask page m es zero d h p below = h p below
other_memory n before k o xs mask page m es (suc j) d h p below =
    by_cases (takes mask xs j)
    (λ t. rw (t, d) (other_memory n before k o xs mask page m es j d h p below))
    (λ t. rw t (other_memory n before k o xs mask page m es j d h p below))
