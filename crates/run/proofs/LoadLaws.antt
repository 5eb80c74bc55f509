-- Loads: a page that is empty, and one that takes a byte more, in the chip's set of offsets and in the ledger's list.
-- Assumes nothing.
use Prim.Native.Nat.{ℕ, ◌%◌, ◌^◌, ◌<◌}
use native.Mathlib.Omega.{arith}
use mathlib.Core.Path.{◌≡◌, sym, ap, ◌∙◌}
use mathlib.Core.Bool.{Bool, true, ◌||◌, false≢true, or_comm}
use mathlib.Core.List.{List, [], ◌∷◌}
use lib.Dec.{eqb}
use lib.Bits.{bit_or}
use lib.ListN.{length, get_or, set}
use lib.Seq.{get_or-set_same, get_or-set_other}
use borrow.Author.Tests.{eqb-true, eqb-false}
use Rattle.base.specs.Words.{pick, bit}
use Rattle.base.proofs.Tests.{by_cases}
use Rattle.base.proofs.BitLaws.{zero_bit, power_bit, or_bit, or_some}
use Rattle.record.specs.declared.Load.{Load}
use Rattle.frames.specs.Frame.{emptied, loaded_with}
use Rattle.ledger.specs.State.{Loaded}
use Rattle.ledger.specs.Bytes.{is_loaded, loaded_byte}
use Rattle.run.proofs.Agree.{LoadAgrees}

-- an address empties the load
pub load_empty : (load : Load) (v : ℕ) → LoadAgrees (emptied load v) []
unfolding is_loaded loaded_byte
load_empty load v =
    record {
      offsets = λ k h. sym (zero_bit k h);
      bytes = λ k h t. absurd (false≢true (sym (zero_bit k h) ∙ t));
    }

-- one offset more in the set, and its byte
more_set : (s n k : ℕ) → n < 8 → k < 8 → bit (bit_or s (2 ^ (n % 8))) k ≡ eqb k n || bit s k
more_set s n k hn hk =
    let e : n % 8 ≡ n = omega arith in
    rw e (or_bit s (2 ^ n) k ∙ ap (λ (b : Bool). bit s k || b) (power_bit n k hn hk) ∙ or_comm (bit s k) (eqb k n))

more_byte :
    (bytes : List ℕ) (s n k v old : ℕ) → n < 8 → k < 8 → length bytes ≡ 8 → (bit s k ≡ true → old ≡ get_or bytes k 0)
    → bit (bit_or s (2 ^ (n % 8))) k ≡ true → pick (eqb k n) v old ≡ get_or (set bytes (n % 8) v) k 0
more_byte bytes s n k v old hn hk hl h t =
    let e : n % 8 ≡ n = omega arith in
    by_cases (eqb k n)
    (λ q. rw (e, q, eqb-true k n q) (sym (get_or-set_same bytes n v 0 (omega arith))))
    (λ q. rw (e, q) (h (ap (λ (b : Bool). b || bit s k) (sym q) ∙ sym (more_set s n k hn hk) ∙ t) ∙ sym (get_or-set_other bytes n k v 0 (eqb-false k n q))))

-- a data byte is loaded at the next offset
pub load_more :
    (load : Load) (v : ℕ) (xs : List Loaded) → load.next < 8 → length load.bytes ≡ 8 → LoadAgrees load xs
    → LoadAgrees (loaded_with load v) (record { offset = load.next; byte = v } ∷ xs)
unfolding is_loaded loaded_byte
load_more load v xs hn hl a =
    record {
      offsets = λ k h. ap (λ (b : Bool). eqb k load.next || b) (a.offsets k h) ∙ sym (more_set load.offsets load.next k hn h);
      bytes = λ k h t. more_byte load.bytes load.offsets load.next k v (loaded_byte k xs) hn h hl (a.bytes k h) t;
    }

-- some offset is then loaded
pub load_some : (load : Load) (v : ℕ) → 0 < (loaded_with load v).offsets
load_some load v = or_some load.offsets (load.next % 8)
