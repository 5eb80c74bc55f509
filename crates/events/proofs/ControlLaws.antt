-- Laws of the byte of 0Bh: its numbers, what a flag that is set leaves alone, and what it takes that an input runs.
-- Assumes nothing.
use mathlib.Core.Path.{◌≡◌, refl}
use mathlib.Core.Bool.{Bool, true, false, beq, not, ◌&&◌, false≢true}
use Prim.Native.Nat.{ℕ, ◌%◌, ◌<◌}
use native.Mathlib.Omega.{arith}
use borrow.Author.Tests.{ltb-true, not-true}
use lib.Dec.{ltb}
use lib.ListN.{get_or}
use Rattle.base.specs.Words.{every, bit}
use Rattle.base.proofs.Tests.{same→eq, true_T, by_cases, pick_case, both_left, both_right}
use Rattle.base.proofs.Every.{every_at, bound_below, same_below}
use Rattle.events.specs.Pins.{counts_edge}
use Rattle.events.specs.Control.{numbers, number_of, debounce_of, set_high, set_low, even1, even0, evwdt, evhif, evlif, high_runs, low_runs}

-- a number of edges is at least 1, a debounce at least 1,024
pub number_least : (v : ℕ) → 0 < number_of v
unfolding every
number_least v = ltb-true 0 (number_of v) (every_at (λ (k : ℕ). ltb 0 (get_or numbers k 0)) 4 refl (v % 4) (omega arith))

pub debounce_least : (v : ℕ) → 0 < debounce_of v
debounce_least v = pick_case (λ (k : ℕ). 0 < k) (bit v 2) (omega arith) (omega arith)

-- two tests of a byte agree where the checker computes that they do at all 256
pub same_test : (f g : ℕ → Bool) → every (λ (k : ℕ). beq (f k) (g k)) 256 ≡ true → (v : ℕ) → v < 256 → f v ≡ g v
same_test f g t v h = same→eq (f v) (g v) (true_T (beq (f v) (g v)) (every_at (λ (k : ℕ). beq (f k) (g k)) 256 t v h))

-- what a byte and another agree in but for a flag: the settings
pub record Settings (v w : ℕ) : Type 0 where
  pub byte : w < 256
  pub high : even1 w ≡ even1 v
  pub low : even0 w ≡ even0 v
  pub kick : evwdt w ≡ evwdt v
  pub number : number_of w ≡ number_of v
  pub debounce : debounce_of w ≡ debounce_of v

pub high_settings : (v : ℕ) → v < 256 → Settings v (set_high v)
unfolding every
high_settings v h =
    record {
      byte = bound_below set_high 256 256 refl v h;
      high = same_test (λ (k : ℕ). even1 (set_high k)) even1 refl v h;
      low = same_test (λ (k : ℕ). even0 (set_high k)) even0 refl v h;
      kick = same_test (λ (k : ℕ). evwdt (set_high k)) evwdt refl v h;
      number = same_below (λ (k : ℕ). number_of (set_high k)) number_of 256 refl v h;
      debounce = same_below (λ (k : ℕ). debounce_of (set_high k)) debounce_of 256 refl v h;
    }

pub low_settings : (v : ℕ) → v < 256 → Settings v (set_low v)
unfolding every
low_settings v h =
    record {
      byte = bound_below set_low 256 256 refl v h;
      high = same_test (λ (k : ℕ). even1 (set_low k)) even1 refl v h;
      low = same_test (λ (k : ℕ). even0 (set_low k)) even0 refl v h;
      kick = same_test (λ (k : ℕ). evwdt (set_low k)) evwdt refl v h;
      number = same_below (λ (k : ℕ). number_of (set_low k)) number_of 256 refl v h;
      debounce = same_below (λ (k : ℕ). debounce_of (set_low k)) debounce_of 256 refl v h;
    }

-- a flag sets itself and not the other
pub high_set : (v : ℕ) → v < 256 → evhif (set_high v) ≡ true
unfolding every
high_set v h = same_test (λ (k : ℕ). evhif (set_high k)) (λ (k : ℕ). true) refl v h

pub high_low : (v : ℕ) → v < 256 → evlif (set_high v) ≡ evlif v
unfolding every
high_low v h = same_test (λ (k : ℕ). evlif (set_high k)) evlif refl v h

pub low_set : (v : ℕ) → v < 256 → evlif (set_low v) ≡ true
unfolding every
low_set v h = same_test (λ (k : ℕ). evlif (set_low k)) (λ (k : ℕ). true) refl v h

pub low_high : (v : ℕ) → v < 256 → evhif (set_low v) ≡ evhif v
unfolding every
low_high v h = same_test (λ (k : ℕ). evhif (set_low k)) evhif refl v h

-- what it is that an input runs
pub high_parts : (counted : Bool) (v : ℕ) → high_runs counted v ≡ true → (even1 v ≡ true) × (evhif v ≡ false) × (counted ≡ true)
high_parts counted v e =
    let p = both_left (even1 v && not (evhif v)) counted e in
    (both_left (even1 v) (not (evhif v)) p, not-true (evhif v) (both_right (even1 v) (not (evhif v)) p), both_right (even1 v && not (evhif v)) counted e)

pub low_parts : (counted : Bool) (v : ℕ) → low_runs counted v ≡ true → (even0 v ≡ true) × (evlif v ≡ false) × (counted ≡ true)
low_parts counted v e =
    let p = both_left (even0 v && not (evlif v)) counted e in
    (both_left (even0 v) (not (evlif v)) p, not-true (evlif v) (both_right (even0 v) (not (evlif v)) p), both_right (even0 v && not (evlif v)) counted e)

-- V4. What it is that an edge counts: enabled, and EVWDT clear.
pub counts_parts : (counted : Bool) (v : ℕ) → counts_edge counted v ≡ true → (even1 v ≡ true) × (evwdt v ≡ false)
counts_parts counted v e =
    let w = by_cases (evwdt v) (λ t. absurd (false≢true (rw t at (both_right (high_runs counted v) _ e)))) (λ f. f) in
    ((high_parts counted v (both_left (high_runs counted v) _ e)).0, w)
