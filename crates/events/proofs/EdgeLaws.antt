-- V2. An edge in the chip's words (`rising`, `falling`) and in the story's (`went_up`, `went_down`): they are tied nowhere else, so that a chip
-- with another edge, in code and definition alike, is refused here.
-- Assumes nothing.
use Prim.Native.Nat.{ℕ, ◌<◌}
use native.Mathlib.Omega.{arith}
use mathlib.Core.Path.{◌≡◌, sym, ◌∙◌}
use mathlib.Core.Bool.{true, false, not, true≢false}
use borrow.Author.Tests.{lt-ltb, le-ltb, eqb-true, eqb-false, eq-eqb, not-true}
use lib.Dec.{ltb, eqb}
use Rattle.base.proofs.Tests.{by_cases, both_right}
use Rattle.events.specs.Pins.{rising, falling}
use Rattle.events.specs.Story.{is_low, went_up, went_down}

above : (n : ℕ) → ltb 0 n ≡ not (eqb n 0)
above n = by_cases (eqb n 0) (λ z. rw z (le-ltb 0 n (omega (arith, eqb-true n 0 z)))) (λ z. rw z (lt-ltb 0 n (omega (arith, eqb-false n 0 z))))

pub up_words : (old new : ℕ) → rising old new ≡ went_up old new
up_words old new = rw (above new)

pub down_words : (old new : ℕ) → falling old new ≡ went_down old new
down_words old new = rw (above old)

-- a rise ends high, and what does not fall and ends low began low
pub rising_level : (old new : ℕ) → rising old new ≡ true → 0 < new
rising_level old new t = omega (arith, eqb-false new 0 (not-true (is_low new) (both_right (is_low old) (not (is_low new)) (sym (up_words old new) ∙ t))))

pub unfallen_low : (old new : ℕ) → falling old new ≡ false → new ≡ 0 → old ≡ 0
unfallen_low old new f z =
    let g = sym (down_words old new) ∙ f in
    by_cases (eqb old 0) (λ a. eqb-true old 0 a) (λ a. absurd (true≢false (rw (a, eq-eqb new 0 z) at g)))
