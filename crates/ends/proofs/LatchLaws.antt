-- How an end moves WEL, in both directions: it clears it exactly at the end of EEWRDI alone, and sets it exactly at that of EEWREN alone.
-- Assumes nothing.
use Prim.Native.Nat.{ℕ}
use mathlib.Core.Path.{◌≡◌, refl, ap, ◌∙◌}
use mathlib.Core.Bool.{true, false, ◌&&◌, true≢false, false≢true}
use mathlib.Core.Logic.{◌↔◌}
use borrow.Author.Tests.{eqb-true}
use lib.Dec.{eqb}
use Rattle.base.proofs.Tests.{by_cases, both_left, both_right}
use Rattle.record.specs.declared.Code.{Code}
use Rattle.record.specs.declared.Code.TheVariants.{Eewrdi, Eewren}
use Rattle.record.specs.declared.Device.{Device}
use Rattle.record.specs.declared.Stage.{Stage}
use Rattle.record.specs.declared.Stage.TheVariants.{Idle, Opened, Unheard, Instruction, Reading, Writing, Second, Over}
use Rattle.record.specs.Codes.{is_code}
use Rattle.record.specs.Stages.{code_at, at_instruction}
use Rattle.record.proofs.CodeLaws.{same_code}
use Rattle.ends.specs.Write.{latches, wel_after}
use Rattle.ends.specs.End.{after_end}

-- a heard frame of one byte, by its code
at_code : (s : Stage) → at_instruction s ≡ true → s ≡ Instruction (code_at s)
at_code Idle e = absurd (false≢true e)
at_code Opened e = absurd (false≢true e)
at_code Unheard e = absurd (false≢true e)
at_code (Instruction c) e = refl
at_code (Reading p) e = absurd (false≢true e)
at_code (Writing p) e = absurd (false≢true e)
at_code (Second q) e = absurd (false≢true e)
at_code (Over l) e = absurd (false≢true e)

-- where a code acts on the latch its byte came alone, and no bit more
alone : (c : Code) (k : ℕ) (s : Stage) → latches c k s ≡ true → (s ≡ Instruction c) × (k ≡ 0)
alone c k s e =
    let p = both_left (is_code (code_at s) c && at_instruction s) (eqb k 0) e in (
      at_code s (both_right (is_code (code_at s) c) (at_instruction s) p) ∙ ap Instruction (same_code (code_at s) c (both_left (is_code (code_at s) c) (at_instruction s) p)),
      eqb-true k 0 (both_right (is_code (code_at s) c && at_instruction s) (eqb k 0) e),
    )

-- F19, F30. The end of EEWRDI alone clears WEL, and no other end does.
pub end_cleared :
    (top k : ℕ) (d : Device) → d.guard.wel ≡ true
    → ((after_end top k d).guard.wel ≡ false) ↔ ((d.frame.stage ≡ Instruction Eewrdi) × (k ≡ 0))
unfolding after_end wel_after
end_cleared top k d on = (
  λ e. by_cases (latches Eewren k d.frame.stage)
      (λ t. absurd (true≢false (rw t at e)))
      (λ t. by_cases (latches Eewrdi k d.frame.stage) (alone Eewrdi k d.frame.stage) (λ u. absurd (true≢false (rw (t, u, on) at e)))),
  λ q. rw (q.0, q.1),
)

-- F19. The end of EEWREN alone sets it, and no other end does.
pub end_set :
    (top k : ℕ) (d : Device) → d.guard.wel ≡ false
    → ((after_end top k d).guard.wel ≡ true) ↔ ((d.frame.stage ≡ Instruction Eewren) × (k ≡ 0))
unfolding after_end wel_after
end_set top k d off = (
  λ e. by_cases (latches Eewren k d.frame.stage) (alone Eewren k d.frame.stage)
      (λ t. by_cases (latches Eewrdi k d.frame.stage)
      (λ u. absurd (false≢true (rw (t, u) at e)))
      (λ u. absurd (false≢true (rw (t, u, off) at e)))),
  λ q. rw (q.0, q.1),
)
