-- The instruction byte: what the ledger asks of the byte is what the chip asks of its code, and the two hear the same frames.
-- Assumes nothing.
use Prim.Native.Nat.{ℕ}
use mathlib.Core.Path.{◌≡◌, refl, sym, ap, ◌∙◌}
use mathlib.Core.Bool.{Bool, true, false, not, ◌&&◌, ◌||◌}
use mathlib.Core.Logic.{⊎_elim}
use lib.Dec.{eqb}
use Rattle.base.proofs.Tests.{either}
use Rattle.record.specs.declared.Code.{Code}
use Rattle.record.specs.declared.Code.TheVariants.{Eewrite, Srread, Srwrite, Read, Write, Idwrite, Clrwdt, Clrram, Other}
use Rattle.record.specs.Codes.{code_of, code_number, is_code, heard_under_wip, writes_page}
use Rattle.record.proofs.CodeLaws.{same_code, code_test}
use Rattle.ends.specs.Write as chip
use Rattle.ledger.specs.State as ledger
use Rattle.ledger.specs.Frames as rules
use Rattle.run.proofs.Agree.{stays}

-- of a frame's byte that has a code
module _ (f : ledger.Frame) where
  pub code_at_lem : (d : Code) → is_code d Other ≡ false → (c : Code) → code_of f.code ≡ c → eqb f.code (code_number d) ≡ is_code c d
  code_at_lem d h c e = code_test d h f.code ∙ ap (λ (k : Code). is_code k d) e

  pub addressed_at : (c : Code) → code_of f.code ≡ c → rules.addressed f.code ≡ writes_page c
  addressed_at c e i = code_at_lem Eewrite refl c e i || code_at_lem Idwrite refl c e i

  pub write_at : (c : Code) → code_of f.code ≡ c → rules.is_write f.code ≡ chip.is_write c
  write_at c e i = addressed_at c e i || code_at_lem Srwrite refl c e i

not_not : (b : Bool) → not (not b) ≡ b
not_not true = refl
not_not false = refl

-- the five that the ledger hears while its cycle runs
abbrev five : ℕ → Bool
five b = eqb b rules.srread_code || eqb b rules.read_code || eqb b rules.write_code || eqb b rules.clrwdt_code || eqb b rules.clrram_code

five_agrees : (b : ℕ) → five b ≡ heard_under_wip (code_of b)
five_agrees b i = code_test Srread refl b i || code_test Read refl b i || code_test Write refl b i || code_test Clrwdt refl b i || code_test Clrram refl b i

-- the ledger hears a frame where the chip's first stage is not Unheard
pub heard_agrees : (c : ledger.Cycle) (busy : Bool) (b : ℕ) → rules.running c ≡ busy → rules.heard_at c b ≡ not (busy && not (heard_under_wip (code_of b)))
heard_agrees c true b e = rw e (five_agrees b ∙ sym (not_not (heard_under_wip (code_of b))))
heard_agrees c false b e = rw e

-- a code of another that does not stay at its instruction byte, and so one that writes
pub moves : (c d : Code) → stays d ≡ false → is_code c d ≡ true → stays c ≡ false
moves c d h e = ap stays (same_code c d e) ∙ h

pub write_moves : (c : Code) → chip.is_write c ≡ true → stays c ≡ false
write_moves c w =
    ⊎_elim (λ p. ⊎_elim (moves c Eewrite refl) (moves c Idwrite refl) (either (is_code c Eewrite) (is_code c Idwrite) p)) (moves c Srwrite refl)
    (either (writes_page c) (is_code c Srwrite) w)
