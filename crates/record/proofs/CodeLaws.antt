-- Laws of the codes: a code is what its byte says, a byte of a code is that code's, and so a test of the byte is a test of the code.
-- Assumes nothing.
use Prim.Native.Nat.{ℕ}
use mathlib.Core.Path.{◌≡◌, refl, sym, ap, ◌∙◌}
use mathlib.Core.Bool.{true, false}
use borrow.Author.Tests.{eqb-true, eqb-false, eq-eqb, ne_eqb}
use lib.Dec.{eqb}
use Rattle.base.proofs.Tests.{by_cases, first_when, true_false}
use Rattle.record.specs.declared.Code.{Code}
use Rattle.record.specs.declared.Code.TheVariants.{Eeread, Eewrite, Eewrdi, Eewren, Srread, Srwrite, Read, Write, Unlock, Idwrite, Idread, Clrwdt, Clrram, Other}
use denote.Enum.Bare.{sameb, same_true, same_false}
use Rattle.record.specs.contracts.Code.{the_type}
use Rattle.record.specs.Codes.{codes, code_of, code_number, is_code}

pub code_back : (c : Code) → code_of (code_number c) ≡ c
code_back Eeread = refl
code_back Eewrite = refl
code_back Eewrdi = refl
code_back Eewren = refl
code_back Srread = refl
code_back Srwrite = refl
code_back Read = refl
code_back Write = refl
code_back Unlock = refl
code_back Idwrite = refl
code_back Idread = refl
code_back Clrwdt = refl
code_back Clrram = refl
code_back Other = refl

-- two codes with the same byte are the same
pub same_code : (c d : Code) → is_code c d ≡ true → c ≡ d
same_code c d e = sym (code_back c) ∙ ap code_of (eqb-true (code_number c) (code_number d) e) ∙ code_back d

-- the derived equality of codes is the test of their bytes
pub derived_equality : (c d : Code) → sameb the_type c d ≡ is_code c d
derived_equality c d =
    by_cases (sameb the_type c d)
    (λ t. t ∙ sym (eq-eqb (code_number c) (code_number d) (ap code_number (same_true the_type tt c d t))))
    (λ t. t ∙ sym (ne_eqb (code_number c) (code_number d) (λ e. same_false the_type c d t (same_code c d (eq-eqb (code_number c) (code_number d) e)))))

-- a byte that has a code is that code's byte
pub code_byte : (b : ℕ) → is_code (code_of b) Other ≡ false → code_number (code_of b) ≡ b
code_byte b =
    first_when (λ (c : Code). is_code c Other ≡ false → code_number c ≡ b) (eqb b) (λ (x : ℕ × Code). eqb (code_number x.1) x.0) codes refl
    (λ x g t o. eqb-true (code_number x.1) x.0 g ∙ sym (eqb-true b x.0 t))
    (λ o. absurd (true_false refl o))

-- a test of the byte is a test of the code
pub code_test : (c : Code) → is_code c Other ≡ false → (b : ℕ) → eqb b (code_number c) ≡ is_code (code_of b) c
code_test c h b =
    by_cases (eqb b (code_number c))
    (λ t. t ∙ sym (eq-eqb (code_number (code_of b)) (code_number c) (ap code_number (ap code_of (eqb-true b (code_number c) t) ∙ code_back c))))
    (λ t. t ∙ sym (ne_eqb (code_number (code_of b)) (code_number c) (λ e. eqb-false b (code_number c) t (sym (code_byte b (other e)) ∙ e))))
  where
    other : code_number (code_of b) ≡ code_number c → is_code (code_of b) Other ≡ false
    other e = ap (λ (n : ℕ). eqb n 0) e ∙ h
