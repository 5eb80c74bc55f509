-- Instruction codes: the byte of each, whether two are the same, which are heard while a write cycle runs and which write a page.
-- Assumes nothing.
use Rattle.std.specs.Prelude.{ℕ, Bool, ◌||◌, List, [], ◌∷◌, eqb}
use Rattle.base.specs.Words.{first_of}
use Rattle.record.specs.declared.Code.{Code}
use Rattle.record.specs.declared.Code.TheVariants.{Eeread, Eewrite, Eewrdi, Eewren, Srread, Srwrite, Read, Write, Unlock, Idwrite, Idread, Clrwdt, Clrram, Other}

-- F1. The byte of each code.
abbrev pub codes : List (ℕ × Code)
codes =
    (0x03, Eeread) ∷ (0x02, Eewrite) ∷ (0x04, Eewrdi) ∷ (0x06, Eewren) ∷ (0x05, Srread) ∷ (0x01, Srwrite) ∷ (0x13, Read) ∷ (0x12, Write)
    ∷ (0x14, Unlock) ∷ (0x32, Idwrite) ∷ (0x33, Idread) ∷ (0x44, Clrwdt) ∷ (0x54, Clrram) ∷ []

-- F2. Any other byte is the code Other.
abbrev pub code_of : ℕ → Code
code_of b = first_of (eqb b) codes Other

-- a code's byte; for Other 00h, which is none of the thirteen
abbrev pub code_number : Code → ℕ
code_number Eeread = 0x03
code_number Eewrite = 0x02
code_number Eewrdi = 0x04
code_number Eewren = 0x06
code_number Srread = 0x05
code_number Srwrite = 0x01
code_number Read = 0x13
code_number Write = 0x12
code_number Unlock = 0x14
code_number Idwrite = 0x32
code_number Idread = 0x33
code_number Clrwdt = 0x44
code_number Clrram = 0x54
code_number Other = 0x00

-- the two are the same code
abbrev pub is_code : Code → Code → Bool
is_code c d = eqb (code_number c) (code_number d)

-- F32. The five that are heard while a write cycle runs (heard is 01's term).
abbrev pub heard_under_wip : Code → Bool
heard_under_wip c = is_code c Srread || is_code c Read || is_code c Write || is_code c Clrwdt || is_code c Clrram

-- F21. The two that write a page.
abbrev pub writes_page : Code → Bool
writes_page c = is_code c Eewrite || is_code c Idwrite
