-- The answers to a tape as lines: no byte of an answer but its last is a newline, so their text is cut into the answers again, one for each
-- line, in their order; and of each its out is read back.
-- Assumes nothing.
use mathlib.Core.Path.{◌≡◌, refl, sym, ap, ◌∙◌}
use mathlib.Core.List.{List, [], ◌∷◌, ◌++◌, append-nil}
use Prim.Native.Nat.{ℕ}
use lib.Dec.{eqb}
use lib.ListN.{length}
use lib.Seq.{append_snoc}
use borrow.Author.Tests.{not-true}
use Rattle.base.proofs.Tests.{no}
use Rattle.record.specs.declared.Device.{Device}
use Rattle.ticks.specs.Lines.{irq_low, wdo_low}
use Rattle.text.specs.Bytes.{leading, newline, plain}
use Rattle.text.proofs.BytesLaws.{leading_first, leading_rest}
use Rattle.lines.specs.Print.{answer_chars, answer_line}
use Rattle.lines.specs.Read.{out_read}
use Rattle.lines.proofs.ReadLaws.{out_read_lem, answer_plain}
use Rattle.answers.specs.Answer.{Setup, LineAnswer, line_answer, level_high, answer_text}
use Rattle.tape.specs.Tape.{lines_from, answers_to}

-- the characters of an answer, without its newline
unfoldable pub chars_of : LineAnswer → List ℕ
chars_of a =
    let part : ℕ = a.after.part in
    let d : Device = a.after.chip.device in
    answer_chars a.number a.out (level_high part (irq_low d)) (level_high part (wdo_low d))

pub chars_out : (a : LineAnswer) → out_read (chars_of a) ≡ a.out
unfolding chars_of
chars_out a = out_read_lem _ _ _ _

chars_plain : (a : LineAnswer) → leading plain (chars_of a) ≡ length (chars_of a)
unfolding chars_of
chars_plain a = answer_plain _ _ _ _

chars_line : (a : LineAnswer) → answer_text a ≡ chars_of a ++ (newline ∷ [])
unfolding chars_of answer_text answer_line
chars_line a = refl

-- a line's characters and its newline, before anything
line_cut : (t begun rest : List ℕ) → leading plain t ≡ length t → lines_from begun (t ++ (newline ∷ rest)) ≡ (begun ++ t) ∷ lines_from [] rest
unfolding lines_from
line_cut [] begun rest e = ap (λ (l : List ℕ). l ∷ lines_from [] rest) (sym (append-nil begun))
line_cut (b ∷ t) begun rest e =
    sym (no _ _ (not-true (eqb b newline) (leading_first plain b t e)))
    ∙ line_cut t (begun ++ (b ∷ [])) rest (leading_rest plain b t e)
    ∙ ap (λ (l : List ℕ). l ∷ lines_from [] rest) (append_snoc begun b t)

-- the characters of the answers to lines
unfoldable pub answer_lines : Setup → List (List ℕ) → List (List ℕ)
answer_lines s [] = []
answer_lines s (line ∷ lines) = chars_of (line_answer line s) ∷ answer_lines (line_answer line s).after lines

pub answers_cut : (lines : List (List ℕ)) (s : Setup) → lines_from [] (answers_to s lines) ≡ answer_lines s lines
unfolding answer_lines answers_to lines_from
answers_cut [] s = refl
answers_cut (line ∷ lines) s =
    let a = line_answer line s in
    let rest = answers_to a.after lines in
    ap (λ (t : List ℕ). lines_from [] (t ++ rest)) (chars_line a)
    ∙ ap (lines_from []) (append_snoc (chars_of a) newline rest)
    ∙ line_cut (chars_of a) [] rest (chars_plain a)
    ∙ ap (λ (l : List (List ℕ)). chars_of a ∷ l) (answers_cut lines a.after)
