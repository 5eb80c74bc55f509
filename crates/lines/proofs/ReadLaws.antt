-- Laws of the reader of an answer: it reads back what is printed, field by field, so two answers with the same text are the same; and no
-- character of an answer is a newline.
-- Assumes nothing.
use mathlib.Core.Path.{◌≡◌, refl, sym, ap, ◌∙◌}
use mathlib.Core.Bool.{Bool, true, false, not}
use mathlib.Core.List.{List, [], ◌∷◌, ◌++◌, append-nil, append_assoc, append_cancel_right}
use Prim.Native.Nat.{ℕ, ◌+◌, ◌<◌}
use native.Mathlib.Nat.{add-zero}
use native.Mathlib.Omega.{arith}
use borrow.Author.Tests.{eq-eqb, ne_eqb}
use lib.Dec.{eqb}
use lib.ListN.{length, drop}
use lib.Seq.{take_at, drop_at, drop-append_seam}
use Rattle.std.specs.Prelude.{Option, Some, None}
use Rattle.base.proofs.Tests.{yes}
use Rattle.text.specs.Bytes.{agreed, leading, newline, plain}
use Rattle.text.specs.Decimal.{value_of, decimal_text}
use Rattle.text.proofs.BytesLaws.{leading_append, leading_join, agreed_itself}
use Rattle.text.proofs.DecimalLaws.{value_of_decimal, decimal_without, decimal_is}
use Rattle.lines.specs.Print.{out_text, level_out, no_word, out_word, irq_word, wdo_word, fields_text, answer_chars, answer_line}
use Rattle.lines.specs.Read.{solid, shown_read, Field, field, text_read, after_word, field_read, no_field, out_field, irq_field, wdo_field, shown_or, high_shown, number_read, out_read, irq_read, wdo_read}

-- what a text shows is what it was printed for
shown_back : (out : Option ℕ) → shown_read (out_text out) ≡ out
unfolding shown_read leading
shown_back (Some n) = sym (yes (Some (value_of (decimal_text n))) None (decimal_is n)) ∙ ap Some (value_of_decimal n)
shown_back None = refl

-- no byte below the digits stands in it
out_without : (c : ℕ) → c < 48 → (out : Option ℕ) → leading (λ b. not (eqb b c)) (out_text out) ≡ length (out_text out)
unfolding leading
out_without c h (Some n) = decimal_without c n h
out_without c h None = simp (ne_eqb 0x7a c (λ e. omega arith))

-- a field's word and its text, with what does not go on with it behind
after_word_lem : (word s : List ℕ) → after_word word (word ++ s) ≡ s
unfolding after_word
after_word_lem word s =
    sym (yes (drop (length word) (word ++ s)) [] (eq-eqb (agreed word (word ++ s)) (length word) (agreed_itself word s))) ∙ drop-append_seam word s

text_back : (out : Option ℕ) (rest : List ℕ) → leading solid rest ≡ 0 → text_read (out_text out ++ rest) ≡ field out rest
unfolding text_read
text_back out rest h =
    let t = out_text out in
    let n : leading solid (t ++ rest) ≡ length t =
    leading_append solid t rest (out_without 0x20 (omega arith) out) ∙ ap (λ (k : ℕ). length t + k) h ∙ add-zero (length t) in
    let s = ap shown_read (take_at t rest (leading solid (t ++ rest)) (sym n)) ∙ shown_back out in
    let l = drop_at t rest (leading solid (t ++ rest)) (sym n) in
    λ i. field (s i) (l i)

field_back :
    (word : List ℕ) (out : Option ℕ) (rest : List ℕ) → leading solid rest ≡ 0 → field_read word (word ++ out_text out ++ rest) ≡ field out rest
field_back word out rest h =
    ap (field_read word) (append_assoc word (out_text out) rest) ∙ ap text_read (after_word_lem word (out_text out ++ rest)) ∙ text_back out rest h

high_back_lem : (high : Bool) → high_shown (level_out high) ≡ high
high_back_lem true = refl
high_back_lem false = refl

joined : (a b c d : List ℕ) → a ++ b ++ c ++ d ≡ a ++ (b ++ (c ++ d))
joined a b c d = simp append_assoc

-- no character of a field is a newline
field_plain : (word : List ℕ) (out : Option ℕ) → leading plain word ≡ length word → leading plain (word ++ out_text out) ≡ length (word ++ out_text out)
field_plain word out e = leading_join plain word (out_text out) e (out_without newline (omega arith) out)

-- the four fields, whatever they show
module _ (number out irq wdo : Option ℕ) where
  abbrev no_piece : List ℕ
  no_piece = no_word ++ out_text number

  abbrev out_piece : List ℕ
  out_piece = out_word ++ out_text out

  abbrev irq_piece : List ℕ
  irq_piece = irq_word ++ out_text irq

  abbrev wdo_piece : List ℕ
  wdo_piece = wdo_word ++ out_text wdo

  no_back : no_field (fields_text number out irq wdo) ≡ field number (out_piece ++ (irq_piece ++ wdo_piece))
  unfolding fields_text leading
  no_back = ap no_field (joined no_piece out_piece irq_piece wdo_piece) ∙ field_back no_word number (out_piece ++ (irq_piece ++ wdo_piece)) refl

  out_back : out_field (fields_text number out irq wdo) ≡ field out (irq_piece ++ wdo_piece)
  unfolding leading
  out_back = ap (λ (f : Field). field_read out_word f.left) no_back ∙ field_back out_word out (irq_piece ++ wdo_piece) refl

  irq_back : irq_field (fields_text number out irq wdo) ≡ field irq wdo_piece
  unfolding leading
  irq_back = ap (λ (f : Field). field_read irq_word f.left) out_back ∙ field_back irq_word irq wdo_piece refl

  wdo_back : wdo_field (fields_text number out irq wdo) ≡ field wdo []
  unfolding leading
  wdo_back =
      ap (λ (f : Field). field_read wdo_word f.left) (irq_back ∙ ap (field irq) (sym (append-nil wdo_piece))) ∙ field_back wdo_word wdo [] refl

  fields_plain : leading plain (fields_text number out irq wdo) ≡ length (fields_text number out irq wdo)
  unfolding fields_text leading
  fields_plain =
      let a = field_plain no_word number refl in
      let b = leading_join plain no_piece out_piece a (field_plain out_word out refl) in
      let c = leading_join plain (no_piece ++ out_piece) irq_piece b (field_plain irq_word irq refl) in
      leading_join plain (no_piece ++ out_piece ++ irq_piece) wdo_piece c (field_plain wdo_word wdo refl)

-- an answer's number, out and levels are read back, and no character of it is a newline
module _ (number : ℕ) (out : Option ℕ) (irq wdo : Bool) where
  pub number_read_lem : number_read (answer_chars number out irq wdo) ≡ number
  unfolding number_read answer_chars
  number_read_lem = ap (λ (f : Field). shown_or 7 f.shown) (no_back _ _ _ _)

  pub out_read_lem : out_read (answer_chars number out irq wdo) ≡ out
  unfolding out_read answer_chars
  out_read_lem = ap (λ (f : Field). f.shown) (out_back _ _ _ _)

  pub irq_read_lem : irq_read (answer_chars number out irq wdo) ≡ irq
  unfolding irq_read answer_chars
  irq_read_lem = ap (λ (f : Field). high_shown f.shown) (irq_back _ _ _ _) ∙ high_back_lem irq

  pub wdo_read_lem : wdo_read (answer_chars number out irq wdo) ≡ wdo
  unfolding wdo_read answer_chars
  wdo_read_lem = ap (λ (f : Field). high_shown f.shown) (wdo_back _ _ _ _) ∙ high_back_lem wdo

  pub answer_plain : leading plain (answer_chars number out irq wdo) ≡ length (answer_chars number out irq wdo)
  unfolding answer_chars
  answer_plain = fields_plain _ _ _ _

-- two answers with the same text are the same
pub same_answer :
    (m n : ℕ) (o p : Option ℕ) (i j v w : Bool) → answer_line m o i v ≡ answer_line n p j w → (m ≡ n) × (o ≡ p) × (i ≡ j) × (v ≡ w)
unfolding answer_line
same_answer m n o p i j v w e =
    let c = append_cancel_right (answer_chars m o i v) (answer_chars n p j w) (newline ∷ []) e in (
      sym (number_read_lem m o i v) ∙ ap number_read c ∙ number_read_lem n p j w,
      sym (out_read_lem m o i v) ∙ ap out_read c ∙ out_read_lem n p j w,
      sym (irq_read_lem m o i v) ∙ ap irq_read c ∙ irq_read_lem n p j w,
      sym (wdo_read_lem m o i v) ∙ ap wdo_read c ∙ wdo_read_lem n p j w,
    )
