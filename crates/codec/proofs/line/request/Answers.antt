-- `codec::line::request`: a line without a fault asks for what its name and number ask for.
-- Assumes nothing.
use native.Mathlib.Omega.{arith}
use mathlib.Core.Path.{◌≡◌, sym, ap, ◌∙◌}
use mathlib.Core.Bool.{false}
use mathlib.Core.List.{List}
use Prim.Native.Nat.{ℕ, ◌≤◌}
use lib.ListN.{length, take}
use borrow.Author.Tests.{le-ltb}
use Rattle.std.specs.Prelude.{Ok}
use Rattle.text.specs.Decimal.{value_of, read_limit}
use Rattle.lines.specs.Line.{line_limit, too_long, in_form, name_text, name_of, digits_text, bad_digits}
use Rattle.lines.specs.Request.{asked_by, unknown_name}
use Rattle.lines.proofs.LineLaws.{all_asks, few_digits}
use Rattle.codec.proofs.line.request.Goals as goal

-- what was answered of the pieces' line is so of the line
of_line : {A : Type 0} (f : List ℕ → A) {q l : List ℕ} {r x : A} → q ≡ l → r ≡ f q → r ≡ x → f l ≡ x
of_line f e k h = ap f (sym e) ∙ sym k ∙ h

-- and of a piece
of_piece : {A : Type 0} (f : List ℕ → A) (cut : List ℕ → List ℕ) {p q l : List ℕ} {r x : A} → q ≡ l → p ≡ cut q → r ≡ f p → r ≡ x → f (cut l) ≡ x
of_piece f cut e k h g = ap f (ap cut (sym e) ∙ sym k) ∙ sym h ∙ g

short : (l : List ℕ) → length l ≤ line_limit → too_long l ≡ false
short l h = le-ltb line_limit (length l) (omega arith)

pub returns : goal.returns
returns c =
    let l = c.args.line.now in
    let p = c.cut-pieces.result in
    let e = c.cut-pieces.ensures in
    let d = p.digits_cut ∙ ap digits_text e in
    let n = of_piece name_of name_text e p.name_cut c.name_of.ensures c.in_ok-name.ensures.ok_part in
    let g : bad_digits (digits_text l) ≡ false = of_piece bad_digits digits_text e p.digits_cut c.bad_digits.ensures c.if-bad_digits.false in
    let v = c.value_of.ensures ∙ ap (λ (s : List ℕ). value_of (take read_limit s)) d ∙ ap value_of (few_digits (digits_text l) g) in
    ap Ok c.asked.ensures
    ∙ (λ i. asked_by (sym n i) (v i))
    ∙ sym (all_asks l (short l c.if-line-gt-LINE_LIMIT.false) (of_line in_form e c.in_form.ensures c.if-not-in_form.false) (ap unknown_name n) g)
