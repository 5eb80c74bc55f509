-- Laws of lines: a listed word finds its name, and no other text finds one; a line is of the form exactly where the test says so, and has one name and one number;
-- it asks for a name's thing exactly where it is the text of a listed word and a number; and it is bad exactly by the first of its rows.
-- Assumes nothing.
use mathlib.Core.Path.{◌≡◌, refl, sym, ap, ◌∙◌, subst}
use mathlib.Core.Logic.{◌↔◌, ◌≢◌, ◌⊎◌, inl, inr, ⊎_elim}
use mathlib.Core.Bool.{Bool, true, false, not, ◌&&◌, ◌||◌, true≢false, and-false}
use mathlib.Core.List.{List, [], ◌∷◌, ◌++◌}
use Prim.Native.Nat.{ℕ, suc, ◌+◌, ◌<◌, ◌≤◌}
use native.Mathlib.Nat.{add-zero}
use native.Mathlib.Omega.{arith}
use borrow.Author.Tests.{eq-eqb, ne_eqb, eqb-true, lt-ltb, le-ltb, ltb-true, ltb-false, not-true, not-false}
use lib.Dec.{eqb, ltb}
use lib.ListN.{length, get_or, take, drop, take-append-drop, length-append, length-drop}
use lib.Seq.{take_all, length-take-le, take-append_seam, drop-append_seam}
use Rattle.std.specs.Prelude.{Option, Some, None, Result, Ok, Err}
use Rattle.base.specs.Words.{pick}
use Rattle.base.proofs.Tests.{by_cases, yes, no, pick_case, pick_when, both_left, both_right, both_true, either, neither_left, neither_right, neither}
use Rattle.text.specs.Bytes.{agreed, begins, leading, letter, digit, Listed, all_rows, apart}
use Rattle.text.specs.Decimal.{needless_zero, value_of, read_limit, decimal_text}
use Rattle.text.proofs.BytesLaws.{leading_within, leading_taken, leading_append, agreed_with, agreed_itself, found_listed, rows_listed, listed_found}
use Rattle.text.proofs.DecimalLaws.{value_of_decimal, decimal_of_value, decimal_digits, decimal_some, decimal_needed}
use Rattle.lines.specs.declared.Name.{Name}
use Rattle.lines.specs.declared.Name.TheVariants.{Part as PartName, Act as ActName}
use Rattle.lines.specs.declared.Request.{Request}
use Rattle.lines.specs.declared.Fault.{Fault}
use Rattle.lines.specs.declared.Fault.TheVariants.{TooLong, NotInForm, UnknownName, BadDigits}
use Rattle.lines.specs.Line.{line_limit, form_column, digit_column, number_column, form_reach, too_long, op_text, arg_text, name_size, name_text, after_op, after_name, digits_text, in_form, names, name_of, digit_limit, too_many_digits, bad_digits}
use Rattle.lines.specs.Request.{asked, asked_by, unknown_name, is_bad, fault_number, fault_column, Bad, faults_of, first_fault, bad_line, request_of, Spelled}
use Rattle.lines.specs.Faults.{Run, Formed, LongRow, FormRow, NameRow, DigitsRow, LineRow, line_rows, FirstRow, NoRow}
use Rattle.lines.proofs.FormLaws.{agreed_within, reach_longest, longest_once}

-- each word finds its name, and no other text finds one
pub name_back : (word : List ℕ) (x : Name) → Listed names word x → name_of word ≡ Some x
unfolding name_of apart all_rows agreed
name_back word x l = listed_found names word x refl l

pub name_only : (s : List ℕ) (x : Name) → name_of s ≡ Some x → Listed names s x
unfolding name_of
name_only s x e = found_listed names s x e

-- a name that is known is one
named : (x : Option Name) → unknown_name x ≡ false → (y : Name) × (x ≡ Some y)
named None u = absurd (true≢false u)
named (Some y) u = (y, refl)

-- a word is one to six small letters
unfoldable good_word : List ℕ → Name → Bool
good_word word x = eqb (leading letter word) (length word) && ltb 0 (length word) && ltb (length word) 7

record GoodWord (word : List ℕ) : Type 0 where
  letters : leading letter word ≡ length word
  some : 0 < length word
  few : length word < 7

listed_good : (word : List ℕ) (x : Name) → Listed names word x → GoodWord word
unfolding good_word all_rows leading
listed_good word x l =
    let t1 = eqb (leading letter word) (length word) in
    let t2 = ltb 0 (length word) in
    let t3 = ltb (length word) 7 in
    let e3 : (t1 && t2 && t3) ≡ true = rows_listed good_word names word x refl l in
    let e2 : (t1 && t2) ≡ true = both_left (t1 && t2) t3 e3 in
    record {
      letters = eqb-true (leading letter word) (length word) (both_left t1 t2 e2);
      some = ltb-true 0 (length word) (both_right t1 t2 e2);
      few = ltb-true (length word) 7 (both_right (t1 && t2) t3 e3);
    }

-- the form, test by test
record InForm (line : List ℕ) : Type 0 where
  op : agreed op_text line ≡ length op_text
  named : 0 < name_size line
  arg : agreed arg_text (after_name line) ≡ length arg_text
  digits : 0 < length (digits_text line)
  whole : leading digit (digits_text line) ≡ length (digits_text line)

in_form_lem : (line : List ℕ) → in_form line ≡ true → InForm line
unfolding in_form
in_form_lem line e =
    let t1 = begins op_text line in
    let t2 = ltb 0 (name_size line) in
    let t3 = begins arg_text (after_name line) in
    let t4 = ltb 0 (length (digits_text line)) in
    let t5 = eqb (leading digit (digits_text line)) (length (digits_text line)) in
    let e4 : (t1 && t2 && t3 && t4) ≡ true = both_left (t1 && t2 && t3 && t4) t5 e in
    let e3 : (t1 && t2 && t3) ≡ true = both_left (t1 && t2 && t3) t4 e4 in
    let e2 : (t1 && t2) ≡ true = both_left (t1 && t2) t3 e3 in
    record {
      op = eqb-true (agreed op_text line) (length op_text) (both_left t1 t2 e2);
      named = ltb-true 0 (name_size line) (both_right t1 t2 e2);
      arg = eqb-true (agreed arg_text (after_name line)) (length arg_text) (both_right (t1 && t2) t3 e3);
      digits = ltb-true 0 (length (digits_text line)) (both_right (t1 && t2 && t3) t4 e4);
      whole = eqb-true (leading digit (digits_text line)) (length (digits_text line)) (both_right (t1 && t2 && t3 && t4) t5 e);
    }

form_in : (line : List ℕ) → InForm line → in_form line ≡ true
unfolding in_form
form_in line f =
    both_true
    (both_true
    (both_true
    (both_true (eq-eqb (agreed op_text line) (length op_text) f.op) (lt-ltb 0 (name_size line) f.named))
    (eq-eqb (agreed arg_text (after_name line)) (length arg_text) f.arg))
    (lt-ltb 0 (length (digits_text line)) f.digits))
    (eq-eqb (leading digit (digits_text line)) (length (digits_text line)) f.whole)

-- a line of the form is its pieces
form_pieces : (line : List ℕ) → InForm line → line ≡ op_text ++ (name_text line ++ (arg_text ++ digits_text line))
unfolding digits_text
form_pieces line f =
    agreed_with op_text line f.op
    ∙ ap (λ (s : List ℕ). op_text ++ s)
    (sym (take-append-drop (name_size line) (after_op line))
    ∙ ap (λ (s : List ℕ). name_text line ++ s) (agreed_with arg_text (after_name line) f.arg))

pub name_length : (line : List ℕ) → length (name_text line) ≡ name_size line
unfolding name_size
name_length line = length-take-le (name_size line) (after_op line) (leading_within letter (after_op line))

-- a line is of the form exactly where the test says so, and its pieces are the line's own
form_formed : (line : List ℕ) → InForm line → Formed line
form_formed line f =
    let n = name_size line in
    let k : length (name_text line) ≡ n = name_length line in
    record {
      name = name_text line;
      number = digits_text line;
      letters = record { each = unfold name_size in leading_taken letter (after_op line); one = omega (arith, k, f.named) };
      digits = record { each = f.whole; one = f.digits };
      text = form_pieces line f;
    }

module _ (name number : List ℕ) (letters : Run letter name) where
  ending : List ℕ
  ending = arg_text ++ number

  whole_line : List ℕ
  whole_line = op_text ++ (name ++ ending)

  name_size_lem : name_size whole_line ≡ length name
  unfolding whole_line ending name_size leading
  name_size_lem = leading_append letter name ending letters.each ∙ add-zero (length name)

  name_text_lem : name_text whole_line ≡ name
  unfolding whole_line
  name_text_lem = ap (λ (k : ℕ). take k (name ++ ending)) name_size_lem ∙ take-append_seam name ending

  after_name_lem : after_name whole_line ≡ ending
  unfolding whole_line
  after_name_lem = ap (λ (k : ℕ). drop k (name ++ ending)) name_size_lem ∙ drop-append_seam name ending

  digits_text_lem : digits_text whole_line ≡ number
  unfolding ending digits_text
  digits_text_lem = ap (drop (length arg_text)) after_name_lem

  pieces_form : Run digit number → InForm whole_line
  unfolding whole_line ending
  pieces_form d =
      record {
        op = agreed_itself op_text (name ++ ending);
        named = rw name_size_lem letters.one;
        arg = rw after_name_lem (agreed_itself arg_text number);
        digits = rw digits_text_lem d.one;
        whole = rw digits_text_lem d.each;
      }

  whole_length : length whole_line ≡ 8 + length name + length number
  unfolding whole_line ending
  whole_length = omega (arith, length-append name ending)

record Pieces (line name number : List ℕ) : Type 0 where
  form : InForm line
  name_is : name_text line ≡ name
  number_is : digits_text line ≡ number
  size : name_size line ≡ length name
  long : length line ≡ 8 + length name + length number

pieces : (line : List ℕ) (f : Formed line) → Pieces line f.name f.number
unfolding whole_line ending
pieces line f =
    let e = sym f.text in
    let a = f.name in
    let b = f.number in
    record {
      form = subst InForm e (pieces_form a b f.letters f.digits);
      name_is = ap name_text f.text ∙ name_text_lem a b f.letters;
      number_is = ap digits_text f.text ∙ digits_text_lem a b f.letters;
      size = ap name_size f.text ∙ name_size_lem a b f.letters;
      long = ap length f.text ∙ whole_length a b f.letters;
    }

-- The rows of a line beside the tests that decide them: a test that holds is its row at its column, a row that holds is its test's, and the rows behind it are
-- so where the test failed.
record SureRow (r : LineRow) (holds : Bool) (f : Fault) : Type 0 where
  same : fault_number f ≡ r.number
  held : holds ≡ true → r.holds (fault_column f)
  only : (column : ℕ) → r.holds column → (holds ≡ true) × (column ≡ fault_column f)

Sure : List LineRow → List (Bool × Fault) → Result Request Fault → Type 0
Sure [] [] q = is_bad q ≡ false
Sure [] (f ∷ fs) q = ⊥
Sure (r ∷ rows) [] q = ⊥
Sure (r ∷ rows) (f ∷ fs) q = SureRow r f.0 f.1 × (f.0 ≡ false → Sure rows fs q)

not_bad : (q : Result Request Fault) (number column : ℕ) → is_bad q ≡ false → Bad q number column → ⊥
not_bad (Ok x) number column b e = e
not_bad (Err f) number column b e = true≢false b

-- a request is bad with one number, at one column
bad_number_lem : (q : Result Request Fault) (m n c d : ℕ) → Bad q m c → Bad q n d → m ≡ n
bad_number_lem (Ok x) m n c d b e = absurd b
bad_number_lem (Err f) m n c d b e = sym b.0 ∙ e.0

bad_column : (q : Result Request Fault) (m n c d : ℕ) → Bad q m c → Bad q n d → c ≡ d
bad_column (Ok x) m n c d b e = absurd b
bad_column (Err f) m n c d b e = sym b.1 ∙ e.1

-- the first fault is that of the first row
first_told :
    (rows : List LineRow) (fs : List (Bool × Fault)) (q : Result Request Fault) (number column : ℕ) → Sure rows fs q
    → Bad (first_fault fs q) number column → FirstRow rows number column
unfolding Sure FirstRow
first_told [] [] q number column s e = not_bad q number column s e
first_told [] (f ∷ fs) q number column s e = s
first_told (r ∷ rows) [] q number column s e = absurd s
first_told (r ∷ rows) (f ∷ fs) q number column s e =
    let P : Result Request Fault → Type 0 = λ x. Bad x number column in
    by_cases f.0
    (λ t.
    let b : Bad (Err f.1) number column = subst P (sym (yes (Err f.1) (first_fault fs q) t)) e in
    inl (subst r.holds b.1 (s.0.held t), sym b.0 ∙ s.0.same))
    (λ n. inr (
      λ k h. absurd (true≢false (sym (s.0.only k h).0 ∙ n)),
      first_told rows fs q number column (s.1 n) (subst P (sym (no (Err f.1) (first_fault fs q) n)) e),
    ))

first_given :
    (rows : List LineRow) (fs : List (Bool × Fault)) (q : Result Request Fault) (number column : ℕ) → Sure rows fs q
    → FirstRow rows number column → Bad (first_fault fs q) number column
unfolding Sure FirstRow
first_given [] fs q number column s h = absurd h
first_given (r ∷ rows) [] q number column s h = absurd s
first_given (r ∷ rows) (f ∷ fs) q number column s h =
    let P : Result Request Fault → Type 0 = λ x. Bad x number column in
    ⊎_elim
    (λ y.
    let o = s.0.only column y.0 in
    subst P (yes (Err f.1) (first_fault fs q) o.0) (s.0.same ∙ sym y.1, sym o.1))
    (λ n.
    by_cases f.0 (λ t. absurd (n.0 (fault_column f.1) (s.0.held t)))
    (λ x. subst P (no (Err f.1) (first_fault fs q) x) (first_given rows fs q number column (s.1 x) n.1)))
    h

-- and there is none where no row holds
none_told : (rows : List LineRow) (fs : List (Bool × Fault)) (q : Result Request Fault) → Sure rows fs q → is_bad (first_fault fs q) ≡ false → NoRow rows
unfolding Sure NoRow
none_told [] fs q s e = tt
none_told (r ∷ rows) [] q s e = absurd s
none_told (r ∷ rows) (f ∷ fs) q s e =
    by_cases f.0 (λ t. absurd (true≢false (ap is_bad (yes (Err f.1) (first_fault fs q) t) ∙ e)))
    (λ x. (
      λ k h. absurd (true≢false (sym (s.0.only k h).0 ∙ x)),
      none_told rows fs q (s.1 x) (ap is_bad (no (Err f.1) (first_fault fs q) x) ∙ e),
    ))

none_given : (rows : List LineRow) (fs : List (Bool × Fault)) (q : Result Request Fault) → Sure rows fs q → NoRow rows → is_bad (first_fault fs q) ≡ false
unfolding Sure NoRow
none_given [] [] q s h = s
none_given [] (f ∷ fs) q s h = absurd s
none_given (r ∷ rows) [] q s h = absurd s
none_given (r ∷ rows) (f ∷ fs) q s h =
    by_cases f.0 (λ t. absurd (h.0 (fault_column f.1) (s.0.held t)))
    (λ x. sym (ap is_bad (no (Err f.1) (first_fault fs q) x)) ∙ none_given rows fs q (s.1 x) h.1)

-- Each row of a line is its test's. Those behind the form are so of a line that is of it.
long_sure : (line : List ℕ) → SureRow (record { number = 71; holds = LongRow line }) (too_long line) TooLong
long_sure line =
    record {
      same = refl;
      held = λ t. record { long = ltb-true line_limit (length line) t; at = refl };
      only = λ column h. (lt-ltb line_limit (length line) h.long, h.at);
    }

form_sure : (line : List ℕ) → SureRow (record { number = 72; holds = FormRow line }) (not (in_form line)) (NotInForm (form_column line))
form_sure line =
    record {
      same = refl;
      held = λ t. record {
        other = λ f. true≢false (sym (form_in line (pieces line f).form) ∙ not-true (in_form line) t);
        reach = form_reach line;
        longest = reach_longest line;
        at = refl;
      };
      only = λ column h. (
        by_cases (in_form line) (λ t. absurd (h.other (form_formed line (in_form_lem line t)))) (ap not),
        h.at ∙ ap suc (longest_once line h.reach (form_reach line) h.longest (reach_longest line)),
      );
    }

name_sure :
    (line : List ℕ) → InForm line
    → SureRow (record { number = 73; holds = NameRow line }) (unknown_name (name_of (name_text line))) UnknownName
unfolding name_size form_formed
name_sure line f =
    record {
      same = refl;
      held = λ t. record {
        form = form_formed line f;
        unknown = λ x l. true≢false (sym t ∙ ap unknown_name (name_back (name_text line) x l));
        at = refl;
      };
      only = λ column h. (
        by_cases (unknown_name (name_of (name_text line))) (λ t. t)
            (λ n.
            let k = named (name_of (name_text line)) n in
            absurd (h.unknown k.0 (subst (λ (word : List ℕ). Listed names word k.0) (pieces line h.form).name_is (name_only (name_text line) k.0 k.1)))),
        h.at,
      );
    }

-- where the digits of a line of the form stand
digits_stand : (line : List ℕ) → InForm line → digit_column line + length (digits_text line) ≡ suc (length line)
unfolding name_size form_formed
digits_stand line f =
    let p = pieces line (form_formed line f) in
    omega (arith, p.long, p.size)

digits_sure :
    (line : List ℕ) → InForm line
    → SureRow (record { number = 75; holds = DigitsRow line }) (bad_digits (digits_text line)) (BadDigits (number_column line))
unfolding number_column name_size form_formed
digits_sure line f =
    let s = digits_text line in
    let c = digit_column line in
    record {
      same = refl;
      held = λ t. record {
        form = form_formed line f;
        first = c;
        stands = digits_stand line f;
        bad = by_cases (needless_zero s)
            (λ z. inl (
              eqb-true (get_or s 0 0) 0x30 (both_right (ltb 1 (length s)) (eqb (get_or s 0 0) 0x30) z),
              ltb-true 1 (length s) (both_left (ltb 1 (length s)) (eqb (get_or s 0 0) 0x30) z),
              sym (yes c (c + digit_limit) z),
            ))
            (λ z.
            let m : digit_limit < length s = ltb-true digit_limit (length s) (⊎_elim (λ y. absurd (true≢false (sym y ∙ z))) (λ y. y) (either (needless_zero s) (too_many_digits s) t)) in
            inr (λ e. true≢false (sym (both_true (lt-ltb 1 (length s) (omega (arith, m))) (eq-eqb (get_or s 0 0) 0x30 e)) ∙ z), m, sym (no c (c + digit_limit) z)));
      };
      only = λ column h.
          let p = pieces line h.form in
          let k : h.first ≡ c = omega (arith, h.stands, p.long, p.size) in
          ⊎_elim
          (λ y.
          let z : needless_zero s ≡ true = ap needless_zero p.number_is ∙ both_true (lt-ltb 1 _ y.1) (eq-eqb _ _ y.0) in
          (rw z, y.2 ∙ k ∙ yes c (c + digit_limit) z))
          (λ y.
          let n : needless_zero s ≡ false = ap needless_zero p.number_is ∙ simp (ne_eqb _ _ y.0, and-false) in
          let m : too_many_digits s ≡ true = ap too_many_digits p.number_is ∙ lt-ltb digit_limit _ y.1 in
          (rw (n, m), y.2 ∙ ap (λ (x : ℕ). x + digit_limit) k ∙ no c (c + digit_limit) n))
          h.bad;
    }

known_asks : (x : Option Name) (arg : ℕ) → unknown_name x ≡ false → is_bad (asked_by x arg) ≡ false
known_asks None arg u = u
known_asks (Some x) arg u = refl

line_sure : (line : List ℕ) → Sure (line_rows line) (faults_of line) (asked_by (name_of (name_text line)) (value_of (digits_text line)))
unfolding Sure
line_sure line = (
  long_sure line,
  λ s. (
    form_sure line,
    λ t.
        let f = in_form_lem line (not-false (in_form line) t) in
        (name_sure line f, λ u. (digits_sure line f, λ d. known_asks (name_of (name_text line)) (value_of (digits_text line)) u)),
  ),
)

-- T16. a line is bad with this number, at this column, exactly by the first of its rows; and it asks for something exactly where none holds
pub fault_exactly : (line : List ℕ) (number column : ℕ) → Bad (request_of line) number column ↔ FirstRow (line_rows line) number column
unfolding request_of
fault_exactly line number column = (
  first_told (line_rows line) (faults_of line) _ number column (line_sure line),
  first_given (line_rows line) (faults_of line) _ number column (line_sure line),
)

pub no_fault : (line : List ℕ) → (is_bad (request_of line) ≡ false) ↔ NoRow (line_rows line)
unfolding request_of
no_fault line = (none_told (line_rows line) (faults_of line) _ (line_sure line), none_given (line_rows line) (faults_of line) _ (line_sure line))

-- T17. it is bad exactly as it was
any_fault : (s t d : Bool) (x : Option Name) (form digits arg : ℕ)
    → is_bad (pick s (Err TooLong) (pick t (Err (NotInForm form)) (pick (unknown_name x) (Err UnknownName) (pick d (Err (BadDigits digits)) (asked_by x arg)))))
    ≡ (s || t || unknown_name x || d)
any_fault true t d x form digits arg = refl
any_fault false true d x form digits arg = refl
any_fault false false d None form digits arg = refl
any_fault false false true (Some x) form digits arg = refl
any_fault false false false (Some x) form digits arg = refl

pub bad_as_before : (line : List ℕ) → is_bad (request_of line) ≡ bad_line line
unfolding request_of bad_line
bad_as_before line = any_fault (too_long line) (not (in_form line)) (bad_digits (digits_text line)) (name_of (name_text line)) _ _ _

-- what a line asks for, by the tests in their order
pub long_asks : (line : List ℕ) → too_long line ≡ true → request_of line ≡ Err TooLong
unfolding request_of
long_asks line e = rw e

pub form_asks :
    (line : List ℕ) (column : ℕ) → too_long line ≡ false → in_form line ≡ false → column ≡ form_column line → Err (NotInForm column) ≡ request_of line
unfolding request_of
form_asks line column s f e = rw (s, f, e)

pub name_asks :
    (line : List ℕ) → too_long line ≡ false → in_form line ≡ true → unknown_name (name_of (name_text line)) ≡ true → request_of line ≡ Err UnknownName
unfolding request_of
name_asks line s f e = rw (s, f, e)

pub number_asks :
    (line : List ℕ) → too_long line ≡ false → in_form line ≡ true → unknown_name (name_of (name_text line)) ≡ false → bad_digits (digits_text line) ≡ true
    → request_of line ≡ Err (BadDigits (number_column line))
unfolding request_of
number_asks line s f u e = rw (s, f, u, e)

pub all_asks :
    (line : List ℕ) → too_long line ≡ false → in_form line ≡ true → unknown_name (name_of (name_text line)) ≡ false → bad_digits (digits_text line) ≡ false
    → request_of line ≡ asked_by (name_of (name_text line)) (value_of (digits_text line))
unfolding request_of
all_asks line s f u e = rw (s, f, u, e)

-- how far a line goes along, by the pieces that it has
pub reach_op : (line : List ℕ) → agreed op_text line ≢ 3 → form_reach line ≡ agreed op_text line
unfolding form_reach
reach_op line n = simp (ne_eqb (agreed op_text line) 3 n)

pub reach_name : (line : List ℕ) → agreed op_text line ≡ 3 → name_size line ≡ 0 → form_reach line ≡ 3
unfolding form_reach name_size
reach_name line o n = simp (eq-eqb (agreed op_text line) 3 o, n)

pub reach_arg :
    (line : List ℕ) → agreed op_text line ≡ 3 → name_size line ≢ 0 → agreed arg_text (after_name line) ≢ 5
    → form_reach line ≡ 3 + (name_size line + agreed arg_text (after_name line))
unfolding form_reach name_size
reach_arg line o n a =
    let h : 0 < leading letter (after_op line) = omega (arith, n) in
    simp (eq-eqb (agreed op_text line) 3 o, lt-ltb 0 (leading letter (after_op line)) h, ne_eqb (agreed arg_text (after_name line)) 5 a)

pub reach_digits :
    (line : List ℕ) → agreed op_text line ≡ 3 → name_size line ≢ 0 → agreed arg_text (after_name line) ≡ 5
    → form_reach line ≡ 3 + (name_size line + (5 + leading digit (digits_text line)))
unfolding form_reach name_size digits_text
reach_digits line o n a =
    let h : 0 < leading letter (after_op line) = omega (arith, n) in
    simp (eq-eqb (agreed op_text line) 3 o, lt-ltb 0 (leading letter (after_op line)) h, eq-eqb (agreed arg_text (after_name line)) 5 a)

-- the pieces of a line are no longer than it; good digits are no more than are read
pub size_within : (line : List ℕ) → name_size line ≤ length line
unfolding name_size
size_within line = omega (arith, leading_within letter (after_op line), length-drop 3 line)

pub arg_within : (line : List ℕ) → agreed arg_text (after_name line) ≤ length line
arg_within line = omega (arith, agreed_within arg_text (after_name line), length-drop (name_size line) (after_op line), length-drop 3 line)

pub run_within : (line : List ℕ) → leading digit (digits_text line) ≤ length line
unfolding digits_text
run_within line =
    omega (arith, leading_within digit (digits_text line), length-drop 5 (after_name line), length-drop (name_size line) (after_op line), length-drop 3 line)

few : (s : List ℕ) → bad_digits s ≡ false → length s ≤ digit_limit
few s e = ltb-false digit_limit (length s) (neither_right (needless_zero s) (too_many_digits s) e)

pub few_digits : (s : List ℕ) → bad_digits s ≡ false → take read_limit s ≡ s
few_digits s e = take_all read_limit s (omega (arith, few s e))

-- a line that is not bad passed the four tests
record Good (line : List ℕ) : Type 0 where
  short : too_long line ≡ false
  form : InForm line
  known : unknown_name (name_of (name_text line)) ≡ false
  number : bad_digits (digits_text line) ≡ false

good_line : (line : List ℕ) → bad_line line ≡ false → Good line
unfolding bad_line
good_line line e =
    let t1 = too_long line in
    let t2 = not (in_form line) in
    let t3 = unknown_name (name_of (name_text line)) in
    let t4 = bad_digits (digits_text line) in
    let e3 : (t1 || t2 || t3) ≡ false = neither_left (t1 || t2 || t3) t4 e in
    let e2 : (t1 || t2) ≡ false = neither_left (t1 || t2) t3 e3 in
    record {
      short = neither_left t1 t2 e2;
      form = in_form_lem line (not-false (in_form line) (neither_right t1 t2 e2));
      known = neither_right (t1 || t2) t3 e3;
      number = neither_right (t1 || t2 || t3) t4 e;
    }

good_asks : (line : List ℕ) → Good line → request_of line ≡ asked_by (name_of (name_text line)) (value_of (digits_text line))
good_asks line g = all_asks line g.short (form_in line g.form) g.known g.number

pub good_request : (line : List ℕ) → bad_line line ≡ false → request_of line ≡ asked_by (name_of (name_text line)) (value_of (digits_text line))
good_request line b = good_asks line (good_line line b)

-- the text of a listed word and a number, of no more digits than a line may have, passes the four tests
module _ (word : List ℕ) (x : Name) (n : ℕ) (listed : Listed names word x) where
  word_letters : Run letter word
  word_letters = record { each = (listed_good word x listed).letters; one = (listed_good word x listed).some }

  text : List ℕ
  text = whole_line word (decimal_text n) word_letters

  text_good : length (decimal_text n) ≤ digit_limit → Good text
  unfolding text
  text_good d =
      let g = listed_good word x listed in
      let s = decimal_text n in
      let e = name_text_lem word s word_letters in
      let f = digits_text_lem word s word_letters in
      record {
        short = le-ltb line_limit (length text) (omega (arith, g.few, whole_length word s word_letters));
        form = pieces_form word s word_letters (record { each = decimal_digits n; one = decimal_some n });
        known = rw (e, name_back word x listed) refl;
        number = rw f (neither (decimal_needed n) (le-ltb digit_limit (length s) d));
      }

  text_asks : length (decimal_text n) ≤ digit_limit → request_of text ≡ Ok (asked x n)
  unfolding text
  text_asks d =
      good_asks text (text_good d)
      ∙ (λ i. asked_by ((ap name_of (name_text_lem word (decimal_text n) word_letters) ∙ name_back word x listed) i) ((ap value_of (digits_text_lem word (decimal_text n) word_letters) ∙ value_of_decimal n) i))

-- a good line is such a text
good_spelled : (line : List ℕ) (x : Name) → Good line → name_of (name_text line) ≡ Some x → Spelled line x (value_of (digits_text line))
good_spelled line x g e =
    let s = digits_text line in
    let d = sym (decimal_of_value s g.form.digits g.form.whole (neither_left (needless_zero s) (too_many_digits s) g.number)) in
    record {
      word = name_text line;
      listed = name_only (name_text line) x e;
      few = rw (sym d) (few s g.number);
      text = form_pieces line g.form ∙ ap (λ (t : List ℕ). op_text ++ (name_text line ++ (arg_text ++ t))) d;
    }

-- two names ask for the same thing only if they and their numbers are the same
asked_same : (x y : Name) (m n : ℕ) → asked x m ≡ asked y n → (x ≡ y) × (m ≡ n)
asked_same PartName PartName m n e = (refl, cc)
asked_same PartName (ActName b) m n e = absurd (let z : ◌≡◌ {A = ℕ} 0 1 = cc in omega arith)
asked_same (ActName a) PartName m n e = absurd (let z : ◌≡◌ {A = ℕ} 0 1 = cc in omega arith)
asked_same (ActName a) (ActName b) m n e = (cc, cc)

ok_same : {x y : Request} → ◌≡◌ {A = Result Request Fault} (Ok x) (Ok y) → x ≡ y
ok_same e = cc

-- a line asks for a name's thing exactly when it is its text
pub asks_exactly : (line : List ℕ) (x : Name) (n : ℕ) → (request_of line ≡ Ok (asked x n)) ↔ Spelled line x n
unfolding text whole_line ending
asks_exactly line x n = (
  λ e.
      let b : bad_line line ≡ false = sym (bad_as_before line) ∙ ap is_bad e in
      let g = good_line line b in
      let y = named (name_of (name_text line)) g.known in
      let v = value_of (digits_text line) in
      let a : request_of line ≡ Ok (asked y.0 v) = good_asks line g ∙ ap (λ (z : Option Name). asked_by z v) y.1 in
      let s = asked_same y.0 x v n (ok_same (sym a ∙ e)) in
      subst (Spelled line x) s.1 (good_spelled line x g (y.1 ∙ ap Some s.0)),
  λ w. ap request_of w.text ∙ text_asks w.word x n w.listed w.few,
)

-- a bad line's number is above 70 and has two digits, and so has its column at most
abbrev pub TwoDigits : Result Request Fault → Type 0
TwoDigits (Ok request) = Unit {0}
TwoDigits (Err fault) = (70 < fault_number fault) × (fault_number fault < 100) × (fault_column fault < 100)

asked_small : (x : Option Name) (arg : ℕ) → TwoDigits (asked_by x arg)
asked_small None arg = (omega arith, omega arith, omega arith)
asked_small (Some x) arg = tt

pub fault_small : (line : List ℕ) → TwoDigits (request_of line)
unfolding request_of number_column
fault_small line =
    pick_when TwoDigits (too_long line) (λ t. (omega arith, omega arith, omega arith))
    (λ s.
    let l : length line ≤ line_limit = ltb-false line_limit (length line) s in
    let c = digit_column line in
    let m : number_column line < 100 =
    pick_case (λ (n : ℕ). n < 100) (needless_zero (digits_text line)) (omega (arith, size_within line, l)) (omega (arith, size_within line, l)) in
    pick_case TwoDigits (not (in_form line)) (omega arith, omega arith, omega (arith, (reach_longest line).within, l))
    (pick_case TwoDigits (unknown_name (name_of (name_text line))) (omega arith, omega arith, omega arith)
    (pick_case TwoDigits (bad_digits (digits_text line)) (omega arith, omega arith, m) (asked_small (name_of (name_text line)) (value_of (digits_text line))))))

-- rows in front of others
pub first_append :
    (rows more : List LineRow) (number column : ℕ)
    → FirstRow (rows ++ more) number column ↔ (FirstRow rows number column ⊎ (NoRow rows × FirstRow more number column))
unfolding FirstRow NoRow
first_append [] more number column = (λ h. inr (tt, h), λ h. ⊎_elim (λ a. absurd a) (λ b. b.1) h)
first_append (r ∷ rows) more number column =
    let k = first_append rows more number column in (
      λ h. ⊎_elim (λ a. inl (inl a)) (λ b. ⊎_elim (λ x. inl (inr (b.0, x))) (λ y. inr ((b.0, y.0), y.1)) (k.0 b.1)) h,
      λ h. ⊎_elim (λ a. ⊎_elim inl (λ b. inr (b.0, k.1 (inl b.1))) a) (λ y. inr (y.0.0, k.1 (inr (y.0.1, y.1)))) h,
    )

pub none_append : (rows more : List LineRow) → NoRow (rows ++ more) ↔ (NoRow rows × NoRow more)
unfolding NoRow
none_append [] more = (λ h. (tt, h), λ h. h.1)
none_append (r ∷ rows) more =
    let k = none_append rows more in (
      λ h. ((h.0, (k.0 h.1).0), (k.0 h.1).1),
      λ h. (h.0.0, k.1 (h.0.1, h.1)),
    )

-- what a line of the form with a listed name asks for, where it is not bad; and a line that asks for a name's thing is such a one
pub listed_asks :
    (line : List ℕ) (f : Formed line) (x : Name) → Listed names f.name x → is_bad (request_of line) ≡ false
    → request_of line ≡ Ok (asked x (value_of (digits_text line)))
listed_asks line f x l b =
    good_request line (sym (bad_as_before line) ∙ b)
    ∙ ap (λ (y : Option Name). asked_by y (value_of (digits_text line))) (ap name_of (pieces line f).name_is ∙ name_back f.name x l)

pub spelled_formed : (line : List ℕ) (x : Name) (arg : ℕ) → Spelled line x arg → (f : Formed line) × Listed names f.name x
spelled_formed line x arg w = (
  record {
    name = w.word;
    number = decimal_text arg;
    letters = word_letters w.word x arg w.listed;
    digits = record { each = decimal_digits arg; one = decimal_some arg };
    text = w.text;
  },
  w.listed,
)
