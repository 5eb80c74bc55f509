-- Laws of lines: a line read is the text of what was read, and the other way; a text is its lines.
-- Assumes nothing.
use mathlib.Core.Path.{◌≡◌, refl, sym, ap, ◌∙◌}
use mathlib.Core.Bool.{true, false, not}
use mathlib.Core.List.{List, [], ◌∷◌, ◌++◌, append-nil, append_assoc}
use mathlib.Core.Option.{Option, none, some, some-injective, none-ne-some}
use Prim.Native.Nat.{ℕ, ◌<◌, ◌≤◌}
use native.Mathlib.Omega.{arith}
use borrow.Author.Tests.{eq-eqb, eqb-true, ne_eqb, lt-ltb, ltb-true, leb-true, not-true}
use lib.Dec.{eqb, ltb, leb}
use lib.ListN.{length, drop, length-append}
use lib.Seq.{drop-append_seam, append_snoc}
use Rattle.base.specs.Words.{pick}
use Rattle.base.proofs.Tests.{by_cases, yes, no, both_left, both_right, both_true, true_false}
use Rattle.text.specs.Bytes.{agreed, begins, leading, digit, newline}
use Rattle.text.specs.Decimal.{needless_zero, value_of, decimal_text}
use Rattle.text.proofs.BytesLaws.{leading_first, leading_rest, leading_append, agreed_with, agreed_itself}
use Rattle.text.proofs.DecimalLaws.{value_of_decimal, decimal_of_value, decimal_digits, decimal_some, decimal_needed}
use Rattle.form.specs.Lines.{equals, comma, followed, numbers_text, head_of, line_text, number, before, ends, numbers_in, read_line, onto, lines_in, joined, unbroken}

-- a text is its lines
joined_onto : (b : ℕ) (ps : List (List ℕ)) → joined (onto b ps) ≡ b ∷ joined ps
unfolding joined
joined_onto b [] = refl
joined_onto b (p ∷ ps) = refl

pub joined_lines : (s : List ℕ) → joined (lines_in s) ≡ s
unfolding joined lines_in
joined_lines [] = refl
joined_lines (b ∷ s) =
    by_cases (eqb b newline) (λ t. rw t (ap (λ (r : List ℕ). b ∷ r) (joined_lines s)))
    (λ f. rw f (joined_onto b (lines_in s) ∙ ap (λ (r : List ℕ). b ∷ r) (joined_lines s)))

-- a text without a newline, and the newline, are one line
line_first : (body s : List ℕ) → unbroken body ≡ true → lines_in (body ++ newline ∷ s) ≡ (body ++ (newline ∷ [])) ∷ lines_in s
unfolding unbroken lines_in
line_first [] s e = refl
line_first (b ∷ body) s e =
    let f : eqb b newline ≡ false = not-true (eqb b newline) (both_left (not (eqb b newline)) (unbroken body) e) in
    rw (f, line_first body s (both_right (not (eqb b newline)) (unbroken body) e))

pub unbroken_append : (s t : List ℕ) → unbroken s ≡ true → unbroken t ≡ true → unbroken (s ++ t) ≡ true
unfolding unbroken
unbroken_append [] t p q = q
unbroken_append (b ∷ s) t p q =
    both_true (both_left (not (eqb b newline)) (unbroken s) p) (unbroken_append s t (both_right (not (eqb b newline)) (unbroken s) p) q)

pub unbroken_digits : (s : List ℕ) → leading digit s ≡ length s → unbroken s ≡ true
unfolding unbroken
unbroken_digits [] e = refl
unbroken_digits (b ∷ s) e =
    let l : 48 ≤ b = leb-true 48 b (both_left (leb 48 b) (leb b 57) (leading_first digit b s e)) in
    both_true (ap not (ne_eqb b newline (λ q. omega arith))) (unbroken_digits s (leading_rest digit b s e))

-- what a line is before its newline
abbrev Body : List ℕ → Type 0
Body s = (body : List ℕ) × (unbroken body ≡ true) × (s ≡ body ++ (newline ∷ []))

decimal_body : (n : ℕ) (s : List ℕ) → Body s → Body (decimal_text n ++ s)
decimal_body n s b = (
  decimal_text n ++ b.0,
  unbroken_append (decimal_text n) b.0 (unbroken_digits (decimal_text n) (decimal_digits n)) b.1,
  ap (λ (t : List ℕ). decimal_text n ++ t) b.2 ∙ sym (append_assoc (decimal_text n) b.0 (newline ∷ [])),
)

followed_body : (x : List ℕ) → Body (followed x)
unfolding followed unbroken
followed_body [] = ([], refl, refl)
followed_body (n ∷ x) =
    let b = decimal_body n (followed x) (followed_body x) in
    (comma ∷ b.0, b.1, ap (λ (t : List ℕ). comma ∷ t) b.2)

numbers_body : (x : List ℕ) → Body (numbers_text x)
unfolding numbers_text unbroken
numbers_body [] = ([], refl, refl)
numbers_body (n ∷ x) = decimal_body n (followed x) (followed_body x)

pub lines_line : (key x s : List ℕ) → unbroken key ≡ true → lines_in (line_text key x ++ s) ≡ line_text key x ∷ lines_in s
unfolding line_text unbroken
lines_line key x s e =
    let b = numbers_body x in
    let body = head_of key ++ b.0 in
    let p : unbroken body ≡ true = unbroken_append (head_of key) b.0 (unbroken_append key (equals ∷ []) e refl) b.1 in
    let q : head_of key ++ numbers_text x ≡ body ++ (newline ∷ []) =
    ap (λ (t : List ℕ). head_of key ++ t) b.2 ∙ sym (append_assoc (head_of key) b.0 (newline ∷ [])) in
    ap (λ (t : List ℕ). lines_in (t ++ s)) q
    ∙ ap lines_in (append_snoc body newline s)
    ∙ line_first body s p
    ∙ ap (λ (t : List ℕ). t ∷ lines_in s) (sym q)

-- digits go to those already read
digits_in : (s t u : List ℕ) → leading digit t ≡ length t → numbers_in s (t ++ u) ≡ numbers_in (s ++ t) u
unfolding numbers_in
digits_in s [] u e = ap (λ (r : List ℕ). numbers_in r u) (sym (append-nil s))
digits_in s (b ∷ t) u e =
    rw (leading_first digit b t e)
    (digits_in (s ++ (b ∷ [])) t u (leading_rest digit b t e) ∙ ap (λ (r : List ℕ). numbers_in r u) (append_snoc s b t))

pub decimal_number : (n : ℕ) → number (decimal_text n) ≡ true
decimal_number n = both_true (lt-ltb 0 (length (decimal_text n)) (decimal_some n)) (ap not (decimal_needed n))

-- reading what was written
numbers_back : (n : ℕ) (x : List ℕ) → numbers_in (decimal_text n) (followed x) ≡ some (n ∷ x)
unfolding numbers_in followed
numbers_back n [] = rw (decimal_number n, value_of_decimal n)
numbers_back n (m ∷ x) =
    rw (decimal_number n, value_of_decimal n)
    (ap (before n) (digits_in [] (decimal_text m) (followed x) (decimal_digits m) ∙ numbers_back m x))

pub begins_itself : (word s : List ℕ) → begins word (word ++ s) ≡ true
begins_itself word s = eq-eqb (agreed word (word ++ s)) (length word) (agreed_itself word s)

pub read_text : (key : List ℕ) (n : ℕ) (x : List ℕ) → read_line key (line_text key (n ∷ x)) ≡ some (n ∷ x)
unfolding read_line line_text numbers_text
read_text key n x =
    rw (begins_itself (head_of key) (decimal_text n ++ followed x), drop-append_seam (head_of key) (decimal_text n ++ followed x))
    (digits_in [] (decimal_text n) (followed x) (decimal_digits n) ∙ numbers_back n x)

-- writing what was read
abbrev Written : List ℕ → List ℕ → List ℕ → Type 0
Written s t x = (n : ℕ) × (y : List ℕ) × (x ≡ n ∷ y) × (s ++ t ≡ decimal_text n ++ followed y)

pub number_text : (s : List ℕ) → leading digit s ≡ length s → number s ≡ true → s ≡ decimal_text (value_of s)
number_text s d e =
    let l : 0 < length s = ltb-true 0 (length s) (both_left (ltb 0 (length s)) (not (needless_zero s)) e) in
    let z : needless_zero s ≡ false = not-true (needless_zero s) (both_right (ltb 0 (length s)) (not (needless_zero s)) e) in
    sym (decimal_of_value s l d z)

digit_more : (s : List ℕ) (b : ℕ) → leading digit s ≡ length s → digit b ≡ true → leading digit (s ++ (b ∷ [])) ≡ length (s ++ (b ∷ []))
unfolding leading
digit_more s b d e =
    leading_append digit s (b ∷ []) d ∙ rw e (sym (length-append s (b ∷ [])))

-- after a comma, and at the end
after_comma :
    (s t x : List ℕ) (o : Option (List ℕ)) → s ≡ decimal_text (value_of s) → ((y : List ℕ) → o ≡ some y → Written [] t y)
    → before (value_of s) o ≡ some x → Written s (comma ∷ t) x
unfolding followed
after_comma s t x none d r e = absurd (none-ne-some x e)
after_comma s t x (some y) d r e =
    let w = r y refl in (
      value_of s,
      w.0 ∷ w.1,
      sym (some-injective (value_of s ∷ y) x e) ∙ ap (λ (z : List ℕ). value_of s ∷ z) w.2,
      (λ i. d i ++ (comma ∷ w.3 i)),
    )

at_end : (s : List ℕ) (b : ℕ) (t x : List ℕ) → s ≡ decimal_text (value_of s) → ends b t ≡ true → some (value_of s ∷ []) ≡ some x → Written s (b ∷ t) x
unfolding followed
at_end s b [] x d t e = (value_of s, [], sym (some-injective (value_of s ∷ []) x e), (λ i. d i ++ (eqb-true b newline t i ∷ [])))
at_end s b (c ∷ u) x d t e = absurd (true_false t refl)

numbers_written : (t s x : List ℕ) → leading digit s ≡ length s → numbers_in s t ≡ some x → Written s t x
unfolding numbers_in leading
numbers_written [] s x d e = absurd (none-ne-some x e)
numbers_written (b ∷ t) s x d e =
    let i1 = numbers_in (s ++ (b ∷ [])) t in
    let i2 = before (value_of s) (numbers_in [] t) in
    let i3 : Option (List ℕ) = some (value_of s ∷ []) in
    let p3 = pick (ends b t) i3 none in
    let p2 = pick (eqb b comma) i2 p3 in
    let p1 = pick (number s) p2 none in
    by_cases (digit b)
    (λ g.
    let w = numbers_written t (s ++ (b ∷ [])) x (digit_more s b d g) (yes i1 p1 g ∙ e) in
    (w.0, w.1, w.2, sym (append_snoc s b t) ∙ w.3))
    (λ g.
    let e1 = no i1 p1 g ∙ e in
    by_cases (number s)
    (λ h.
    let e2 = yes p2 none h ∙ e1 in
    let n = number_text s d h in
    by_cases (eqb b comma)
    (λ k.
    rw (eqb-true b comma k) (after_comma s t x (numbers_in [] t) n (λ y. numbers_written t [] y refl) (yes i2 p3 k ∙ e2)))
    (λ k.
    let e3 = no i2 p3 k ∙ e2 in
    by_cases (ends b t) (λ m. at_end s b t x n m (yes i3 none m ∙ e3)) (λ m. absurd (none-ne-some x (no i3 none m ∙ e3)))))
    (λ h. absurd (none-ne-some x (no p2 none h ∙ e1))))

pub text_read_lem : (key p x : List ℕ) → read_line key p ≡ some x → p ≡ line_text key x
unfolding read_line line_text numbers_text leading
text_read_lem key p x e =
    let rest = drop (length (head_of key)) p in
    by_cases (begins (head_of key) p)
    (λ t.
    let w = numbers_written rest [] x refl (yes (numbers_in [] rest) none t ∙ e) in
    agreed_with (head_of key) p (eqb-true (agreed (head_of key) p) (length (head_of key)) t)
    ∙ ap (λ (s : List ℕ). head_of key ++ s) (w.3 ∙ ap numbers_text (sym w.2)))
    (λ f. absurd (none-ne-some x (no (numbers_in [] rest) none f ∙ e)))
