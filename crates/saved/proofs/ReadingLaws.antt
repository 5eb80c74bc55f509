-- Laws of a reading: to read the next line, judge it and go on gives what the rest of the form gives from here. So to read line after line, with no
-- branch at a bad one, gives the form's answer at its end.
-- Assumes nothing.
use mathlib.Core.Path.{◌≡◌, refl, sym, ap, ◌∙◌}
use mathlib.Core.Bool.{Bool, true, false, not, ◌&&◌, ◌||◌, or-true}
use mathlib.Core.List.{List, [], ◌∷◌, ◌++◌, append_assoc}
use mathlib.Core.Option.{Option, none, some}
use Prim.Native.Nat.{ℕ, zero, suc, ◌+◌, ◌-◌, ◌<◌, ◌≤◌}
use native.Mathlib.Omega.{arith}
use native.Mathlib.Nat.{add-zero, zero-add}
use borrow.Author.Tests.{eq-eqb, eqb-true, ne_eqb, le-leb, ltb-true, ltb-false, not-true, not-false}
use lib.Dec.{eqb, leb, ltb}
use lib.ListN.{length, drop, length-drop, take-append-drop}
use lib.Seq.{drop-append_seam, take-append_seam}
use Rattle.base.specs.Words.{pick}
use Rattle.base.proofs.Tests.{by_cases, yes, no, pick_case, both_left, both_right, both_true, neither_left, neither_right, true_false}
use Rattle.text.specs.Bytes.{agreed, begins, leading, digit, newline}
use Rattle.text.specs.Decimal.{decimal_text}
use Rattle.text.proofs.BytesLaws.{leading_append, leading_taken, agreed_with}
use Rattle.text.proofs.DecimalLaws.{value_of_decimal, decimal_digits, decimal_places}
use Rattle.form.specs.Lines.{comma, followed, numbers_text, head_of, line_text, number, read_line, onto, lines_in, joined, unbroken}
use Rattle.form.specs.Form.{Form, done, line, may_end, loaded, bad, later, on_line, judged, load}
use Rattle.form.proofs.LinesLaws.{read_text, text_read_lem, lines_line, joined_lines, number_text, decimal_number, begins_itself}
use Rattle.saved.specs.Reading.{Reading, reading, stop, past_word, digit_limit, digits_at, readable, number_at, past_number, Got, got, more, line_from, line_at, settled, complete, later_by, resumed}

-- what was passed
word_passed :
    (w : List ℕ) (s : Reading) → (past_word w s).stopped ≡ false → (s.stopped ≡ false) × (s.text ≡ w ++ (past_word w s).text)
unfolding past_word
word_passed w s e =
    by_cases (s.stopped || not (begins w s.text))
    (λ t. absurd (true_false (sym (ap (λ (r : Reading). r.stopped) (yes (stop s) (reading (drop (length w) s.text) s.lines false) t))) e))
    (λ f.
    let b : begins w s.text ≡ true = not-false (begins w s.text) (neither_right s.stopped (not (begins w s.text)) f) in (
      neither_left s.stopped (not (begins w s.text)) f,
      rw f (agreed_with w s.text (eqb-true (agreed w s.text) (length w) b)),
    ))

number_passed :
    (s : Reading) → (past_number s).stopped ≡ false → (s.stopped ≡ false) × (s.text ≡ decimal_text (number_at s) ++ (past_number s).text)
unfolding past_number number_at readable
number_passed s e =
    let d = digits_at s in
    let n1 = not s.stopped in
    let n2 = number d && leb (length d) digit_limit in
    by_cases (n1 && n2)
    (λ t.
    let o : number d ≡ true = both_left (number d) (leb (length d) digit_limit) (both_right n1 n2 t) in (
      not-true s.stopped (both_left n1 n2 t),
      rw t
          (sym (take-append-drop (leading digit s.text) s.text)
          ∙ ap (λ (x : List ℕ). x ++ drop (leading digit s.text) s.text) (number_text d (leading_taken digit s.text) o)),
    ))
    (λ f. absurd (true_false (sym (ap (λ (r : Reading). r.stopped) (no (reading (drop (leading digit s.text) s.text) s.lines false) (stop s) f))) e))

more_passed :
    (c : ℕ) (s : Reading) → (more c s).after.stopped ≡ false
    → (s.stopped ≡ false) × (s.text ≡ followed (more c s).numbers ++ (more c s).after.text)
unfolding more followed
more_passed zero s e = word_passed (newline ∷ []) s e
more_passed (suc c) s e =
    let t = past_word (comma ∷ []) s in
    let u = past_number t in
    let g = more_passed c u e in
    let n = number_passed t g.0 in
    let w = word_passed (comma ∷ []) s n.0 in (
      w.0,
      w.1
          ∙ ap (λ (x : List ℕ). comma ∷ x)
          (n.1 ∙ ap (λ (x : List ℕ). decimal_text (number_at t) ++ x) g.1
          ∙ sym (append_assoc (decimal_text (number_at t)) (followed (more c u).numbers) (more c u).after.text)),
    )

line_passed :
    (key : List ℕ) (c : ℕ) (s : Reading) → (line_at key c s).after.stopped ≡ false
    → (s.stopped ≡ false) × (s.text ≡ line_text key (line_at key c s).numbers ++ (line_at key c s).after.text)
unfolding line_from line_text numbers_text
line_passed key c s e =
    let t = past_word (head_of key) s in
    let u = past_number t in
    let g = more_passed c u e in
    let n = number_passed t g.0 in
    let w = word_passed (head_of key) s n.0 in
    let d = decimal_text (number_at t) in
    let f = followed (more c u).numbers in
    let r = (more c u).after.text in (
      w.0,
      w.1
          ∙ ap (λ (x : List ℕ). head_of key ++ x) (n.1 ∙ ap (λ (x : List ℕ). d ++ x) g.1 ∙ sym (append_assoc d f r))
          ∙ sym (append_assoc (head_of key) (d ++ f) r),
    )

-- what is passed
word_takes : (w r : List ℕ) (k : ℕ) → past_word w (reading (w ++ r) k false) ≡ reading r k false
unfolding past_word
word_takes w r k = rw (begins_itself w r, drop-append_seam w r)

-- numbers that a file can have
abbrev pub Small : List ℕ → Type 0
Small [] = Unit {0}
Small (n ∷ x) = (n < 100000000) × Small x

module _ (n : ℕ) (r : List ℕ) (k : ℕ) (h : leading digit r ≡ 0) (l : n < 100000000) where
  digits_end : leading digit (decimal_text n ++ r) ≡ length (decimal_text n)
  digits_end = leading_append digit (decimal_text n) r (decimal_digits n) ∙ rw h (add-zero (length (decimal_text n)))

  digits_are : digits_at (reading (decimal_text n ++ r) k false) ≡ decimal_text n
  digits_are = rw digits_end (take-append_seam (decimal_text n) r)

  is_readable : readable (reading (decimal_text n ++ r) k false) ≡ true
  unfolding readable
  is_readable =
      rw digits_are (both_true (decimal_number n) (le-leb (length (decimal_text n)) digit_limit (decimal_places 7 n l)))

  number_takes : number_at (reading (decimal_text n ++ r) k false) ≡ n
  unfolding number_at
  number_takes = rw (is_readable, digits_are) (value_of_decimal n)

  number_leaves : past_number (reading (decimal_text n ++ r) k false) ≡ reading r k false
  unfolding past_number
  number_leaves = rw (is_readable, digits_end, drop-append_seam (decimal_text n) r)

followed_none : (x r : List ℕ) → leading digit (followed x ++ r) ≡ 0
unfolding leading followed
followed_none [] r = refl
followed_none (n ∷ x) r = refl

more_takes : (x r : List ℕ) (k : ℕ) → Small x → more (length x) (reading (followed x ++ r) k false) ≡ got x (reading r k false)
unfolding more followed
more_takes [] r k h = λ i. got [] (word_takes (newline ∷ []) r k i)
more_takes (n ∷ x) r k h =
    let d = decimal_text n in
    let t = word_takes (comma ∷ []) ((d ++ followed x) ++ r) k ∙ ap (λ (y : List ℕ). reading y k false) (append_assoc d (followed x) r) in
    let e = ap number_at t ∙ number_takes n (followed x ++ r) k (followed_none x r) h.0 in
    let g =
    ap (λ (s : Reading). more (length x) (past_number s)) t
    ∙ ap (more (length x)) (number_leaves n (followed x ++ r) k (followed_none x r) h.0)
    ∙ more_takes x r k h.1 in
    λ i. got (e i ∷ (g i).numbers) (g i).after

line_takes :
    (key : List ℕ) (n : ℕ) (x r : List ℕ) (k : ℕ) → Small (n ∷ x)
    → line_at key (length x) (reading (line_text key (n ∷ x) ++ r) k false) ≡ got (n ∷ x) (reading r k false)
unfolding line_from line_text numbers_text
line_takes key n x r k h =
    let d = decimal_text n in
    let t =
    ap (λ (y : List ℕ). past_word (head_of key) (reading y k false)) (append_assoc (head_of key) (d ++ followed x) r)
    ∙ word_takes (head_of key) ((d ++ followed x) ++ r) k
    ∙ ap (λ (y : List ℕ). reading y k false) (append_assoc d (followed x) r) in
    let e = ap number_at t ∙ number_takes n (followed x ++ r) k (followed_none x r) h.0 in
    let g =
    ap (λ (s : Reading). more (length x) (past_number s)) t
    ∙ ap (more (length x)) (number_leaves n (followed x ++ r) k (followed_none x r) h.0)
    ∙ more_takes x r k h.1 in
    λ i. got (e i ∷ (g i).numbers) (g i).after

-- reading counts no line
pub word_lines : (w : List ℕ) (s : Reading) → (past_word w s).lines ≡ s.lines
unfolding past_word
word_lines w s = pick_case (λ (r : Reading). r.lines ≡ s.lines) (s.stopped || not (begins w s.text)) refl refl

pub number_lines : (s : Reading) → (past_number s).lines ≡ s.lines
unfolding past_number
number_lines s = pick_case (λ (r : Reading). r.lines ≡ s.lines) (readable s) refl refl

more_lines : (c : ℕ) (s : Reading) → (more c s).after.lines ≡ s.lines
unfolding more
more_lines zero s = word_lines (newline ∷ []) s
more_lines (suc c) s = more_lines c (past_number (past_word (comma ∷ []) s)) ∙ number_lines (past_word (comma ∷ []) s) ∙ word_lines (comma ∷ []) s

pub line_lines : (head : List ℕ) (c : ℕ) (s : Reading) → (line_from head c s).after.lines ≡ s.lines
unfolding line_from
line_lines head c s = more_lines c (past_number (past_word head s)) ∙ number_lines (past_word head s) ∙ word_lines head s

-- a first line that is good, one whose numbers are not, and none of the form
module _ {A : Type 0} (key : List ℕ) (test : List ℕ → Bool) (next : List ℕ → Form A) where
  first_read :
      (n : ℕ) (x r : List ℕ) → unbroken key ≡ true
      → judged (line key test next) (lines_in (line_text key (n ∷ x) ++ r))
      ≡ pick (test (n ∷ x)) (later (judged (next (n ∷ x)) (lines_in r))) (bad 1)
  unfolding judged
  first_read n x r p = rw (lines_line key (n ∷ x) r p, read_text key n x)

  first_unread :
      (text : List ℕ) → ((x r : List ℕ) → test x ≡ true → text ≡ line_text key x ++ r → ⊥) → judged (line key test next) (lines_in text) ≡ bad 1
  unfolding judged joined
  first_unread text h = go (lines_in text) (joined_lines text)
    where
      read : (p : List ℕ) (ps : List (List ℕ)) (o : Option (List ℕ)) → read_line key p ≡ o → p ++ joined ps ≡ text
          → on_line o test (λ (x : List ℕ). judged (next x) ps) ≡ bad 1
      read p ps none e j = refl
      read p ps (some x) e j =
          by_cases (test x) (λ t. absurd (h x (joined ps) t (sym j ∙ ap (λ (q : List ℕ). q ++ joined ps) (text_read_lem key p x e)))) (λ f. rw f)

      go : (ps : List (List ℕ)) → joined ps ≡ text → judged (line key test next) ps ≡ bad 1
      go [] j = refl
      go (p ∷ ps) j = read p ps (read_line key p) refl j

later_bad : {A : Type 0} (n k : ℕ) → later_by {A = A} n (bad k) ≡ bad (n + k)
unfolding later_by
later_bad zero k = ap bad (sym (zero-add k))
later_bad {A} (suc n) k =
    let e : n + suc k ≡ suc n + k = omega arith in
    later_bad {A = A} n (suc k) ∙ ap bad e

later_first : {A : Type 0} (n : ℕ) → later_by {A = A} n (bad 1) ≡ bad (suc n)
later_first {A} n =
    let e : n + 1 ≡ suc n = omega arith in
    later_bad {A = A} n 1 ∙ ap bad e

-- what a reading gives that has gone bad, and one that has not
stopped_gives : {A : Type 0} (f : Form A) (s : Reading) → s.stopped ≡ true → resumed f s ≡ bad (suc s.lines)
unfolding resumed
stopped_gives f s e = rw e

going_gives : {A : Type 0} (f : Form A) (s : Reading) → s.stopped ≡ false → resumed f s ≡ later_by s.lines (judged f (lines_in s.text))
unfolding resumed
going_gives f s e = rw e

settled_bad : {A : Type 0} (f : Form A) (t : Bool) (s : Reading) → (s.stopped || not t) ≡ true → resumed f (settled t s) ≡ bad (suc s.lines)
unfolding resumed settled
settled_bad f t s e = rw e

settled_good : {A : Type 0} (f : Form A) (s : Reading) → s.stopped ≡ false → resumed f (settled true s) ≡ later_by s.lines (later (judged f (lines_in s.text)))
unfolding resumed settled later_by
settled_good f s e = rw e

-- The next line read, judged and passed: what the file gives is what the rest of the form gives from there.
module _ {A : Type 0} (key : List ℕ) (test : List ℕ → Bool) (next : List ℕ → Form A) (c : ℕ) (keyed : unbroken key ≡ true)
    (fits : (x : List ℕ) → test x ≡ true → (length x ≡ suc c) × Small x) where
  unread : (s : Reading) → s.stopped ≡ false → (line_at key c s).after.stopped ≡ true → (x r : List ℕ) → test x ≡ true → s.text ≡ line_text key x ++ r → ⊥
  unread s g e [] r t q = absurd (omega (arith, (fits [] t).0))
  unread s g e (n ∷ x) r t q =
      let w = fits (n ∷ x) t in
      let lx : length x ≡ c = omega (arith, w.0) in
      let p : s ≡ reading (line_text key (n ∷ x) ++ r) s.lines false = λ i. reading (q i) s.lines (g i) in
      true_false e
      (ap (λ (y : Reading). (line_at key c y).after.stopped) p
      ∙ ap (λ (k : ℕ). (line_at key k (reading (line_text key (n ∷ x) ++ r) s.lines false)).after.stopped) (sym lx)
      ∙ ap (λ (o : Got). o.after.stopped) (line_takes key n x r s.lines w.1))

  pub line_step :
      (s : Reading)
      → resumed (line key test next) s
      ≡ resumed (next (line_at key c s).numbers) (settled (test (line_at key c s).numbers) (line_at key c s).after)
  unfolding line_from
  line_step s =
      let g = line_at key c s in
      let x = g.numbers in
      let k = line_lines (head_of key) c s in
      let lost : (s.stopped ≡ false → judged (line key test next) (lines_in s.text) ≡ bad 1) → resumed (line key test next) s ≡ bad (suc g.after.lines) =
      λ h.
      by_cases s.stopped (λ e. stopped_gives (line key test next) s e ∙ ap (λ (n : ℕ). bad (suc n)) (sym k))
      (λ e.
      going_gives (line key test next) s e ∙ ap (later_by s.lines) (h e) ∙ later_first s.lines ∙ ap (λ (n : ℕ). bad (suc n)) (sym k)) in
      by_cases g.after.stopped
      (λ e.
      lost (λ o. first_unread key test next s.text (unread s o e))
      ∙ sym (settled_bad (next x) (test x) g.after (rw e)))
      (λ e.
      let p = line_passed key c s e in
      let r = first_read key test next (number_at (past_word (head_of key) s)) (more c (past_number (past_word (head_of key) s))).numbers g.after.text keyed in
      let j = ap (λ (t : List ℕ). judged (line key test next) (lines_in t)) p.1 ∙ r in
      by_cases (test x)
      (λ t.
      going_gives (line key test next) s p.0 ∙ ap (later_by s.lines) (j ∙ sym (yes _ _ t))
      ∙ ap (λ (n : ℕ). later_by n (later (judged (next x) (lines_in g.after.text)))) (sym k)
      ∙ sym (settled_good (next x) g.after e)
      ∙ ap (λ (b : Bool). resumed (next x) (settled b g.after)) (sym t))
      (λ f.
      lost (λ o. j ∙ sym (no _ _ f)) ∙ sym (settled_bad (next x) (test x) g.after (rw (e, f)))))

-- Once stopped, what is still to come does not matter.
pub stopped_same : {A : Type 0} (f g : Form A) (s : Reading) → s.stopped ≡ true → resumed f s ≡ resumed g s
stopped_same f g s e = stopped_gives f s e ∙ sym (stopped_gives g s e)

pub settled_same : {A : Type 0} (f g : Form A) (t : Bool) (s : Reading) → (t ≡ true → f ≡ g) → resumed f (settled t s) ≡ resumed g (settled t s)
settled_same f g t s h =
    by_cases t (λ e. ap (λ (x : Form _). resumed x (settled t s)) (h e))
    (λ e.
    let o : (s.stopped || not t) ≡ true = rw e (or-true s.stopped) in
    settled_bad f t s o ∙ sym (settled_bad g t s o))

-- where it begins, and where it ends
pub reading_begins : {A : Type 0} (f : Form A) (text : List ℕ) → load f text ≡ resumed f (reading text 0 false)
unfolding load resumed later_by
reading_begins f text = refl

some_line : (b : ℕ) (t : List ℕ) → 0 < length (lines_in (b ∷ t))
unfolding lines_in
some_line b t = pick_case (λ (ps : List (List ℕ)). 0 < length ps) (eqb b newline) (omega arith) (some_onto (lines_in t))
  where
    some_onto : (ps : List (List ℕ)) → 0 < length (onto b ps)
    some_onto [] = omega arith
    some_onto (p ∷ ps) = omega arith

later_loaded : {A : Type 0} (n : ℕ) (a : A) → later_by n (loaded a) ≡ loaded a
unfolding later_by
later_loaded zero a = refl
later_loaded (suc n) a = later_loaded n a

pub reading_ends : {A : Type 0} (a : A) (s : Reading) → resumed (done a) s ≡ pick (complete s) (loaded a) (bad (suc s.lines))
unfolding resumed complete judged lines_in
reading_ends a s = go s.text s.lines s.stopped
  where
    over : (ps : List (List ℕ)) (n : ℕ) → 0 < length ps → later_by n (judged (done a) ps) ≡ bad (suc n)
    over [] n h = absurd (omega arith)
    over (p ∷ ps) n h = later_first n

    go : (t : List ℕ) (n : ℕ) (b : Bool)
        → pick b (bad (suc n)) (later_by n (judged (done a) (lines_in t))) ≡ pick (not b && eqb (length t) 0) (loaded a) (bad (suc n))
    go t n true = refl
    go [] n false = later_loaded n a
    go (b ∷ t) n false =
        over (lines_in (b ∷ t)) n (some_line b t) ∙ no (loaded a) (bad (suc n)) (ne_eqb (suc (length t)) 0 (λ q. omega arith))

-- where it may end
pub reading_may_end : {A : Type 0} (a : A) (f : Form A) (s : Reading) → resumed (may_end a f) s ≡ pick (complete s) (resumed (done a) s) (resumed f s)
unfolding resumed complete judged lines_in
reading_may_end {A} a f s = go s.text s.lines s.stopped
  where
    on : (ps : List (List ℕ)) (n : ℕ) → 0 < length ps → later_by n (judged (may_end a f) ps) ≡ later_by n (judged f ps)
    on [] n h = absurd (omega arith)
    on (p ∷ ps) n h = refl

    go : (t : List ℕ) (n : ℕ) (b : Bool)
        → pick b (bad (suc n)) (later_by n (judged (may_end a f) (lines_in t)))
        ≡ pick (not b && eqb (length t) 0) (pick b (bad (suc n)) (later_by n (judged (done a) (lines_in t)))) (pick b (bad (suc n)) (later_by n (judged f (lines_in t))))
    go t n true = refl
    go [] n false = refl
    go (b ∷ t) n false =
        on (lines_in (b ∷ t)) n (some_line b t)
        ∙ no (later_by n (judged (done a) (lines_in (b ∷ t)))) (later_by n (judged f (lines_in (b ∷ t)))) (ne_eqb (suc (length t)) 0 (λ q. omega arith))

-- the test as code makes it, at a place
pub complete_at : (text : List ℕ) (at lines : ℕ) (stopped t : Bool) → (stopped || ltb at (length text)) ≡ t → complete (reading (drop at text) lines stopped) ≡ not t
unfolding complete
complete_at text at lines true t e = ap not e
complete_at text at lines false t e = is_end ∙ ap not e
  where
    left_over : {n m : ℕ} → n ≡ m - at → m ≤ at → n ≡ 0
    left_over p q = omega (arith, p, q)

    some_left : {n m : ℕ} → n ≡ m - at → at < m → n ≡ 0 → ⊥
    some_left p q z = omega (arith, p, q, z)

    is_end : eqb (length (drop at text)) 0 ≡ not (ltb at (length text))
    is_end =
        by_cases (ltb at (length text))
        (λ u. ne_eqb (length (drop at text)) 0 (some_left (length-drop at text) (ltb-true at (length text) u)) ∙ sym (ap not u))
        (λ u. eq-eqb (length (drop at text)) 0 (left_over (length-drop at text) (ltb-false at (length text) u)) ∙ sym (ap not u))
