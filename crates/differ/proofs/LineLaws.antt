-- Laws of two lists of lines side by side, whatever the form: what is listed, in which order, and where nothing is.
-- Assumes nothing.
use Prim.Native.Nat.{ℕ, zero, suc, ◌+◌, ◌<◌}
use native.Mathlib.Nat.{add-zero, suc_inj, suc-ne-zero, le_of_suc-le-suc}
use native.Mathlib.Omega.{arith}
use mathlib.Core.Path.{◌≡◌, refl, sym, ap, subst, ◌∙◌}
use mathlib.Core.Logic.{◌⊎◌, inl, inr, ⊎_elim, ◌≢◌}
use mathlib.Core.Bool.{Bool, true, false}
use mathlib.Core.List.{List, [], ◌∷◌, ◌++◌}
use borrow.Author.Tests.{eq-eqb, ne_eqb, eqb-true}
use lib.Dec.{eqb}
use lib.ListN.{length, get_or}
use Rattle.base.specs.Words.{pick}
use Rattle.base.proofs.Tests.{by_cases, yes, no, true_false}
use Rattle.text.specs.Bytes.{is_word}
use Rattle.text.proofs.BytesLaws.{is_word_lem, word_is}
use Rattle.differ.specs.Differ.{Line, Difference, difference, line_differs, numbers_on, lines_differ}
use Rattle.differ.specs.Claim.{At}

-- Places of lists one behind the other.
pub at_left : {A : Type 0} (x y : List A) (n : ℕ) (a : A) → At x n a → At (x ++ y) n a
unfolding At
at_left [] y n a h = absurd h
at_left (b ∷ x) y zero a h = h
at_left (b ∷ x) y (suc n) a h = at_left x y n a h

pub at_right : {A : Type 0} (x y : List A) (n : ℕ) (a : A) → At y n a → (m : ℕ) × At (x ++ y) m a
unfolding At
at_right [] y n a h = (n, h)
at_right (b ∷ x) y n a h =
    let r = at_right x y n a h in
    (suc r.0, r.1)

pub at_split :
    {A : Type 0} (x y : List A) (n : ℕ) (a : A) → At (x ++ y) n a → At x n a ⊎ ((m : ℕ) × ((n ≡ length x + m) × At y m a))
unfolding At
at_split [] y n a h = inr (n, (omega arith, h))
at_split (b ∷ x) y zero a h = inl h
at_split (b ∷ x) y (suc n) a h = ⊎_elim (λ l. inl l) (λ r. inr (r.0, (one r.0 r.1.0, r.1.1))) (at_split x y n a h)
  where
    one : (m : ℕ) → n ≡ length x + m → suc n ≡ suc (length x) + m
    one m e = omega (arith, e)

pub at_below : {A : Type 0} (x : List A) (n : ℕ) (a : A) → At x n a → n < length x
unfolding At
at_below [] n a h = absurd h
at_below (b ∷ x) zero a h = omega arith
at_below (b ∷ x) (suc n) a h = more (at_below x n a h)
  where
    more : n < length x → suc n < suc (length x)
    more l = omega (arith, l)

-- one that may stand before others
head_case :
    {A : Type 0} (t : Bool) (b : A) (y : List A) (n : ℕ) (a : A) → At (pick t [] (b ∷ []) ++ y) n a
    → ((t ≡ false) × ((n ≡ 0) × (a ≡ b))) ⊎ ((m : ℕ) × ((n ≡ pick t 0 1 + m) × At y m a))
unfolding At
head_case true b y n a h = inr (n, (omega arith, h))
head_case false b y zero a h = inl (refl, (refl, h))
head_case false b y (suc n) a h = inr (n, (omega arith, h))

-- What is listed of two lines from a place on.
pub record OnLine (key : List ℕ) (p : ℕ) (xs ys : List ℕ) (d : Difference) : Type 0 where
  pub named : d.key ≡ key
  pub far : ℕ
  pub at : d.place ≡ p + far
  pub left : far < length xs
  pub right : far < length ys
  pub first : get_or xs far 0 ≡ d.first
  pub second : get_or ys far 0 ≡ d.second
  pub apart : d.first ≢ d.second

one_on : (key : List ℕ) (p x : ℕ) (xs : List ℕ) (y : ℕ) (ys : List ℕ) (d : Difference) → OnLine key (suc p) xs ys d → OnLine key p (x ∷ xs) (y ∷ ys) d
one_on key p x xs y ys d o =
    record {
      named = o.named;
      far = suc o.far;
      at = along o.far o.at;
      left = more o.left;
      right = more o.right;
      first = o.first;
      second = o.second;
      apart = o.apart;
    }
  where
    along : {q : ℕ} (j : ℕ) → q ≡ suc p + j → q ≡ p + suc j
    along j e = omega (arith, e)

    more : {j n : ℕ} → j < n → suc j < suc n
    more l = omega (arith, l)

pub line_told_lem : (key : List ℕ) (p : ℕ) (xs ys : List ℕ) (n : ℕ) (d : Difference) → At (line_differs key p xs ys) n d → OnLine key p xs ys d
unfolding line_differs At
line_told_lem key p [] ys n d h = absurd h
line_told_lem key p (x ∷ xs) [] n d h = absurd h
line_told_lem key p (x ∷ xs) (y ∷ ys) n d h =
    ⊎_elim
    (λ w.
    let e : d ≡ difference key p x y = w.1.1 in
    record {
      named = ap (λ (c : Difference). c.key) e;
      far = 0;
      at = ap (λ (c : Difference). c.place) e ∙ sym (add-zero p);
      left = omega arith;
      right = omega arith;
      first = sym (ap (λ (c : Difference). c.first) e);
      second = sym (ap (λ (c : Difference). c.second) e);
      apart = λ s. differ w.0 (sym (ap (λ (c : Difference). c.first) e) ∙ s ∙ ap (λ (c : Difference). c.second) e);
    })
    (λ w. one_on key p x xs y ys d (line_told_lem key (suc p) xs ys w.0 d w.1.1))
    (head_case (eqb x y) (difference key p x y) (line_differs key (suc p) xs ys) n d h)
  where
    differ : eqb x y ≡ false → x ≢ y
    differ f e = true_false (eq-eqb x y e) f

pub line_listed :
    (key : List ℕ) (p : ℕ) (xs ys : List ℕ) (j : ℕ) → j < length xs → j < length ys → get_or xs j 0 ≢ get_or ys j 0
    → (n : ℕ) × At (line_differs key p xs ys) n (difference key (p + j) (get_or xs j 0) (get_or ys j 0))
unfolding line_differs At
line_listed key p [] ys j l r a = absurd (omega arith)
line_listed key p (x ∷ xs) [] j l r a = absurd (omega arith)
line_listed key p (x ∷ xs) (y ∷ ys) zero l r a = (0, rw (ne_eqb x y a) (λ i. difference key (add-zero p i) x y))
line_listed key p (x ∷ xs) (y ∷ ys) (suc j) l r a =
    let q = line_listed key (suc p) xs ys j (le_of_suc-le-suc l) (le_of_suc-le-suc r) a in
    let e : suc p + j ≡ p + suc j = omega arith in
    let rest = line_differs key (suc p) xs ys in
    let d = difference key (p + suc j) (get_or xs j 0) (get_or ys j 0) in
    at_right (pick (eqb x y) [] (difference key p x y ∷ [])) rest q.0 d
    (subst (λ (c : ℕ). At rest q.0 (difference key c (get_or xs j 0) (get_or ys j 0))) e q.1)

-- in the order of their places
pub line_order :
    (key : List ℕ) (p : ℕ) (xs ys : List ℕ) (n m : ℕ) → n < m → (d e : Difference) → At (line_differs key p xs ys) n d → At (line_differs key p xs ys) m e
    → d.place < e.place
unfolding line_differs At
line_order key p [] ys n m l d e g h = absurd g
line_order key p (x ∷ xs) [] n m l d e g h = absurd g
line_order key p (x ∷ xs) (y ∷ ys) n m l d e g h =
    let t = eqb x y in
    let b = difference key p x y in
    let rest = line_differs key (suc p) xs ys in
    ⊎_elim
    (λ v.
    ⊎_elim (λ w. absurd (none v.1.0 w.1.0))
    (λ w. let o = line_told_lem key (suc p) xs ys w.0 e w.1.1 in before o.far (ap (λ (c : Difference). c.place) v.1.1) o.at)
    (head_case t b rest m e h))
    (λ v.
    ⊎_elim (λ w. absurd (nothing w.1.0))
    (λ w. line_order key (suc p) xs ys v.0 w.0 (under (pick t 0 1) v.1.0 w.1.0) d e v.1.1 w.1.1)
    (head_case t b rest m e h))
    (head_case t b rest n d g)
  where
    none : n ≡ 0 → m ≡ 0 → ⊥
    none q r = omega (arith, q, r, l)

    nothing : m ≡ 0 → ⊥
    nothing r = omega (arith, r, l)

    before : {q r : ℕ} (j : ℕ) → q ≡ p → r ≡ suc p + j → q < r
    before j a c = omega (arith, a, c)

    under : (c : ℕ) {i j : ℕ} → n ≡ c + i → m ≡ c + j → i < j
    under c q r = omega (arith, q, r, l)

-- nothing where the two are the same, and they are the same where there is nothing
pub line_none : (key : List ℕ) (p : ℕ) (xs : List ℕ) → line_differs key p xs xs ≡ []
unfolding line_differs
line_none key p [] = refl
line_none key p (x ∷ xs) = rw (eq-eqb x x refl) (line_none key (suc p) xs)

pub line_same : (key : List ℕ) (p : ℕ) (xs ys : List ℕ) → length xs ≡ length ys → line_differs key p xs ys ≡ [] → xs ≡ ys
unfolding line_differs
line_same key p [] [] l e = refl
line_same key p [] (y ∷ ys) l e = absurd (suc-ne-zero (length ys) (sym l))
line_same key p (x ∷ xs) [] l e = absurd (suc-ne-zero (length xs) l)
line_same key p (x ∷ xs) (y ∷ ys) l e =
    by_cases (eqb x y)
    (λ t. let q = eqb-true x y t in let s = line_same key (suc p) xs ys (suc_inj l) (rw t at e) in λ i. q i ∷ s i)
    (λ f. absurd (suc-ne-zero (length (line_differs key (suc p) xs ys)) (ap length (rw f at e))))

-- Lines whose keys are all different.
abbrev pub Apart : List Line → Type 0
Apart ls = (n m : ℕ) (l l' : Line) → At ls n l → At ls m l' → l.key ≡ l'.key → n ≡ m

apart_rest : (b : Line) (ls : List Line) → Apart (b ∷ ls) → Apart ls
unfolding At
apart_rest b ls a n m l l' g h e = suc_inj (a (suc n) (suc m) l l' g h e)

-- the line of a key
pub on_found : (ls : List Line) → Apart ls → (n : ℕ) (l : Line) → At ls n l → numbers_on l.key ls ≡ l.numbers
unfolding At numbers_on
on_found [] a n l h = absurd h
on_found (b ∷ ls) a zero l h =
    rw (word_is b.key l.key (ap (λ (c : Line). c.key) h)) (ap (λ (c : Line). c.numbers) (sym h))
on_found (b ∷ ls) a (suc n) l h =
    by_cases (is_word b.key l.key)
    (λ t. absurd (suc-ne-zero n (a (suc n) 0 l b h refl (is_word_lem b.key l.key t))))
    (λ f. rw f (on_found ls (apart_rest b ls a) n l h))

pub record Found (key : List ℕ) (ls : List Line) : Type 0 where
  pub n : ℕ
  pub line : Line
  pub inside : At ls n line
  pub named : line.key ≡ key
  pub numbers : numbers_on key ls ≡ line.numbers

pub on_some : (key : List ℕ) (ls : List Line) (j : ℕ) → j < length (numbers_on key ls) → Found key ls
unfolding At numbers_on
on_some key [] j h = absurd (omega arith)
on_some key (b ∷ ls) j h =
    by_cases (is_word b.key key)
    (λ t. record { n = 0; line = b; inside = refl; named = sym (is_word_lem b.key key t); numbers = sym (yes b.numbers (numbers_on key ls) t) })
    (λ f.
    let o = on_some key ls j (rw f at h) in
    record { n = suc o.n; line = o.line; inside = o.inside; named = o.named; numbers = sym (no b.numbers (numbers_on key ls) f) ∙ o.numbers })

-- What is listed of lines.
pub record OfLines (ls ms : List Line) (d : Difference) : Type 0 where
  pub n : ℕ
  pub line : Line
  pub inside : At ls n line
  pub on : OnLine line.key 0 line.numbers (numbers_on line.key ms) d

pub lines_told_lem : (ls ms : List Line) (i : ℕ) (d : Difference) → At (lines_differ ls ms) i d → OfLines ls ms d
unfolding lines_differ At
lines_told_lem [] ms i d h = absurd h
lines_told_lem (l ∷ ls) ms i d h =
    ⊎_elim
    (λ g. record { n = 0; line = l; inside = refl; on = line_told_lem l.key 0 l.numbers (numbers_on l.key ms) i d g })
    (λ g.
    let o = lines_told_lem ls ms g.0 d g.1.1 in
    record { n = suc o.n; line = o.line; inside = o.inside; on = o.on })
    (at_split (line_differs l.key 0 l.numbers (numbers_on l.key ms)) (lines_differ ls ms) i d h)

pub lines_listed :
    (ls ms : List Line) (n : ℕ) (l : Line) → At ls n l → (i : ℕ) (d : Difference) → At (line_differs l.key 0 l.numbers (numbers_on l.key ms)) i d
    → (j : ℕ) × At (lines_differ ls ms) j d
unfolding lines_differ At
lines_listed [] ms n l h i d g = absurd h
lines_listed (b ∷ ls) ms zero l h i d g =
    (i, at_left (line_differs b.key 0 b.numbers (numbers_on b.key ms)) (lines_differ ls ms) i d (subst (λ (c : Line). At (line_differs c.key 0 c.numbers (numbers_on c.key ms)) i d) h g))
lines_listed (b ∷ ls) ms (suc n) l h i d g =
    let o = lines_listed ls ms n l h i d g in
    at_right (line_differs b.key 0 b.numbers (numbers_on b.key ms)) (lines_differ ls ms) o.0 d o.1

-- in the order of their lines, and of their places on one
pub lines_order :
    (ls ms : List Line) → Apart ls → (i j : ℕ) → i < j → (d e : Difference) → At (lines_differ ls ms) i d → At (lines_differ ls ms) j e
    → (n m : ℕ) (l l' : Line) → At ls n l → At ls m l' → l.key ≡ d.key → l'.key ≡ e.key → (n < m) ⊎ ((n ≡ m) × (d.place < e.place))
unfolding lines_differ At
lines_order [] ms a i j t d e g h n m l l' p q x y = absurd g
lines_order (b ∷ ls) ms a i j t d e g h n m l l' p q x y =
    let first = line_differs b.key 0 b.numbers (numbers_on b.key ms) in
    let rest = lines_differ ls ms in
    ⊎_elim
    (λ u.
    let n0 = here i d u n l p x in
    ⊎_elim (λ v. inr (n0 ∙ sym (here j e v m l' q y), line_order b.key 0 b.numbers (numbers_on b.key ms) i j t d e u v))
    (λ v. inl (next n0 (beyond v.0 e v.1.1 m l' q y)))
    (at_split first rest j e h))
    (λ u.
    ⊎_elim (λ v. absurd (turned (length first) u.0 u.1.0 (at_below first j e v)))
    (λ v. both (λ k k' w u v s s' r z. lines_order ls ms (apart_rest b ls a) k k' w d e u v s s' l l' r z x y) u.0 v.0 (less (length first) u.1.0 v.1.0) u.1.1 v.1.1 n m p q)
    (at_split first rest j e h))
    (at_split first rest i d g)
  where
    -- on the first line
    here : (k : ℕ) (c : Difference) → At (line_differs b.key 0 b.numbers (numbers_on b.key ms)) k c → (s : ℕ) (f : Line) → At (b ∷ ls) s f → f.key ≡ c.key → s ≡ 0
    here k c u s f r z = a s 0 f b r refl (z ∙ (line_told_lem b.key 0 b.numbers (numbers_on b.key ms) k c u).named)

    -- behind it
    beyond : (k : ℕ) (c : Difference) → At (lines_differ ls ms) k c → (s : ℕ) (f : Line) → At (b ∷ ls) s f → f.key ≡ c.key → 0 < s
    beyond k c u s f r z =
        let o = lines_told_lem ls ms k c u in
        above (a s (suc o.n) f o.line r o.inside (z ∙ o.on.named))
      where
        above : {v : ℕ} → s ≡ suc v → 0 < s
        above w = omega (arith, w)

    next : n ≡ 0 → 0 < m → n < m
    next w v = omega (arith, w, v)

    turned : (c k : ℕ) → i ≡ c + k → j < c → ⊥
    turned c k w v = omega (arith, w, v, t)

    less : (c : ℕ) {k k' : ℕ} → i ≡ c + k → j ≡ c + k' → k < k'
    less c w v = omega (arith, w, v, t)

    both :
        ((k k' : ℕ) → k < k' → At (lines_differ ls ms) k d → At (lines_differ ls ms) k' e → (s s' : ℕ) → At ls s l → At ls s' l'
        → (s < s') ⊎ ((s ≡ s') × (d.place < e.place)))
        → (k k' : ℕ) → k < k' → At (lines_differ ls ms) k d → At (lines_differ ls ms) k' e → (s s' : ℕ) → At (b ∷ ls) s l → At (b ∷ ls) s' l'
        → (s < s') ⊎ ((s ≡ s') × (d.place < e.place))
    both again k k' w u v zero s' r z = absurd (lower (beyond k d u zero l r x))
      where
        lower : 0 < 0 → ⊥
        lower f = omega (arith, f)
    both again k k' w u v (suc s) zero r z = absurd (lower (beyond k' e v zero l' z y))
      where
        lower : 0 < 0 → ⊥
        lower f = omega (arith, f)
    both again k k' w u v (suc s) (suc s') r z =
        ⊎_elim (λ f. inl (up f)) (λ f. inr (ap suc f.0, f.1)) (again k k' w u v s s' r z)
      where
        up : s < s' → suc s < suc s'
        up f = omega (arith, f)

-- nothing where each line is beside one with its numbers
pub lines_none : (ls ms : List Line) → ((n : ℕ) (l : Line) → At ls n l → numbers_on l.key ms ≡ l.numbers) → lines_differ ls ms ≡ []
unfolding lines_differ At
lines_none [] ms h = refl
lines_none (l ∷ ls) ms h = rw (h 0 l refl, line_none l.key 0 l.numbers) (lines_none ls ms (λ n c g. h (suc n) c g))
