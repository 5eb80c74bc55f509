-- Laws of the table, whatever its rows are: numbers are good by the rows exactly if the rows' form takes their lines; the text is those lines; and a form of rows
-- can always be carried on.
-- Assumes nothing.
use mathlib.Core.Path.{◌≡◌, refl, sym, ap, subst, ◌∙◌}
use mathlib.Core.Logic.{◌⊎◌, inl, inr, ⊎_elim}
use mathlib.Core.Bool.{true}
use mathlib.Core.List.{List, [], ◌∷◌, ◌++◌, append-nil, append_assoc, cons-ne-nil}
use mathlib.Core.Option.{some, some-injective, none-ne-some}
use Prim.Native.Nat.{ℕ, zero, suc, ◌+◌, ◌*◌, ◌<◌, ◌≤◌, suc-le-suc}
use native.Mathlib.Nat.{add-zero, zero-mul, suc-mul, le_of_suc-le-suc}
use native.Mathlib.Omega.{arith}
use borrow.Author.Tests.{eq-eqb, eqb-true, ne_eqb}
use lib.Dec.{eqb}
use lib.ListN.{length, take, drop, get_or, length-append, length-drop, take-append-drop, replicate, length-replicate, get_or-append}
use lib.Seq.{take-take, take_all, take-add, take_at, drop_at, get_or-take, get_or-drop, append_snoc, length-take-le, take-append-le, get_or-append-add}
use Rattle.base.proofs.Tests.{both_left, both_right, both_true}
use Rattle.form.specs.Lines.{line_text, joined, unbroken}
use Rattle.form.specs.Form.{Form, done, may_end, taken, texts, Live}
use Rattle.form.specs.Table.{Row, in_groups, key_of, span, Good, numbers_at, row_text, text_from, good_after, line_good, row_form, rows_form, zeros_after, groups_form}
use Rattle.form.proofs.FormLaws.{taken_first}

-- numbers that come after others, one by one
pub after_at :
    (r : Row) (b : List ℕ) (j : ℕ) (x : List ℕ) → good_after r b j x ≡ true → (i : ℕ) → i < length x
    → r.good (b ++ take i x) (j + i) (get_or x i 0) ≡ true
unfolding good_after
after_at r b j [] g i h = absurd (omega arith)
after_at r b j (n ∷ x) g zero h =
    rw (append-nil b, add-zero j) (both_left (r.good b j n) (good_after r (b ++ (n ∷ [])) (suc j) x) g)
after_at r b j (n ∷ x) g (suc i) h =
    let p : suc j + i ≡ j + suc i = omega arith in
    let e = after_at r (b ++ (n ∷ [])) (suc j) x (both_right (r.good b j n) (good_after r (b ++ (n ∷ [])) (suc j) x) g) i (le_of_suc-le-suc h) in
    sym (λ k. r.good (append_snoc b n (take i x) k) (p k) (get_or x i 0)) ∙ e

pub after_all :
    (r : Row) (b : List ℕ) (j : ℕ) (x : List ℕ) → ((i : ℕ) → i < length x → r.good (b ++ take i x) (j + i) (get_or x i 0) ≡ true)
    → good_after r b j x ≡ true
unfolding good_after
after_all r b j [] h = refl
after_all r b j (n ∷ x) h =
    both_true (sym (λ k. r.good (append-nil b k) (add-zero j k) n) ∙ h 0 (omega arith))
    (after_all r (b ++ (n ∷ [])) (suc j) x
    (λ i l.
    let p : suc j + i ≡ j + suc i = omega arith in
    (λ k. r.good (append_snoc b n (take i x) k) (p k) (get_or x i 0)) ∙ h (suc i) (suc-le-suc l)))

module _ (r : Row) where
  abbrev w : ℕ
  w = r.width

  -- n lines of the row from place k on, cut from the list
  abbrev Run : ℕ → ℕ → ℕ → List ℕ → Type 0
  Run n i k ns = (j : ℕ) → j < n * w → r.good (take (k + j) ns) (i * w + j) (get_or ns (k + j) 0) ≡ true

  unfoldable pub cut_row : ℕ → ℕ → List ℕ → List (List ℕ)
  cut_row zero k ns = []
  cut_row (suc n) k ns = numbers_at r k ns ∷ cut_row n (k + w) ns

  -- the first line of several, and those after it
  line_good_lem : (n i k : ℕ) (ns : List ℕ) → k + suc n * w ≤ length ns → Run (suc n) i k ns → line_good r i (take k ns) (numbers_at r k ns) ≡ true
  unfolding line_good
  line_good_lem n i k ns l h =
      let m = suc-mul n w in
      let long : length (take w (drop k ns)) ≡ w = length-take-le w (drop k ns) (omega (arith, length-drop k ns, m)) in
      both_true (eq-eqb (length (take w (drop k ns))) w long)
      (after_all r (take k ns) (i * w) (take w (drop k ns))
      (λ j g.
      let t : j < w = omega arith in
      let o : j ≤ w = omega arith in
      let e1 : take k ns ++ take j (take w (drop k ns)) ≡ take (k + j) ns =
      ap (λ (x : List ℕ). take k ns ++ x) (take-take j w (drop k ns) o) ∙ sym (take-add k j ns) in
      let e2 : get_or (take w (drop k ns)) j 0 ≡ get_or ns (k + j) 0 = get_or-take w (drop k ns) j 0 t ∙ get_or-drop k ns j 0 in
      (λ q. r.good (e1 q) (i * w + j) (e2 q)) ∙ h j (omega (arith, m))))

  run_after : (n i k : ℕ) (ns : List ℕ) → Run (suc n) i k ns → Run n (suc i) (k + w) ns
  run_after n i k ns h j l =
      let m = suc-mul n w in
      let p : k + w + j ≡ k + (w + j) = omega arith in
      let q : suc i * w + j ≡ i * w + (w + j) = omega (arith, suc-mul i w) in
      (λ t. r.good (take (p t) ns) (q t) (get_or ns (p t) 0)) ∙ h (w + j) (omega (arith, m))

  module _ (next : List ℕ → Form (List ℕ)) where
    pub row_taken :
        (n i k : ℕ) (ns : List ℕ) (ls : List (List ℕ)) (a : List ℕ) → k + n * w ≤ length ns → Run n i k ns
        → taken (next (take (k + n * w) ns)) ls ≡ some a → taken (row_form r n i (take k ns) next) (cut_row n k ns ++ ls) ≡ some a
    unfolding row_form taken cut_row
    row_taken zero i k ns ls a l h t =
        let e : k ≡ k + 0 * w = omega (arith, zero-mul w) in
        ap (λ (m : ℕ). taken (next (take m ns)) ls) e ∙ t
    row_taken (suc n) i k ns ls a l h t =
        let m = suc-mul n w in
        let p : k + suc n * w ≡ k + w + n * w = omega (arith, m) in
        let z = row_taken n (suc i) (k + w) ns ls a (omega (arith, m)) (run_after n i k ns h) (ap (λ (q : ℕ). taken (next (take q ns)) ls) (sym p) ∙ t) in
        rw (line_good_lem n i k ns l h)
        (ap (λ (b : List ℕ). taken (row_form r n (suc i) b next) (cut_row n (k + w) ns ++ ls)) (sym (take-add k w ns)) ∙ z)

    -- what a row took: its numbers, and the lines after it
    pub record Took (n i : ℕ) (b : List ℕ) (ls : List (List ℕ)) (a : List ℕ) : Type 0 where
      pub x : List ℕ
      pub after : List (List ℕ)
      pub long : length x ≡ n * w
      pub good : good_after r b (i * w) x ≡ true
      pub cut : (t : List ℕ) → ls ≡ cut_row n (length b) (b ++ (x ++ t)) ++ after
      pub rest : taken (next (b ++ x)) after ≡ some a

    after_join :
        (b : List ℕ) (j : ℕ) (x y : List ℕ) → good_after r b j x ≡ true → good_after r (b ++ x) (j + length x) y ≡ true
        → good_after r b j (x ++ y) ≡ true
    unfolding good_after
    after_join b j [] y g h = sym (λ q. good_after r (append-nil b q) (add-zero j q) y) ∙ h
    after_join b j (n ∷ x) y g h =
        let p : suc j + length x ≡ j + suc (length x) = omega arith in
        both_true (both_left (r.good b j n) (good_after r (b ++ (n ∷ [])) (suc j) x) g)
        (after_join (b ++ (n ∷ [])) (suc j) x y (both_right (r.good b j n) (good_after r (b ++ (n ∷ [])) (suc j) x) g)
        ((λ q. good_after r (append_snoc b n x q) (p q) y) ∙ h))

    -- one line more
    cut_more :
        (n : ℕ) (b y v t : List ℕ) (ls after : List (List ℕ)) → length y ≡ w → ls ≡ cut_row n (length (b ++ y)) ((b ++ y) ++ (v ++ t)) ++ after
        → y ∷ ls ≡ cut_row (suc n) (length b) (b ++ ((y ++ v) ++ t)) ++ after
    unfolding cut_row
    cut_more n b y v t ls after l c =
        let whole : b ++ ((y ++ v) ++ t) ≡ b ++ (y ++ (v ++ t)) = ap (λ (s : List ℕ). b ++ s) (append_assoc y v t) in
        let first : y ≡ numbers_at r (length b) (b ++ ((y ++ v) ++ t)) =
        sym
        (ap (λ (s : List ℕ). take w (drop (length b) s)) whole ∙ ap (take w) (drop_at b (y ++ (v ++ t)) (length b) refl)
        ∙ take_at y (v ++ t) w l) in
        let place : length (b ++ y) ≡ length b + w = length-append b y ∙ ap (λ (k : ℕ). length b + k) l in
        let list : (b ++ y) ++ (v ++ t) ≡ b ++ ((y ++ v) ++ t) = append_assoc b y (v ++ t) ∙ sym whole in
        λ q. first q ∷ (c ∙ (λ u. cut_row n (place u) (list u) ++ after)) q

    took_more :
        (n i : ℕ) (b y : List ℕ) (ls : List (List ℕ)) (a : List ℕ) → line_good r i b y ≡ true → Took n (suc i) (b ++ y) ls a
        → Took (suc n) i b (y ∷ ls) a
    unfolding line_good
    took_more n i b y ls a g o =
        let l : length y ≡ w = eqb-true (length y) w (both_left (eqb (length y) w) (good_after r b (i * w) y) g) in
        let v = o.x in
        let q : suc i * w ≡ i * w + length y = omega (arith, suc-mul i w, l) in
        let s : length y + length v ≡ suc n * w = omega (arith, suc-mul n w, l, o.long) in
        record {
          x = y ++ v;
          after = o.after;
          long = length-append y v ∙ s;
          good =
              after_join b (i * w) y v (both_right (eqb (length y) w) (good_after r b (i * w) y) g)
              (ap (λ (j : ℕ). good_after r (b ++ y) j v) (sym q) ∙ o.good);
          cut = λ t. cut_more n b y v t ls o.after l (o.cut t);
          rest = ap (λ (c : List ℕ). taken (next c) o.after) (sym (append_assoc b y v)) ∙ o.rest;
        }

    pub row_took :
        (n i : ℕ) (b : List ℕ) (ls : List (List ℕ)) (a : List ℕ) → taken (row_form r n i b next) ls ≡ some a → Took n i b ls a
    unfolding row_form taken cut_row good_after
    row_took zero i b ls a e =
        record {
          x = [];
          after = ls;
          long = sym (zero-mul w);
          good = refl;
          cut = λ t. refl;
          rest = ap (λ (c : List ℕ). taken (next c) ls) (append-nil b) ∙ e;
        }
    row_took (suc n) i b [] a e = absurd (none-ne-some a e)
    row_took (suc n) i b (y ∷ ls) a e =
        let f = taken_first (key_of r i) (line_good r i b) (λ (x : List ℕ). row_form r n (suc i) (b ++ x) next) y ls a e in
        took_more n i b y ls a f.0 (row_took n (suc i) (b ++ y) ls a f.1)

-- all rows
unfoldable pub cut_from : List Row → ℕ → List ℕ → List (List ℕ)
cut_from [] k ns = []
cut_from (r ∷ rs) k ns = cut_row r (r.lines (take k ns)) k ns ++ cut_from rs (k + span r (take k ns)) ns

-- the place after rows
unfoldable pub place_after : List Row → ℕ → List ℕ → ℕ
place_after [] k ns = k
place_after (r ∷ rs) k ns = place_after rs (k + span r (take k ns)) ns

-- the rows that come after good ones
pub good_rest : (rs rest : List Row) (k : ℕ) (ns : List ℕ) → Good (rs ++ rest) k ns → Good rest (place_after rs k ns) ns
unfolding Good place_after
good_rest [] rest k ns g = g
good_rest (r ∷ rs) rest k ns g = good_rest rs rest (k + span r (take k ns)) ns g.2

module _ (rest : List Row) (next : List ℕ → Form (List ℕ)) where
  pub rows_taken :
      (rs : List Row) (k : ℕ) (ns : List ℕ) (ls : List (List ℕ)) (a : List ℕ) → Good (rs ++ rest) k ns
      → taken (next (take (place_after rs k ns) ns)) ls ≡ some a → taken (rows_form rs next (take k ns)) (cut_from rs k ns ++ ls) ≡ some a
  unfolding Good rows_form cut_from place_after
  rows_taken [] k ns ls a g t = t
  rows_taken (r ∷ rs) k ns ls a g t =
      let m = k + span r (take k ns) in
      let first = cut_row r (r.lines (take k ns)) k ns in
      ap (taken (rows_form (r ∷ rs) next (take k ns))) (append_assoc first (cut_from rs m ns) ls)
      ∙ row_taken r (rows_form rs next) (r.lines (take k ns)) 0 k ns (cut_from rs m ns ++ ls) a g.0
      (λ j h.
      let z : 0 * r.width + j ≡ j = omega (arith, zero-mul r.width) in
      ap (λ (i : ℕ). r.good (take (k + j) ns) i (get_or ns (k + j) 0)) z ∙ g.1 j h)
      (rows_taken rs m ns ls a g.2 t)

-- a list that goes on from another, good by the rows
pub record Goes (rs : List Row) (b ns : List ℕ) : Type 0 where
  pub more : List ℕ
  pub whole : ns ≡ b ++ more
  pub good : Good rs (length b) ns

pub goes_none : (b : List ℕ) → Goes [] b b
unfolding Good
goes_none b = record { more = []; whole = sym (append-nil b); good = refl }

-- numbers of a row before it
module _ (r : Row) (b x more ns : List ℕ) (long : length x ≡ span r b) (whole : ns ≡ b ++ (x ++ more)) where
  abbrev k : ℕ
  k = length b

  before_told : take k ns ≡ b
  before_told = ap (take k) whole ∙ take_at b (x ++ more) k refl

  span_told : span r (take k ns) ≡ length x
  span_told = ap (span r) before_told ∙ sym long

  place_told : length (b ++ x) ≡ k + span r (take k ns)
  place_told = length-append b x ∙ ap (λ (m : ℕ). k + m) (sym span_told)

  each_good : good_after r b (0 * r.width) x ≡ true → (j : ℕ) → j < length x → r.good (take (k + j) ns) j (get_or ns (k + j) 0) ≡ true
  each_good g j h =
      let z : 0 * r.width + j ≡ j = omega (arith, zero-mul r.width) in
      let u : take (k + j) ns ≡ b ++ take j x =
      take-add k j ns
      ∙ (λ q. take k (whole q) ++ take j (drop k (whole q)))
      ∙ (λ q. take_at b (x ++ more) k refl q ++ take j (drop_at b (x ++ more) k refl q))
      ∙ ap (λ (y : List ℕ). b ++ y) (take-append-le j x more (omega arith)) in
      let v : get_or ns (k + j) 0 ≡ get_or x j 0 =
      ap (λ (y : List ℕ). get_or y (k + j) 0) whole ∙ get_or-append-add b (x ++ more) j 0 ∙ get_or-append x more 0 j h in
      (λ q. r.good (u q) (sym z q) (v q)) ∙ after_at r b (0 * r.width) x g j h

  enough : k + span r (take k ns) ≤ length ns
  enough = omega (arith, span_told, ap length whole, length-append b (x ++ more), length-append x more)

pub goes_more :
    (r : Row) (rs : List Row) (b x ns : List ℕ) → length x ≡ span r b → good_after r b (0 * r.width) x ≡ true → Goes rs (b ++ x) ns → Goes (r ∷ rs) b ns
unfolding Good
goes_more r rs b x ns l t g =
    let e : ns ≡ b ++ (x ++ g.more) = g.whole ∙ append_assoc b x g.more in
    let s = span_told r b x g.more ns l e in
    record {
      more = x ++ g.more;
      whole = e;
      good = (
        enough r b x g.more ns l e,
        λ j h. each_good r b x g.more ns l e t j (subst (λ (m : ℕ). j < m) s h),
        subst (λ (m : ℕ). Good rs m ns) (place_told r b x g.more ns l e) g.good,
      );
    }

-- and of its lines before theirs
module _ (r : Row) (rs : List Row) (b x y t : List ℕ) (long : length x ≡ span r b) where
  abbrev all : List ℕ
  all = b ++ ((x ++ y) ++ t)

  whole_told : all ≡ b ++ (x ++ (y ++ t))
  whole_told = ap (λ (c : List ℕ). b ++ c) (append_assoc x y t)

  onward : (b ++ x) ++ (y ++ t) ≡ all
  onward = append_assoc b x (y ++ t) ∙ sym whole_told

  abbrev place_is : length (b ++ x) ≡ length b + span r (take (length b) all)
  place_is = place_told r b x (y ++ t) all long whole_told

  cut_before_lem :
      (ls ms after : List (List ℕ)) → ls ≡ cut_row r (r.lines b) (length b) (b ++ (x ++ (y ++ t))) ++ ms
      → ms ≡ cut_from rs (length (b ++ x)) ((b ++ x) ++ (y ++ t)) ++ after → ls ≡ cut_from (r ∷ rs) (length b) all ++ after
  unfolding cut_from
  cut_before_lem ls ms after p q =
      let first = before_told r b x (y ++ t) all long whole_told in
      let line = cut_row r (r.lines (take (length b) all)) (length b) all in
      p ∙ (λ i. cut_row r (r.lines (sym first i)) (length b) (sym whole_told i) ++ (q ∙ (λ k. cut_from rs (place_is k) (onward k) ++ after)) i)
      ∙ sym (append_assoc line (cut_from rs (length b + span r (take (length b) all)) all) after)

  place_before :
      place_after rs (length (b ++ x)) ((b ++ x) ++ (y ++ t)) ≡ length ((b ++ x) ++ y) → place_after (r ∷ rs) (length b) all ≡ length (b ++ (x ++ y))
  unfolding place_after
  place_before e = sym (λ i. place_after rs (place_is i) (onward i)) ∙ e ∙ ap length (append_assoc b x y)

-- what rows took: their numbers, and the lines after them
pub record RowsTook (rs : List Row) (next : List ℕ → Form (List ℕ)) (b : List ℕ) (ls : List (List ℕ)) (a : List ℕ) : Type 0 where
  pub x : List ℕ
  pub after : List (List ℕ)
  pub goes : (rest : List Row) (ns : List ℕ) → Goes rest (b ++ x) ns → Goes (rs ++ rest) b ns
  pub cut : (t : List ℕ) → ls ≡ cut_from rs (length b) (b ++ (x ++ t)) ++ after
  pub place : (t : List ℕ) → place_after rs (length b) (b ++ (x ++ t)) ≡ length (b ++ x)
  pub rest : taken (next (b ++ x)) after ≡ some a

pub rows_took :
    (rs : List Row) (next : List ℕ → Form (List ℕ)) (b : List ℕ) (ls : List (List ℕ)) (a : List ℕ) → taken (rows_form rs next b) ls ≡ some a
    → RowsTook rs next b ls a
unfolding rows_form cut_from place_after
rows_took [] next b ls a e =
    record {
      x = [];
      after = ls;
      goes = λ rest ns g. subst (λ (c : List ℕ). Goes rest c ns) (append-nil b) g;
      cut = λ t. refl;
      place = λ t. ap length (sym (append-nil b));
      rest = ap (λ (c : List ℕ). taken (next c) ls) (append-nil b) ∙ e;
    }
rows_took (r ∷ rs) next b ls a e =
    let o = row_took r (rows_form rs next) (r.lines b) 0 b ls a e in
    let q = rows_took rs next (b ++ o.x) o.after a o.rest in
    record {
      x = o.x ++ q.x;
      after = q.after;
      goes = λ rest ns g.
          goes_more r (rs ++ rest) b o.x ns o.long o.good
          (q.goes rest ns (subst (λ (c : List ℕ). Goes rest c ns) (sym (append_assoc b o.x q.x)) g));
      cut = λ t. cut_before_lem r rs b o.x q.x t o.long ls o.after q.after (o.cut (q.x ++ t)) (q.cut t);
      place = λ t. place_before r rs b o.x q.x t o.long (q.place t);
      rest = ap (λ (c : List ℕ). taken (next c) q.after) (sym (append_assoc b o.x q.x)) ∙ q.rest;
    }

-- the text of numbers is their lines
row_texts :
    (r : Row) (next : List ℕ → Form (List ℕ)) (n i k : ℕ) (ns : List ℕ) (ls : List (List ℕ))
    → joined (texts (row_form r n i (take k ns) next) (cut_row r n k ns ++ ls)) ≡ row_text r n i k ns ++ joined (texts (next (take (k + n * r.width) ns)) ls)
unfolding row_form texts joined cut_row row_text
row_texts r next zero i k ns ls =
    let e : k ≡ k + 0 * r.width = omega (arith, zero-mul r.width) in
    ap (λ (m : ℕ). joined (texts (next (take m ns)) ls)) e
row_texts r next (suc n) i k ns ls =
    let w = r.width in
    let t = line_text (key_of r i) (numbers_at r k ns) in
    let p : k + w + n * w ≡ k + suc n * w = omega (arith, suc-mul n w) in
    ap (λ (b : List ℕ). t ++ joined (texts (row_form r n (suc i) b next) (cut_row r n (k + w) ns ++ ls))) (sym (take-add k w ns))
    ∙ ap (λ (x : List ℕ). t ++ x) (row_texts r next n (suc i) (k + w) ns ls)
    ∙ sym (append_assoc t (row_text r n (suc i) (k + w) ns) (joined (texts (next (take (k + w + n * w) ns)) ls)))
    ∙ ap (λ (m : ℕ). (t ++ row_text r n (suc i) (k + w) ns) ++ joined (texts (next (take m ns)) ls)) p

pub rows_texts :
    (rs : List Row) (next : List ℕ → Form (List ℕ)) (k : ℕ) (ns : List ℕ) (ls : List (List ℕ))
    → joined (texts (rows_form rs next (take k ns)) (cut_from rs k ns ++ ls)) ≡ text_from rs k ns ++ joined (texts (next (take (place_after rs k ns) ns)) ls)
unfolding rows_form cut_from text_from place_after
rows_texts [] next k ns ls = refl
rows_texts (r ∷ rs) next k ns ls =
    let m = k + span r (take k ns) in
    let first = cut_row r (r.lines (take k ns)) k ns in
    let text = row_text r (r.lines (take k ns)) 0 k ns in
    let end = joined (texts (next (take (place_after rs m ns) ns)) ls) in
    ap (λ (l : List (List ℕ)). joined (texts (rows_form (r ∷ rs) next (take k ns)) l)) (append_assoc first (cut_from rs m ns) ls)
    ∙ row_texts r (rows_form rs next) (r.lines (take k ns)) 0 k ns (cut_from rs m ns ++ ls)
    ∙ ap (λ (x : List ℕ). text ++ x) (rows_texts rs next m ns ls)
    ∙ sym (append_assoc text (text_from rs m ns) end)

-- the text of rows one after another
pub text_split : (rs rest : List Row) (k : ℕ) (ns : List ℕ) → text_from (rs ++ rest) k ns ≡ text_from rs k ns ++ text_from rest (place_after rs k ns) ns
unfolding text_from place_after
text_split [] rest k ns = refl
text_split (r ∷ rs) rest k ns =
    let m = k + span r (take k ns) in
    let text = row_text r (r.lines (take k ns)) 0 k ns in
    ap (λ (x : List ℕ). text ++ x) (text_split rs rest m ns) ∙ sym (append_assoc text (text_from rs m ns) (text_from rest (place_after rs m ns) ns))

-- the text of rows is told by their numbers alone, whatever stands behind them
pub text_local :
    (rs rest : List Row) (ns t : List ℕ) → Good (rs ++ rest) 0 ns → text_from rs 0 (take (place_after rs 0 ns) ns ++ t) ≡ text_from rs 0 ns
unfolding texts joined taken
text_local rs rest ns t g =
    let p = place_after rs 0 ns in
    let x = take p ns in
    let ls = cut_from rs 0 ns ++ [] in
    let o = rows_took rs done [] ls x (rows_taken rest done rs 0 ns [] x g refl) in
    let e = ended o.x o.after x o.rest in
    let same : (u : List ℕ) → text_from rs 0 (x ++ u) ≡ joined (texts (rows_form rs done []) ls) =
    λ u.
    sym
    (ap (λ (l : List (List ℕ)). joined (texts (rows_form rs done []) l)) (o.cut u ∙ (λ i. cut_from rs 0 (e.0 i ++ u) ++ e.1 i))
    ∙ rows_texts rs done 0 (x ++ u) [] ∙ append-nil (text_from rs 0 (x ++ u))) in
    same t ∙ sym (same (drop p ns)) ∙ ap (text_from rs 0) (take-append-drop p ns)
  where
    ended : (y : List ℕ) (ls : List (List ℕ)) (a : List ℕ) → taken (done y) ls ≡ some a → (y ≡ a) × (ls ≡ [])
    ended y [] a h = (some-injective y a h, refl)
    ended y (l ∷ ls) a h = absurd (none-ne-some a h)

-- A row that can be carried on: its keys end no line, it has a number on each line, and one number is good at each of its places, whatever came before.
pub record RowLive (r : Row) : Type 0 where
  pub keyed : (i : ℕ) → unbroken (key_of r i) ≡ true
  pub wide : 0 < r.width
  pub filler : ℕ
  pub fills : (b : List ℕ) (j : ℕ) → r.good b j filler ≡ true

unfoldable pub RowsLive : List Row → Type 0
RowsLive [] = Unit {0}
RowsLive (r ∷ rs) = RowLive r × RowsLive rs

filled : (r : Row) (l : RowLive r) (b : List ℕ) (j n : ℕ) → good_after r b j (replicate n l.filler) ≡ true
unfolding good_after
filled r l b j zero = refl
filled r l b j (suc n) = both_true (l.fills b j) (filled r l (b ++ (l.filler ∷ [])) (suc j) n)

row_live :
    (r : Row) → RowLive r → (next : List ℕ → Form (List ℕ)) → ((b : List ℕ) → Live (next b)) → (n i : ℕ) (b : List ℕ) → Live (row_form r n i b next)
unfolding row_form Live line_good
row_live r l next h zero i b = h b
row_live r l next h (suc n) i b =
    let w = r.width in
    let f = replicate w l.filler in
    record {
      keyed = l.keyed i;
      some_number = rw (ne_eqb 0 w (λ e. omega (arith, e, l.wide)));
      filler = f;
      filled = both_true (eq-eqb (length f) w (length-replicate w l.filler)) (filled r l b (i * w) w);
      onwards = λ x t. row_live r l next h n (suc i) (b ++ x);
    }

pub rows_live :
    (rs : List Row) → RowsLive rs → (next : List ℕ → Form (List ℕ)) → ((b : List ℕ) → Live (next b)) → (b : List ℕ) → Live (rows_form rs next b)
unfolding rows_form RowsLive
rows_live [] l next h b = h b
rows_live (r ∷ rs) l next h b = row_live r l.0 (rows_form rs next) (rows_live rs l.1 next h) (r.lines b) 0 b

-- Rows whose numbers may be 0, whatever came before.
unfoldable pub RowsZero : List Row → Type 0
RowsZero [] = Unit {0}
RowsZero (r ∷ rs) = ((b : List ℕ) (j : ℕ) → r.good b j 0 ≡ true) × RowsZero rs

zeros_after_lem : (r : Row) → ((b : List ℕ) (j : ℕ) → r.good b j 0 ≡ true) → (b : List ℕ) (j n : ℕ) → good_after r b j (replicate n 0) ≡ true
unfolding good_after
zeros_after_lem r z b j zero = refl
zeros_after_lem r z b j (suc n) = both_true (z b j) (zeros_after_lem r z (b ++ (0 ∷ [])) (suc j) n)

zeros_go : (rs : List Row) → RowsZero rs → (b : List ℕ) → Goes rs b (b ++ zeros_after rs b)
unfolding RowsZero zeros_after
zeros_go [] z b = subst (Goes [] b) (sym (append-nil b)) (goes_none b)
zeros_go (r ∷ rs) z b =
    let x : List ℕ = replicate (span r b) 0 in
    goes_more r rs b x (b ++ (x ++ zeros_after rs (b ++ x))) (length-replicate (span r b) 0) (zeros_after_lem r z.0 b (0 * r.width) (span r b))
    (subst (Goes rs (b ++ x)) (append_assoc b x (zeros_after rs (b ++ x))) (zeros_go rs z.1 (b ++ x)))

-- Groups of rows that a text may lack.
unfoldable pub GroupsLive : List (List Row) → Type 0
GroupsLive [] = Unit {0}
GroupsLive (g ∷ gs) = RowsLive g × GroupsLive gs

pub groups_live : (gs : List (List Row)) → GroupsLive gs → (b : List ℕ) → Live (groups_form gs b)
unfolding groups_form GroupsLive Live
groups_live [] l b = tt
groups_live (g ∷ gs) l b = rows_live g l.0 (groups_form gs) (groups_live gs l.1) b

-- the lines of numbers from place k on: none where all of them are 0 and a group begins; else those of the group, and of the groups after it
unfoldable pub GroupLines : List (List Row) → ℕ → List ℕ → List (List ℕ) → Type 0
GroupLines [] k ns ls = ls ≡ []
GroupLines (g ∷ gs) k ns ls =
    ((ls ≡ []) × (ns ≡ take k ns ++ zeros_after (in_groups (g ∷ gs)) (take k ns)))
    ⊎ ((ls ≡ [] → ⊥) × (after : List (List ℕ)) × (ls ≡ cut_from g k ns ++ after) × GroupLines gs (place_after g k ns) ns after)

taken_on : (a : List ℕ) (f : Form (List ℕ)) (ls : List (List ℕ)) (c : List ℕ) → (ls ≡ [] → ⊥) → taken f ls ≡ some c → taken (may_end a f) ls ≡ some c
unfolding taken
taken_on a f [] c n e = absurd (n refl)
taken_on a f (l ∷ ls) c n e = e

pub groups_taken :
    (gs : List (List Row)) (k : ℕ) (ns : List ℕ) (ls : List (List ℕ)) → Good (in_groups gs) k ns → GroupLines gs k ns ls
    → taken (groups_form gs (take k ns)) ls ≡ some ns
unfolding groups_form GroupLines Good taken
groups_taken [] k ns ls g e = ap (taken (done (take k ns))) e ∙ ap some (take_all k ns (omega (arith, g)))
groups_taken (g ∷ gs) k ns ls h lines =
    ⊎_elim
    (λ w. ap (taken (groups_form (g ∷ gs) (take k ns))) w.0 ∙ ap some (sym w.1))
    (λ w.
    taken_on (take k ns ++ zeros_after (in_groups (g ∷ gs)) (take k ns)) (rows_form g (groups_form gs) (take k ns)) ls ns w.0
    (ap (taken (rows_form g (groups_form gs) (take k ns))) w.2
    ∙ rows_taken (in_groups gs) (groups_form gs) g k ns w.1 ns h
    (groups_taken gs (place_after g k ns) ns w.1 (good_rest g (in_groups gs) k ns h) w.3)))
    lines

-- what the form of groups took: numbers that go on from those before, good by the rows, and their lines
pub record GroupsGiven (gs : List (List Row)) (b : List ℕ) (ls : List (List ℕ)) (ns : List ℕ) : Type 0 where
  pub goes : Goes (in_groups gs) b ns
  pub lines : GroupLines gs (length b) ns ls

zero_rest : (g rs : List Row) → RowsZero (g ++ rs) → RowsZero rs
unfolding RowsZero
zero_rest [] rs z = z
zero_rest (r ∷ g) rs z = zero_rest g rs z.1

pub groups_given :
    (gs : List (List Row)) → RowsZero (in_groups gs) → (b : List ℕ) (ls : List (List ℕ)) (ns : List ℕ) → taken (groups_form gs b) ls ≡ some ns
    → GroupsGiven gs b ls ns
unfolding groups_form taken GroupLines
groups_given [] z b [] ns e =
    record { goes = subst (Goes [] b) (some-injective b ns e) (goes_none b); lines = refl }
groups_given [] z b (l ∷ ls) ns e = absurd (none-ne-some ns e)
groups_given (g ∷ gs) z b [] ns e =
    let x = zeros_after (in_groups (g ∷ gs)) b in
    let q = some-injective (b ++ x) ns e in
    let t : take (length b) ns ≡ b = ap (take (length b)) (sym q) ∙ take_at b x (length b) refl in
    record {
      goes = subst (Goes (in_groups (g ∷ gs)) b) q (zeros_go (in_groups (g ∷ gs)) z b);
      lines = inl (refl, sym q ∙ (λ i. sym t i ++ zeros_after (in_groups (g ∷ gs)) (sym t i)));
    }
groups_given (g ∷ gs) z b (l ∷ ls) ns e =
    let o = rows_took g (groups_form gs) b (l ∷ ls) ns e in
    let r = groups_given gs (zero_rest g (in_groups gs) z) (b ++ o.x) o.after ns o.rest in
    let w : ns ≡ b ++ (o.x ++ r.goes.more) = r.goes.whole ∙ append_assoc b o.x r.goes.more in
    record {
      goes = o.goes (in_groups gs) ns r.goes;
      lines =
          inr (
            cons-ne-nil l ls,
            o.after,
            o.cut r.goes.more ∙ (λ i. cut_from g (length b) (sym w i) ++ o.after),
            subst (λ (k : ℕ). GroupLines gs k ns o.after)
                (sym (o.place r.goes.more) ∙ (λ i. place_after g (length b) (sym w i)))
                r.lines,
          );
    }
