-- How long a saved text may be: at most 20 bytes for each number, since a line has a head of 11 bytes at most, each number eight digits and a byte after it.
-- Assumes nothing.
use mathlib.Core.Path.{◌≡◌, sym, subst, ◌∙◌}
use mathlib.Core.List.{List, [], ◌∷◌, ◌++◌}
use Prim.Native.Nat.{ℕ, zero, suc, ◌+◌, ◌-◌, ◌*◌, ◌<◌, ◌≤◌, suc-le-suc}
use native.Mathlib.Nat.{zero-mul, suc-mul, le_of_suc-le-suc}
use native.Mathlib.Omega.{arith}
use lib.ListN.{length, take, drop, get_or, length-append, length-drop}
use lib.Seq.{get_or-take, get_or-drop, length-take-le}
use Rattle.base.specs.Words.{pick}
use Rattle.record.proofs.PartLaws.{size_most}
use Rattle.text.specs.Bytes.{bytes_of}
use Rattle.text.specs.Decimal.{decimal_text}
use Rattle.text.proofs.DecimalLaws.{decimal_places}
use Rattle.form.specs.Lines.{equals, followed, numbers_text, head_of, line_text}
use Rattle.form.specs.Table.{Row, part_in, key_of, span, numbers_at, row_text, text_from, Good, rows, id_row}
use Rattle.form.specs.Chip.{IsChip, form_text}
use Rattle.form.proofs.FactLaws.{good_facts}
use Rattle.numbers.specs.Tables.{row_at}
use Rattle.saved.proofs.RowLaws.{Bounded, RowsBounded, table_bounded}
use Rattle.saved.proofs.LoopLaws.{lines_most, width_most}
use Rattle.saved.proofs.KeyLaws.{key_short, index_short}

-- numbers of at most eight digits
abbrev Low : List ℕ → Type 0
Low x = (j : ℕ) → j < length x → get_or x j 0 < 100000000

low_rest : (n : ℕ) (x : List ℕ) → Low (n ∷ x) → Low x
low_rest n x h j l = h (suc j) (suc-le-suc l)

followed_long : (x : List ℕ) → Low x → length (followed x) ≤ 1 + 9 * length x
unfolding followed
followed_long [] h = omega arith
followed_long (n ∷ x) h =
    sum (length (followed x)) (length x) (decimal_places 7 n (h 0 (omega arith))) (followed_long x (low_rest n x h)) (length-append (decimal_text n) (followed x))
  where
    sum : {d t : ℕ} (f l : ℕ) → d ≤ 8 → f ≤ 1 + 9 * l → t ≡ d + f → suc t ≤ 1 + 9 * suc l
    sum f l p q e = omega (arith, p, q, e)

line_long : (r : Row) (i : ℕ) (x : List ℕ) → length (key_of r i) ≤ 10 → 0 < length x → Low x → length (line_text (key_of r i) x) ≤ 20 * length x
unfolding line_text numbers_text
line_long r i [] k h l = absurd (omega arith)
line_long r i (n ∷ x) k h l =
    let key = key_of r i in
    total (length key) (length (head_of key)) (length (decimal_text n ++ followed x)) (length (followed x)) (length x) k (length-append key (equals ∷ []))
    (decimal_places 7 n (l 0 (omega arith))) (length-append (decimal_text n) (followed x)) (followed_long x (low_rest n x l))
    (length-append (head_of key) (decimal_text n ++ followed x))
  where
    total :
        (k hd m f c : ℕ) {d t : ℕ} → k ≤ 10 → hd ≡ k + 1 → d ≤ 8 → m ≡ d + f → f ≤ 1 + 9 * c → t ≡ hd + m → t ≤ 20 * suc c
    total k hd m f c p e q g u v = omega (arith, p, e, q, g, u, v)

-- a row whose heads are short and whose numbers are small
pub record Fitting (r : Row) : Type 0 where
  pub wide : 0 < r.width
  pub short : (i : ℕ) → i < 32 → length (key_of r i) ≤ 10
  pub few : (b : List ℕ) → r.lines b ≤ 32
  pub small : Bounded r

-- the lines of a row
row_long :
    (r : Row) → Fitting r → (n i k : ℕ) (ns : List ℕ) → i + n ≤ 32 → k + n * r.width ≤ length ns
    → ((j : ℕ) → j < n * r.width → get_or ns (k + j) 0 < 100000000) → length (row_text r n i k ns) ≤ 20 * (n * r.width)
unfolding row_text
row_long r f zero i k ns h l g = omega (arith, zero-mul r.width)
row_long r f (suc n) i k ns h l g =
    let w = r.width in
    let x = numbers_at r k ns in
    let m = suc-mul n w in
    let long : length x ≡ w = length-take-le w (drop k ns) (left (n * w) (length-drop k ns) m l) in
    let first : length (line_text (key_of r i) x) ≤ 20 * w =
    subst (λ (c : ℕ). length (line_text (key_of r i) x) ≤ 20 * c) long
    (line_long r i x (f.short i (under h)) (subst (λ (c : ℕ). 0 < c) (sym long) f.wide)
    (λ j t.
    let t' : j < w = subst (λ (c : ℕ). j < c) long t in
    subst (λ (v : ℕ). v < 100000000) (sym (get_or-take w (drop k ns) j 0 t' ∙ get_or-drop k ns j 0)) (g j (inside (n * w) m t')))) in
    let rest = row_long r f n (suc i) (k + w) ns (on h) (further (n * w) m l)
    (λ j t. subst (λ (c : ℕ). get_or ns c 0 < 100000000) (shift j) (g (w + j) (after (n * w) m t))) in
    both (length (row_text r n (suc i) (k + w) ns)) w (n * w) m first rest (length-append (line_text (key_of r i) x) (row_text r n (suc i) (k + w) ns))
  where
    left : {a b : ℕ} (p : ℕ) {q : ℕ} → a ≡ b - k → q ≡ p + r.width → k + q ≤ b → r.width ≤ a
    left p e d c = omega (arith, e, d, c)

    under : i + suc n ≤ 32 → i < 32
    under c = omega (arith, c)

    inside : {j : ℕ} (p : ℕ) {q : ℕ} → q ≡ p + r.width → j < r.width → j < q
    inside p e t = omega (arith, e, t)

    on : i + suc n ≤ 32 → suc i + n ≤ 32
    on c = omega (arith, c)

    further : {b : ℕ} (p : ℕ) {q : ℕ} → q ≡ p + r.width → k + q ≤ b → k + r.width + p ≤ b
    further p e c = omega (arith, e, c)

    after : {j : ℕ} (p : ℕ) {q : ℕ} → q ≡ p + r.width → j < p → r.width + j < q
    after p e t = omega (arith, e, t)

    shift : (j : ℕ) → k + (r.width + j) ≡ k + r.width + j
    shift j = omega arith

    both : {a t : ℕ} (b w p : ℕ) {q : ℕ} → q ≡ p + w → a ≤ 20 * w → b ≤ 20 * p → t ≡ a + b → t ≤ 20 * q
    both b w p e c d u = omega (arith, e, c, d, u)

-- all rows
unfoldable AllFit : List Row → Type 0
AllFit [] = Unit {0}
AllFit (r ∷ rs) = Fitting r × AllFit rs

rows_long : (rs : List Row) → AllFit rs → (k : ℕ) (ns : List ℕ) → Good rs k ns → 20 * k + length (text_from rs k ns) ≤ 20 * length ns
unfolding AllFit text_from Good
rows_long [] f k ns g = omega (arith, g)
rows_long (r ∷ rs) f k ns g =
    let n = r.lines (take k ns) in
    let m = span r (take k ns) in
    let t = row_text r n 0 k ns in
    let u = text_from rs (k + m) ns in
    sum m (length t) (length u)
    (row_long r f.0 n 0 k ns (none (f.0.few (take k ns))) g.0 (λ j h. f.0.small (take (k + j) ns) j (get_or ns (k + j) 0) (g.1 j h)))
    (rows_long rs f.1 (k + m) ns g.2) (length-append t u)
  where
    none : {n : ℕ} → n ≤ 32 → 0 + n ≤ 32
    none p = omega (arith, p)

    sum : (m a b : ℕ) {t l : ℕ} → a ≤ 20 * m → 20 * (k + m) + b ≤ l → t ≡ a + b → 20 * k + t ≤ l
    sum m a b p q e = omega (arith, p, q, e)

-- of the chip's table
fit_at : (rs : List Row) (d : Row) → ((i : ℕ) → i < length rs → Fitting (get_or rs i d)) → AllFit rs
unfolding AllFit
fit_at [] d h = tt
fit_at (r ∷ rs) d h = (h 0 (omega arith), fit_at rs d (λ i l. h (suc i) (suc-le-suc l)))

bounded_at : (rs : List Row) (d : Row) → RowsBounded rs → (i : ℕ) → i < length rs → Bounded (get_or rs i d)
unfolding RowsBounded
bounded_at [] d h i l = absurd (omega arith)
bounded_at (r ∷ rs) d h zero l = h.0
bounded_at (r ∷ rs) d h (suc i) l = bounded_at rs d h.1 i (le_of_suc-le-suc l)

rows_fit : AllFit rows
unfolding rows row_at
rows_fit =
    fit_at rows id_row
    (λ i l.
    record {
      wide = (width_most i l).0;
      short = λ n h. head_short (key_short i l) (index_short (row_at i).numbered n (more h)) (length-append (bytes_of (row_at i).key) (pick (row_at i).numbered (decimal_text n) []));
      few = λ b. lines_most b i l;
      small = bounded_at rows id_row table_bounded i l;
    })
  where
    more : {n : ℕ} → n < 32 → n < 100
    more p = omega (arith, p)

    head_short : {a b t : ℕ} → a ≤ 8 → b ≤ 2 → t ≡ a + b → t ≤ 10
    head_short p q e = omega (arith, p, q, e)

-- the text of a chip's numbers has at most 8,000 bytes
pub text_long : (ns : List ℕ) → IsChip ns → length (form_text ns) ≤ 8000
unfolding form_text
text_long ns g = within (rows_long rows rows_fit 0 ns g) (good_facts ns g).long (size_most (part_in ns))
  where
    within : {t l s : ℕ} → 20 * 0 + t ≤ 20 * l → l ≡ 123 + s + 16 + 5 → s ≤ 256 → t ≤ 8000
    within p e q = omega (arith, p, e, q)
