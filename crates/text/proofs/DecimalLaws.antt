-- Laws of decimals: a turn of the reader and what it stays below; a claim about every decimal text, from its last digit on; how long a text is;
-- and that reader and printer are inverse.
-- Assumes nothing.
use mathlib.Core.Path.{◌≡◌, refl, sym, ap, ◌∙◌}
use mathlib.Core.Bool.{true, false, not, and-false}
use mathlib.Core.List.{List, [], ◌∷◌, ◌++◌, append-nil}
use Prim.Native.Nat.{ℕ, zero, suc, ◌+◌, ◌*◌, ◌/◌, ◌%◌, ◌^◌, ◌<◌, ◌≤◌}
use native.Mathlib.Nat.{not-suc-le-zero, pow-suc}
use native.Mathlib.Numerals.{add-one}
use native.Mathlib.Omega.{arith}
use borrow.Author.Tests.{lt-ltb, le-ltb, le-leb, eq-eqb, ne_eqb, ltb-true, ltb-false, leb-true, eqb-false}
use lib.Dec.{leb, ltb, eqb}
use lib.ListN.{length, get_or, take, drop, length-append, length-take, drop_of_length-le, get_or-append}
use lib.Seq.{drop-cons, append_snoc}
use Rattle.base.specs.Words.{every}
use Rattle.base.proofs.Tests.{by_cases, pick_when, both_left, both_right, both_true, true_false}
use Rattle.base.proofs.Every.{bound_below}
use Rattle.text.specs.Bytes.{leading, digit}
use Rattle.text.specs.Decimal.{needless_zero, is_decimal, digit_text, digit_value, value_from, value_of, read_limit, text_within, decimal_text}
use Rattle.text.proofs.BytesLaws.{leading_first, leading_rest, leading_join, leading_other}

-- one more digit, and no more
pub value_more :
    (s : List ℕ) (i value : ℕ) → i < length s → value_from (value * 10 + digit_value (get_or s i 0)) (drop (i + 1) s) ≡ value_from value (drop i s)
unfolding value_from
value_more s i value h = rw (add-one, drop-cons s i 0)

pub value_end : (s : List ℕ) (i value : ℕ) → length s ≤ i → value_from value (drop i s) ≡ value
unfolding value_from
value_end s i value h = rw (drop_of_length-le s {i = i} h)

value_append : (value : ℕ) (s t : List ℕ) → value_from value (s ++ t) ≡ value_from (value_from value s) t
unfolding value_from
value_append value [] t = refl
value_append value (b ∷ s) t = value_append (value * 10 + digit_value b) s t

-- what so many bytes, read as digits, stay below
unfoldable pub bound : ℕ → ℕ
bound zero = 1
bound (suc n) = bound n * 10 + 198

pub bound_none : bound 0 ≡ 1
unfolding bound
bound_none = refl

pub bound_more : (n : ℕ) → bound (n + 1) ≡ bound n * 10 + 198
unfolding bound
bound_more n = rw add-one

pub bound_small : (n : ℕ) → n < read_limit → bound n < 2 ^ 59
unfolding bound every
bound_small n h = bound_below bound (2 ^ 59) read_limit refl n h

-- a digit that is read is one of the first
pub read_small : {s : List ℕ} (digits : List ℕ) (i : ℕ) → s ≡ take read_limit digits → i < length s → bound i < 2 ^ 59
read_small digits i e h = bound_small i (omega (arith, ap length e, length-take read_limit digits))

-- a text does not change with more places than it needs
enough : (j k n : ℕ) → n < j → n < k → text_within j n ≡ text_within k n
unfolding text_within
enough zero k n h l = absurd (not-suc-le-zero h)
enough (suc j) zero n h l = absurd (not-suc-le-zero l)
enough (suc j) (suc k) n h l =
    by_cases (ltb n 10) (λ e. simp e)
    (λ e.
    let t : 10 ≤ n = ltb-false n 10 e in
    simp (e, enough j k (n / 10) (omega arith) (omega arith)))

pub decimal_small : (n : ℕ) → n < 10 → decimal_text n ≡ digit_text n ∷ []
unfolding decimal_text text_within
decimal_small n h = simp (lt-ltb n 10 h)

pub decimal_more : (n : ℕ) → 10 ≤ n → decimal_text n ≡ decimal_text (n / 10) ++ (digit_text (n % 10) ∷ [])
unfolding decimal_text text_within
decimal_more n h =
    simp (le-ltb n 10 h)
    (ap (λ (s : List ℕ). s ++ (digit_text (n % 10) ∷ [])) (enough n (suc (n / 10)) (n / 10) (omega arith) (omega arith)))

-- a claim about every decimal text: of one digit, and of one digit more
module _
    (P : ℕ → List ℕ → Type 0)
    (one : (n : ℕ) → n < 10 → P n (digit_text n ∷ []))
    (more : (n : ℕ) (s : List ℕ) → 10 ≤ n → P (n / 10) s → P n (s ++ (digit_text (n % 10) ∷ [])))
  where
    within : (k n : ℕ) → n < k → P n (text_within k n)
    unfolding text_within
    within zero n h = absurd (not-suc-le-zero h)
    within (suc k) n h =
        pick_when (P n) (ltb n 10) (λ t. one n (ltb-true n 10 t))
        (λ f.
        let g : 10 ≤ n = ltb-false n 10 f in
        more n (text_within k (n / 10)) g (within k (n / 10) (omega arith)))

    pub decimal_each : (n : ℕ) → P n (decimal_text n)
    unfolding decimal_text
    decimal_each n = within (suc n) n (omega arith)

-- how long a text is
tenth : (n m : ℕ) → n < m * 10 → n / 10 < m
tenth n m h = omega arith

abbrev Places : ℕ → List ℕ → Type 0
Places n s = (k : ℕ) → n < 10 ^ suc k → length s ≤ suc k

places_more : (n : ℕ) (s : List ℕ) → 10 ≤ n → Places (n / 10) s → Places n (s ++ (digit_text (n % 10) ∷ []))
places_more n s h l zero b = absurd (omega arith)
places_more n s h l (suc k) b =
    omega (arith, length-append s (digit_text (n % 10) ∷ []), l k (tenth n (10 ^ suc k) (rw pow-suc at b)))

pub decimal_places : (k n : ℕ) → n < 10 ^ suc k → length (decimal_text n) ≤ suc k
decimal_places k n = decimal_each Places (λ n h k b. omega arith) places_more n k

-- reading what was written gives the number back
pub value_of_decimal : (n : ℕ) → value_of (decimal_text n) ≡ n
unfolding value_from
value_of_decimal =
    decimal_each (λ n s. value_of s ≡ n) (λ n h. omega arith)
    (λ n s h e. value_append 0 s (digit_text (n % 10) ∷ []) ∙ simp e (omega arith))

-- writing what was read gives the digits back, where there is no needless zero
decimal_next : (v d : ℕ) → 0 < v → d < 10 → decimal_text (v * 10 + d) ≡ decimal_text v ++ (digit_text d ∷ [])
decimal_next v d h l =
    let q : (v * 10 + d) / 10 ≡ v = omega arith in
    let r : (v * 10 + d) % 10 ≡ d = omega arith in
    decimal_more (v * 10 + d) (omega arith) ∙ (λ i. decimal_text (q i) ++ (digit_text (r i) ∷ []))

-- a digit's bounds
pub record Digits (b : ℕ) : Type 0 where
  pub low : 48 ≤ b
  pub high : b ≤ 57

is_digit : (b : ℕ) → digit b ≡ true → Digits b
is_digit b e = record { low = leb-true 48 b (both_left (leb 48 b) (leb b 57) e); high = leb-true b 57 (both_right (leb 48 b) (leb b 57) e) }

decimal_from : (v : ℕ) (s : List ℕ) → 0 < v → leading digit s ≡ length s → decimal_text (value_from v s) ≡ decimal_text v ++ s
unfolding value_from
decimal_from v [] h e = sym (append-nil (decimal_text v))
decimal_from v (b ∷ s) h e =
    let d = is_digit b (leading_first digit b s e) in
    let t : digit_text (digit_value b) ≡ b = omega arith in
    decimal_from (v * 10 + digit_value b) s (omega arith) (leading_rest digit b s e)
    ∙ ap (λ (x : List ℕ). x ++ s) (decimal_next v (digit_value b) h (omega arith))
    ∙ append_snoc (decimal_text v) (digit_text (digit_value b)) s
    ∙ ap (λ (x : ℕ). decimal_text v ++ x ∷ s) t

pub decimal_of_value :
    (s : List ℕ) → 0 < length s → leading digit s ≡ length s → needless_zero s ≡ false → decimal_text (value_of s) ≡ s
unfolding value_from
decimal_of_value [] h e n = absurd (not-suc-le-zero h)
decimal_of_value (b ∷ []) h e n =
    let d = is_digit b (leading_first digit b [] e) in
    let t : digit_text (0 * 10 + digit_value b) ≡ b = omega arith in
    decimal_small (0 * 10 + digit_value b) (omega arith) ∙ ap (λ (x : ℕ). x ∷ []) t
decimal_of_value (b ∷ c ∷ s) h e n =
    let d = is_digit b (leading_first digit b (c ∷ s) e) in
    let m : ltb 1 (length (b ∷ c ∷ s)) ≡ true = lt-ltb 1 (length (b ∷ c ∷ s)) (omega arith) in
    let f : b ≡ 48 → ⊥ = eqb-false b 48 (by_cases (eqb b 48) (λ q. absurd (true_false (both_true m q) n)) (λ q. q)) in
    let t : digit_text (0 * 10 + digit_value b) ≡ b = omega arith in
    decimal_from (0 * 10 + digit_value b) (c ∷ s) (omega arith) (leading_rest digit b (c ∷ s) e)
    ∙ ap (λ (x : List ℕ). x ++ (c ∷ s)) (decimal_small (0 * 10 + digit_value b) (omega arith) ∙ ap (λ (x : ℕ). x ∷ []) t)

-- a number's text is digits, one at least, with no needless zero
one_digit : (d : ℕ) → d < 10 → leading digit (digit_text d ∷ []) ≡ 1
unfolding leading
one_digit d h = simp (le-leb 48 (48 + d) (omega arith), le-leb (48 + d) 57 (omega arith))

pub decimal_digits : (n : ℕ) → leading digit (decimal_text n) ≡ length (decimal_text n)
decimal_digits =
    decimal_each (λ n s. leading digit s ≡ length s) one_digit
    (λ n s h e. leading_join digit s (digit_text (n % 10) ∷ []) e (one_digit (n % 10) (omega arith)))

-- and no byte below the digits stands in it, such as a blank or a newline
pub decimal_without : (c n : ℕ) → c < 48 → leading (λ b. not (eqb b c)) (decimal_text n) ≡ length (decimal_text n)
decimal_without c n h =
    leading_other digit (λ b. not (eqb b c)) (λ b e. let d = is_digit b e in ap not (ne_eqb b c (λ q. omega arith))) (decimal_text n) (decimal_digits n)

first_digit : (n : ℕ) → (0 < length (decimal_text n)) × (0 < n → eqb (get_or (decimal_text n) 0 0) 48 ≡ false)
first_digit =
    decimal_each (λ n s. (0 < length s) × (0 < n → eqb (get_or s 0 0) 48 ≡ false)) (λ n h. (omega arith, λ p. ne_eqb (48 + n) 48 (λ q. omega arith)))
    (λ n s h e.
    let d = digit_text (n % 10) ∷ [] in
    (omega (arith, length-append s d), λ p. ap (λ (b : ℕ). eqb b 48) (get_or-append s d 0 0 e.0) ∙ e.1 (omega arith)))

pub decimal_some : (n : ℕ) → 0 < length (decimal_text n)
decimal_some n = (first_digit n).0

pub decimal_needed : (n : ℕ) → needless_zero (decimal_text n) ≡ false
decimal_needed n =
    by_cases (ltb 0 n) (λ e. simp ((first_digit n).1 (ltb-true 0 n e), and-false))
    (λ e.
    let z : n ≡ 0 = omega (arith, ltb-false 0 n e) in
    simp (decimal_small n (omega arith)))

pub decimal_is : (n : ℕ) → is_decimal (decimal_text n) ≡ true
decimal_is n =
    let s = decimal_text n in
    both_true (both_true (lt-ltb 0 (length s) (decimal_some n)) (eq-eqb (leading digit s) (length s) (decimal_digits n)))
    (ap not (decimal_needed n))
