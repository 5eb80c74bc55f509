-- Laws of the form of a line: how far a text goes along with it is the longest beginning that some text of the form has. Said once of any language of texts
-- (`Reaches`), and carried from a word, and from bytes of a kind, to what follows them.
-- Assumes nothing.
use mathlib.Core.Path.{◌≡◌, refl, sym, ap, ◌∙◌, subst}
use mathlib.Core.Bool.{Bool, true, false}
use mathlib.Core.List.{List, [], ◌∷◌, ◌++◌, append_assoc}
use Prim.Native.Nat.{ℕ, suc, ◌+◌, ◌≤◌, suc-le-suc}
use native.Mathlib.Nat.{suc-add, suc-ne-zero, suc_inj}
use native.Mathlib.Omega.{arith}
use borrow.Author.Tests.{eq-eqb, eqb-true, eqb-false, ltb-true, ltb-false, lt-ltb, ne_eqb}
use lib.Dec.{eqb, ltb}
use lib.ListN.{length, get_or, take, drop, length-append, length-drop, take-append-drop}
use lib.Seq.{take-append-add, length-take-le}
use Rattle.base.proofs.Tests.{by_cases, pick_when, pick_case, yes}
use Rattle.text.specs.Bytes.{agreed, begins, leading, letter, digit}
use Rattle.text.proofs.BytesLaws.{leading_within, leading_taken, leading_first, leading_rest, leading_join, agreed_with}
use Rattle.lines.specs.Line.{op_text, arg_text, past_word, past_some, form_reach}
use Rattle.lines.specs.Faults.{Run, Formed, Longest}

-- How far texts go along with those of a language: no further than they are; some text of the language begins with what went along; and every beginning of
-- such a text goes along to its end, whatever follows it.
record Reaches (Has : List ℕ → Type 0) (reach : List ℕ → ℕ) : Type 0 where
  within : (s : List ℕ) → reach s ≤ length s
  goes : (s : List ℕ) → (rest : List ℕ) × Has (take (reach s) s ++ rest)
  along : (p r q : List ℕ) → Has (p ++ r) → length p ≤ reach (p ++ q)

-- such a reach is the longest
module _ {Has : List ℕ → Type 0} {reach : List ℕ → ℕ} (g : Reaches Has reach) where
  -- a text of the language
  any : (s : List ℕ) × Has s
  any = (take (reach []) [] ++ (g.goes []).0, (g.goes []).1)

  not_longer : (s : List ℕ) (j : ℕ) → j ≤ length s → (rest : List ℕ) → Has (take j s ++ rest) → j ≤ reach s
  not_longer s j h rest has =
      let k : length (take j s) ≤ reach (take j s ++ drop j s) = g.along (take j s) rest (drop j s) has in
      omega (arith, k, length-take-le j s h, ap reach (take-append-drop j s))

-- bytes of a kind, one at least
some_along : (kind : ℕ → Bool) (p r q : List ℕ) → leading kind (p ++ r) ≡ length (p ++ r) → length p ≤ leading kind (p ++ q)
unfolding leading
some_along kind [] r q e = omega arith
some_along kind (b ∷ p) r q e =
    simp (leading_first kind b (p ++ r) e) (suc-le-suc (some_along kind p r q (leading_rest kind b (p ++ r) e)))

some_reaches : (kind : ℕ → Bool) (b : ℕ) → kind b ≡ true → Reaches (Run kind) (leading kind)
unfolding leading
some_reaches kind b t =
    record {
      within = leading_within kind;
      goes = λ s. (
        b ∷ [],
        record {
          each = leading_join kind (take (leading kind s) s) (b ∷ []) (leading_taken kind s) (simp t);
          one = omega (arith, length-append (take (leading kind s) s) (b ∷ []));
        },
      );
      along = λ p r q h. some_along kind p r q h.each;
    }

-- a word, and then a text of the language
abbrev AfterWord : List ℕ → (List ℕ → Type 0) → List ℕ → Type 0
AfterWord word Has s = (t : List ℕ) × ((s ≡ word ++ t) × Has t)

pub agreed_within : (word s : List ℕ) → agreed word s ≤ length s
unfolding agreed
agreed_within [] s = omega arith
agreed_within (w ∷ word) [] = omega arith
agreed_within (w ∷ word) (b ∷ s) = pick_case (λ (n : ℕ). n ≤ suc (length s)) (eqb b w) (suc-le-suc (agreed_within word s)) (omega arith)

-- what agreed is the word's own beginning
agreed_taken : (word s : List ℕ) → take (agreed word s) s ≡ take (agreed word s) word
unfolding agreed
agreed_taken [] s = refl
agreed_taken (w ∷ word) [] = refl
agreed_taken (w ∷ word) (b ∷ s) =
    by_cases (eqb b w) (λ t. simp t (λ i. eqb-true b w t i ∷ agreed_taken word s i)) (λ f. simp f)

-- the first byte of two lists that are one, and what follows it
same_first : {b c : ℕ} {s t : List ℕ} → b ∷ s ≡ c ∷ t → b ≡ c
same_first e = ap (λ (l : List ℕ). get_or l 0 0) e

same_rest : {b c : ℕ} {s t : List ℕ} → b ∷ s ≡ c ∷ t → s ≡ t
same_rest e = ap (drop 1) e

module _ {Has : List ℕ → Type 0} {reach : List ℕ → ℕ} (g : Reaches Has reach) where
  word_step : (c b : ℕ) (word s : List ℕ) → eqb b c ≡ true → past_word (c ∷ word) reach (b ∷ s) ≡ suc (past_word word reach s)
  unfolding agreed
  word_step c b word s t =
      let a = agreed word s in
      let l = length word in
      by_cases (begins word s) (λ y. simp (t, eq-eqb (suc a) (suc l) (ap suc (eqb-true a l y)), y) (suc-add _ _))
      (λ n. simp (t, ne_eqb (suc a) (suc l) (λ e. eqb-false a l n (suc_inj e)), n))

  word_along : (word t p r q : List ℕ) → p ++ r ≡ word ++ t → Has t → length p ≤ past_word word reach (p ++ q)
  unfolding agreed
  word_along [] t p r q e h = omega (arith, g.along p r q (subst Has (sym e) h))
  word_along (c ∷ word) t [] r q e h = omega arith
  word_along (c ∷ word) t (b ∷ p) r q e h =
      omega (arith, word_along word t p r q (same_rest e) h, word_step c b word (p ++ q) (eq-eqb b c (same_first e)))

  word_within : (word s : List ℕ) → past_word word reach s ≤ length s
  word_within word s =
      pick_when (λ (n : ℕ). n ≤ length s) (begins word s)
      (λ t.
      let d = drop (length word) s in
      let l : length s ≡ length (word ++ d) = ap length (agreed_with word s (eqb-true (agreed word s) (length word) t)) in
      omega (arith, g.within d, l, length-append word d))
      (λ f. agreed_within word s)

  -- the word, or as much of it as agreed, is carried on to a text of the language
  word_goes : (word s : List ℕ) → (rest : List ℕ) × AfterWord word Has (take (past_word word reach s) s ++ rest)
  word_goes word s =
      let d = drop (length word) s in
      let k = agreed word s in
      pick_when (λ (n : ℕ). (rest : List ℕ) × AfterWord word Has (take n s ++ rest)) (begins word s)
      (λ t.
      let rest = (g.goes d).0 in
      let e : take (length word + reach d) s ≡ word ++ take (reach d) d =
      ap (take (length word + reach d)) (agreed_with word s (eqb-true k (length word) t)) ∙ take-append-add word d (reach d) in
      (rest, (take (reach d) d ++ rest, (ap (λ (l : List ℕ). l ++ rest) e ∙ append_assoc word (take (reach d) d) rest, (g.goes d).1))))
      (λ f. (
        drop k word ++ (any g).0,
        (
          (any g).0,
          (
            sym (append_assoc (take k s) (drop k word) (any g).0)
                ∙ ap (λ (l : List ℕ). l ++ (any g).0) (ap (λ (l : List ℕ). l ++ drop k word) (agreed_taken word s) ∙ take-append-drop k word),
            (any g).1,
          ),
        ),
      ))

  word_reaches : (word : List ℕ) → Reaches (AfterWord word Has) (past_word word reach)
  word_reaches word =
      record { within = word_within word; goes = word_goes word; along = λ p r q h. word_along word h.0 p r q h.1.0 h.1.1 }

-- bytes of a kind, one at least, and then a text of the language, which begins with none of that kind
record AfterSome (kind : ℕ → Bool) (Has : List ℕ → Type 0) (s : List ℕ) : Type 0 where
  begun : List ℕ
  then : List ℕ
  some : Run kind begun
  text : s ≡ begun ++ then
  has : Has then

module _
    {Has : List ℕ → Type 0} {reach : List ℕ → ℕ} (g : Reaches Has reach) (kind : ℕ → Bool) (other : (t : List ℕ) → Has t → leading kind t ≡ 0)
  where
    -- the same with none at least
    past : List ℕ → ℕ
    past s = leading kind s + reach (drop (leading kind s) s)

    past_step : (b : ℕ) (s : List ℕ) → kind b ≡ true → past (b ∷ s) ≡ suc (past s)
    unfolding past leading
    past_step b s t = simp t (suc-add _ _)

    past_along :
        (a t p r q : List ℕ) → leading kind a ≡ length a → Has t → p ++ r ≡ a ++ t → length p ≤ past (p ++ q)
    unfolding past leading
    past_along a t [] r q d h e = omega arith
    past_along [] t (b ∷ p) r q d h e =
        let f : kind b ≡ false = by_cases (kind b) (λ y. absurd (suc-ne-zero (leading kind (p ++ r)) (simp y at (ap (leading kind) e ∙ other t h)))) (λ n. n) in
        let k : length (b ∷ p) ≤ reach ((b ∷ p) ++ q) = g.along (b ∷ p) r q (subst Has (sym e) h) in
        simp f (omega (arith, k))
    past_along (c ∷ a) t (b ∷ p) r q d h e =
        let y : kind b ≡ true = ap kind (same_first e) ∙ leading_first kind c a d in
        omega (arith, past_along a t p r q (leading_rest kind c a d) h (same_rest e), past_step b (p ++ q) y)

    some_then_along : (p r q : List ℕ) → AfterSome kind Has (p ++ r) → length p ≤ past_some kind reach (p ++ q)
    unfolding past leading
    some_then_along [] r q h = omega arith
    some_then_along (b ∷ p) r q h =
        let k = past_along h.begun h.then (b ∷ p) r q h.some.each h.has h.text in
        let y : kind b ≡ true = first_of h.begun h.then b (p ++ r) h.some h.text in
        omega (arith, k, yes (past (b ∷ (p ++ q))) 0 (lt-ltb 0 (leading kind (b ∷ (p ++ q))) (simp y (omega arith))))
      where
        first_of : (a t : List ℕ) (c : ℕ) (s : List ℕ) → Run kind a → c ∷ s ≡ a ++ t → kind c ≡ true
        first_of [] t c s o e = absurd (omega (arith, o.one))
        first_of (x ∷ a) t c s o e = ap kind (same_first e) ∙ leading_first kind x a o.each

    some_then_within : (s : List ℕ) → past_some kind reach s ≤ length s
    some_then_within s =
        let n = leading kind s in
        pick_case (λ (m : ℕ). m ≤ length s) (ltb 0 n) (omega (arith, g.within (drop n s), length-drop n s, leading_within kind s)) (omega arith)

    some_then_goes : (b : ℕ) → kind b ≡ true → (s : List ℕ) → (rest : List ℕ) × AfterSome kind Has (take (past_some kind reach s) s ++ rest)
    unfolding leading
    some_then_goes b y s =
        let n = leading kind s in
        let a = take n s in
        let d = drop n s in
        let l : length a ≡ n = length-take-le n s (leading_within kind s) in
        pick_when (λ (m : ℕ). (rest : List ℕ) × AfterSome kind Has (take m s ++ rest)) (ltb 0 n)
        (λ t.
        let rest = (g.goes d).0 in
        let e : take (n + reach d) s ≡ a ++ take (reach d) d =
        ap (take (n + reach d)) (sym (take-append-drop n s)) ∙ ap (λ (k : ℕ). take (k + reach d) (a ++ d)) (sym l) ∙ take-append-add a d (reach d) in (
          rest,
          record {
            begun = a;
            then = take (reach d) d ++ rest;
            some = record { each = leading_taken kind s; one = omega (arith, l, ltb-true 0 n t) };
            text = ap (λ (x : List ℕ). x ++ rest) e ∙ append_assoc a (take (reach d) d) rest;
            has = (g.goes d).1;
          },
        ))
        (λ f. (
          b ∷ (any g).0,
          record { begun = b ∷ []; then = (any g).0; some = record { each = simp y; one = omega arith }; text = refl; has = (any g).1 },
        ))

    some_then_reaches : (b : ℕ) → kind b ≡ true → Reaches (AfterSome kind Has) (past_some kind reach)
    some_then_reaches b y = record { within = some_then_within; goes = some_then_goes b y; along = some_then_along }

-- The form of a line, piece by piece, and that its reach is its own.
abbrev FromArg : List ℕ → Type 0
FromArg = AfterWord arg_text (Run digit)

abbrev FromName : List ℕ → Type 0
FromName = AfterSome letter FromArg

no_letter : (t : List ℕ) → FromArg t → leading letter t ≡ 0
unfolding leading
no_letter t h = ap (leading letter) h.1.0

form_reaches : Reaches (AfterWord op_text FromName) form_reach
unfolding form_reach
form_reaches =
    word_reaches (some_then_reaches (word_reaches (some_reaches digit 0x30 refl) arg_text) letter no_letter 0x61 refl) op_text

-- a line of the form, by its pieces and piece by piece
in_pieces : (line : List ℕ) → Formed line → AfterWord op_text FromName line
in_pieces line f = (
  f.name ++ (arg_text ++ f.number),
  (
    f.text,
    record { begun = f.name; then = arg_text ++ f.number; some = f.letters; text = refl; has = (f.number, (refl, f.digits)) },
  ),
)

from_pieces : (line : List ℕ) → AfterWord op_text FromName line → Formed line
from_pieces line h =
    let n = h.1.1 in
    record {
      name = n.begun;
      number = n.has.0;
      letters = n.some;
      digits = n.has.1.1;
      text = h.1.0 ∙ ap (λ (s : List ℕ). op_text ++ s) (n.text ∙ ap (λ (s : List ℕ). n.begun ++ s) n.has.1.0);
    }

-- how far a line goes along with the form is the longest beginning that a line of the form has
pub reach_longest : (line : List ℕ) → Longest line (form_reach line)
reach_longest line =
    let g = form_reaches in
    record {
      within = g.within line;
      goes = ((g.goes line).0, from_pieces _ (g.goes line).1);
      longer = λ j h l go. omega (arith, not_longer g line j l go.0 (in_pieces (take j line ++ go.0) go.1));
    }

-- and there is one longest
pub longest_once : (line : List ℕ) (j k : ℕ) → Longest line j → Longest line k → j ≡ k
longest_once line j k a b =
    by_cases (ltb j k) (λ t. absurd (a.longer k (ltb-true j k t) b.within b.goes))
    (λ f. by_cases (ltb k j) (λ t. absurd (b.longer j (ltb-true k j t) a.within a.goes))
    (λ e. omega (arith, ltb-false j k f, ltb-false k j e)))
