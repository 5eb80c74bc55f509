-- Laws of the scan: its pieces as code has them are those of a reading.
-- Assumes nothing.
use mathlib.Core.Path.{◌≡◌, refl, sym, ap, ◌∙◌}
use mathlib.Core.Logic.{◌≢◌}
use mathlib.Core.Bool.{Bool, true, false, not, ◌&&◌, ◌||◌}
use mathlib.Core.List.{List, [], ◌∷◌}
use Prim.Native.Nat.{ℕ, zero, suc, ◌+◌, ◌<◌, ◌≤◌, suc-le-suc}
use native.Mathlib.Omega.{arith}
use native.Mathlib.Numerals.{add-one}
use borrow.Author.Tests.{eq-eqb, eqb-false, ne_eqb, lt-ltb, ltb-true, ltb-false, leb-true, le-leb, le-ltb, not-true}
use lib.Dec.{eqb, ltb, leb}
use lib.ListN.{length, take, drop}
use lib.Seq.{take_all, drop-drop, length-take-le}
use Rattle.base.proofs.Tests.{by_cases, yes, no, pick_case, both_left, both_right, both_true, neither, neither_left, neither_right, true_false}
use Rattle.text.specs.Bytes.{agreed, leading, digit, newline}
use Rattle.text.specs.Decimal.{needless_zero, value_of, read_limit}
use Rattle.text.proofs.BytesLaws.{leading_within}
use Rattle.form.specs.Lines.{number, comma}
use Rattle.saved.specs.Reading.{Reading, reading, stop, past_word, digit_limit, readable, number_at, past_number, settled, mark_after}

pub agreed_within : (word s : List ℕ) → agreed word s ≤ length s
unfolding agreed
agreed_within [] s = omega arith
agreed_within (w ∷ word) [] = omega arith
agreed_within (w ∷ word) (b ∷ s) = pick_case (λ (n : ℕ). n ≤ suc (length s)) (eqb b w) (suc-le-suc (agreed_within word s)) (omega arith)

-- past a word, or stopped
pub word_stops :
    (w text : List ℕ) (at k n : ℕ) → n ≡ agreed w (drop at text) → n ≢ length w → reading (drop at text) k true ≡ past_word w (reading (drop at text) k false)
unfolding past_word
word_stops w text at k n e t = yes (reading (drop at text) k true) _ (ap (λ (i : ℕ). not (eqb i (length w))) (sym e) ∙ ap not (ne_eqb n (length w) t))

pub word_goes :
    (w text : List ℕ) (at k n : ℕ) → n ≡ agreed w (drop at text) → n ≡ length w → reading (drop (at + n) text) k false ≡ past_word w (reading (drop at text) k false)
unfolding past_word
word_goes w text at k n e l =
    ap (λ (t : List ℕ). reading t k false) (sym (drop-drop n at text) ∙ ap (λ (i : ℕ). drop i (drop at text)) l)
    ∙ no (stop (reading (drop at text) k false)) _ (ap (λ (i : ℕ). not (eqb i (length w))) (sym e) ∙ ap not (eq-eqb n (length w) l))

-- a number that can be read, and one that cannot
module _ (s : Reading) where
  abbrev size : ℕ
  size = leading digit s.text

  abbrev digits : List ℕ
  digits = take size s.text

  abbrev refused : Bool
  refused = s.stopped || eqb size 0 || needless_zero digits || ltb 8 size

  size_is : length digits ≡ size
  size_is = length-take-le size s.text (leading_within digit s.text)

  reads : refused ≡ false → readable s ≡ true
  unfolding readable
  reads f =
      let t1 = s.stopped || eqb size 0 in
      let t2 = t1 || needless_zero digits in
      let g = neither_left t1 (needless_zero digits) (neither_left t2 (ltb 8 size) f) in
      let z : size ≡ 0 → ⊥ = eqb-false size 0 (neither_right s.stopped (eqb size 0) g) in
      let h : size ≤ 8 = ltb-false 8 size (neither_right t2 (ltb 8 size) f) in
      both_true (ap not (neither_left s.stopped (eqb size 0) g))
      (both_true
      (both_true (lt-ltb 0 (length digits) (omega (arith, size_is))) (ap not (neither_right t1 (needless_zero digits) (neither_left t2 (ltb 8 size) f))))
      (le-leb (length digits) 8 (omega (arith, size_is, h))))

  reads_not : refused ≡ true → readable s ≡ false
  unfolding readable
  reads_not t =
      let n1 = not s.stopped in
      let n2 = number digits && leb (length digits) digit_limit in
      let z1 = ltb 0 (length digits) in
      let z2 = not (needless_zero digits) in
      by_cases (n1 && n2)
      (λ r.
      let o = both_left (z1 && z2) (leb (length digits) digit_limit) (both_right n1 n2 r) in
      let k : 0 < length digits = ltb-true 0 (length digits) (both_left z1 z2 o) in
      let h : length digits ≤ 8 = leb-true (length digits) digit_limit (both_right (z1 && z2) (leb (length digits) digit_limit) (both_right n1 n2 r)) in
      absurd
      (true_false t
      (neither
      (neither (neither (not-true s.stopped (both_left n1 n2 r)) (ne_eqb size 0 (λ q. omega (arith, size_is, k))))
      (not-true (needless_zero digits) (both_right z1 z2 o)))
      (le-ltb 8 size (omega (arith, size_is, h))))))
      (λ r. r)

  short_enough : refused ≡ false → take read_limit digits ≡ digits
  short_enough f =
      let t2 = s.stopped || eqb size 0 || needless_zero digits in
      let h : size ≤ 8 = ltb-false 8 size (neither_right t2 (ltb 8 size) f) in
      take_all read_limit digits (omega (arith, size_is, h))

-- past a number, or stopped: how many digits lead, and the digits, as code has them
module _ (text : List ℕ) (at k n : ℕ) (d : List ℕ) (t : Bool) (e : n ≡ leading digit (drop at text)) (q : d ≡ take n (drop at text)) (z : t ≡ needless_zero d) where
  abbrev here : Reading
  here = reading (drop at text) k false

  abbrev tested : Bool
  tested = eqb n 0 || t || ltb 8 n

  digits_are : d ≡ digits here
  digits_are = q ∙ ap (λ (i : ℕ). take i (drop at text)) e

  test_is : tested ≡ refused here
  test_is i = eqb (e i) 0 || (z ∙ ap needless_zero digits_are) i || ltb 8 (e i)

  pub number_stops : tested ≡ true → (0 ≡ number_at here) × (reading (drop at text) k true ≡ past_number here)
  unfolding number_at past_number
  number_stops h =
      let f = reads_not here (sym test_is ∙ h) in
      (no (value_of (digits here)) 0 f, no (reading (drop (size here) (drop at text)) k false) (stop here) f)

  pub number_goes :
      (v : ℕ) → tested ≡ false → v ≡ value_of (take read_limit d) → (v ≡ number_at here) × (reading (drop (at + n) text) k false ≡ past_number here)
  unfolding number_at past_number
  number_goes v h w =
      let o = sym test_is ∙ h in
      let r = reads here o in (
        w ∙ ap (λ (x : List ℕ). value_of (take read_limit x)) digits_are ∙ ap value_of (short_enough here o) ∙ yes (value_of (digits here)) 0 r,
        ap (λ (x : List ℕ). reading x k false) (sym (drop-drop n at text) ∙ ap (λ (i : ℕ). drop i (drop at text)) e)
            ∙ yes (reading (drop (size here) (drop at text)) k false) (stop here) r,
      )

pub settle_stops : (text : List ℕ) (k : ℕ) (t : Bool) → t ≡ false → reading text k true ≡ settled t (reading text k false)
unfolding settled
settle_stops text k t e = yes (reading text k true) _ (ap not e)

pub settle_goes : (text : List ℕ) (k : ℕ) (t : Bool) → t ≡ true → reading text (k + 1) false ≡ settled t (reading text k false)
unfolding settled
settle_goes text k t e = ap (λ (n : ℕ). reading text n false) (add-one k) ∙ no (reading text k true) _ (ap not e)

-- the byte after a number
pub comma_after : (c : ℕ) → 0 < c → comma ≡ mark_after c
comma_after zero h = absurd (omega arith)
comma_after (suc c) h = refl

pub newline_after : (c : ℕ) → c ≡ 0 → newline ≡ mark_after c
newline_after c e = ap mark_after (sym e)
