-- Laws of agreement with a word and of leading bytes, at the place that a scan has reached and of texts that are joined; and of a look-up by
-- words: what is found stands beside the word, and where no word stands twice a word finds what stands beside it.
-- Assumes nothing.
use mathlib.Core.Path.{◌≡◌, refl, sym, ap, ◌∙◌}
use mathlib.Core.Bool.{Bool, true, false, not, true≢false}
use mathlib.Core.List.{List, [], ◌∷◌, ◌++◌, append-nil}
use mathlib.Core.Logic.{inl, inr, ⊎_elim}
use Prim.Native.Nat.{ℕ, suc, ◌+◌, ◌<◌, ◌≤◌, suc-le-suc}
use Prim.Native.String.{String}
use native.Mathlib.Nat.{zero-add, suc-add, not-suc-le-zero, le_of_suc-le-suc, suc-ne-zero, suc_inj}
use native.Mathlib.Omega.{arith}
use borrow.Author.Tests.{eq-eqb, ne_eqb, eqb-true, not-true}
use lib.Dec.{eqb}
use lib.ListN.{length, get_or, drop, take, length-append}
use lib.Seq.{drop-length}
use Rattle.base.proofs.Tests.{by_cases, yes, no, pick_case, both_left, both_right, both_true}
use lib.Pointwise.{pointwise}
use Rattle.std.specs.Bool.{one_answer}
use Rattle.std.proofs.lemmas.Slice.Eq.{slice_eq-Decides}
use Rattle.std.proofs.lemmas.Bool.Decides.{Decides-eqb}
use Rattle.std.specs.Prelude.{Some, None}
use Rattle.std.specs.List.{prefix_len, zip}
use Rattle.text.specs.Bytes.{bytes_of, agreed, begins, is_word, leading, found, Listed, all_rows, apart}

one_more : {m n : ℕ} → m ≡ n → suc m ≡ 1 + n
one_more e = omega arith

-- both as the library counts them
abbrev pub same_bytes : ℕ × ℕ → Bool
same_bytes p = eqb p.0 p.1

pub agreed_prefix : (word s : List ℕ) → agreed word s ≡ prefix_len same_bytes (zip word s)
unfolding agreed
agreed_prefix [] s = refl
agreed_prefix (w ∷ word) [] = refl
agreed_prefix (w ∷ word) (b ∷ s) =
    by_cases (eqb b w) (λ t. simp (t, eq-eqb w b (sym (eqb-true b w t))) (one_more (agreed_prefix word s)))
    (λ f. simp (f, ne_eqb w b (λ e. true≢false (sym (eq-eqb b w (sym e)) ∙ f))))

pub leading_prefix : (kind : ℕ → Bool) (s : List ℕ) → leading kind s ≡ prefix_len kind s
unfolding leading
leading_prefix kind [] = refl
leading_prefix kind (b ∷ s) = by_cases (kind b) (λ t. simp t (one_more (leading_prefix kind s))) (λ f. simp f)

-- how far the leading bytes go
pub leading_within : (kind : ℕ → Bool) (s : List ℕ) → leading kind s ≤ length s
unfolding leading
leading_within kind [] = omega arith
leading_within kind (b ∷ s) =
    pick_case (λ (n : ℕ). n ≤ suc (length s)) (kind b) (suc-le-suc (leading_within kind s)) (omega arith)

pub leading_taken : (kind : ℕ → Bool) (s : List ℕ) → leading kind (take (leading kind s) s) ≡ length (take (leading kind s) s)
unfolding leading
leading_taken kind [] = refl
leading_taken kind (b ∷ s) = by_cases (kind b) (λ t. simp t (ap suc (leading_taken kind s))) (λ f. simp f)

pub leading_ends : (kind : ℕ → Bool) (s : List ℕ) → leading kind s < length s → kind (get_or s (leading kind s) 0) ≡ false
unfolding leading
leading_ends kind [] h = absurd (not-suc-le-zero h)
leading_ends kind (b ∷ s) h =
    by_cases (kind b) (λ t. simp t (leading_ends kind s (le_of_suc-le-suc (simp t at h)))) (λ f. simp f)

-- a list of one kind of byte, and what follows it
pub leading_first : (kind : ℕ → Bool) (b : ℕ) (s : List ℕ) → leading kind (b ∷ s) ≡ length (b ∷ s) → kind b ≡ true
unfolding leading
leading_first kind b s e = by_cases (kind b) (λ t. t) (λ f. absurd (suc-ne-zero (length s) (sym (simp f at e))))

pub leading_rest : (kind : ℕ → Bool) (b : ℕ) (s : List ℕ) → leading kind (b ∷ s) ≡ length (b ∷ s) → leading kind s ≡ length s
unfolding leading
leading_rest kind b s e = suc_inj (simp (leading_first kind b s e) at e)

pub leading_append : (kind : ℕ → Bool) (s t : List ℕ) → leading kind s ≡ length s → leading kind (s ++ t) ≡ length s + leading kind t
unfolding leading
leading_append kind [] t e = sym (zero-add (leading kind t))
leading_append kind (b ∷ s) t e =
    simp (leading_first kind b s e)
    (ap suc (leading_append kind s t (leading_rest kind b s e)) ∙ sym (suc-add (length s) (leading kind t)))

pub leading_join :
    (kind : ℕ → Bool) (s t : List ℕ) → leading kind s ≡ length s → leading kind t ≡ length t → leading kind (s ++ t) ≡ length (s ++ t)
leading_join kind s t d e = leading_append kind s t d ∙ ap (λ (n : ℕ). length s + n) e ∙ sym (length-append s t)

-- bytes of a kind are of every wider kind
pub leading_other :
    (kind other : ℕ → Bool) → ((b : ℕ) → kind b ≡ true → other b ≡ true) → (s : List ℕ) → leading kind s ≡ length s → leading other s ≡ length s
unfolding leading
leading_other kind other h [] e = refl
leading_other kind other h (b ∷ s) e =
    simp (h b (leading_first kind b s e)) (ap suc (leading_other kind other h s (leading_rest kind b s e)))

-- a list that agrees with a whole word is the word and the rest
pub agreed_with : (word s : List ℕ) → agreed word s ≡ length word → s ≡ word ++ drop (length word) s
unfolding agreed
agreed_with [] s e = refl
agreed_with (w ∷ word) [] e = absurd (suc-ne-zero (length word) (sym e))
agreed_with (w ∷ word) (b ∷ s) e =
    by_cases (eqb b w)
    (λ t.
    let r : agreed word s ≡ length word = suc_inj (simp t at e) in
    let q : b ≡ w = eqb-true b w t in
    λ i. q i ∷ agreed_with word s r i)
    (λ f. absurd (suc-ne-zero (length word) (sym (simp f at e))))

pub agreed_itself : (word s : List ℕ) → agreed word (word ++ s) ≡ length word
unfolding agreed
agreed_itself [] s = refl
agreed_itself (w ∷ word) s = simp (eq-eqb w w refl) (ap suc (agreed_itself word s))

-- s is the word exactly when the test says so
pub is_word_lem : (word s : List ℕ) → is_word word s ≡ true → s ≡ word
is_word_lem word s e =
    let l : length s ≡ length word = eqb-true (length s) (length word) (both_left (eqb (length s) (length word)) (begins word s) e) in
    let a : agreed word s ≡ length word = eqb-true (agreed word s) (length word) (both_right (eqb (length s) (length word)) (begins word s) e) in
    agreed_with word s a
    ∙ ap (λ (t : List ℕ). word ++ t) (ap (λ (n : ℕ). drop n s) (sym l) ∙ drop-length s)
    ∙ append-nil word

pub word_is : (word s : List ℕ) → s ≡ word → is_word word s ≡ true
word_is word s e =
    let a = ap (agreed word) (e ∙ sym (append-nil word)) ∙ agreed_itself word [] in
    both_true (eq-eqb (length s) (length word) (ap length e)) (eq-eqb (agreed word s) (length word) a)

none_not_some : {A : Type 0} {x : A} → None ≡ Some x → ⊥
none_not_some e = cc

some_same : {A : Type 0} {x y : A} → Some x ≡ Some y → x ≡ y
some_same e = cc

-- slices are equal exactly where the test says so
pub same_word : (word s : List ℕ) (r : Bool) → r ≡ pointwise eqb word s → r ≡ is_word word s
same_word word s r e =
    let d = slice_eq-Decides Decides-eqb word s r e in
    one_answer r (is_word word s) d (λ t. sym (is_word_lem word s t), λ q. word_is word s (sym q))

-- what is found stands beside the word
pub found_listed : {A : Type 0} (rows : List (String × A)) (s : List ℕ) (x : A) → found rows s ≡ Some x → Listed rows s x
unfolding found Listed
found_listed [] s x e = absurd (none_not_some e)
found_listed (row ∷ rows) s x e =
    by_cases (is_word (bytes_of row.0) s)
    (λ t. inl (is_word_lem (bytes_of row.0) s t, some_same (sym e ∙ sym (yes (Some row.1) (found rows s) t))))
    (λ f. inr (found_listed rows s x (no (Some row.1) (found rows s) f ∙ e)))

-- what holds of every row holds of a listed word and what stands beside it
pub rows_listed :
    {A : Type 0} (test : List ℕ → A → Bool) (rows : List (String × A)) (s : List ℕ) (x : A) → all_rows test rows ≡ true
    → Listed rows s x → test s x ≡ true
unfolding all_rows Listed
rows_listed test [] s x e l = absurd l
rows_listed test (row ∷ rows) s x e l =
    let t = both_left (test (bytes_of row.0) row.1) (all_rows test rows) e in
    let r = both_right (test (bytes_of row.0) row.1) (all_rows test rows) e in
    ⊎_elim (λ q. (λ i. test (q.0 i) (q.1 i)) ∙ t) (rows_listed test rows s x r) l

-- where no word stands twice, by a listed word is found what stands beside it
pub listed_found : {A : Type 0} (rows : List (String × A)) (s : List ℕ) (x : A) → apart rows ≡ true → Listed rows s x → found rows s ≡ Some x
unfolding found Listed apart
listed_found [] s x e l = absurd l
listed_found (row ∷ rows) s x e l =
    let word = bytes_of row.0 in
    let test = all_rows (λ w y. not (is_word word w)) rows in
    ⊎_elim (λ q. sym (yes (Some row.1) (found rows s) (word_is word s q.0)) ∙ ap Some (sym q.1))
    (λ k.
    let f = not-true (is_word word s) (rows_listed (λ w y. not (is_word word w)) rows s x (both_left test (apart rows) e) k) in
    sym (no (Some row.1) (found rows s) f) ∙ listed_found rows s x (both_right test (apart rows) e) k)
    l
