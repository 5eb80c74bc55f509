-- Laws of forms: what a file gives is what the ticket says, for every form that can be told line by line.
-- Assumes nothing.
use mathlib.Core.Path.{◌≡◌, refl, sym, ap, subst, ◌∙◌}
use mathlib.Core.Logic.{inl, inr, ⊎_elim}
use mathlib.Core.Bool.{Bool, true, false}
use mathlib.Core.List.{List, [], ◌∷◌, ◌++◌, append_assoc, cons-ne-nil}
use mathlib.Core.Option.{Option, none, some, some-injective, none-ne-some}
use Prim.Native.Nat.{ℕ, zero, suc, ◌<◌, ◌≤◌, suc-le-suc}
use native.Mathlib.Omega.{arith}
use borrow.Author.Tests.{ltb-true, ltb-false}
use lib.Dec.{ltb}
use lib.ListN.{take, drop, take-append-drop}
use lib.Seq.{take-take}
use Rattle.base.proofs.Tests.{by_cases, yes, no, true_false}
use Rattle.form.specs.Lines.{line_text, read_line, lines_in, joined}
use Rattle.form.specs.Form.{Form, done, line, may_end, taken, texts, Loaded, loaded, bad, later, on_line, judged, load, Saves, Begins, FirstBad, Live, LoadsRight}
use Rattle.form.proofs.LinesLaws.{read_text, text_read_lem, lines_line, joined_lines}

-- lists that begin and go on alike
pub head_same : {A : Type 0} (a b : A) (s t : List A) → ◌≡◌ {A = List A} (a ∷ s) (b ∷ t) → a ≡ b
head_same a b s t e = cc

pub tail_same : {A : Type 0} (a b : A) (s t : List A) → ◌≡◌ {A = List A} (a ∷ s) (b ∷ t) → s ≡ t
tail_same a b s t e = cc

-- a good line is read
read_good : (key : List ℕ) (test : List ℕ → Bool) → test [] ≡ false → (x : List ℕ) → test x ≡ true → read_line key (line_text key x) ≡ some x
read_good key test e [] t = absurd (true_false t e)
read_good key test e (n ∷ x) t = read_text key n x

module _ {A : Type 0} where
  -- a line before what is saved
  saves_line :
      (key : List ℕ) (test : List ℕ → Bool) (next : List ℕ → Form A) (x : List ℕ) (ps : List (List ℕ)) → test x ≡ true → Saves (next x) ps
      → Saves (line key test next) (line_text key x ∷ ps)
  unfolding taken texts
  saves_line key test next x ps t s =
      record {
        numbers = x ∷ s.numbers;
        value = s.value;
        good = rw t s.good;
        lines = ap (λ (l : List (List ℕ)). line_text key x ∷ l) s.lines;
      }

  -- and what is saved after its first line
  record After (key : List ℕ) (test : List ℕ → Bool) (next : List ℕ → Form A) (p : List ℕ) (ps : List (List ℕ)) : Type 0 where
    x : List ℕ
    passes : test x ≡ true
    first : line_text key x ≡ p
    rest : Saves (next x) ps

  saves_after :
      (key : List ℕ) (test : List ℕ → Bool) (next : List ℕ → Form A) (p : List ℕ) (ps : List (List ℕ)) → Saves (line key test next) (p ∷ ps)
      → After key test next p ps
  unfolding taken texts
  saves_after key test next p ps s = go s.numbers s.good s.lines
    where
      go : (xs : List (List ℕ)) → taken (line key test next) xs ≡ some s.value → texts (line key test next) xs ≡ p ∷ ps → After key test next p ps
      go [] g l = absurd (none-ne-some s.value g)
      go (x ∷ xs) g l =
          by_cases (test x)
          (λ t.
          record {
            x = x;
            passes = t;
            first = head_same (line_text key x) p (texts (next x) xs) ps l;
            rest =
                record {
                  numbers = xs;
                  value = s.value;
                  good = yes (taken (next x) xs) none t ∙ g;
                  lines = tail_same (line_text key x) p (texts (next x) xs) ps l;
                };
          })
          (λ f. absurd (none-ne-some s.value (no (taken (next x) xs) none f ∙ g)))

  -- no numbers have no lines, and numbers that are taken have some
  pub texts_none : (f : Form A) → texts f [] ≡ []
  unfolding texts
  texts_none (done a) = refl
  texts_none (line key test next) = refl
  texts_none (may_end a f) = texts_none f

  texts_some : (f : Form A) (x : List ℕ) (xs : List (List ℕ)) (a : A) → taken f (x ∷ xs) ≡ some a → texts f (x ∷ xs) ≡ [] → ⊥
  unfolding texts taken
  texts_some (done b) x xs a g e = none-ne-some a g
  texts_some (line key test next) x xs a g e = cons-ne-nil (line_text key x) (texts (next x) xs) e
  texts_some (may_end b f) x xs a g e = texts_some f x xs a g e

  -- a place where it may end: what is saved without the place is saved with it, and what has a line the other way too
  saves_open : (a : A) (f : Form A) (ps : List (List ℕ)) → Saves f ps → Saves (may_end a f) ps
  unfolding taken texts
  saves_open a f ps s = go s.numbers s.good s.lines
    where
      go : (xs : List (List ℕ)) → taken f xs ≡ some s.value → texts f xs ≡ ps → Saves (may_end a f) ps
      go [] g l = record { numbers = []; value = a; good = refl; lines = l }
      go (x ∷ xs) g l = record { numbers = x ∷ xs; value = s.value; good = g; lines = l }

  saves_shut : (a : A) (f : Form A) (p : List ℕ) (ps : List (List ℕ)) → Saves (may_end a f) (p ∷ ps) → Saves f (p ∷ ps)
  unfolding taken texts
  saves_shut a f p ps s = go s.numbers s.good s.lines
    where
      go : (xs : List (List ℕ)) → taken (may_end a f) xs ≡ some s.value → texts f xs ≡ p ∷ ps → Saves f (p ∷ ps)
      go [] g l = absurd (cons-ne-nil p ps (sym l ∙ texts_none f))
      go (x ∷ xs) g l = record { numbers = x ∷ xs; value = s.value; good = g; lines = l }

  -- something is saved
  some_saved : (f : Form A) → Live f → (ps : List (List ℕ)) × Saves f ps
  unfolding Live taken texts
  some_saved (done a) l = ([], record { numbers = []; value = a; good = refl; lines = refl })
  some_saved (line key test next) l =
      let s = some_saved (next l.filler) (l.onwards l.filler l.filled) in
      (line_text key l.filler ∷ s.0, saves_line key test next l.filler s.0 l.filled s.1)
  some_saved (may_end a f) l = let s = some_saved f l in (s.0, saves_open a f s.0 s.1)

  begins_none : (f : Form A) → Live f → Begins f []
  begins_none f l = let s = some_saved f l in record { rest = s.0; whole = s.1 }

  -- what a file gave, in the words of the ticket
  abbrev Told : Form A → List (List ℕ) → Loaded A → Type 0
  Told f ps (loaded a) = (xs : List (List ℕ)) × (taken f xs ≡ some a) × (texts f xs ≡ ps)
  Told f ps (bad zero) = ⊥
  Told f ps (bad (suc k)) = FirstBad f ps k

  module _ (key : List ℕ) (test : List ℕ → Bool) (next : List ℕ → Form A) (l : Live (line key test next)) (p : List ℕ) (ps : List (List ℕ)) where
    -- a first line that nothing saved has
    bad_first : ((x : List ℕ) → test x ≡ true → line_text key x ≡ p → ⊥) → FirstBad (line key test next) (p ∷ ps) 0
    bad_first h =
        record {
          before = begins_none (line key test next) l;
          after =
              inl (
                omega arith,
                λ b. let a = saves_after key test next p b.rest b.whole in h a.x a.passes a.first,
              );
        }

    -- the numbers of a first line are those that are read
    same_numbers : (x : List ℕ) → read_line key p ≡ some x → (y : List ℕ) → test y ≡ true → line_text key y ≡ p → y ≡ x
    unfolding Live
    same_numbers x e y t q =
        some-injective y x
        (sym (read_good key test l.some_number y t) ∙ ap (read_line key) q ∙ e)

    -- a good first line
    module _ (x : List ℕ) (e : read_line key p ≡ some x) (t : test x ≡ true) where
      saves_on : (qs : List (List ℕ)) → Saves (next x) qs → Saves (line key test next) (p ∷ qs)
      saves_on qs s =
          subst (λ (r : List ℕ). Saves (line key test next) (r ∷ qs)) (sym (text_read_lem key p x e)) (saves_line key test next x qs t s)

      saves_back : (qs : List (List ℕ)) → Saves (line key test next) (p ∷ qs) → Saves (next x) qs
      saves_back qs s =
          let a = saves_after key test next p qs s in
          subst (λ (y : List ℕ). Saves (next y) qs) (same_numbers x e a.x a.passes a.first) a.rest

      good_first : (r : Loaded A) → Told (next x) ps r → Told (line key test next) (p ∷ ps) (later r)
      unfolding taken texts
      good_first (loaded a) d = (x ∷ d.0, rw t d.1, λ i. sym (text_read_lem key p x e) i ∷ d.2 i)
      good_first (bad zero) d = absurd d
      good_first (bad (suc k)) d =
          record {
            before = record { rest = d.before.rest; whole = saves_on (take k ps ++ d.before.rest) d.before.whole };
            after =
                ⊎_elim
                (λ w. inl (suc-le-suc w.0, λ b. w.1 (record { rest = b.rest; whole = saves_back (take (suc k) ps ++ b.rest) b.whole })))
                (λ w. inr (ap suc w.0, λ s. w.1 (saves_back ps s)))
                d.after;
          }

  -- a line where it might have ended
  told_on : (b : A) (f : Form A) (p : List ℕ) (ps : List (List ℕ)) (r : Loaded A) → Told f (p ∷ ps) r → Told (may_end b f) (p ∷ ps) r
  unfolding taken texts
  told_on b f p ps (loaded a) d = go d.0 d.1 d.2
    where
      go : (xs : List (List ℕ)) → taken f xs ≡ some a → texts f xs ≡ p ∷ ps → Told (may_end b f) (p ∷ ps) (loaded a)
      go [] g l = absurd (cons-ne-nil p ps (sym l ∙ texts_none f))
      go (x ∷ xs) g l = (x ∷ xs, g, l)
  told_on b f p ps (bad zero) d = absurd d
  told_on b f p ps (bad (suc k)) d =
      record {
        before =
            record { rest = d.before.rest; whole = saves_open b f (take k (p ∷ ps) ++ d.before.rest) d.before.whole };
        after =
            ⊎_elim
            (λ w. inl (w.0, λ e. w.1 (record { rest = e.rest; whole = saves_shut b f p (take k ps ++ e.rest) e.whole })))
            (λ w. inr (w.0, λ s. w.1 (saves_shut b f p ps s)))
            d.after;
      }

  -- what a file gives is so
  told : (f : Form A) → Live f → (ps : List (List ℕ)) → Told f ps (judged f ps)
  unfolding judged taken texts Live
  told (done a) l [] = ([], refl, refl)
  told (done a) l (p ∷ ps) =
      record {
        before = begins_none (done a) l;
        after = inl (omega arith, λ b. cons-ne-nil p b.rest (sym b.whole.lines));
      }
  told (line key test next) l [] =
      record {
        before = begins_none (line key test next) l;
        after = inr (refl, λ s. empty s.numbers s.value s.good s.lines);
      }
    where
      empty : (xs : List (List ℕ)) (a : A) → taken (line key test next) xs ≡ some a → texts (line key test next) xs ≡ [] → ⊥
      empty [] a g e = none-ne-some a g
      empty (x ∷ xs) a g e = cons-ne-nil (line_text key x) (texts (next x) xs) e
  told (may_end a f) l [] = ([], refl, texts_none f)
  told (may_end a f) l (p ∷ ps) = told_on a f p ps (judged f (p ∷ ps)) (told f l (p ∷ ps))
  told (line key test next) l (p ∷ ps) = go (read_line key p) refl (λ x t. told (next x) (l.onwards x t) ps)
    where
      go :
          (o : Option (List ℕ)) → read_line key p ≡ o → ((x : List ℕ) → test x ≡ true → Told (next x) ps (judged (next x) ps))
          → Told (line key test next) (p ∷ ps) (on_line o test (λ (x : List ℕ). judged (next x) ps))
      go none e rest =
          bad_first key test next l p ps
          (λ x t q. none-ne-some x (sym e ∙ ap (read_line key) (sym q) ∙ read_good key test l.some_number x t))
      go (some x) e rest =
          by_cases (test x)
          (λ t. rw t (good_first key test next l p ps x e t (judged (next x) ps) (rest x t)))
          (λ f.
          rw f
          (bad_first key test next l p ps
          (λ y t q. true_false (subst (λ (z : List ℕ). test z ≡ true) (same_numbers key test next l p ps x e y t q) t) f)))

  -- fewer lines begin it too
  begins_less : (f : Form A) (ps : List (List ℕ)) (j k : ℕ) → j ≤ k → Begins f (take k ps) → Begins f (take j ps)
  begins_less f ps j k h b =
      let e : take k ps ++ b.rest ≡ take j ps ++ (drop j (take k ps) ++ b.rest) =
      ap (λ (l : List (List ℕ)). l ++ b.rest) (sym (take-append-drop j (take k ps)) ∙ ap (λ (l : List (List ℕ)). l ++ drop j (take k ps)) (take-take j k ps h))
      ∙ append_assoc (take j ps) (drop j (take k ps)) b.rest in
      record { rest = drop j (take k ps) ++ b.rest; whole = subst (Saves f) e b.whole }

  begins_saved : (f : Form A) (ps : List (List ℕ)) (j : ℕ) → Saves f ps → Begins f (take j ps)
  begins_saved f ps j s = record { rest = drop j ps; whole = subst (Saves f) (sym (take-append-drop j ps)) s }

  -- no two lines are the first bad line, and what is saved has none
  not_later : (f : Form A) (ps : List (List ℕ)) (j k : ℕ) → j < k → FirstBad f ps j → FirstBad f ps k → ⊥
  not_later f ps j k h a b =
      ⊎_elim (λ w. w.1 (begins_less f ps (suc j) k h b.before))
      (λ w. ⊎_elim (λ v. omega (arith, v.0, w.0)) (λ v. omega (arith, v.0, w.0)) b.after)
      a.after

  one_first : (f : Form A) (ps : List (List ℕ)) (j k : ℕ) → FirstBad f ps j → FirstBad f ps k → j ≡ k
  one_first f ps j k a b =
      by_cases (ltb j k) (λ t. absurd (not_later f ps j k (ltb-true j k t) a b))
      (λ t.
      by_cases (ltb k j) (λ u. absurd (not_later f ps k j (ltb-true k j u) b a))
      (λ u. omega (arith, ltb-false j k t, ltb-false k j u)))

  saved_not_bad : (f : Form A) (ps : List (List ℕ)) (k : ℕ) → Saves f ps → FirstBad f ps k → ⊥
  saved_not_bad f ps k s b = ⊎_elim (λ w. w.1 (begins_saved f ps (suc k) s)) (λ w. w.1 s) b.after

  -- one more good line
  pub taken_first : (key : List ℕ) (test : List ℕ → Bool) (next : List ℕ → Form A) (x : List ℕ) (xs : List (List ℕ)) (a : A)
      → taken (line key test next) (x ∷ xs) ≡ some a → (test x ≡ true) × (taken (next x) xs ≡ some a)
  unfolding taken
  taken_first key test next x xs a g =
      by_cases (test x) (λ t. (t, yes (taken (next x) xs) none t ∙ g))
      (λ f. absurd (none-ne-some a (no (taken (next x) xs) none f ∙ g)))

  -- what is saved is loaded
  saved_loaded : (f : Form A) → Live f → (xs : List (List ℕ)) (a : A) → taken f xs ≡ some a → judged f (texts f xs) ≡ loaded a
  unfolding judged texts Live taken
  saved_loaded (done b) l [] a g = ap loaded (some-injective b a g)
  saved_loaded (done b) l (x ∷ xs) a g = absurd (none-ne-some a g)
  saved_loaded (line key test next) l [] a g = absurd (none-ne-some a g)
  saved_loaded (line key test next) l (x ∷ xs) a g =
      let w = taken_first key test next x xs a g in
      let r = saved_loaded (next x) (l.onwards x w.0) xs a w.1 in
      rw (read_good key test l.some_number x w.0, w.0, r)
  saved_loaded (may_end b f) l [] a g = ap (judged (may_end b f)) (texts_none f) ∙ ap loaded (some-injective b a g)
  saved_loaded (may_end b f) l (x ∷ xs) a g = go (texts f (x ∷ xs)) (texts_some f x xs a g) (saved_loaded f l (x ∷ xs) a g)
    where
      go : (ps : List (List ℕ)) → (ps ≡ [] → ⊥) → judged f ps ≡ loaded a → judged (may_end b f) ps ≡ loaded a
      go [] n e = absurd (n refl)
      go (p ∷ ps) n e = e

  -- the lines of a saved text
  pub saved_lines : (f : Form A) → Live f → (xs : List (List ℕ)) (a : A) → taken f xs ≡ some a → lines_in (joined (texts f xs)) ≡ texts f xs
  unfolding texts Live joined lines_in taken
  saved_lines (done b) l [] a g = refl
  saved_lines (done b) l (x ∷ xs) a g = refl
  saved_lines (line key test next) l [] a g = refl
  saved_lines (line key test next) l (x ∷ xs) a g =
      let w = taken_first key test next x xs a g in
      let r = saved_lines (next x) (l.onwards x w.0) xs a w.1 in
      lines_line key x (joined (texts (next x) xs)) l.keyed
      ∙ ap (λ (q : List (List ℕ)). line_text key x ∷ q) r
  saved_lines (may_end b f) l [] a g = ap (λ (q : List (List ℕ)). lines_in (joined q)) (texts_none f) ∙ sym (texts_none f)
  saved_lines (may_end b f) l (x ∷ xs) a g = saved_lines f l (x ∷ xs) a g

  -- the claim
  pub loads_right : (f : Form A) → Live f → LoadsRight f
  unfolding load
  loads_right f l =
      record {
        value = λ text a. (
          λ e.
              let d : Told f (lines_in text) (loaded a) = subst (Told f (lines_in text)) e (told f l (lines_in text)) in
              record { numbers = d.0; good = d.1; bytes = sym (ap joined d.2 ∙ joined_lines text) },
          λ s.
              ap (λ (t : List ℕ). judged f (lines_in t)) s.bytes
              ∙ ap (judged f) (saved_lines f l s.numbers a s.good)
              ∙ saved_loaded f l s.numbers a s.good,
        );
        refused = λ text k. (
          λ e. subst (Told f (lines_in text)) e (told f l (lines_in text)),
          λ b. first_bad_lem (lines_in text) k b (judged f (lines_in text)) (told f l (lines_in text)),
        );
        counted = λ text e. subst (Told f (lines_in text)) e (told f l (lines_in text));
      }
    where
      first_bad_lem : (ps : List (List ℕ)) (k : ℕ) → FirstBad f ps k → (r : Loaded A) → Told f ps r → r ≡ bad (suc k)
      first_bad_lem ps k b (loaded a) d = absurd (saved_not_bad f ps k (record { numbers = d.0; value = a; good = d.1; lines = d.2 }) b)
      first_bad_lem ps k b (bad zero) d = absurd d
      first_bad_lem ps k b (bad (suc j)) d = ap (λ (n : ℕ). bad (suc n)) (one_first f ps j k d b)
