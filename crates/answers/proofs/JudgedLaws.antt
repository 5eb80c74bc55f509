-- Laws of how a line is judged: a number above 6 is that of the first row that holds, with its column; none holds exactly where the line is good; the five
-- together are the one number of before.
-- Assumes nothing.
use mathlib.Core.Path.{◌≡◌, refl, sym, ap, ◌∙◌, subst}
use mathlib.Core.Logic.{inl, inr, ⊎_elim}
use mathlib.Core.Bool.{true, false, true≢false}
use mathlib.Core.List.{List, [], ◌∷◌}
use Prim.Native.Nat.{ℕ, ◌<◌}
use native.Mathlib.Omega.{arith}
use borrow.Author.Tests.{lt-ltb, le-ltb}
use Rattle.std.specs.Prelude.{Result, Ok, Err}
use Rattle.base.proofs.Tests.{by_cases, yes, no, pick_case}
use Rattle.record.specs.declared.Act.{Act}
use Rattle.record.specs.Part.{is_part}
use Rattle.acts.specs.Act.{performed}
use Rattle.acts.proofs.OutcomeLaws.{never_seven}
use Rattle.text.specs.Decimal.{value_of}
use Rattle.lines.specs.declared.Name.TheVariants.{Part as PartName, Act as ActName}
use Rattle.lines.specs.declared.Fault.{Fault}
use Rattle.lines.specs.declared.Request.{Request}
use Rattle.lines.specs.declared.Request.TheVariants.{Part as PartLine, Act as ActLine}
use Rattle.lines.specs.Line.{name_of, name_text, digits_text}
use Rattle.lines.specs.Request.{asked_by, is_bad, fault_number, fault_column, Bad, bad_line, request_of}
use Rattle.lines.specs.Faults.{LineRow, line_rows, FirstRow, NoRow}
use Rattle.lines.specs.Read.{shown_or}
use Rattle.lines.proofs.LineLaws.{TwoDigits, fault_small, fault_exactly, no_fault, first_append, none_append, listed_asks, spelled_formed, asks_exactly, bad_as_before, good_request}
use Rattle.answers.specs.Answer.{Setup, no_part, LineAnswer, refused_line, faulty_line, misplaced, part_answer, act_answer, outcome_answer, request_answer, line_answer}
use Rattle.answers.specs.Judged.{PartRow, tape_rows, SevenRow, bad, early, again, request_before, answer_before, together, Judged, LinesJudged}

-- the numbers of a part's and an act's line, where the part is in its place
part_below : (arg : ℕ) (s : Setup) → no_part s ≡ true → (part_answer arg s).number < 7
part_below arg s t = rw t (pick_case (λ (a : LineAnswer). a.number < 7) (is_part arg) (omega arith) (omega arith))

act_below : (act : Act) (arg : ℕ) (s : Setup) → no_part s ≡ false → (act_answer act arg s).number < 7
act_below act arg s f = rw f (never_seven s.part act arg s.chip)

-- two bad answers that are one
same_number : {m n c d : ℕ} {s : Setup} → faulty_line m c s ≡ faulty_line n d s → m ≡ n
same_number e = ap (λ (a : LineAnswer). a.number) e

same_column : {m n c d : ℕ} {s : Setup} → faulty_line m c s ≡ faulty_line n d s → c ≡ d
same_column e = ap (λ (a : LineAnswer). shown_or 0 a.out) e

-- no request is two
not_both : {act : Act} {m n : ℕ} → ◌≡◌ {A = Result Request Fault} (Ok (PartLine m)) (Ok (ActLine act n)) → ⊥
not_both e = let z : ◌≡◌ {A = ℕ} 0 1 = cc in omega arith

-- and a request that is bad is not good
bad_is : (r : Result Request Fault) (number column : ℕ) → is_bad r ≡ false → Bad r number column → ⊥
bad_is (Ok request) number column g b = b
bad_is (Err fault) number column g b = true≢false g

module _ (line : List ℕ) (s : Setup) where
  -- the row of the part
  last : List LineRow
  last = record { number = 74; holds = PartRow line s } ∷ []

  answered : (r : Result Request Fault) → request_of line ≡ r → line_answer line s ≡ request_answer r s
  unfolding line_answer
  answered r e = ap (λ (x : Result Request Fault). request_answer x s) e

  before_good : (r : Result Request Fault) → request_of line ≡ r → is_bad r ≡ false → answer_before line s ≡ request_before r s
  unfolding answer_before
  before_good r e b =
      let f : bad_line line ≡ false = sym (bad_as_before line) ∙ ap is_bad e ∙ b in
      sym (no (refused_line 7 s) (request_before (asked_by (name_of (name_text line)) (value_of (digits_text line))) s) f)
      ∙ ap (λ (x : Result Request Fault). request_before x s) (sym (good_request line f) ∙ e)

  -- a bad request is answered with its number and column
  bad_answered : (r : Result Request Fault) (number column : ℕ) → request_of line ≡ r → Bad r number column → line_answer line s ≡ faulty_line number column s
  bad_answered (Ok request) number column e b = absurd b
  bad_answered (Err fault) number column e b = answered (Err fault) e ∙ (λ i. faulty_line (b.0 i) (b.1 i) s)

  not_bad : is_bad (request_of line) ≡ false → (number column : ℕ) → FirstRow (line_rows line) number column → ⊥
  not_bad g number column h = bad_is (request_of line) number column g ((fault_exactly line number column).1 h)

  -- a row that gives the answer gives one number and one column
  only_once :
      ((number column : ℕ) → FirstRow (tape_rows line s) number column → line_answer line s ≡ faulty_line number column s)
      → (m n c d : ℕ) → FirstRow (tape_rows line s) m c → FirstRow (tape_rows line s) n d → (m ≡ n) × (c ≡ d)
  only_once f m n c d a b =
      let e = sym (f m c a) ∙ f n d b in
      (same_number e, same_column e)

  -- a line that is bad by itself
  bad_judged : (fault : Fault) → request_of line ≡ Err fault → Judged line s
  unfolding answer_before last
  bad_judged fault e =
      let number = fault_number fault in
      let column = fault_column fault in
      let a = answered (Err fault) e in
      let large : 70 < number = (subst TwoDigits e (fault_small line)).0 in
      let first : FirstRow (line_rows line) number column =
      (fault_exactly line number column).0 (subst (λ (r : Result Request Fault). Bad r number column) (sym e) (refl, refl)) in
      let not_good : is_bad (request_of line) ≡ false → ⊥ = λ g. true≢false (sym (ap is_bad e) ∙ g) in
      let b : bad_line line ≡ true = sym (bad_as_before line) ∙ ap is_bad e in
      let rows : (m d : ℕ) → FirstRow (tape_rows line s) m d → (line_answer line s ≡ faulty_line m d s) × (6 < m) =
      λ m d h. ⊎_elim
      (λ f.
      let r : Bad (Err fault) m d = subst (λ (r : Result Request Fault). Bad r m d) e ((fault_exactly line m d).1 f) in
      (bad_answered (Err fault) m d e r, omega (arith, large, r.0)))
      (λ n. absurd (not_good ((no_fault line).1 n.0)))
      ((first_append (line_rows line) last m d).0 h) in
      record {
        some = inr (number, column, (first_append (line_rows line) last number column).1 (inl first));
        once = only_once (λ m d h. (rows m d h).0);
        fault = λ m d. (
          λ h.
              let q = sym a ∙ h.0 in
              (first_append (line_rows line) last m d).1
              (inl (subst (λ (k : ℕ). FirstRow (line_rows line) m k) (same_column q) (subst (λ (k : ℕ). FirstRow (line_rows line) k column) (same_number q) first))),
          rows m d,
        );
        good = (
          λ h. absurd (omega (arith, h, ap (λ (x : LineAnswer). x.number) a, large)),
          λ h. absurd (not_good ((no_fault line).1 ((none_append (line_rows line) last).0 h).0)),
        );
        seven = (λ h. bad b, λ q. omega (arith, ap (λ (x : LineAnswer). x.number) a, large));
        before =
            ap together a
            ∙ sym (yes (refused_line 7 s) (faulty_line number column s) (lt-ltb 6 number (omega (arith, large))))
            ∙ yes (refused_line 7 s) (request_before (asked_by (name_of (name_text line)) (value_of (digits_text line))) s) b;
      }

  -- a line that is good by itself, with its part out of its place
  misplaced_judged : is_bad (request_of line) ≡ false → line_answer line s ≡ misplaced s → PartRow line s 0 → SevenRow line s → answer_before line s ≡ refused_line 7 s → Judged line s
  unfolding FirstRow NoRow last
  misplaced_judged g a row seven b =
      let rows : (m d : ℕ) → FirstRow (tape_rows line s) m d → (line_answer line s ≡ faulty_line m d s) × (6 < m) =
      λ m d h. ⊎_elim (λ f. absurd (not_bad g m d f))
      (λ n. ⊎_elim (λ x. (a ∙ (λ i. faulty_line (sym x.1 i) (sym x.0.at i) s), omega (arith, x.1))) (λ x. absurd x.1) n.1)
      ((first_append (line_rows line) last m d).0 h) in
      record {
        some = inr (74, 0, (first_append (line_rows line) last 74 0).1 (inr ((no_fault line).0 g, inl (row, refl))));
        once = only_once (λ m d h. (rows m d h).0);
        fault = λ m d. (
          λ h.
              let q = sym a ∙ h.0 in
              (first_append (line_rows line) last m d).1
              (inr ((no_fault line).0 g, inl (subst (PartRow line s) (same_column q) row, sym (same_number q)))),
          rows m d,
        );
        good = (
          λ h. absurd (omega (arith, h, ap (λ (x : LineAnswer). x.number) a)),
          λ h. absurd (((none_append (line_rows line) last).0 h).1.0 0 row),
        );
        seven = (λ h. seven, λ q. omega (arith, ap (λ (x : LineAnswer). x.number) a));
        before = ap together a ∙ sym b;
      }

  -- and with its part in its place
  placed_judged :
      is_bad (request_of line) ≡ false → (line_answer line s).number < 7 → ((column : ℕ) → PartRow line s column → ⊥) → (SevenRow line s → ⊥)
      → line_answer line s ≡ answer_before line s → Judged line s
  unfolding FirstRow NoRow last
  placed_judged g below none never b =
      let clear : NoRow (tape_rows line s) = (none_append (line_rows line) last).1 ((no_fault line).0 g, (none, tt)) in
      let rows : (m d : ℕ) → FirstRow (tape_rows line s) m d → ⊥ =
      λ m d h. ⊎_elim (not_bad g m d)
      (λ n. ⊎_elim (λ x. none d x.0) (λ x. x.1) n.1)
      ((first_append (line_rows line) last m d).0 h) in
      record {
        some = inl clear;
        once = λ m n c d x y. absurd (rows m c x);
        fault = λ m d. (
          λ h. absurd (omega (arith, below, h.1, ap (λ (x : LineAnswer). x.number) h.0)),
          λ h. absurd (rows m d h),
        );
        good = (λ h. clear, λ h. below);
        seven = (λ h. absurd (omega (arith, below, h)), λ q. absurd (never q));
        before = sym (no (refused_line 7 (line_answer line s).after) (line_answer line s) (le-ltb 6 (line_answer line s).number (omega (arith, below)))) ∙ b;
      }

  part_judged : (arg : ℕ) → request_of line ≡ Ok (PartLine arg) → Judged line s
  part_judged arg e =
      let g : is_bad (request_of line) ≡ false = ap is_bad e in
      let a = answered (Ok (PartLine arg)) e in
      let b = before_good (Ok (PartLine arg)) e refl in
      let w = spelled_formed line PartName arg ((asks_exactly line PartName arg).0 e) in
      by_cases (no_part s)
      (λ t.
      placed_judged g (rw a (part_below arg s t))
      (λ column row. ⊎_elim (λ x. not_both (sym e ∙ listed_asks line row.form (ActName x.0) x.1.0 g)) (λ x. true≢false (sym t ∙ x.1)) row.wrong)
      (part_never t)
      (a ∙ sym (yes _ (misplaced s) t) ∙ yes _ (refused_line 7 s) t ∙ sym b))
      (λ f.
      misplaced_judged g (a ∙ sym (no _ (misplaced s) f)) (record { form = w.0; wrong = inr (w.1, f); at = refl }) (again arg e f)
      (b ∙ sym (no _ (refused_line 7 s) f)))
    where
      part_never : no_part s ≡ true → SevenRow line s → ⊥
      part_never t (bad b) = true≢false (sym b ∙ sym (bad_as_before line) ∙ ap is_bad e)
      part_never t (early act m q u) = not_both (sym e ∙ q)
      part_never t (again m q f) = true≢false (sym t ∙ f)

  act_judged : (act : Act) (arg : ℕ) → request_of line ≡ Ok (ActLine act arg) → Judged line s
  act_judged act arg e =
      let g : is_bad (request_of line) ≡ false = ap is_bad e in
      let a = answered (Ok (ActLine act arg)) e in
      let b = before_good (Ok (ActLine act arg)) e refl in
      let w = spelled_formed line (ActName act) arg ((asks_exactly line (ActName act) arg).0 e) in
      let o : LineAnswer = outcome_answer s.part act (performed s.part act arg s.chip) in
      by_cases (no_part s)
      (λ t.
      misplaced_judged g (a ∙ sym (yes (misplaced s) o t)) (record { form = w.0; wrong = inl (act, (w.1, t)); at = refl }) (early act arg e t)
      (b ∙ sym (yes (refused_line 7 s) o t)))
      (λ f.
      placed_judged g (rw a (act_below act arg s f))
      (λ column row. ⊎_elim (λ x. true≢false (sym x.1.1 ∙ f)) (λ x. not_both (sym (listed_asks line row.form PartName x.0 g) ∙ e)) row.wrong)
      (act_never f)
      (a ∙ sym (no (misplaced s) o f) ∙ no (refused_line 7 s) o f ∙ sym b))
    where
      act_never : no_part s ≡ false → SevenRow line s → ⊥
      act_never f (bad b) = true≢false (sym b ∙ sym (bad_as_before line) ∙ ap is_bad e)
      act_never f (early act m q t) = true≢false (sym t ∙ f)
      act_never f (again m q t) = not_both (sym q ∙ e)

  judged : (r : Result Request Fault) → request_of line ≡ r → Judged line s
  judged (Ok (PartLine arg)) e = part_judged arg e
  judged (Ok (ActLine act arg)) e = act_judged act arg e
  judged (Err fault) e = bad_judged fault e

-- T16, T17. so it is with every line
pub lines_judged : LinesJudged
unfolding LinesJudged
lines_judged line s = judged line s (request_of line) refl
