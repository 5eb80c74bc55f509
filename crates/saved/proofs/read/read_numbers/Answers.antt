-- `saved::read::read_numbers`: after j numbers what is left gives what the whole gives (`Went`).
-- Assumes nothing.
use native.Mathlib.Omega.{arith}
use mathlib.Core.Path.{sym, ap, subst, ◌∙◌}
use mathlib.Core.List.{[], ◌∷◌}
use Rattle.saved.specs.Reading.{past_word, settled}
use Prim.Native.Nat.{ℕ, ◌+◌, ◌≤◌}
use lib.ListN.{take}
use Rattle.numbers.specs.Tables.{row_place, row_of, number_limit}
use Rattle.saved.specs.Place.{reading_at, reading_of}
use Rattle.saved.proofs.LoopLaws.{went_more, went_all, went_lines, number_bad, mark_bad, handed, line_went, held_long, good_alike}
use Rattle.saved.proofs.read.read_numbers.Goals as goal

pub loop-j-init : goal.loop-j-init
loop-j-init c =
    let a = c.args in
    let h = c.requires in
    line_went (row_of a.row) a.numbers.now a.count a.first a.width (reading_at a.text.now a.p) h.holds

pub returns-in_err-found : goal.returns-in_err-found
returns-in_err-found c =
    let l = c.loop-j in
    let a = c.args in
    let h = c.requires in
    let e = c.in_err-found.ensures in
    let n = held_long a.numbers.now a.count h.holds (omega (arith, h.width_bound)) in
    let r = number_bad (row_of a.row) (take a.count a.numbers.now) a.first a.width (reading_at a.text.now a.p) l.j (reading_at a.text.now l.place) l.good l.numbers _ _
    l.invariant c.loop-j-test.true (subst (λ (k : ℕ). k + a.width ≤ number_limit) (sym n) h.width_bound) e.0 e.1 in
    record { numbers_after = r.0; result_value = ap (reading_of a.text.now) (handed _ _ c.from_residual.ensures.1) ∙ r.1 }

pub loop-j-preserved : goal.loop-j-preserved
loop-j-preserved c =
    let l = c.loop-j in
    let a = c.args in
    let h = c.requires in
    let x = a.text.now in
    let f = c.in_ok-found.ensures in
    let n = held_long a.numbers.now a.count h.holds (omega (arith, h.width_bound)) in
    went_more (row_of a.row) (take a.count a.numbers.now) a.first a.width (reading_at x a.p) a.count n l.j (reading_at x l.place) l.good l.numbers _ _ _ c.good-passes.result c.loop-j-test.true h.width_bound l.invariant f.0 f.1 (c.in_ok-place.ensures ∙ ap (λ (k : ℕ). past_word (k ∷ []) (reading_at x c.in_ok-found.found.place)) c.mark_after-mark.ensures) c.good-passes.ensures (λ y z e. good_alike (row_place a.row) y z e (a.first + l.j) _)

pub returns-in_err-place : goal.returns-in_err-place
returns-in_err-place c =
    let l = c.loop-j in
    let a = c.args in
    let h = c.requires in
    let x = a.text.now in
    let f = c.in_ok-found.ensures in
    let n = held_long a.numbers.now a.count h.holds (omega (arith, h.width_bound)) in
    let g = went_more (row_of a.row) (take a.count a.numbers.now) a.first a.width (reading_at x a.p) a.count n l.j (reading_at x l.place) l.good l.numbers _ _ _ c.good-passes.result c.loop-j-test.true h.width_bound l.invariant f.0 f.1 (c.in_err-place.ensures ∙ ap (λ (k : ℕ). past_word (k ∷ []) (reading_at x c.in_ok-found.found.place)) c.mark_after-mark.ensures) c.good-passes.ensures (λ y z e. good_alike (row_place a.row) y z e (a.first + l.j) _) in
    let r = mark_bad (row_of a.row) (take a.count a.numbers.now) a.first a.width (reading_at x a.p) l.j _ _ _ _ g c.loop-j-test.true
    (subst (λ (k : ℕ). k + a.width ≤ number_limit) (sym n) h.width_bound) in
    record { numbers_after = r.0; result_value = ap (reading_of x) (handed _ _ c.from_residual-in_err-place.ensures.1) ∙ r.1 }

pub settle-requires : goal.settle-requires
settle-requires c =
    let l = c.loop-j in
    let a = c.args in
    let e = went_lines (row_of a.row) (take a.count a.numbers.now) a.first a.width (reading_at a.text.now a.p) l.j (reading_at a.text.now l.place) l.good l.numbers l.invariant in
    omega (arith, e, c.requires.lines_bound)

pub returns : goal.returns
returns c =
    let l = c.loop-j in
    let a = c.args in
    let r = went_all (row_of a.row) (take a.count a.numbers.now) a.first a.width (reading_at a.text.now a.p)
    (reading_at a.text.now l.place) l.good l.numbers l.j (omega arith) l.invariant in
    record {
      numbers_after = r.0;
      result_value = c.settle.ensures a.text.now ∙ (λ q. settled (r.2 q) (r.1 q));
    }
