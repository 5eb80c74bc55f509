-- `saved::put::put_rows`: of the whole text, the rows after the first i are to come (`Left`).
-- Assumes nothing.
use native.Mathlib.Omega.{arith}
use mathlib.Core.Path.{refl, sym, ap, subst, ◌∙◌}
use mathlib.Core.List.{[], ◌∷◌}
use Prim.Native.Nat.{ℕ, ◌+◌, ◌*◌, ◌≤◌, ◌<◌}
use native.Mathlib.Nat.{zero-add}
use lib.ListN.{length, take}
use Rattle.text.specs.Buffer.{buffer, append}
use Rattle.form.specs.Table.{Row, part_in, row_text}
use Rattle.form.specs.Chip.{form_text}
use Rattle.form.proofs.FactLaws.{good_facts}
use Rattle.numbers.proofs.TableLaws.{row_here}
use Rattle.saved.proofs.PutLaws.{left_none, left_more, left_all, row_there, row_room, lines_of, place_past, row_put}
use Rattle.saved.proofs.LoopLaws.{lines_most, width_most}
use Rattle.saved.proofs.put.put_rows.Goals as goal

pub bounds-numbers-0 : goal.bounds-numbers-0
bounds-numbers-0 c =
    let a = c.args in
    let h = c.requires in
    let ns = a.numbers.now in
    let z = (good_facts ns h.chip).chip.first.reach in
    omega (arith, z)

pub loop-row-init : goal.loop-row-init
loop-row-init c =
    let a = c.args in
    let h = c.requires in
    let ns = a.numbers.now in
    let o = buffer a.into.now 0 in
    (refl, omega arith, left_none o ns h.chip)

pub put_row-end-requires : goal.put_row-end-requires
put_row-end-requires c =
    let a = c.args in
    let h = c.requires in
    let ns = a.numbers.now in
    let o = buffer a.into.now 0 in
    let l = c.loop-row in
    let t = c.loop-row-test.true in
    let v = l.invariant in
    let b = buffer l.into l.end in
    let m = c.lines-lines in
    let e = row_here _ l.row-index t in
    let n = lines_of ns l.row-index l.place m.result t v.1 (m.ensures ∙ ap (λ (r : Row). r.lines (part_in ns ∷ [])) e) in
    record {
      lines_bound = subst (λ (z : ℕ). z ≤ 32) (sym n) (lines_most (take l.place ns) l.row-index t);
      row_in_bounds = subst (λ (r : Row). l.place + m.result * r.width ≤ length ns) (sym e) (row_there o ns l.row-index l.place m.result b t v.2 n);
      numbers_in_bounds = subst (λ (r : Row). l.end + length (row_text r m.result 0 l.place ns) ≤ length l.into) (sym e) (row_room o ns l.row-index l.place m.result b t v.2 n (subst (λ (z : ℕ). z ≤ length a.into.now) (sym (zero-add (length (form_text ns)))) h.numbers_in_bounds));
    }

pub overflow_mul-place : goal.overflow_mul-place
overflow_mul-place c =
    let ns = c.args.numbers.now in
    let l = c.loop-row in
    let t = c.loop-row-test.true in
    let e = row_here _ l.row-index t in
    let r = row_put _ ns l.row-index l.place _ _ _ t l.invariant.1 l.invariant.2 (c.lines-lines.ensures ∙ ap (λ (q : Row). q.lines (part_in ns ∷ [])) e) (c.width.ensures ∙ ap (λ (q : Row). q.width) e) in
    record { fits = omega (arith, r) }

pub overflow_add-place : goal.overflow_add-place
overflow_add-place c =
    let ns = c.args.numbers.now in
    let l = c.loop-row in
    let t = c.loop-row-test.true in
    let e = row_here _ l.row-index t in
    let r = row_put _ ns l.row-index l.place _ _ _ t l.invariant.1 l.invariant.2 (c.lines-lines.ensures ∙ ap (λ (q : Row). q.lines (part_in ns ∷ [])) e) (c.width.ensures ∙ ap (λ (q : Row). q.width) e) in
    record { fits = omega (arith, r) }

pub loop-row-preserved : goal.loop-row-preserved
loop-row-preserved c =
    let ns = c.args.numbers.now in
    let o = buffer c.args.into.now 0 in
    let l = c.loop-row in
    let i = l.row-index in
    let t = c.loop-row-test.true in
    let e = row_here _ i t in
    let v = l.invariant in
    let m = c.lines-lines in
    let w = c.width in
    let r = c.put_row-end in
    let em = m.ensures ∙ ap (λ (q : Row). q.lines (part_in ns ∷ [])) e in
    let ew = w.ensures ∙ ap (λ (q : Row). q.width) e in (
      r.auto.into ∙ v.0,
      place_past i l.place m.result w.result (part_in ns) t v.1 em (subst (λ (q : ℕ). 0 < q) (sym ew) (width_most i t).0),
      left_more o ns i l.place m.result (buffer l.into l.end) t v.2 (lines_of ns i l.place m.result t v.1 em) w.result _ ew
          (r.ensures ∙ ap (λ (q : Row). append (buffer l.into l.end) (row_text q m.result 0 l.place ns)) e),
    )

pub returns : goal.returns
returns c =
    let a = c.args in
    let h = c.requires in
    let ns = a.numbers.now in
    let o = buffer a.into.now 0 in
    let l = c.loop-row in
    left_all o ns l.row-index l.place (buffer l.into l.end) (omega arith) l.invariant.2
