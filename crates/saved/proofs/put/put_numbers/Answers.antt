-- `saved::put::put_numbers`: of the text of all numbers, those after the first j are to come (`Part`).
-- Assumes nothing.
use native.Mathlib.Omega.{arith}
use mathlib.Core.Path.{refl, sym, ap, ◌∙◌}
use mathlib.Core.List.{[], ◌∷◌, ◌++◌}
use Prim.Native.Nat.{ℕ, ◌+◌, ◌-◌}
use lib.ListN.{take, drop, get_or}
use Rattle.text.specs.Buffer.{buffer}
use Rattle.text.specs.Decimal.{decimal_text}
use Rattle.text.proofs.BufferLaws.{put_then, room_then, room_before}
use Rattle.saved.specs.Reading.{mark_after, run_text}
use Rattle.saved.proofs.PutLaws.{part_none, part_more, part_room, part_all, run_next, run_end}
use Rattle.saved.proofs.put.put_numbers.Goals as goal

pub loop-j-init : goal.loop-j-init
loop-j-init c =
    let a = c.args in
    let h = c.requires in
    let o = buffer a.into.now a.at in
    let ns = a.numbers.now in
    let y = take a.width (drop a.from ns) in
    (refl, part_none o (run_text y))

pub put_decimal-digits-requires : goal.put_decimal-digits-requires
put_decimal-digits-requires c =
    let a = c.args in
    let h = c.requires in
    let o = buffer a.into.now a.at in
    let ns = a.numbers.now in
    let y = take a.width (drop a.from ns) in
    let l = c.loop-j in
    let n = run_next ns a.from a.width l.j h.width_in_bounds c.loop-j-test.true in
    let d = decimal_text (get_or ns (a.from + l.j) 0) in
    let m = mark_after (a.width - (l.j + 1)) ∷ [] in
    let rest = run_text (drop (l.j + 1) y) in
    let b = buffer l.into l.end in
    room_before l.end d m (part_room o (run_text y) (run_text (drop l.j y)) (d ++ m) rest b l.invariant.1 n h.numbers_in_bounds)

pub put_one-end-requires : goal.put_one-end-requires
put_one-end-requires c =
    let a = c.args in
    let h = c.requires in
    let o = buffer a.into.now a.at in
    let ns = a.numbers.now in
    let y = take a.width (drop a.from ns) in
    let l = c.loop-j in
    let n = run_next ns a.from a.width l.j h.width_in_bounds c.loop-j-test.true in
    let d = decimal_text (get_or ns (a.from + l.j) 0) in
    let m = mark_after (a.width - (l.j + 1)) ∷ [] in
    let rest = run_text (drop (l.j + 1) y) in
    let b = buffer l.into l.end in
    room_then b d m c.put_decimal-digits.ensures
    (part_room o (run_text y) (run_text (drop l.j y)) (d ++ m) rest b l.invariant.1 n h.numbers_in_bounds)

pub loop-j-preserved : goal.loop-j-preserved
loop-j-preserved c =
    let a = c.args in
    let h = c.requires in
    let o = buffer a.into.now a.at in
    let ns = a.numbers.now in
    let y = take a.width (drop a.from ns) in
    let l = c.loop-j in
    let n = run_next ns a.from a.width l.j h.width_in_bounds
    c.loop-j-test.true in
    let d = decimal_text (get_or ns (a.from + l.j) 0) in
    let m = mark_after (a.width - (l.j + 1)) ∷ [] in
    let rest = run_text (drop (l.j + 1) y) in
    let b = buffer l.into l.end in
    let k = c.mark_after-mark in
    let q = k.result ∷ [] in
    (c.put_one-end.auto.into ∙ c.put_decimal-digits.auto.into ∙ l.invariant.0, part_more o (run_text y) (run_text (drop l.j y)) (d ++ q) rest b _ l.invariant.1 (n ∙ ap (λ (v : ℕ). (d ++ (v ∷ [])) ++ rest) (sym k.ensures)) (put_then b d q c.put_decimal-digits.ensures c.put_one-end.ensures))

pub returns : goal.returns
returns c =
    let a = c.args in
    let h = c.requires in
    let o = buffer a.into.now a.at in
    let ns = a.numbers.now in
    let y = take a.width (drop a.from ns) in
    let l = c.loop-j in
    part_all o (run_text y) (run_text (drop l.j y)) (buffer l.into l.end) l.invariant.1
    (run_end ns a.from a.width l.j h.width_in_bounds (omega arith))
