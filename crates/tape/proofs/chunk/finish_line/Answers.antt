-- `tape::chunk::finish_line`: no line has begun, and the last line.
-- Assumes nothing.
use native.Mathlib.Omega.{arith}
use mathlib.Core.Path.{◌≡◌, refl, sym, ap, ◌∙◌}
use mathlib.Core.List.{List, []}
use Prim.Native.Nat.{ℕ}
use lib.ListN.{length, take}
use lib.Seq.{length-take-le}
use Rattle.text.specs.Buffer.{buffer}
use Rattle.answers.specs.Answer.{held_by, setup_in, line_answer, shown_in}
use Rattle.answers.proofs.AnswerLaws.{shown_held, shown_written}
use Rattle.answers.proofs.HeldLaws.{onward_start, onward_line}
use Rattle.tape.specs.declared.Feed.{Feed}
use Rattle.tape.specs.Tape.{state, tape_of, loan, held_in, state_in, given_by}
use Rattle.tape.proofs.TapeLaws.{TapeFacts, tape_sound, lent_after, lent_same, given, finish_none, finish_some}
use Rattle.tape.proofs.chunk.finish_line.Goals as goal

pub returns-then-begun-eq0 : goal.returns-then-begun-eq0
returns-then-begun-eq0 c =
    let a = c.args in
    let l = loan (tape_of a.p a.begun) a.line.now a.eeprom.now a.id.now in
    let f : TapeFacts l = record { begun = c.requires.head_in_bounds; line = c.told-line; eeprom = c.told-eeprom; id = c.told-id; goes = a.p.goes } in
    let o = buffer a.into.now a.p.at in
    ap (λ (x : Feed). given_by x a.line.now a.eeprom.now a.id.now a.into.now) c.feed_of.ensures
    ∙ ap (λ (n : ℕ). given_by (record { tape = tape_of a.p n; taken = 0; at = a.p.at }) a.line.now a.eeprom.now a.id.now a.into.now) (sym c.if-begun-eq0.true)
    ∙ given l l (state_in l) o 0 _ (lent_same l f) (finish_none (state_in l) o (ap (λ (n : ℕ). length (take n a.line.now)) c.if-begun-eq0.true))

pub returns : goal.returns
returns c =
    let a = c.args in
    let q = c.answer_line-ended in
    let l = loan (tape_of a.p a.begun) a.line.now a.eeprom.now a.id.now in
    let f : TapeFacts l = record { begun = c.requires.head_in_bounds; line = c.told-line; eeprom = c.told-eeprom; id = c.told-id; goes = a.p.goes } in
    let o = buffer a.into.now a.p.at in
    let h = held_by q.result q.new.eeprom q.new.id in
    let o' = buffer q.new.into q.result.at in
    let z = line_answer (state_in l).begun (state_in l).setup in
    let e = q.ensures ∙ ap (λ (y : List ℕ). shown_in (held_in l) o (line_answer y (setup_in (held_in l)))) c.first.ensures in
    let w = onward_line (held_in l) (held_in l) h (state_in l).begun (onward_start (held_in l) (tape_sound l f)) (shown_held (held_in l) o z e) in
    let k : length (state_in l).begun ≡ a.begun = length-take-le a.begun a.line.now (omega (arith, f.begun, f.line)) in
    let n : a.begun ≡ 0 → ⊥ = c.if-begun-eq0.false in
    ap (λ (x : Feed). given_by x a.line.now q.new.eeprom q.new.id q.new.into) c.feed_of-2.ensures
    ∙ given l _ (state (setup_in h) []) o' 0 _ (lent_after l h [] a.line.now 0 w.0 refl refl)
    (finish_some (state_in l) o o' (setup_in h) (omega arith) w.1 (shown_written (held_in l) o z e))
