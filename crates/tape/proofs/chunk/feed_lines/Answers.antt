-- `tape::chunk::feed_lines`: so far the bytes before what is left are fed and their answers are in the buffer.
-- Assumes nothing.
use native.Mathlib.Omega.{arith}
use mathlib.Core.Path.{◌≡◌, sym, ap, ◌∙◌}
use mathlib.Core.List.{◌++◌}
use Prim.Native.Nat.{ℕ, ◌+◌}
use lib.Dec.{eqb}
use lib.ListN.{take}
use Rattle.std.proofs.Common.{rules, tests}
use Rattle.std.specs.List.{position}
use Rattle.std.proofs.lemmas.Iterator.{YieldsList-from_slice}
use Rattle.std.proofs.lemmas.Iterator.Search.{position_from_yields_List}
use Rattle.base.specs.Words.{over}
use Rattle.text.specs.Bytes.{newline}
use Rattle.text.specs.Buffer.{buffer}
use Rattle.answers.specs.Answer.{line_answer, held_by, setup_in}
use Rattle.answers.proofs.AnswerLaws.{shown_held, shown_written}
use Rattle.answers.proofs.HeldLaws.{onward_line}
use Rattle.tape.specs.declared.Feed.{Feed}
use Rattle.tape.specs.Tape.{head, state, tape_of, loan, given_by}
use Rattle.tape.proofs.TapeLaws.{turn_ends, turn_stops, turn_line, newline_at, newline_none, lent_after, given}
use Rattle.tape.proofs.TurnLaws.{short, behind, behind_within}
use Rattle.tape.proofs.chunk.feed_lines.Goals as goal

pub returns-then-room-lt-ANSWER_ROOM : goal.returns-then-room-lt-ANSWER_ROOM
returns-then-room-lt-ANSWER_ROOM c =
    let l = c.loop-n in
    let a = c.args in
    let n = c.in-Some.n in
    let found : c.position.result ≡ position (λ (b : ℕ). eqb b newline) l.rest.now =
    position_from_yields_List (λ (b : ℕ). eqb b newline) _ _ c.position.result c.position.ensures.ran (YieldsList-from_slice l.rest.now cc) (λ x b q k. search (rules, tests)) in
    let q = newline_at l.rest.now n (sym c.in-Some.is ∙ found) in
    let l₀ = loan (tape_of a.before a.head) a.line.now a.eeprom.now a.id.now in
    let h = held_by l.p l.eeprom l.id in
    let k = c.add_to_head-more in
    let kept = head (take l.begun l.line ++ take n l.rest.now) in
    ap (λ (f : Feed). given_by f k.new.line l.eeprom l.id l.into) c.feed_of.ensures
    ∙ given l₀ _ (state (setup_in h) kept) (buffer l.into l.p.at) _ _
    (lent_after l₀ h kept k.new.line k.result l.invariant.1 k.ensures.0 (k.ensures.1 ∙ ap (over kept) l.invariant.0.line))
    (turn_stops _ _ _ l.rest.now l.invariant.0.rest _ _ _ (short l.line l.begun l.invariant.0.head) l.invariant.2 n q.0 q.1 (omega arith))

pub loop-n-preserved : goal.loop-n-preserved
loop-n-preserved c =
    let l = c.loop-n in
    let a = c.args in
    let i = l.invariant.0 in
    let n = c.in-Some.n in
    let found : c.position.result ≡ position (λ (b : ℕ). eqb b newline) l.rest.now =
    position_from_yields_List (λ (b : ℕ). eqb b newline) _ _ c.position.result c.position.ensures.ran (YieldsList-from_slice l.rest.now cc) (λ x b q k. search (rules, tests)) in
    let q = newline_at l.rest.now n (sym c.in-Some.is ∙ found) in
    let f = c.end_line-p in
    let h₀ = held_by a.before a.eeprom.now a.id.now in
    let h = held_by l.p l.eeprom l.id in
    let o = buffer l.into l.p.at in
    let whole = head (take l.begun l.line ++ take n l.rest.now) in
    let z = line_answer whole (setup_in h) in
    let w = onward_line h₀ h (held_by f.result f.new.eeprom f.new.id) whole l.invariant.1 (shown_held h o z f.ensures) in (
      record {
        line = i.line;
        eeprom = f.array_long;
        id = f.array_long2;
        into = f.auto.into ∙ i.into;
        head = omega arith;
        rest = behind_within l.rest.now _ (n + 1) _ (behind l.rest.now (n + 1)) i.rest;
      },
      w.0,
      turn_line _ _ _ l.rest.now i.rest _ _ _ (short l.line l.begun i.head) l.invariant.2 n q.0 q.1 (omega arith) _ (buffer f.new.into f.result.at) w.1
          (shown_written h o z f.ensures) _ (behind l.rest.now (n + 1)),
    )

pub returns : goal.returns
returns c =
    let l = c.loop-n in
    let a = c.args in
    let found : c.position.result ≡ position (λ (b : ℕ). eqb b newline) l.rest.now =
    position_from_yields_List (λ (b : ℕ). eqb b newline) _ _ c.position.result c.position.ensures.ran (YieldsList-from_slice l.rest.now cc) (λ x b q k. search (rules, tests)) in
    let l₀ = loan (tape_of a.before a.head) a.line.now a.eeprom.now a.id.now in
    let h = held_by l.p l.eeprom l.id in
    let k = c.add_to_head-more-2 in
    let kept = head (take l.begun l.line ++ l.rest.now) in
    ap (λ (f : Feed). given_by f k.new.line l.eeprom l.id l.into) c.feed_of-2.ensures
    ∙ given l₀ _ (state (setup_in h) kept) (buffer l.into l.p.at) _ _
    (lent_after l₀ h kept k.new.line k.result l.invariant.1 k.ensures.0 (k.ensures.1 ∙ ap (over kept) l.invariant.0.line))
    (turn_ends _ _ _ l.rest.now l.invariant.0.rest _ _ _ (short l.line l.begun l.invariant.0.head) l.invariant.2
    (newline_none l.rest.now (sym c.in_default.is ∙ found)))
