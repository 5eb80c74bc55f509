-- `tape::chunk::finish`: what is no tape by its last length, and an end.
-- Assumes nothing.
use mathlib.Core.Path.{◌≡◌, refl, sym, ap, ◌∙◌}
use mathlib.Core.Bool.{Bool, false, ◌&&◌}
use Prim.Native.Nat.{ℕ}
use lib.Dec.{leb}
use Rattle.base.proofs.Tests.{yes, no}
use Rattle.text.specs.Buffer.{Buffer, buffer, room_in}
use Rattle.lines.specs.Print.{answer_room}
use Rattle.tape.specs.Tape.{Loan, loan, state_in, finished, put_into, gives, unchanged, is_tape, finish_into}
use Rattle.tape.proofs.TapeLaws.{no_tape, tape_judged, loan_same}
use Rattle.tape.proofs.chunk.finish.Goals as goal

-- what is no tape has no end
unfinished : (l : Loan) (o : Buffer) → is_tape l ≡ false → unchanged l o ≡ finish_into l o
unfolding finish_into
unfinished l o f = no _ _ (ap (λ (t : Bool). t && leb answer_room (room_in o)) f)

pub returns-in_default-as_mut_array-2 : goal.returns-in_default-as_mut_array-2
returns-in_default-as_mut_array-2 c =
    let a = c.args in
    let o = buffer a.into.now a.at in
    ap (λ (x : Loan). unchanged x o) (loan_same a.tape c.in-Some.ensures.cases.same c.in-Some-as_mut_array.ensures.cases.same refl)
    ∙ unfinished _ o (no_tape _ (λ f. c.in_default-as_mut_array-2.ensures.cases f.id))

-- the code's test is the definition's
tested : (l : Loan) (o : Buffer) {t : Bool} {r : ℕ} → is_tape l ≡ t → r ≡ room_in o → (is_tape l && leb answer_room (room_in o)) ≡ (t && leb answer_room r)
tested l o e q = λ i. e i && leb answer_room (sym q i)

pub returns-then-tape-is_ready : goal.returns-then-tape-is_ready
unfolding finish_into
returns-then-tape-is_ready c =
    let a = c.args in
    let o = buffer a.into.now a.at in
    let l = loan a.tape a.line.now a.eeprom.now a.id.now in
    let line = c.in-Some.ensures.cases in
    let ee = c.in-Some-as_mut_array.ensures.cases in
    let id = c.in-Some-as_mut_array-2.ensures.cases in
    c.finish_line.ensures
    ∙ ap (λ (x : Loan). gives x (put_into o 0 (finished (state_in x)))) (loan_same a.tape line.same ee.same id.same)
    ∙ yes _ _ (tested l o (tape_judged l line.long ee.long id.long c.is_ready.ensures) c.room-has_room.ensures ∙ c.if-tape-is_ready.true)
