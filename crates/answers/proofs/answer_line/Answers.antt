-- `answers::answer_line`: a bad line shows the column of its fault.
-- Assumes nothing.
use mathlib.Core.Path.{ap, ◌∙◌}
use Rattle.std.specs.Prelude.{Some, Result}
use Rattle.text.specs.Buffer.{buffer}
use Rattle.lines.specs.declared.Fault.{Fault}
use Rattle.lines.specs.declared.Request.{Request}
use Rattle.answers.specs.Answer.{answer, request_answer, line_answer, held_by, setup_in, shown_in}
use Rattle.answers.proofs.AnswerLaws.{refused_shown}
use Rattle.answers.proofs.answer_line.Goals as goal

pub returns-in-Err : goal.returns-in-Err
unfolding line_answer
returns-in-Err c =
    let a = c.args in
    let h = held_by a.p a.eeprom.now a.id.now in
    let o = buffer a.into.now a.p.at in
    c.told.ensures a.eeprom.now a.id.now ∙ refused_shown h o _ (Some _)
    ∙ (λ i. shown_in h o (answer (c.number.ensures i) (Some (c.column.ensures i)) (setup_in h)))
    ∙ ap (λ (r : Result Request Fault). shown_in h o (request_answer r (setup_in h))) c.in-Err.ensures
