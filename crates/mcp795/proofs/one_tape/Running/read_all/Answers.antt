-- What was read has been fed behind what was fed before, whatever came of it.
use Rattle.mcp795.specs.Running.{lent}
use Rattle.mcp795.proofs.ReadingLaws.{read_behind}
use Rattle.mcp795.proofs.one_tape.Running.read_all.Goals as goal

pub returns-in_err-write_answers-in-Ok-More : goal.returns-in_err-write_answers-in-Ok-More
returns-in_err-write_answers-in-Ok-More c =
    let f = c.read_once in
    read_behind _ (lent c.loop.self) _ c.loop.turn.out f.new.turn.out f.new.turn.input _ _ c.loop.invariant f.ensures

pub returns-in-Ok-Last : goal.returns-in-Ok-Last
returns-in-Ok-Last c =
    let f = c.read_once in
    read_behind _ (lent c.loop.self) _ c.loop.turn.out f.new.turn.out f.new.turn.input _ _ c.loop.invariant f.ensures

pub returns-in-Err : goal.returns-in-Err
returns-in-Err c =
    let f = c.read_once in
    read_behind _ (lent c.loop.self) _ c.loop.turn.out f.new.turn.out f.new.turn.input _ _ c.loop.invariant f.ensures

pub loop-preserved : goal.loop-preserved
loop-preserved c =
    let f = c.read_once in
    read_behind _ (lent c.loop.self) _ c.loop.turn.out f.new.turn.out f.new.turn.input _ _ c.loop.invariant f.ensures
