-- A failure feeds nothing; else what came has been fed.
use Rattle.std.proofs.lemmas.Result.{err_from_is_err_and}
use Rattle.mcp795.proofs.ReadingLaws.{none_read}
use Rattle.mcp795.proofs.one_tape.Running.read_once.Goals as goal

pub returns-in_err-n : goal.returns-in_err-n
returns-in_err-n c =
    let p = err_from_is_err_and c.from_residual.result c.from_residual.ensures.1 in rw p.1 (none_read _ _ _)
