-- What was read has been fed behind what was fed before.
use Rattle.mcp795.specs.Running.{lent}
use Rattle.mcp795.specs.Reading.{FedOn}
use Rattle.mcp795.proofs.one_tape.Running.read_all.Given as goal

abbrev pub invariant-loop : goal.invariant-loop
invariant-loop l = FedOn (lent l.fn.self) (lent l.self)
