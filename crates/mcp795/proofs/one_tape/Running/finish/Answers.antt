-- By the promise of the tape's `finish`.
use Rattle.std.proofs.Common.{refl}
use Rattle.mcp795.specs.Running.{lent}
use Rattle.mcp795.proofs.ReadingLaws.{taken_over, ends_on, fed_on}
use Rattle.mcp795.proofs.one_tape.Running.finish.Goals as goal

pub invariant_of-self : goal.invariant_of-self
invariant_of-self c =
    let e = taken_over c.finish-last.result _ _ _ _ _ _ (refl, refl) c.finish-last.ensures in
    record { fed = fed_on (lent c.args.self.now) _ c.args.self.now.fed (ends_on (lent c.args.self.now) _ c.args.out.now _ _ e) }
