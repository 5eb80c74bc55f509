-- By the promise of the tape's `feed`, whose output has room for all answers.
use Rattle.std.proofs.Common.{refl}
use Rattle.mcp795.specs.Running.{lent}
use Rattle.mcp795.proofs.ReadingLaws.{taken_over, all_fed, all_on, fed_on}
use Rattle.mcp795.proofs.one_tape.Running.answer.Goals as goal

pub invariant_of-self : goal.invariant_of-self
invariant_of-self c =
    let e = taken_over c.feed-fed.result _ _ _ _ _ _ (refl, refl) c.feed-fed.ensures in
    record {
      fed =
          fed_on (lent c.args.self.now) _ c.args.self.now.fed
          (all_on _ _ _ _ _ (all_fed (lent c.args.self.now) _ c.args.chunk.now c.args.out.now _ _ c.requires.chunk_in_bounds e));
    }

pub returns : goal.returns
returns c =
    all_fed _ _ _ c.args.out.now _ _ c.requires.chunk_in_bounds
    (taken_over c.feed-fed.result _ _ _ _ _ _ (refl, refl) c.feed-fed.ensures)
