-- An end and, in its place, a whole exchange: the table passes both, and the end's reply is that of the exchange, broken off.
-- Assumes nothing.
use Prim.Native.Nat.{ℕ, ◌<◌}
use native.Mathlib.Omega.{arith}
use mathlib.Core.Path.{◌≡◌}
use borrow.Author.Tests.{le-ltb}
use Rattle.record.specs.declared.Act.TheVariants.{Byte, End}
use Rattle.record.specs.World.{World}
use Rattle.refusals.proofs.TableLaws as table
use Rattle.replies.specs.Reply.{next_reply, leftover_reply}
use Rattle.replies.specs.Leftover.{BrokenOff}
use Rattle.replies.proofs.ReplyLaws.{reply_or_none}
use Rattle.replies.proofs.LeftoverLaws.{broken_off}
use Rattle.acts.specs.Act.{accepted, refusal_in}
use Rattle.acts.proofs.ValidLaws.{Valid}

-- where an end is passed so is a byte,
pub byte_passes : (part k v : ℕ) (w : World) → v < 256 → refusal_in part End k w ≡ 0 → refusal_in part Byte v w ≡ 0
byte_passes part k v w h e =
    let a = table.accepted part End k w.device _ _ e in
    table.passed part Byte v w.device _ _ (record { setup = a.setup; arg = le-ltb 255 v (omega arith); power = a.power; select = a.select })

-- and the end's reply is the byte's, broken off
pub end_broken_off : (part k v : ℕ) (w : World) → Valid part w → k < 8 → BrokenOff k (accepted part v w Byte).reply (accepted part k w End).reply
unfolding leftover_reply
end_broken_off part k v w z h =
    broken_off k (next_reply w.eeprom w.id w.device) h (reply_or_none part w z.range z.shaped)
