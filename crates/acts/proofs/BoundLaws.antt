-- What an act answers is small, whatever the act and its argument: its number, its count, and a reply that is a byte. Not what it answers.
-- Assumes nothing.
use Prim.Native.Nat.{ℕ, ◌<◌, ◌≤◌}
use native.Mathlib.Omega.{arith}
use mathlib.Core.Path.{◌≡◌, sym, subst}
use mathlib.Core.Bool.{false}
use borrow.Author.Tests.{eqb-true, ltb-false}
use lib.Dec.{eqb}
use Rattle.base.proofs.Tests.{pick_when}
use Rattle.base.proofs.WaitLaws.{wait_stops}
use Rattle.record.specs.declared.Act.{Act}
use Rattle.record.specs.declared.Act.TheVariants.{Select, Byte, End, Wait, Cut, Up, Set}
use Rattle.std.specs.Prelude.{Some, None}
use Rattle.record.specs.Part.{boots_of}
use Rattle.record.specs.Registers.{wait_limit}
use Rattle.record.specs.World.{World}
use Rattle.refusals.specs.Refusal.{wrong_arg}
use Rattle.refusals.proofs.TableLaws as table
use Rattle.ticks.specs.Tick.{tick, line_changed}
use Rattle.replies.specs.Reply.{next_reply, leftover_reply}
use Rattle.replies.proofs.ReplyLaws.{ByteOrNone, driven_off, reply_or_none, reply_byte}
use Rattle.replies.proofs.LeftoverLaws.{first_byte_lem}
use Rattle.power.proofs.PowerLaws.{cut_most}
use Rattle.acts.specs.Act.{Outcome, accepted, refusal_in, performed}
use Rattle.acts.proofs.OutcomeLaws.{never_seven}
use Rattle.acts.proofs.ValidLaws.{Valid}

-- a number of the table, a count that a wait may have, a byte or none
pub record Small (o : Outcome) : Type 0 where
  pub number : o.number < 7
  pub count : o.count ≤ wait_limit
  pub reply : (b : ℕ) → o.reply ≡ Some b → b < 256

-- None drives no byte
not_driven : (b : ℕ) → None ≡ Some b → ⊥
not_driven b e = driven_off b (sym e)

-- a wait uses no more ticks than it is given, a cut stores a page at most, and no other act counts
accepted_count : (part arg : ℕ) (w : World) (act : Act) → wrong_arg act arg ≡ false → (accepted part arg w act).count ≤ wait_limit
accepted_count part arg w Select t = omega arith
accepted_count part arg w Byte t = omega arith
accepted_count part arg w End t = omega arith
accepted_count part arg w Wait t = omega (arith, ltb-false wait_limit arg t, (wait_stops (tick (boots_of part)) line_changed arg w).within)
accepted_count part arg w Cut t = omega (arith, cut_most arg w.device)
accepted_count part arg w Up t = omega arith
accepted_count part arg w (Set p) t = omega arith

-- a byte has a reply, and an end the first bits of it
accepted_reply : (part arg : ℕ) (w : World) (act : Act) → Valid part w → (b : ℕ) → (accepted part arg w act).reply ≡ Some b → b < 256
accepted_reply part arg w Select v b e = absurd (not_driven b e)
accepted_reply part arg w Byte v b e = reply_byte part w v.range v.shaped b e
accepted_reply part arg w End v b e =
    unfold leftover_reply in subst ByteOrNone e (first_byte_lem arg (next_reply w.eeprom w.id w.device) (reply_or_none part w v.range v.shaped))
accepted_reply part arg w Wait v b e = absurd (not_driven b e)
accepted_reply part arg w Cut v b e = absurd (not_driven b e)
accepted_reply part arg w Up v b e = absurd (not_driven b e)
accepted_reply part arg w (Set p) v b e = absurd (not_driven b e)

pub performed_small : (part : ℕ) (act : Act) (arg : ℕ) (w : World) → Valid part w → Small (performed part act arg w)
unfolding performed
performed_small part act arg w v =
    let done = eqb (refusal_in part act arg w) 0 in
    record {
      number = never_seven part act arg w;
      count =
          pick_when (λ (o : Outcome). o.count ≤ wait_limit) done
          (λ t. accepted_count part arg w act (table.accepted part act arg w.device _ _ (eqb-true _ 0 t)).arg)
          (λ t. omega arith);
      reply =
          pick_when (λ (o : Outcome). (b : ℕ) → o.reply ≡ Some b → b < 256) done
          (λ t. accepted_reply part arg w act v)
          (λ t b e. absurd (not_driven b e));
    }
