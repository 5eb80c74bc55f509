-- One act keeps the agreement of a chip with its memories and a ledger, accepted or refused, whatever its argument.
-- Assumes nothing.
use Prim.Native.Nat.{ℕ}
use mathlib.Core.Path.{◌≡◌, refl, sym, ◌∙◌}
use mathlib.Core.Bool.{Bool, true, false}
use native.Mathlib.Omega.{arith}
use borrow.Author.Tests.{eqb-true, not-true, not-false}
use lib.Dec.{eqb}
use Rattle.base.specs.Words.{pick}
use Rattle.base.proofs.Tests.{by_cases, pick_case}
use Rattle.record.specs.declared.Act.{Act}
use Rattle.record.specs.declared.Act.TheVariants.{Select, Byte, End, Wait, Cut, Up, Set}
use Rattle.record.specs.Part.{is_part, boots_of}
use Rattle.record.specs.Stages.{selected}
use Rattle.refusals.specs.Refusal.{wrong_select}
use Rattle.refusals.proofs.TableLaws as table
use Rattle.record.specs.World.{World}
use Rattle.acts.specs.Act.{accepted, refusal_in, performed}
use Rattle.acts.proofs.ValidLaws.{Valid, accepted_valid}
use Rattle.ledger.specs.State.{Ledger, select, byte, end, wait, cut, up}
use Rattle.pins.proofs.SetLaws.{set_beside}
use Rattle.ledger.specs.Steps as ledger
use Rattle.run.specs.Claim.{used_by, our_chip, told}
use Rattle.run.proofs.Agree.{Agree}
use Rattle.run.proofs.ActAgrees.{beside_agrees, select_agrees, byte_agrees, end_agrees, wait_agrees, cut_agrees, up_agrees}
use Rattle.run.proofs.Refused.{refused_by, refusal_agrees}

-- a byte is accepted only of a chip that is selected
byte_selected : (sel : Bool) → ◌≡◌ {A = ℕ} (pick sel 0 2) 0 → sel ≡ true
byte_selected true e = refl
byte_selected false e = absurd (omega arith)

-- what the ledger does of an act that is not refused
abbrev done_by : ℕ → Act → ℕ → ℕ → Ledger → Ledger
done_by part Select n used l = ledger.done part select n used l
done_by part Byte n used l = ledger.done part byte n used l
done_by part End n used l = ledger.done part end n used l
done_by part Wait n used l = ledger.done part wait n used l
done_by part Cut n used l = ledger.done part cut n used l
done_by part Up n used l = ledger.done part up n used l
done_by part (Set p) n used l = l

told_run : (part : ℕ) (act : Act) (n used : ℕ) (l : Ledger) → ledger.ledger_run part (told act n used) l ≡ pick (refused_by act n l) l (done_by part act n used l)
unfolding ledger.ledger_run ledger.follow
told_run part Select n used l = refl
told_run part Byte n used l = refl
told_run part End n used l = refl
told_run part Wait n used l = refl
told_run part Cut n used l = refl
told_run part Up n used l = refl
told_run part (Set p) n used l = pick_case (λ (m : Ledger). l ≡ m) (refused_by (Set p) n l) refl refl

done_agrees :
    (s : World) (part : ℕ) (w : World) (l : Ledger) (act : Act) (n : ℕ) → is_part part ≡ true → Agree s part w l → refusal_in part act n w ≡ 0
    → Agree s part (accepted part n w act).after (done_by part act n (used_by act (accepted part n w act).count) l)
done_agrees s part w l act n p a z = by act (accepted_valid part act n w a.valid z) (table.accepted part act n w.device _ _ z).select
  where
    by : (act : Act) → Valid part (accepted part n w act).after → wrong_select act (selected w.device.frame.stage) ≡ 0
        → Agree s part (accepted part n w act).after (done_by part act n (used_by act (accepted part n w act).count) l)
    by Select v f = select_agrees s part w l a v
    by Byte v f = byte_agrees s part w l a n p (byte_selected _ f) v
    by End v f = end_agrees s part w l a n p v
    by Wait v f = wait_agrees s part w l a (boots_of part) n v
    by Cut v f = cut_agrees s part w l a n v
    by Up v f = up_agrees s part w l a v
    by (Set q) v f = beside_agrees s part w l a _ (set_beside q n w.device) v

pub step_agrees :
    (s : World) (part : ℕ) (w : World) (l : Ledger) (act : Act) (n : ℕ) → is_part part ≡ true → Agree s part w l
    → Agree s part (our_chip part act n w).after
    (ledger.ledger_run part (told act n (our_chip part act n w).used) l)
unfolding our_chip performed
step_agrees s part w l act n p a =
    rw (told_run part act n (our_chip part act n w).used l) (
    let same = refusal_agrees s part w l act n p a in
    by_cases (eqb (refusal_in part act n w) 0)
    (λ z.
    let no : refused_by act n l ≡ false = not-true (refused_by act n l) (sym same ∙ z) in
    rw (z, no) (done_agrees s part w l act n p a (eqb-true (refusal_in part act n w) 0 z)))
    (λ z.
    let yes : refused_by act n l ≡ true = not-false (refused_by act n l) (sym same ∙ z) in
    rw (z, yes) a))
