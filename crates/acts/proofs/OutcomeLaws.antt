-- What an outcome's number says: an act is answered by the table, an accepted one 0 and none 7; any other number than 0 changes nothing.
-- Assumes nothing.
use mathlib.Core.Path.{◌≡◌, refl, sym, ap, subst, ◌∙◌}
use mathlib.Core.Bool.{Bool, false, not}
use mathlib.Core.Logic.{◌≢◌}
use Prim.Native.Nat.{ℕ, ◌<◌}
use native.Mathlib.Omega.{arith}
use borrow.Author.Tests.{eqb-true, eq-eqb, ne_eqb}
use lib.Dec.{eqb}
use lib.ListN.{length}
use Rattle.base.proofs.Tests.{by_cases, pick_case, pick_when, yes, no}
use Rattle.record.specs.declared.Act.{Act}
use Rattle.record.specs.declared.Act.TheVariants.{Select, Byte, End, Wait, Cut, Up, Set}
use Rattle.record.specs.declared.Device.{Device}
use Rattle.record.specs.Part.{is_part}
use Rattle.record.specs.Stages.{selected}
use Rattle.refusals.specs.Range.{out_of_range}
use Rattle.refusals.specs.declared.Refusal.{Refusal}
use Rattle.refusals.specs.Refusal.{refusal_number, wrong_length, wrong_arg, wrong_power, wrong_select, refusal_of, setup_refusal, act_refusal}
use Rattle.refusals.proofs.NumberLaws.{refusal_not_zero}
use Rattle.refusals.proofs.TableLaws.{by_setup, by_act}
use Rattle.record.specs.World.{World}
use Rattle.acts.specs.Act.{Outcome, accepted, refused, refusal_in, performed}

-- an accepted act is answered 0
pub done_zero : (part arg : ℕ) (w : World) (act : Act) → (accepted part arg w act).number ≡ 0
done_zero part arg w Select = refl
done_zero part arg w Byte = refl
done_zero part arg w End = refl
done_zero part arg w Wait = refl
done_zero part arg w Cut = refl
done_zero part arg w Up = refl
done_zero part arg w (Set p) = refl

-- by the table's number
pub by_refusal :
    (part : ℕ) (act : Act) (arg : ℕ) (w : World) → eqb (refusal_in part act arg w) 0 ≡ false
    → performed part act arg w ≡ refused (refusal_in part act arg w) w
unfolding performed
by_refusal part act arg w t = sym (no (accepted part arg w act) (refused (refusal_in part act arg w) w) t)

pub by_acceptance :
    (part : ℕ) (act : Act) (arg : ℕ) (w : World) → refusal_in part act arg w ≡ 0 → performed part act arg w ≡ accepted part arg w act
unfolding performed
by_acceptance part act arg w e = sym (yes (accepted part arg w act) (refused (refusal_in part act arg w) w) (eq-eqb _ _ e))

-- a number of the table answers as the code has it
pub refused_by_lem :
    (part : ℕ) (act : Act) (arg : ℕ) (w : World) (k : ℕ) → k ≡ refusal_in part act arg w → (k ≡ 0 → ⊥) → refused k w ≡ performed part act arg w
refused_by_lem part act arg w k e h =
    ap (λ (n : ℕ). refused n w) e ∙ sym (by_refusal part act arg w (ne_eqb _ 0 (λ z. h (e ∙ z))))

-- so does a refusal of the setup, and one of the act where the setup has none
pub refused_by_setup :
    (part : ℕ) (act : Act) (arg : ℕ) (w : World) (r : Refusal) → refusal_number r ≡ setup_refusal part w.device (length w.eeprom) (length w.id)
    → refused (refusal_number r) w ≡ performed part act arg w
refused_by_setup part act arg w r e =
    refused_by_lem part act arg w _ (e ∙ by_setup _ _ _ _ _ _ (λ z. refusal_not_zero r (e ∙ z))) (refusal_not_zero r)

pub refused_by_act :
    (part : ℕ) (act : Act) (arg : ℕ) (w : World) (r : Refusal) → setup_refusal part w.device (length w.eeprom) (length w.id) ≡ 0
    → refusal_number r ≡ act_refusal act arg w.device → refused (refusal_number r) w ≡ performed part act arg w
refused_by_act part act arg w r s e = refused_by_lem part act arg w _ (e ∙ sym (by_act _ _ _ _ _ _ s)) (refusal_not_zero r)

-- and an act that neither refuses is accepted
pub accepted_by_both :
    (part : ℕ) (act : Act) (arg : ℕ) (w : World) → setup_refusal part w.device (length w.eeprom) (length w.id) ≡ 0
    → 0 ≡ act_refusal act arg w.device → refusal_in part act arg w ≡ 0
accepted_by_both part act arg w s e = by_act _ _ _ _ _ _ s ∙ sym e

-- every act is answered with the table's number, refused or not
pub answered_by_table : (part : ℕ) (act : Act) (arg : ℕ) (w : World) → (performed part act arg w).number ≡ refusal_in part act arg w
answered_by_table part act arg w =
    by_cases (eqb (refusal_in part act arg w) 0)
    (λ t.
    let e : refusal_in part act arg w ≡ 0 = eqb-true _ _ t in
    ap (λ (o : Outcome). o.number) (by_acceptance part act arg w e) ∙ done_zero part arg w act ∙ sym e)
    (λ t. ap (λ (o : Outcome). o.number) (by_refusal part act arg w t))

-- an act that is answered another number than 0 leaves the world as it was, and has no reply and no count
pub refused_same :
    (part : ℕ) (act : Act) (arg : ℕ) (w : World) → eqb (performed part act arg w).number 0 ≡ false
    → performed part act arg w ≡ refused (performed part act arg w).number w
refused_same part act arg w e =
    let t : eqb (refusal_in part act arg w) 0 ≡ false = ap (λ (k : ℕ). eqb k 0) (sym (answered_by_table part act arg w)) ∙ e in
    by_refusal part act arg w t ∙ ap (λ (k : ℕ). refused k w) (sym (answered_by_table part act arg w))

-- What holds of the world, and of what the act leaves where the table accepts it, holds after the act.
pub performed_case :
    (P : World → Type 0) (part : ℕ) (act : Act) (arg : ℕ) (w : World) → P w → (refusal_in part act arg w ≡ 0 → P (accepted part arg w act).after)
    → P (performed part act arg w).after
unfolding performed
performed_case P part act arg w p q =
    pick_when (λ (o : Outcome). P o.after) (eqb (refusal_in part act arg w) 0) (λ t. q (eqb-true (refusal_in part act arg w) 0 t)) (λ f. p)

-- What an act changes it changes as one that is done; a refused one changes nothing.
pub changed_by_lem :
    {A : Type 0} (f : World → A) (Q : Type 0) (part : ℕ) (act : Act) (arg : ℕ) (w : World)
    → (refusal_in part act arg w ≡ 0 → f (accepted part arg w act).after ≢ f w → Q)
    → f (performed part act arg w).after ≢ f w → ((performed part act arg w).number ≡ 0) × Q
changed_by_lem f Q part act arg w q n =
    by_cases (eqb (refusal_in part act arg w) 0)
    (λ t.
    let e = eqb-true (refusal_in part act arg w) 0 t in (
      answered_by_table part act arg w ∙ e,
      q e (λ s. n (ap (λ (o : Outcome). f o.after) (by_acceptance part act arg w e) ∙ s)),
    ))
    (λ t. absurd (n (ap (λ (o : Outcome). f o.after) (by_refusal part act arg w t))))

-- an act that is done was passed by the table, and is the accepted one
pub done_passed : (part : ℕ) (act : Act) (arg : ℕ) (w : World) → (performed part act arg w).number ≡ 0 → refusal_in part act arg w ≡ 0
done_passed part act arg w e = sym (answered_by_table part act arg w) ∙ e

pub done_as : (part : ℕ) (act : Act) (arg : ℕ) (w : World) → (performed part act arg w).number ≡ 0 → performed part act arg w ≡ accepted part arg w act
done_as part act arg w e = by_acceptance part act arg w (done_passed part act arg w e)

-- what is refused as a line is the tape's: no act's number is above 6
last_below : (act : Act) (sel : Bool) → wrong_select act sel < 7
last_below Select sel = pick_case (λ (k : ℕ). k < 7) sel (omega arith) (omega arith)
last_below Byte sel = pick_case (λ (k : ℕ). k < 7) sel (omega arith) (omega arith)
last_below End sel = pick_case (λ (k : ℕ). k < 7) sel (omega arith) (omega arith)
last_below Wait sel = omega arith
last_below Cut sel = omega arith
last_below Up sel = omega arith
last_below (Set p) sel = omega arith

table_below : (part : ℕ) (act : Act) (n : ℕ) (d : Device) (ee id : ℕ) → refusal_of part act n d ee id < 7
unfolding refusal_of
table_below part act n d ee id =
    let P : ℕ → Type 0 = λ k. k < 7 in
    pick_case P (not (is_part part)) (omega arith)
    (pick_case P (wrong_length part ee id) (omega arith)
    (pick_case P (out_of_range part d) (omega arith)
    (pick_case P (wrong_arg act n) (omega arith)
    (pick_case P (wrong_power act d.power) (omega arith) (last_below act (selected d.frame.stage))))))

pub never_seven : (part : ℕ) (act : Act) (n : ℕ) (w : World) → (performed part act n w).number < 7
never_seven part act n w =
    subst (λ (k : ℕ). k < 7) (sym (answered_by_table part act n w))
    (table_below part act n w.device (length w.eeprom) (length w.id))
