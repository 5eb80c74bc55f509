-- The loop of a run: what is left of the acts gives the same answer as all of them did at the start. And what follows for a whole run:
-- a refused one changed nothing, any other has demand 3.
-- Assumes nothing.
use Prim.Native.Nat.{ℕ, zero, suc, ◌+◌, ◌-◌, ◌<◌, ◌≤◌, min}
use mathlib.Core.Path.{◌≡◌, refl, sym, ap, subst, ◌∙◌}
use mathlib.Core.Bool.{true, not}
use mathlib.Core.List.{List, [], ◌∷◌, ◌++◌}
use Rattle.std.specs.Prelude.{Ok, Err}
use native.Mathlib.Nat.{zero-sub, sub-zero, suc-sub-suc}
use native.Mathlib.Numerals.{add-one}
use native.Mathlib.Omega.{arith}
use borrow.Author.Tests.{lt-ltb, le-ltb, eqb-true, not-false}
use lib.Dec.{eqb, ltb}
use lib.ListN.{length, get_or, take, drop, set, replicate, take-append-drop}
use lib.Seq.{drop-cons}
use Rattle.base.specs.Words.{pick, over}
use Rattle.base.proofs.Tests.{row, neither_left, neither_right}
use Rattle.record.specs.declared.Act.{Act}
use Rattle.record.specs.declared.Act.TheVariants.{Select, Byte, End, Wait, Cut, Up, Set}
use Rattle.record.specs.declared.Device.{Device}
use Rattle.record.specs.Part.{is_part, size_of, id_size}
use Rattle.record.specs.Fresh.{fresh}
use Rattle.refusals.specs.Refusal.{refusal_number, wrong_length, setup_refusal}
use Rattle.refusals.proofs.RangeLaws.{in_range_lem, fresh_in_range}
use Rattle.refusals.proofs.TableLaws.{setup_passed, setup_passes}
use Rattle.record.specs.Numbers.{act_of, act_count}
use Rattle.record.specs.World.{World, world, Bytes, Sized, fresh_world}
use Rattle.acts.specs.Act.{Outcome, performed}
use Rattle.acts.proofs.SuitedLaws.{performed_suited}
use Rattle.acts.proofs.ValidLaws.{Valid}
use Rattle.ledger.specs.State.{Step, start}
use Rattle.ledger.specs.Steps.{ledger_run}
use Rattle.run.specs.declared.Ran.{Ran}
use Rattle.refusals.specs.declared.Refusal.{Refusal}
use Rattle.run.specs.Claim.{Input, Accounted, used_by, our_chip, world_after, steps_of, told, DemandThree}
use Rattle.run.specs.Begin.{ledger_of, AccountedFrom, DemandThreeFrom}
use Rattle.refusals.proofs.NumberLaws.{refusal_not_zero}
use Rattle.run.specs.Run.{answered, refuses_run, inputs_of, inputs_in, numbers_of, ticks_of, steps_by, Performed, Run, RunFrom}
use Rattle.run.proofs.DemandThree.{demand_three_lem}
use Rattle.run.proofs.BeginAgrees.{demand_three_from}

-- the acts from place i on
abbrev pub inputs_from : ℕ → List ℕ → List ℕ → ℕ → List Input
inputs_from i codes ns room = inputs_of (drop i codes) (drop i ns) (room - i)

inputs_at :
    (i : ℕ) (codes ns : List ℕ) (room : ℕ) → i < length codes → i < length ns → i < room
    → inputs_from i codes ns room
    ≡ pick (ltb (get_or codes i 0) act_count) (record { act = act_of (get_or codes i 0); arg = get_or ns i 0 } ∷ inputs_from (i + 1) codes ns room) []
unfolding inputs_of
inputs_at i codes ns room c n r =
    let left : room - i ≡ suc (room - (i + 1)) = omega arith in
    rw (left, add-one, drop-cons codes i 0 c, drop-cons ns i 0 n)

-- a code that names no act is the end
pub inputs_none :
    (i : ℕ) (codes ns : List ℕ) (room : ℕ) → i < length codes → i < length ns → i < room → act_count ≤ get_or codes i 0
    → inputs_from i codes ns room ≡ []
inputs_none i codes ns room c n r h = inputs_at i codes ns room c n r ∙ rw (le-ltb (get_or codes i 0) act_count h)

-- and so is the end of a slice
no_number : (codes : List ℕ) (room : ℕ) → inputs_of codes [] room ≡ []
unfolding inputs_of
no_number [] room = refl
no_number (c ∷ codes) room = refl

no_room : (codes ns : List ℕ) → inputs_of codes ns 0 ≡ []
unfolding inputs_of
no_room [] ns = refl
no_room (c ∷ codes) [] = refl
no_room (c ∷ codes) (n ∷ ns) = refl

pub inputs_end :
    (i : ℕ) (codes ns : List ℕ) (room : ℕ) → min (min (length codes) (length ns)) room ≤ i → inputs_from i codes ns room ≡ []
unfolding inputs_of
inputs_end zero [] ns room h = refl
inputs_end zero (c ∷ codes) [] room h = refl
inputs_end zero (c ∷ codes) (n ∷ ns) zero h = refl
inputs_end zero (c ∷ codes) (n ∷ ns) (suc room) h = absurd (omega arith)
inputs_end (suc i) [] ns room h = refl
inputs_end (suc i) (c ∷ codes) [] room h = no_number (drop i codes) (room - suc i)
inputs_end (suc i) (c ∷ codes) (n ∷ ns) zero h = rw zero-sub (no_room (drop i codes) (drop i ns))
inputs_end (suc i) (c ∷ codes) (n ∷ ns) (suc room) h = rw suc-sub-suc (inputs_end i codes ns room (omega arith))

-- one element more of the list that is put over another
over_more :
    (i m : ℕ) (ms l : List ℕ) → i < length l
    → take i l ++ over (m ∷ ms) (drop i l) ≡ take (suc i) (set l i m) ++ over ms (drop (suc i) (set l i m))
over_more i m ms [] h = absurd (omega arith)
over_more zero m ms (x ∷ l) h = refl
over_more (suc i) m ms (x ∷ l) h = ap (λ (t : List ℕ). x ∷ t) (over_more i m ms l (omega arith))

-- what is left of the acts, at place i, gives the same answer as all of them from the start
pub record Left (part : ℕ) (xs rest : List Input) (answers₀ used₀ : List ℕ) (w₀ : World) (i : ℕ) (answers used : List ℕ) (w : World) : Type 0 where
  pub after : world_after our_chip part rest w ≡ world_after our_chip part xs w₀
  pub count : i + length rest ≡ length xs
  pub numbers : take i answers ++ over (numbers_of part rest w) (drop i answers) ≡ over (numbers_of part xs w₀) answers₀
  pub ticks : take i used ++ over (ticks_of part rest w) (drop i used) ≡ over (ticks_of part xs w₀) used₀

pub left_all :
    (part : ℕ) (codes ns : List ℕ) (room : ℕ) (answers used : List ℕ) (w : World)
    → Left part (inputs_of codes ns room) (inputs_from 0 codes ns room) answers used w 0 answers used w
left_all part codes ns room answers used w =
    rw sub-zero (record { after = refl; count = omega arith; numbers = refl; ticks = refl })

-- an act performed
left_less :
    (part : ℕ) (xs rest : List Input) (x : Input) (answers₀ used₀ : List ℕ) (w₀ : World) (i : ℕ) (answers used : List ℕ) (w : World)
    (a : Outcome)
    → i < length answers → i < length used → a ≡ performed part x.act x.arg w
    → Left part xs (x ∷ rest) answers₀ used₀ w₀ i answers used w
    → Left part xs rest answers₀ used₀ w₀ (i + 1) (set answers i a.number) (set used i (used_by x.act a.count)) a.after
unfolding world_after numbers_of ticks_of our_chip
left_less part xs rest x answers₀ used₀ w₀ i answers used w a s t e l =
    record {
      after = ap (λ (o : Outcome). world_after our_chip part rest o.after) e ∙ l.after;
      count = let n = l.count in omega arith;
      numbers =
          rw add-one
          (sym (over_more i a.number (numbers_of part rest a.after) answers s)
          ∙ ap (λ (o : Outcome). take i answers ++ over (o.number ∷ numbers_of part rest o.after) (drop i answers)) e
          ∙ l.numbers);
      ticks =
          rw add-one
          (sym (over_more i (used_by x.act a.count) (ticks_of part rest a.after) used t)
          ∙ ap (λ (o : Outcome). take i used ++ over (used_by x.act o.count ∷ ticks_of part rest o.after) (drop i used)) e
          ∙ l.ticks);
    }

-- a turn of the loop, by what it calls
pub left_turn :
    (part : ℕ) (xs : List Input) (answers₀ used₀ : List ℕ) (w₀ : World) (i : ℕ) (codes ns : List ℕ) (room : ℕ) (answers used : List ℕ) (w : World)
    (act : Act) (a : Outcome) (u : ℕ)
    → i < length codes → i < length ns → i < room → i < length answers → i < length used
    → get_or codes i 0 < act_count → act ≡ act_of (get_or codes i 0) → a ≡ performed part act (get_or ns i 0) w → u ≡ used_by act a.count
    → Left part xs (inputs_from i codes ns room) answers₀ used₀ w₀ i answers used w
    → Left part xs (inputs_from (i + 1) codes ns room) answers₀ used₀ w₀ (i + 1) (set answers i a.number) (set used i u) a.after
left_turn part xs answers₀ used₀ w₀ i codes ns room answers used w act a u c n r s t h f e g l =
    let x : Input = record { act = act_of (get_or codes i 0); arg = get_or ns i 0 } in
    let m = rw (lt-ltb (get_or codes i 0) act_count h) at (inputs_at i codes ns room c n r) in
    rw (g, f)
    (left_less part xs (inputs_from (i + 1) codes ns room) x answers₀ used₀ w₀ i answers used w a s t (rw f at e)
    (subst (λ (rest : List Input). Left part xs rest answers₀ used₀ w₀ i answers used w) m l))

-- an act that is answered a count of 0 used no ticks
pub none_used : (act : Act) → 0 ≡ used_by act 0
none_used Select = refl
none_used Byte = refl
none_used End = refl
none_used Wait = refl
none_used Cut = refl
none_used Up = refl
none_used (Set p) = refl

-- nothing left
pub left_none :
    (part : ℕ) (xs rest : List Input) (answers₀ used₀ : List ℕ) (w₀ : World) (i : ℕ) (answers used : List ℕ) (w : World)
    → rest ≡ [] → Left part xs rest answers₀ used₀ w₀ i answers used w → Performed part xs answers₀ answers used₀ used w₀ w i
unfolding world_after numbers_of ticks_of
left_none part xs rest answers₀ used₀ w₀ i answers used w e k =
    let l : Left part xs [] answers₀ used₀ w₀ i answers used w =
    subst (λ (r : List Input). Left part xs r answers₀ used₀ w₀ i answers used w) e k in
    record {
      after = l.after;
      count = let n = l.count in omega arith;
      numbers = sym (take-append-drop i answers) ∙ l.numbers;
      ticks = sym (take-append-drop i used) ∙ l.ticks;
    }

-- what the ledger is told is told by the acts and the ticks that were answered
steps_by_lem :
    (part : ℕ) (xs : List Input) (w : World) (more : List ℕ) → steps_of our_chip part xs w ≡ steps_by xs (ticks_of part xs w ++ more)
unfolding steps_of steps_by ticks_of
steps_by_lem part [] w more = refl
steps_by_lem part (x ∷ xs) w more =
    ap (λ (ss : List Step). told x.act x.arg (our_chip part x.act x.arg w).used ++ ss)
    (steps_by_lem part xs (our_chip part x.act x.arg w).after more)

told_by_lem :
    (part : ℕ) (xs : List Input) (answers answers' used used' : List ℕ) (s w : World) (n : ℕ) → Performed part xs answers answers' used used' s w n
    → steps_of our_chip part xs s ≡ steps_by xs used'
told_by_lem part xs answers answers' used used' s w n d =
    steps_by_lem part xs s (drop (length (ticks_of part xs s)) used) ∙ ap (steps_by xs) (sym d.ticks)

accounted :
    (part : ℕ) (xs : List Input) (answers answers' used used' : List ℕ) (w : World) (n : ℕ) → is_part part ≡ true
    → Performed part xs answers answers' used used' (fresh_world part) w n → Accounted part w (ledger_run part (steps_by xs used') start)
unfolding DemandThree
accounted part xs answers answers' used used' w n p d =
    rw (d.after, ← told_by_lem part xs answers answers' used used' (fresh_world part) w n d) (demand_three_lem part p xs)

accounted_from :
    (part : ℕ) (xs : List Input) (answers answers' used used' : List ℕ) (s w : World) (n : ℕ) → is_part part ≡ true → Valid part s
    → Performed part xs answers answers' used used' s w n → AccountedFrom part s w (ledger_run part (steps_by xs used') (ledger_of s.device))
unfolding DemandThreeFrom
accounted_from part xs answers answers' used used' s w n p v d =
    rw (d.after, ← told_by_lem part xs answers answers' used used' s w n d) (demand_three_from part p s v.range v.shaped xs)

-- what a run that is not refused may suppose
pub record Accepted (part m n : ℕ) : Type 0 where
  pub known : is_part part ≡ true
  pub eeprom : m ≡ size_of part
  pub id : n ≡ id_size

accepted : (part ee id : ℕ) → refuses_run part ee id ≡ 0 → Accepted part ee id
accepted part ee id z =
    let p = row (not (is_part part)) 3 (pick (wrong_length part ee id) 4 0) (omega arith) z in
    let q = row (wrong_length part ee id) 4 0 (omega arith) p.1 in
    record {
      known = not-false (is_part part) p.0;
      eeprom = eqb-true ee (size_of part) (not-false (eqb ee (size_of part)) (neither_left (not (eqb ee (size_of part))) (not (eqb id id_size)) q.0));
      id = eqb-true id id_size (not-false (eqb id id_size) (neither_right (not (eqb ee (size_of part))) (not (eqb id id_size)) q.0));
    }

-- a fresh chip suits a run that is not refused, and so does what an act leaves of a chip that does
pub suits_start : (part : ℕ) (d : Device) (ee id : ℕ) → refuses_run part ee id ≡ 0 → d ≡ fresh → setup_refusal part d ee id ≡ 0
suits_start part d ee id z f =
    let a = accepted part ee id z in
    ap (λ (x : Device). setup_refusal part x ee id) f
    ∙ setup_passes part fresh ee id (record { known = a.known; eeprom = a.eeprom; ids = a.id; ranged = fresh_in_range part a.known })

pub suits_turn :
    (part : ℕ) (act : Act) (arg : ℕ) (w : World) (a : Outcome) → a ≡ performed part act arg w
    → setup_refusal part w.device (length w.eeprom) (length w.id) ≡ 0
    → setup_refusal part a.after.device (length a.after.eeprom) (length a.after.id) ≡ 0
suits_turn part act arg w a e s =
    ap (λ (o : Outcome). setup_refusal part o.after.device (length o.after.eeprom) (length o.after.id)) e ∙ performed_suited part act arg w s

-- a refused run
pub run_refused :
    (part : ℕ) (codes ns answers used ee id : List ℕ) (e : Refusal) → refusal_number e ≡ refuses_run part (length ee) (length id)
    → Run part codes ns answers answers used used ee ee id id (answered fresh (Err e))
run_refused part codes ns answers used ee id e p =
    record {
      refused = λ z. (p, refl, refl, refl, refl, refl, refl);
      done = λ z. absurd (refusal_not_zero e (p ∙ z));
      demand_three = λ z. absurd (refusal_not_zero e (p ∙ z));
    }

-- a run whose acts were performed from a fresh chip and memories filled with FFh
pub run_done :
    (part : ℕ) (codes ns answers answers' used used' ee ee₁ ee' id id₁ id' : List ℕ) (d : Device) (r : Ran)
    → refuses_run part (length ee) (length id) ≡ 0 → d ≡ fresh → ee₁ ≡ replicate (length ee) 255 → id₁ ≡ replicate (length id) 255
    → Performed part (inputs_in codes ns answers used) answers answers' used used'
    (world d ee₁ id₁) (world r.device ee' id') r.count
    → Run part codes ns answers answers' used used' ee ee' id id' (answered fresh (Ok r))
run_done part codes ns answers answers' used used' ee ee₁ ee' id id₁ id' d r z f p q k =
    let a = accepted part (length ee) (length id) z in
    let s : world d ee₁ id₁ ≡ fresh_world part =
    λ i. world (f i) ((p ∙ ap (λ (n : ℕ). replicate n 255) a.eeprom) i) ((q ∙ ap (λ (n : ℕ). replicate n 255) a.id) i) in
    let xs = inputs_in codes ns answers used in
    let w = world r.device ee' id' in
    let g : Performed part xs answers answers' used used' (fresh_world part) w r.count =
    subst (λ (v : World). Performed part xs answers answers' used used' v w r.count) s k in
    record {
      refused = λ h. absurd (h z);
      done = λ y. (refl, g);
      demand_three = λ y. accounted part xs answers answers' used used' w r.count a.known g;
    }

-- a run from a beginning that is refused
pub from_refused :
    (part : ℕ) (d : Device) (codes ns answers used ee id : List ℕ) (e : Refusal) → refusal_number e ≡ setup_refusal part d (length ee) (length id)
    → RunFrom part d codes ns answers answers used used ee ee id id (answered d (Err e))
from_refused part d codes ns answers used ee id e p =
    record {
      refused = λ z. (p, refl, refl, refl, refl, refl, refl);
      done = λ z. absurd (refusal_not_zero e (p ∙ z));
      demand_three = λ z. absurd (refusal_not_zero e (p ∙ z));
    }

-- and one whose acts were performed from there; lengths of arrays and bytes are those that the types give
pub from_done :
    (part : ℕ) (d : Device) (codes ns answers answers' used used' ee ee' id id' : List ℕ) (r : Ran) → setup_refusal part d (length ee) (length id) ≡ 0
    → Sized d → Bytes ee → Bytes id
    → Performed part (inputs_in codes ns answers used) answers answers' used used' (world d ee id) (world r.device ee' id') r.count
    → RunFrom part d codes ns answers answers' used used' ee ee' id id' (answered d (Ok r))
from_done part d codes ns answers answers' used used' ee ee' id id' r z sized b c k =
    let a = setup_passed part d (length ee) (length id) z in
    let v : Valid part (world d ee id) =
    record {
      range = in_range_lem part d a.ranged;
      shaped = record { sized = sized; eeprom = a.eeprom; id = a.ids; eeprom_bytes = b; id_bytes = c };
    } in
    record {
      refused = λ h. absurd (h z);
      done = λ y. (refl, k);
      demand_three = λ y. accounted_from part (inputs_in codes ns answers used) answers answers' used used' (world d ee id) (world r.device ee' id') r.count a.known v k;
    }
