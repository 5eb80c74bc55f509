-- The refusal table, proved: the chain that decides answers k exactly when row k holds and no row before it does, and 0 exactly
-- when none holds. What an accepted act may suppose, and that each part accepts each act.
-- Assumes nothing.
use Prim.Native.Nat.{ℕ, ◌≤◌}
use native.Mathlib.Omega.{arith}
use mathlib.Core.Path.{◌≡◌, refl, sym, ap, subst, ◌∙◌}
use mathlib.Core.Logic.{inl, inr, ⊎_elim, ◌↔◌}
use mathlib.Core.Bool.{Bool, true, false, not, or-true, false≢true}
use mathlib.Core.List.{List, [], ◌∷◌}
use borrow.Author.Tests.{lt-ltb, eq-eqb, ne_eqb, ltb-true, leb-true, leb-false, eqb-true, eqb-false, not-true, not-false}
use lib.Dec.{leb, eqb, lit<}
use Rattle.base.specs.Words.{pick, every}
use Rattle.base.proofs.Tests.{by_cases, both_left, both_right, either, neither_left, neither_right, true_false, row}
use Rattle.base.proofs.Every.{every_at}
use Rattle.events.specs.Range.{window_out, debounce_out, events_out}
use Rattle.record.specs.declared.Device.{Device}
use Rattle.record.specs.declared.Act.{Act}
use Rattle.record.specs.declared.Act.TheVariants.{Select, Byte, End, Wait, Cut, Up, Set}
use Rattle.record.specs.declared.Stage.{Stage}
use Rattle.record.specs.declared.Stage.TheVariants.{Idle, Opened}
use Rattle.record.specs.Part.{is_part, size_of, id_size}
use Rattle.record.specs.Registers.{wait_limit}
use Rattle.record.specs.Fresh.{fresh}
use Rattle.record.specs.Setters.{with_power, with_stage}
use Rattle.record.specs.Stages.{selected}
use Rattle.record.proofs.StageLaws.{idle, not_idle}
use Rattle.refusals.specs.Range.{clock_out, frame_out, cycle_out, power_out, bit_outside, out_of_range}
use Rattle.refusals.specs.Refusal.{wrong_length, wrong_arg, wrong_power, wrong_select, first_refusal, refusal_of, setup_refusal, act_refusal}
use Rattle.refusals.specs.Rows.{PartRow, LengthRow, RangeRow, ArgRow, leftover, wait, byte, mask, select, up, level, PowerRow, select_off, byte_off, end_off, cut_off, up_on, SelectedRow, select_again, NotSelectedRow, byte_alone, end_alone, Row, table, First, TableGives}
use Rattle.refusals.proofs.RangeLaws.{range_row}

-- Each row is what its test says.

part_row_lem : (part : ℕ) → (not (is_part part) ≡ true) ↔ PartRow part
part_row_lem part = (
  λ e. by_cases (leb 1 part)
      (λ l. inr (leb-false part 4 (rw l at (not-true (is_part part) e))))
      (λ l. inl (leb-false 1 part l)),
  λ r. by_cases (is_part part)
      (λ t. absurd (inside (leb-true 1 part (both_left (leb 1 part) (leb part 4) t)) (leb-true part 4 (both_right (leb 1 part) (leb part 4) t)) r))
      (λ f. ap not f),
)
  where
    inside : 1 ≤ part → part ≤ 4 → ¬ PartRow part
    inside l h (inl r) = omega arith
    inside l h (inr r) = omega arith

length_row : (part ee id : ℕ) → (wrong_length part ee id ≡ true) ↔ LengthRow part ee id
length_row part ee id = (
  λ e. ⊎_elim (λ l. inl (eqb-false ee (size_of part) (not-true _ l))) (λ l. inr (eqb-false id 16 (not-true _ l))) (either (not (eqb ee (size_of part))) (not (eqb id 16)) e),
  given,
)
  where
    given : LengthRow part ee id → wrong_length part ee id ≡ true
    given (inl n) = simp (ne_eqb ee (size_of part) n)
    given (inr n) = simp (ne_eqb id 16 n, or-true)

arg_told : (act : Act) (n : ℕ) → wrong_arg act n ≡ true → ArgRow act n
arg_told Select n e = select (eqb-false n 0 (not-true (eqb n 0) e))
arg_told Byte n e = byte (ltb-true 255 n e)
arg_told End n e = leftover (ltb-true 7 n e)
arg_told Wait n e = wait {n = n} (omega (arith, ltb-true wait_limit n e))
arg_told Cut n e = mask (ltb-true 255 n e)
arg_told Up n e = up (eqb-false n 0 (not-true (eqb n 0) e))
arg_told (Set p) n e = level (ltb-true 1 n e)

arg_given : {act : Act} {n : ℕ} → ArgRow act n → wrong_arg act n ≡ true
arg_given (leftover h) = lt-ltb _ _ h
arg_given (wait {n} h) = lt-ltb wait_limit n (omega arith)
arg_given (byte h) = lt-ltb _ _ h
arg_given (mask h) = lt-ltb _ _ h
arg_given (select h) = ap not (ne_eqb _ 0 h)
arg_given (up h) = ap not (ne_eqb _ 0 h)
arg_given (level h) = lt-ltb _ _ h

power_told : (act : Act) (d : Device) → wrong_power act d.power ≡ true → PowerRow act d
power_told Select d e = select_off (not-true d.power e)
power_told Byte d e = byte_off (not-true d.power e)
power_told End d e = end_off (not-true d.power e)
power_told Wait d e = absurd (false≢true e)
power_told Cut d e = cut_off (not-true d.power e)
power_told Up d e = up_on (grind (arith, e))
power_told (Set p) d e = absurd (false≢true e)

power_given : {act : Act} {d : Device} → PowerRow act d → wrong_power act d.power ≡ true
power_given (select_off h) = ap not h
power_given (byte_off h) = ap not h
power_given (end_off h) = ap not h
power_given (cut_off h) = ap not h
power_given (up_on h) = h

selected_given : {act : Act} {d : Device} → SelectedRow act d → wrong_select act (selected d.frame.stage) ≡ 1
selected_given (select_again {d} h) = by_cases (selected d.frame.stage) (λ t. rw t) (λ f. absurd (h (idle d.frame.stage f)))

not_selected_given : {act : Act} {d : Device} → NotSelectedRow act d → wrong_select act (selected d.frame.stage) ≡ 2
not_selected_given (byte_alone h) = simp h
not_selected_given (end_alone h) = simp h

-- The chain, row by row.

one_row :
    (t : Bool) (r : Row) (rows : List Row) (x : ℕ) → (t ≡ true) ↔ r.holds → First rows x → First (r ∷ rows) (pick t r.number x)
unfolding First
one_row true r rows x e f = inl (e.0 refl, refl)
one_row false r rows x e f = inr (λ h. false≢true (e.1 h), f)

-- the last two rows
abbrev last : Act → Device → List Row
last act d = record { number = 1; holds = SelectedRow act d } ∷ record { number = 2; holds = NotSelectedRow act d } ∷ []

no_last : (act : Act) (d : Device) → wrong_select act (selected d.frame.stage) ≡ 0 → First (last act d) 0
unfolding First
no_last act d e = inr (λ h. omega (arith, e, selected_given h), inr (λ h. omega (arith, e, not_selected_given h), refl))

alone : (act : Act) (d : Device) → wrong_select act (selected d.frame.stage) ≡ 2 → NotSelectedRow act d → First (last act d) 2
unfolding First
alone act d e r = inr (λ h. omega (arith, e, selected_given h), inl (r, refl))

last_rows : (act : Act) (d : Device) (t : Bool) → selected d.frame.stage ≡ t → First (last act d) (wrong_select act t)
unfolding First
last_rows Select d true e = inl (select_again (not_idle d.frame.stage e), refl)
last_rows Select d false e = no_last Select d (ap (wrong_select Select) e)
last_rows Byte d true e = no_last Byte d (ap (wrong_select Byte) e)
last_rows Byte d false e = alone Byte d (ap (wrong_select Byte) e) (byte_alone (idle d.frame.stage e))
last_rows End d true e = no_last End d (ap (wrong_select End) e)
last_rows End d false e = alone End d (ap (wrong_select End) e) (end_alone (idle d.frame.stage e))
last_rows Wait d t e = no_last Wait d refl
last_rows Cut d t e = no_last Cut d refl
last_rows Up d t e = no_last Up d refl
last_rows (Set p) d t e = no_last (Set p) d refl

-- The theorem: the number that answers an act is the table's,
pub answered : (part : ℕ) (act : Act) (n : ℕ) (d : Device) (ee id : ℕ) → TableGives part act n d ee id (refusal_of part act n d ee id)
unfolding refusal_of
answered part act n d ee id =
    one_row (not (is_part part)) _ _ _ (part_row_lem part)
    (one_row (wrong_length part ee id) _ _ _ (length_row part ee id)
    (one_row (out_of_range part d) _ _ _ (range_row part d)
    (one_row (wrong_arg act n) _ _ _ (arg_told act n, arg_given)
    (one_row (wrong_power act d.power) _ _ _ (power_told act d, power_given)
    (last_rows act d (selected d.frame.stage) refl)))))

-- a table gives one number,
pub first_once : (rows : List Row) (j k : ℕ) → First rows j → First rows k → j ≡ k
unfolding First
first_once [] j k p q = p ∙ sym q
first_once (r ∷ rows) j k (inl p) (inl q) = p.1 ∙ sym q.1
first_once (r ∷ rows) j k (inl p) (inr q) = absurd (q.0 p.0)
first_once (r ∷ rows) j k (inr p) (inl q) = absurd (p.0 q.0)
first_once (r ∷ rows) j k (inr p) (inr q) = first_once rows j k p.1 q.1

-- so that an act is answered k exactly when row k holds and no row before it does, for every part, act, number, record and lengths.
pub exactly :
    (part : ℕ) (act : Act) (n : ℕ) (d : Device) (ee id k : ℕ)
    → (refusal_of part act n d ee id ≡ k) ↔ TableGives part act n d ee id k
exactly part act n d ee id k = (
  λ e. subst (TableGives part act n d ee id) e (answered part act n d ee id),
  λ a. first_once (table part act n d ee id) (refusal_of part act n d ee id) k (answered part act n d ee id) a,
)

-- what a setup has passed where no row of it holds, whatever comes after these rows
pub record Suited (part : ℕ) (d : Device) (ee id : ℕ) : Type 0 where
  pub known : is_part part ≡ true
  pub eeprom : ee ≡ size_of part
  pub ids : id ≡ id_size
  pub ranged : out_of_range part d ≡ false

suited :
    (part : ℕ) (d : Device) (ee id x : ℕ) → pick (not (is_part part)) 3 (pick (wrong_length part ee id) 4 (pick (out_of_range part d) 6 x)) ≡ 0
    → Suited part d ee id × (x ≡ 0)
suited part d ee id x e =
    let r₁ = row (not (is_part part)) 3 _ (lit< tt) e in
    let r₂ = row (wrong_length part ee id) 4 _ (lit< tt) r₁.1 in
    let r₃ = row (out_of_range part d) 6 _ (lit< tt) r₂.1 in
    let l = not (eqb ee (size_of part)) in
    let m = not (eqb id id_size) in (
      record {
        known = not-false (is_part part) r₁.0;
        eeprom = eqb-true ee (size_of part) (not-false _ (neither_left l m r₂.0));
        ids = eqb-true id id_size (not-false _ (neither_right l m r₂.0));
        ranged = r₃.0;
      },
      r₃.1,
    )

pub setup_passed : (part : ℕ) (d : Device) (ee id : ℕ) → setup_refusal part d ee id ≡ 0 → Suited part d ee id
unfolding setup_refusal
setup_passed part d ee id e = (suited part d ee id 0 e).0

pub setup_passes : (part : ℕ) (d : Device) (ee id : ℕ) → Suited part d ee id → setup_refusal part d ee id ≡ 0
unfolding setup_refusal
setup_passes part d ee id s = simp (s.known, eq-eqb ee (size_of part) s.eeprom, eq-eqb id id_size s.ids, s.ranged)

-- the chain in two steps: a row of the setup answers, else one of the act
pub by_setup :
    (part : ℕ) (act : Act) (n : ℕ) (d : Device) (ee id : ℕ) → (setup_refusal part d ee id ≡ 0 → ⊥)
    → setup_refusal part d ee id ≡ refusal_of part act n d ee id
unfolding setup_refusal refusal_of
by_setup part act n d ee id h =
    three (not (is_part part)) (wrong_length part ee id) (out_of_range part d) (wrong_arg act n) (wrong_power act d.power)
    (wrong_select act (selected d.frame.stage)) h
  where
    three : (a b c r s : Bool) (x : ℕ) → (first_refusal a b c false false 0 ≡ 0 → ⊥) → first_refusal a b c false false 0 ≡ first_refusal a b c r s x
    three true b c r s x h = refl
    three false true c r s x h = refl
    three false false true r s x h = refl
    three false false false r s x h = absurd (h refl)

pub by_act :
    (part : ℕ) (act : Act) (n : ℕ) (d : Device) (ee id : ℕ) → setup_refusal part d ee id ≡ 0
    → refusal_of part act n d ee id ≡ act_refusal act n d
unfolding refusal_of act_refusal
by_act part act n d ee id e =
    let s = setup_passed part d ee id e in
    simp (s.known, eq-eqb ee (size_of part) s.eeprom, eq-eqb id id_size s.ids, s.ranged)

-- what an act that is answered 0 has passed, as the tests of the chain
pub record Accepted (part : ℕ) (act : Act) (n : ℕ) (d : Device) (ee id : ℕ) : Type 0 where
  pub setup : Suited part d ee id
  pub arg : wrong_arg act n ≡ false
  pub power : wrong_power act d.power ≡ false
  pub select : wrong_select act (selected d.frame.stage) ≡ 0

pub accepted : (part : ℕ) (act : Act) (n : ℕ) (d : Device) (ee id : ℕ) → refusal_of part act n d ee id ≡ 0 → Accepted part act n d ee id
unfolding refusal_of
accepted part act n d ee id e =
    let s = suited part d ee id _ e in
    let r₄ = row (wrong_arg act n) 3 _ (lit< tt) s.1 in
    let r₅ = row (wrong_power act d.power) 5 _ (lit< tt) r₄.1 in
    record { setup = s.0; arg = r₄.0; power = r₅.0; select = r₅.1 }

-- and the other way
pub passed : (part : ℕ) (act : Act) (n : ℕ) (d : Device) (ee id : ℕ) → Accepted part act n d ee id → refusal_of part act n d ee id ≡ 0
unfolding refusal_of
passed part act n d ee id a =
    let s = a.setup in
    simp (s.known, eq-eqb ee (size_of part) s.eeprom, eq-eqb id id_size s.ids, s.ranged, a.arg, a.power, a.select)

-- an act is answered 0 exactly when no row holds
pub done :
    (part : ℕ) (act : Act) (n : ℕ) (d : Device) (ee id : ℕ)
    → (refusal_of part act n d ee id ≡ 0)
    ↔ ((¬ PartRow part) × (¬ LengthRow part ee id) × (¬ RangeRow part d) × (¬ ArgRow act n) × (¬ PowerRow act d) × (¬ SelectedRow act d) × (¬ NotSelectedRow act d))
unfolding First
done part act n d ee id = (
  λ e. let a = accepted part act n d ee id e in (
    λ r. true_false a.setup.known (not-true (is_part part) ((part_row_lem part).1 r)),
    λ r. true_false ((length_row part ee id).1 r) (lengths e),
    λ r. true_false ((range_row part d).1 r) a.setup.ranged,
    λ r. true_false (arg_given r) a.arg,
    λ r. true_false (power_given r) a.power,
    λ r. omega (arith, a.select, selected_given r),
    λ r. omega (arith, a.select, not_selected_given r),
  ),
  λ h. (exactly part act n d ee id 0).1 (inr (h.0, inr (h.1, inr (h.2, inr (h.3, inr (h.4, inr (h.5, inr (h.6, refl)))))))),
)
  where
    lengths : refusal_of part act n d ee id ≡ 0 → wrong_length part ee id ≡ false
    lengths e = let s = (accepted part act n d ee id e).setup in simp (eq-eqb ee (size_of part) s.eeprom, eq-eqb id id_size s.ids)

-- a record on which an act is accepted: fresh, with a frame opened for byte and end, with power off for up
abbrev pub ready_with : Bool → Stage → Device
ready_with power stage = with_power (with_stage fresh stage) power

abbrev pub ready : Act → Device
ready Select = fresh
ready Byte = ready_with true Opened
ready End = ready_with true Opened
ready Wait = fresh
ready Cut = fresh
ready Up = ready_with false Idle
ready (Set p) = fresh

abbrev ready_answer : Act → ℕ → ℕ
ready_answer act part = refusal_of part act 0 (ready act) (size_of part) id_size

each_part : (act : Act) → every (λ (k : ℕ). eqb (pick (is_part k) (ready_answer act k) 0) 0) 5 ≡ true
unfolding every refusal_of out_of_range clock_out frame_out cycle_out power_out bit_outside events_out window_out debounce_out fresh
each_part Select = refl
each_part Byte = refl
each_part End = refl
each_part Wait = refl
each_part Cut = refl
each_part Up = refl
each_part (Set p) = refl

-- each part accepts each act
pub shown : (part : ℕ) → is_part part ≡ true → (act : Act) → refusal_of part act 0 (ready act) (size_of part) id_size ≡ 0
shown part h act =
    let l : part ≤ 4 = leb-true part 4 (both_right (leb 1 part) (leb part 4) h) in
    let e : pick (is_part part) (ready_answer act part) 0 ≡ 0 = eqb-true _ 0 (every_at (λ (k : ℕ). eqb (pick (is_part k) (ready_answer act k) 0) 0) 5 (each_part act) part (omega arith)) in
    rw h at e
