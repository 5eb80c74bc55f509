-- Number 6 for the event inputs, tied: the tests that decide (Range), the facts of a record in range, the rows (Rows). Every function keeps a
-- record in range.
-- Assumes nothing.
use Prim.Native.Nat.{ℕ, ◌+◌, ◌-◌, ◌<◌, ◌≤◌}
use native.Mathlib.Omega.{arith}
use mathlib.Core.Path.{◌≡◌, refl, sym, ap, ◌∙◌}
use mathlib.Core.Logic.{inl, inr, ⊎_elim, ◌↔◌}
use mathlib.Core.Bool.{Bool, true, false, not, ◌&&◌, ◌||◌}
use borrow.Author.Tests.{ltb-true, ltb-false, leb-true, leb-false, eqb-true, eq-eqb, not-true}
use lib.Dec.{ltb, eqb}
use Rattle.base.proofs.Tests.{by_cases, both_left, both_right, either, neither_left, neither_right, true_false, pick_when, pick_case, none_holds, some_holds}
use Rattle.events.specs.declared.Events.{Events}
use Rattle.events.specs.declared.Inputs.{Inputs}
use Rattle.events.specs.Control.{even1, even0, number_of, debounce_of, window_ticks, high_runs, low_runs, set_high, set_low}
use Rattle.events.specs.Pins.{rising, falling, counts_edge, drum_set, door_set, control_written}
use Rattle.events.specs.Tick.{window_runs, window_tick, debounce_runs, debounce_tick, events_tick}
use Rattle.events.specs.Range.{window_tests, debounce_tests, window_out, debounce_out, events_out}
use Rattle.events.specs.Rows.{EventRow, EventsIn, door_level, drum_level, edges, since, since_with_none, debounce, debounce_with_low, high_disabled, low_disabled}
use Rattle.events.proofs.EdgeLaws.{rising_level, unfallen_low}
use Rattle.events.proofs.ControlLaws.{Settings, number_least, high_settings, low_settings, counts_parts, low_parts}

other_fails : {a b : Bool} → (a && b) ≡ false → a ≡ true → b ≡ false
other_fails e p = rw p at e

-- V14. What a record in range has.
pub events_in : (v : ℕ) (e : Events) → events_out v e ≡ false → EventsIn v e
unfolding events_out window_out debounce_out
events_in v e f =
    let (past, (above, (with_none, (off, _)))) = none_holds (window_tests v e) (neither_left (window_out v e) (debounce_out v e) f) in
    let (levels, (most, (with-low, (low_off_lem, _)))) = none_holds (debounce_tests v e) (neither_right (window_out v e) (debounce_out v e) f) in
    record {
      door = ltb-false 1 e.door (neither_left (ltb 1 e.door) (ltb 1 e.drum) levels);
      drum = ltb-false 1 e.drum (neither_right (ltb 1 e.door) (ltb 1 e.drum) levels);
      edges = leb-false (number_of v) e.edges past;
      since = omega (arith, ltb-false window_ticks e.since above);
      none = λ z. omega (arith, ltb-false 0 e.since (other_fails with_none (eq-eqb e.edges 0 z)));
      debounce = ltb-false (debounce_of v) e.debounce most;
      low = λ z. omega (arith, ltb-false 0 e.debounce (other_fails with-low (eq-eqb e.door 0 z)));
      high_off_lem = λ o. omega (arith, ltb-false 0 e.edges (neither_left (ltb 0 e.edges) (ltb 0 e.since) (other_fails off (ap not o))));
      low_off_lem = λ o. omega (arith, ltb-false 0 e.debounce (other_fails low_off_lem (ap not o)));
    }

no_row : (v : ℕ) (e : Events) → EventsIn v e → EventRow v e → ⊥
no_row v e r (door_level h) = omega (arith, r.door)
no_row v e r (drum_level h) = omega (arith, r.drum)
no_row v e r (edges h) = omega (arith, r.edges)
no_row v e r (since h) = omega (arith, r.since)
no_row v e r (since_with_none z h) = omega (arith, r.none z)
no_row v e r (debounce h) = omega (arith, r.debounce)
no_row v e r (debounce_with_low z h) = omega (arith, r.low z)
no_row v e r (high_disabled o (inl h)) = omega (arith, r.high_off_lem o)
no_row v e r (high_disabled o (inr h)) = omega (arith, r.none (r.high_off_lem o))
no_row v e r (low_disabled o h) = omega (arith, r.low_off_lem o)

some_row : (v : ℕ) (e : Events) → events_out v e ≡ true → EventRow v e
unfolding events_out window_out debounce_out
some_row v e t =
    ⊎_elim
    (λ h.
    some_holds (window_tests v e) h (
      λ g. edges (leb-true (number_of v) e.edges g),
      (
        λ g. since (omega (arith, ltb-true window_ticks e.since g)),
        (
          λ g.
              since_with_none (eqb-true e.edges 0 (both_left (eqb e.edges 0) (ltb 0 e.since) g))
              (ltb-true 0 e.since (both_right (eqb e.edges 0) (ltb 0 e.since) g)),
          (
            λ g.
                let o = ltb 0 e.edges || ltb 0 e.since in
                high_disabled (not-true (even1 v) (both_left (not (even1 v)) o g))
                (⊎_elim (λ a. inl (ltb-true 0 e.edges a)) (λ a. inr (ltb-true 0 e.since a))
                (either (ltb 0 e.edges) (ltb 0 e.since) (both_right (not (even1 v)) o g))),
            tt,
          ),
        ),
      ),
    ))
    (λ h.
    some_holds (debounce_tests v e) h (
      λ g.
          ⊎_elim (λ a. door_level (ltb-true 1 e.door a)) (λ a. drum_level (ltb-true 1 e.drum a)) (either (ltb 1 e.door) (ltb 1 e.drum) g),
      (
        λ g. debounce (ltb-true (debounce_of v) e.debounce g),
        (
          λ g.
              debounce_with_low (eqb-true e.door 0 (both_left (eqb e.door 0) (ltb 0 e.debounce) g))
              (ltb-true 0 e.debounce (both_right (eqb e.door 0) (ltb 0 e.debounce) g)),
          (
            λ g.
                low_disabled (not-true (even0 v) (both_left (not (even0 v)) (ltb 0 e.debounce) g))
                (ltb-true 0 e.debounce (both_right (not (even0 v)) (ltb 0 e.debounce) g)),
            tt,
          ),
        ),
      ),
    ))
    (either (window_out v e) (debounce_out v e) t)

-- V14. Number 6 is given exactly where a row holds.
pub events_row : (v : ℕ) (e : Events) → (events_out v e ≡ true) ↔ EventRow v e
events_row v e = (some_row v e, λ r. by_cases (events_out v e) (λ t. t) (λ f. absurd (no_row v e (events_in v e f) r)))

pub events_out_lem : (v : ℕ) (e : Events) → EventsIn v e → events_out v e ≡ false
events_out_lem v e r = by_cases (events_out v e) (λ t. absurd (no_row v e r (some_row v e t))) (λ f. f)

-- The facts of a record in range, by input.
record HighIn (v edges since : ℕ) : Type 0 where
  below : edges < number_of v
  most : since ≤ 8192
  none : edges ≡ 0 → since ≡ 0
  off : even1 v ≡ false → edges ≡ 0

record LowIn (v level left : ℕ) : Type 0 where
  most : left ≤ debounce_of v
  low : level ≡ 0 → left ≡ 0
  off : even0 v ≡ false → left ≡ 0

high_of_lem : {v : ℕ} {e : Events} → EventsIn v e → HighIn v e.edges e.since
high_of_lem r = record { below = r.edges; most = r.since; none = r.none; off = r.high_off_lem }

low_of : {v : ℕ} {e : Events} → EventsIn v e → LowIn v e.door e.debounce
low_of r = record { most = r.debounce; low = r.low; off = r.low_off_lem }

joined : {v : ℕ} {e : Events} → e.door ≤ 1 → e.drum ≤ 1 → HighIn v e.edges e.since → LowIn v e.door e.debounce → EventsIn v e
joined d m h l =
    record {
      door = d;
      drum = m;
      edges = h.below;
      since = h.most;
      none = h.none;
      debounce = l.most;
      low = l.low;
      high_off_lem = h.off;
      low_off_lem = l.off;
    }

-- nothing counted is in range, and a byte with the same settings keeps what is
high_none : (v : ℕ) → HighIn v 0 0
high_none v = record { below = number_least v; most = omega arith; none = λ z. refl; off = λ o. refl }

low_none : (v level : ℕ) → LowIn v level 0
low_none v level = record { most = omega arith; low = λ z. refl; off = λ o. refl }

high_under : {v w edges since : ℕ} → Settings v w → HighIn v edges since → HighIn w edges since
high_under k h = record { below = omega (arith, k.number, h.below); most = h.most; none = h.none; off = λ o. h.off (sym k.high ∙ o) }

low_under : {v w level left : ℕ} → Settings v w → LowIn v level left → LowIn w level left
low_under k l = record { most = omega (arith, k.debounce, l.most); low = l.low; off = λ o. l.off (sym k.low ∙ o) }

-- V14. In range is kept.
abbrev pub InputsIn : Inputs → Type 0
InputsIn s = EventsIn s.control s.events

pub drum_in_lem : (counted : Bool) (level : ℕ) (s : Inputs) → level ≤ 1 → s.control < 256 → InputsIn s → InputsIn (drum_set counted level s)
unfolding drum_set
drum_in_lem counted level s l b r =
    let v : ℕ = s.control in
    let e : Events = s.events in
    pick_when InputsIn (rising e.drum level && counts_edge counted v)
    (λ t.
    let p = counts_parts counted v (both_right (rising e.drum level) (counts_edge counted v) t) in
    pick_when InputsIn (ltb (e.edges + 1) (number_of v))
    (λ h.
    joined r.door l
    (record { below = ltb-true (e.edges + 1) (number_of v) h; most = omega arith; none = λ z. absurd (omega arith); off = λ o. absurd (true_false p.0 o) })
    (low_of r))
    (λ h. joined r.door l (high_none (set_high v)) (low_under (high_settings v b) (low_of r))))
    (λ t. joined r.door l (high_of_lem r) (low_of r))

pub door_in_lem : (counted : Bool) (level : ℕ) (s : Inputs) → level ≤ 1 → InputsIn s → InputsIn (door_set counted level s)
unfolding door_set
door_in_lem counted level s l r =
    let v : ℕ = s.control in
    let e : Events = s.events in
    pick_when InputsIn (falling e.door level) (λ t. joined l r.drum (high_of_lem r) (low_none v level))
    (λ f.
    pick_when InputsIn (rising e.door level && low_runs counted v)
    (λ t.
    let p = low_parts counted v (both_right (rising e.door level) (low_runs counted v) t) in
    let q = rising_level e.door level (both_left (rising e.door level) (low_runs counted v) t) in
    let started : LowIn v level (debounce_of v) = record { most = omega arith; low = λ z. absurd (omega arith); off = λ o. absurd (true_false p.0 o) } in
    joined l r.drum (high_of_lem r) started)
    (λ t.
    let left : LowIn v level e.debounce =
    record { most = r.debounce; low = λ z. r.low (unfallen_low e.door level f z); off = r.low_off_lem } in
    joined l r.drum (high_of_lem r) left))

window_in : (counted : Bool) (s : Inputs) → InputsIn s → InputsIn (window_tick counted s)
window_in counted s r =
    let v : ℕ = s.control in
    let e : Events = s.events in
    pick_when InputsIn (window_runs counted s)
    (λ t.
    let n = ltb-true 0 e.edges (both_right (high_runs counted v) (ltb 0 e.edges) t) in
    pick_when InputsIn (ltb e.since window_ticks)
    (λ h.
    let more : HighIn v e.edges (e.since + 1) =
    record { below = r.edges; most = omega (arith, ltb-true e.since window_ticks h); none = λ z. absurd (omega arith); off = r.high_off_lem } in
    joined r.door r.drum more (low_of r))
    (λ h. joined r.door r.drum (high_none v) (low_of r)))
    (λ t. r)

debounce_in : (counted : Bool) (s : Inputs) → s.control < 256 → InputsIn s → InputsIn (debounce_tick counted s)
debounce_in counted s b r =
    let v : ℕ = s.control in
    let e : Events = s.events in
    pick_case InputsIn (debounce_runs counted s)
    (pick_case InputsIn (eqb e.debounce 1)
    (joined r.door r.drum (high_under (low_settings v b) (high_of_lem r)) (low_none (set_low v) e.door))
    (let less : LowIn v e.door (e.debounce - 1) =
    record { most = omega (arith, r.debounce); low = λ z. omega (arith, r.low z); off = λ o. omega (arith, r.low_off_lem o) } in
    joined r.door r.drum (high_of_lem r) less))
    r

pub tick_in : (counted : Bool) (s : Inputs) → s.control < 256 → InputsIn s → InputsIn (events_tick counted s)
unfolding events_tick
tick_in counted s b r =
    debounce_in counted (window_tick counted s)
    (pick_case (λ (t : Inputs). t.control < 256) (window_runs counted s)
    (pick_case (λ (t : Inputs). t.control < 256) (ltb s.events.since window_ticks) b b) b)
    (window_in counted s r)

-- a write of 0Bh makes the counts of any record right: only the levels must be
pub write_in : (v : ℕ) (s : Inputs) → s.events.door ≤ 1 → s.events.drum ≤ 1 → InputsIn (control_written v s)
unfolding control_written
write_in v s d e = joined d e (high_none v) (low_none v s.events.door)
