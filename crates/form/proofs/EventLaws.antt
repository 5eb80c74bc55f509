-- The event inputs as numbers: those of inputs in range are good by the table, and good numbers are those of inputs in range. With it what 0Bh sets at most.
-- Assumes nothing.
use mathlib.Core.Path.{◌≡◌, refl, sym, ap, subst}
use mathlib.Core.Bool.{Bool, true, false, ◌&&◌, and-false}
use Prim.Native.Nat.{ℕ, suc, ◌%◌, ◌<◌, ◌≤◌}
use native.Mathlib.Omega.{arith}
use borrow.Author.Tests.{ltb-false, leb-true}
use lib.Dec.{ltb}
use lib.ListN.{get_or}
use Rattle.base.specs.Words.{pick, bit, every}
use Rattle.base.proofs.Tests.{by_cases, yes, no, pick_case, pick_when, true_false}
use Rattle.base.proofs.Every.{bound_below}
use Rattle.events.specs.declared.Events.{Events}
use Rattle.events.specs.Control.{even1, even0, numbers, number_of, debounce_of, window_ticks}
use Rattle.events.specs.Rows.{EventsIn}
use Rattle.events.proofs.ControlLaws.{number_least}
use Rattle.record.specs.Fresh.{fresh_events}
use Rattle.form.specs.Table.{edges_by, since_by, debounce_by}

-- what 0Bh sets at most
pub number_most : (v : ℕ) → number_of v ≤ 32
unfolding every
number_most v = within (bound_below (λ (k : ℕ). get_or numbers k 0) 33 4 refl (v % 4) (omega arith))
  where
    within : {n : ℕ} → n < 33 → n ≤ 32
    within h = omega (arith, h)

pub debounce_most : (v : ℕ) → debounce_of v ≤ 16384
debounce_most v = pick_case (λ (m : ℕ). m ≤ 16384) (bit v 2) (leb-true 16384 16384 refl) (leb-true 1024 16384 refl)

-- A limit that depends on a test: what it says of a number, both ways.
pub open_limit : (t : Bool) (n m : ℕ) → n < suc m → (t ≡ false → n ≡ 0) → n < pick t (suc m) 1
open_limit true n m h z = h
open_limit false n m h z = omega (arith, z refl)

pub limit_open : (t : Bool) (n m : ℕ) → n < pick t (suc m) 1 → (n ≤ m) × (t ≡ false → n ≡ 0)
limit_open true n m h = (omega (arith, h), λ e. absurd (true_false refl e))
limit_open false n m h = (omega (arith, h), λ e. omega (arith, h))

-- The event inputs in range, and their numbers by the limits of their rows.
either_none : (s t : Bool) {n : ℕ} → (s ≡ false → n ≡ 0) → (t ≡ false → n ≡ 0) → (s && t) ≡ false → n ≡ 0
either_none true t p q e = q e
either_none false t p q e = p refl

none_below : (n : ℕ) → ltb 0 n ≡ false → n ≡ 0
none_below n t = omega (arith, ltb-false 0 n t)

module _ (v : ℕ) (e : Events) where
  pub edges_within : EventsIn v e → e.edges < edges_by v
  edges_within r = pick_when (λ (m : ℕ). e.edges < m) (even1 v) (λ t. r.edges) (λ t. let z = r.high_off_lem t in omega (arith, z))

  pub since_within : EventsIn v e → e.since < since_by e.edges
  since_within r =
      open_limit (ltb 0 e.edges) e.since window_ticks (let h = r.since in omega (arith, h)) (λ t. r.none (none_below e.edges t))

  pub debounce_within : EventsIn v e → e.debounce < debounce_by v e.door
  debounce_within r =
      open_limit (even0 v && ltb 0 e.door) e.debounce (debounce_of v) (let h = r.debounce in omega (arith, h))
      (either_none (even0 v) (ltb 0 e.door) r.low_off_lem (λ t. r.low (none_below e.door t)))

  pub events_from :
      e.door < 2 → e.drum < 2 → e.edges < edges_by v → e.since < since_by e.edges → e.debounce < debounce_by v e.door → EventsIn v e
  events_from door drum edges since debounce =
      let s = limit_open (ltb 0 e.edges) e.since window_ticks since in
      let d = limit_open (even0 v && ltb 0 e.door) e.debounce (debounce_of v) debounce in
      record {
        door = omega (arith, door);
        drum = omega (arith, drum);
        edges = by_cases (even1 v) (λ t. subst (λ (m : ℕ). e.edges < m) (sym (yes (number_of v) 1 t)) edges) (λ t. few (shut t) (number_least v));
        since = s.0;
        none = λ z. s.1 (ap (ltb 0) z);
        debounce = d.0;
        low = λ z. d.1 (rw z (and-false (even0 v)));
        high_off_lem = λ t. nothing (shut t);
        low_off_lem = λ t. d.1 (rw t);
      }
    where
      shut : even1 v ≡ false → e.edges < 1
      shut t = subst (λ (m : ℕ). e.edges < m) (sym (no (number_of v) 1 t)) edges

      few : {n m : ℕ} → n < 1 → 0 < m → n < m
      few p q = omega (arith, p, q)

      nothing : {n : ℕ} → n < 1 → n ≡ 0
      nothing p = omega (arith, p)

-- inputs at 0 are in range, whatever 0Bh sets
pub still_in : (v : ℕ) → EventsIn v fresh_events
still_in v =
    record {
      door = omega arith;
      drum = omega arith;
      edges = number_least v;
      since = omega arith;
      none = λ e. refl;
      debounce = omega arith;
      low = λ e. refl;
      high_off_lem = λ t. refl;
      low_off_lem = λ t. refl;
    }
