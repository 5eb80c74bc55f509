-- Ticks in which only the events' counts move: so many ticks are what the jump leaves, and the number of them is at most the limit.
-- Assumes nothing.
use Prim.Native.Nat.{ℕ, zero, suc, ◌+◌, ◌-◌, ◌<◌, ◌≤◌}
use native.Mathlib.Omega.{arith}
use mathlib.Core.Path.{◌≡◌, refl, sym, ap, ◌∙◌}
use mathlib.Core.Bool.{Bool, true, false}
use borrow.Author.Tests.{lt-ltb, le-leb, ltb-true, ne_eqb}
use lib.Dec.{ltb, leb, eqb}
use Rattle.base.specs.Words.{pick}
use Rattle.base.proofs.Tests.{by_cases, both_left, both_right, both_true, pick_case}
use Rattle.events.specs.declared.Inputs.{Inputs}
use Rattle.events.specs.Control.{window_ticks, low_runs}
use Rattle.events.specs.Tick.{window_runs, debounce_runs, events_tick}
use Rattle.events.specs.Jump.{events_ticks, window_quiet, events_quiet, raised_since, events_jumped}

-- k ticks ahead in which only counts move
pub record Quiet (counted : Bool) (k : ℕ) (s : Inputs) : Type 0 where
  pub window : window_runs counted s ≡ true → s.events.since + k ≤ window_ticks
  pub debounce : debounce_runs counted s ≡ true → k < s.events.debounce

-- the inputs with other ticks since and other ticks left
abbrev counts : Inputs → ℕ → ℕ → Inputs
counts s since left =
    record {
      events = record { door = s.events.door; drum = s.events.drum; edges = s.events.edges; since = since; debounce = left };
      control = s.control;
    }

counts_same : (s : Inputs) {a b c d : ℕ} → a ≡ b → c ≡ d → counts s a c ≡ counts s b d
counts_same s p q = λ i. counts s (p i) (q i)

raised_inside : (k since : ℕ) → since + k ≤ window_ticks → raised_since k since ≡ since + k
raised_inside k since h =
    ap (λ (b : Bool). pick b (since + k) since) (le-leb k (window_ticks - since) (omega arith))

-- the debounce runs on
runs_on : (counted : Bool) (k : ℕ) (s : Inputs) → Quiet counted (suc k) s → debounce_runs counted (events_jumped counted 1 s) ≡ debounce_runs counted s
unfolding events_jumped
runs_on counted k s q =
    by_cases (debounce_runs counted s)
    (λ t.
    let l : 0 < s.events.debounce - 1 = omega (arith, q.debounce t) in
    rw t (both_true (both_left (low_runs counted s.control) (ltb 0 s.events.debounce) t) (lt-ltb 0 (s.events.debounce - 1) l)))
    (λ f. rw f f)

pub quiet_tick : (counted : Bool) (k : ℕ) (s : Inputs) → Quiet counted (suc k) s → events_tick counted s ≡ events_jumped counted 1 s
unfolding events_tick events_jumped
quiet_tick counted k s q =
    by_cases (window_runs counted s)
    (λ w.
    let i : ltb s.events.since window_ticks ≡ true = lt-ltb s.events.since window_ticks (omega (arith, q.window w)) in
    let r : raised_since 1 s.events.since ≡ s.events.since + 1 = raised_inside 1 s.events.since (omega (arith, q.window w)) in
    by_cases (debounce_runs counted s)
    (λ t.
    let n : eqb s.events.debounce 1 ≡ false = ne_eqb s.events.debounce 1 (λ e. omega (arith, q.debounce t)) in
    rw (w, i, t, n) (counts_same s (sym r) refl))
    (λ t. rw (w, i, t) (counts_same s (sym r) refl)))
    (λ w.
    by_cases (debounce_runs counted s)
    (λ t.
    let n : eqb s.events.debounce 1 ≡ false = ne_eqb s.events.debounce 1 (λ e. omega (arith, q.debounce t)) in
    rw (w, t, n))
    (λ t. rw (w, t)))

pub quiet_less : (counted : Bool) (k : ℕ) (s : Inputs) → Quiet counted (suc k) s → Quiet counted k (events_jumped counted 1 s)
unfolding events_jumped
quiet_less counted k s q =
    record {
      window = λ w. rw w (omega (arith, q.window w, raised_inside 1 s.events.since (omega (arith, q.window w))));
      debounce =
          λ t.
          let g : debounce_runs counted s ≡ true = sym (runs_on counted k s q) ∙ t in
          rw g (omega (arith, q.debounce g));
    }

raised_none : (since : ℕ) → raised_since 0 since ≡ since
raised_none since = pick_case (λ (n : ℕ). n ≡ since) (leb 0 (window_ticks - since)) (omega arith) refl

pub jump_none : (counted : Bool) (s : Inputs) → events_jumped counted 0 s ≡ s
unfolding events_jumped
jump_none counted s =
    counts_same s {b = s.events.since} {d = s.events.debounce}
    (by_cases (window_runs counted s) (λ w. rw w (raised_none s.events.since)) (λ w. rw w))
    (by_cases (debounce_runs counted s) (λ t. rw t (omega arith)) (λ t. rw t))

pub jump_jump : (counted : Bool) (k : ℕ) (s : Inputs) → Quiet counted (suc k) s → events_jumped counted k (events_jumped counted 1 s) ≡ events_jumped counted (suc k) s
unfolding events_jumped
jump_jump counted k s q =
    counts_same s
    (by_cases (window_runs counted s)
    (λ w.
    let a : raised_since 1 s.events.since ≡ s.events.since + 1 = raised_inside 1 s.events.since (omega (arith, q.window w)) in
    rw w
    (ap (raised_since k) a ∙ raised_inside k (s.events.since + 1) (omega (arith, q.window w)) ∙ omega arith
    ∙ sym (raised_inside (suc k) s.events.since (q.window w))))
    (λ w. rw w))
    (ap (λ (b : Bool). pick b (pick (debounce_runs counted s) (s.events.debounce - 1) s.events.debounce - k) (pick (debounce_runs counted s) (s.events.debounce - 1) s.events.debounce))
    (runs_on counted k s q)
    ∙ by_cases (debounce_runs counted s) (λ t. rw t (omega arith)) (λ t. rw t))

-- So many ticks are the jump.
pub ticks_jump : (counted : Bool) (k : ℕ) (s : Inputs) → Quiet counted k s → events_ticks counted k s ≡ events_jumped counted k s
unfolding events_ticks
ticks_jump counted zero s q = sym (jump_none counted s)
ticks_jump counted (suc k) s q =
    ap (events_ticks counted k) (quiet_tick counted k s q) ∙ ticks_jump counted k (events_jumped counted 1 s) (quiet_less counted k s q)
    ∙ jump_jump counted k s q

-- The number of ticks ahead is such a number, where it is above 0, and at most the limit.
pub quiet_most : (counted : Bool) (limit : ℕ) (s : Inputs) → events_quiet counted limit s ≤ limit
unfolding events_quiet
quiet_most counted limit s =
    let w : window_quiet counted limit s ≤ limit = pick_case (λ (k : ℕ). k ≤ limit) (window_runs counted s) (omega arith) (omega arith) in
    pick_case (λ (k : ℕ). k ≤ limit) (debounce_runs counted s) (omega arith) w

pub quiet_window :
    (counted : Bool) (limit k : ℕ) (s : Inputs) → 0 < k → k ≤ events_quiet counted limit s → window_runs counted s ≡ true → s.events.since + k ≤ window_ticks
unfolding events_quiet
quiet_window counted limit k s p h w =
    let a : events_quiet counted limit s ≤ window_quiet counted limit s = pick_case (λ (n : ℕ). n ≤ window_quiet counted limit s) (debounce_runs counted s) (omega arith) (omega arith) in
    let g : k ≤ window_quiet counted limit s = omega (arith, a) in
    let b = rw w at g in omega arith

pub quiet_debounce :
    (counted : Bool) (limit k : ℕ) (s : Inputs) → k ≤ events_quiet counted limit s → debounce_runs counted s ≡ true → k < s.events.debounce
unfolding events_quiet
quiet_debounce counted limit k s h t =
    let b = rw t at h in
    omega (arith, ltb-true 0 s.events.debounce (both_right (low_runs counted s.control) (ltb 0 s.events.debounce) t))

pub quiet_jump :
    (counted : Bool) (limit k : ℕ) (s : Inputs) → 0 < k → k ≤ events_quiet counted limit s → events_ticks counted k s ≡ events_jumped counted k s
quiet_jump counted limit k s p h =
    ticks_jump counted k s (record { window = quiet_window counted limit k s p h; debounce = quiet_debounce counted limit k s h })
