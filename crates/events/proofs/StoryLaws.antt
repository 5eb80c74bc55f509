-- The claims over time from counts of 0: EVHIF is set exactly in the move that fills a window of the number set, EVLIF exactly in the last tick
-- of a steady debounce. BeginLaws has them from any record in range.
-- Assumes nothing.
use Prim.Native.Nat.{ℕ, ◌+◌, ◌-◌, ◌<◌, ◌≤◌}
use native.Mathlib.Omega.{arith}
use mathlib.Core.Path.{◌≡◌, refl, sym, ap, subst, ◌∙◌}
use mathlib.Core.Logic.{◌⊎◌, inl, inr, ⊎_elim, ◌↔◌}
use mathlib.Core.Bool.{Bool, true, false, not, ◌&&◌, ◌||◌, true≢false, false≢true}
use mathlib.Core.List.{List, [], ◌∷◌, ◌++◌, head-eq_of_cons-eq, tail-eq_of_cons-eq}
use borrow.Author.Tests.{lt-ltb, le-ltb, ltb-true, ltb-false, eqb-true, eqb-false, eq-eqb, ne_eqb, not-true}
use lib.Dec.{ltb, eqb}
use Rattle.base.specs.Words.{flag}
use Rattle.base.proofs.Tests.{by_cases, pick_case, pick_when, both_left, both_right, both_true, neither_left, neither_right, true_false}
use Rattle.events.specs.declared.Inputs.{Inputs}
use Rattle.events.specs.Control.{evhif, evlif, even1, even0, evwdt, number_of, debounce_of, window_ticks, low_runs}
use Rattle.events.specs.Pins.{rising, falling, counts_edge, drum_set, door_set, control_written}
use Rattle.events.specs.Tick.{window_tick, debounce_runs, events_tick}
use Rattle.events.specs.Story.{Move, Drum, Door, Tick, Write, moved, after, drum_in, door_in, drum_after, door_after, is_low, went_up, drum_rise, door_rise, door_fall, ticking, writing, rises, ticks, fell, written, Closed, none, still, beyond, Window, Steady, HighReady, LowReady}
pub use Rattle.events.specs.Story.{Allowed, Each, drum, door, tick, write, end, more}
use Rattle.events.proofs.ControlLaws.{number_least, debounce_least, counts_parts, low_parts}
use Rattle.events.proofs.RangeLaws.{InputsIn, drum_in_lem, door_in_lem, tick_in, write_in}
use Rattle.events.proofs.MoveLaws.{High, high_of, high_next, Low, low_of, low_next, high_step, low_step, high_before, low_before, drum_after_lem, door_after_lem, leaves, door_high, drum_low, debounce_high, window_control}

-- a tick is no rise; a rise is no tick
tick_no_rise : (level : ℕ) (m : Move) → ticking m ≡ true → drum_rise level m ≡ false
tick_no_rise level (Drum counted new) t = absurd (false≢true t)
tick_no_rise level (Door counted new) t = refl
tick_no_rise level (Tick counted) t = refl
tick_no_rise level (Write v) t = refl

rise_no_tick : (level : ℕ) (m : Move) → drum_rise level m ≡ true → ticking m ≡ false
rise_no_tick level (Drum counted new) r = refl
rise_no_tick level (Door counted new) r = refl
rise_no_tick level (Tick counted) r = absurd (false≢true r)
rise_no_tick level (Write v) r = refl

-- levels and writes over a list of two parts
drum_join : (level : ℕ) (x y : List Move) → drum_after level (x ++ y) ≡ drum_after (drum_after level y) x
unfolding drum_after
drum_join level [] y = refl
drum_join level (m ∷ x) y = ap (λ (l : ℕ). drum_in l m) (drum_join level x y)

written_rest : (x y : List Move) → written (x ++ y) ≡ false → written y ≡ false
unfolding written
written_rest [] y w = w
written_rest (m ∷ x) y w = written_rest x y (neither_left (written (x ++ y)) (writing m) w)

pub written_less : (m : Move) (past : List Move) → written (m ∷ past) ≡ false → written past ≡ false
unfolding written
written_less m past w = neither_left (written past) (writing m) w

high_rest :
    (s : Inputs) → s.control < 256 → (x y : List Move) → written (x ++ y) ≡ false → evhif (after s (x ++ y)).control ≡ false
    → evhif (after s y).control ≡ false
high_rest s b [] y w f = f
high_rest s b (m ∷ x) y w f = high_rest s b x y (written_less m (x ++ y) w) (high_before s m (x ++ y) w b f)

-- counts
rises_more : (level : ℕ) (m : Move) (past : List Move) → rises level (m ∷ past) ≡ rises level past + flag (drum_rise (drum_after level past) m)
unfolding rises
rises_more level m past = refl

rises_none : (level : ℕ) → rises level [] ≡ 0
unfolding rises
rises_none level = refl

ticks_more : (m : Move) (past : List Move) → ticks (m ∷ past) ≡ ticks past + flag (ticking m)
unfolding ticks
ticks_more m past = refl

ticks_none : ticks [] ≡ 0
unfolding ticks
ticks_none = refl

-- What the chip's half of EVHS is where no window is open, and in an open one.
pub record Shut (s : Inputs) (past : List Move) : Type 0 where
  pub edges : (high_of (after s past)).edges ≡ 0
  pub since : (high_of (after s past)).since ≡ 0

pub record Open (s : Inputs) (later : List Move) (first : Move) (earlier : List Move) : Type 0 where
  pub edges : (high_of (after s (later ++ (first ∷ earlier)))).edges ≡ rises (drum_after s.events.drum (first ∷ earlier)) later + 1
  pub since : (high_of (after s (later ++ (first ∷ earlier)))).since ≡ ticks later
  pub below : (high_of (after s (later ++ (first ∷ earlier)))).edges < number_of s.control

-- one move over plain halves
next_first :
    (n : ℕ) (ticked : Bool) (h g : High) → g ≡ high_next n true ticked h → g.flagged ≡ false
    → (g.edges ≡ h.edges + 1) × (g.since ≡ h.since) × (g.edges < n)
next_first n ticked h g e f =
    by_cases (ltb (h.edges + 1) n)
    (λ l.
    let q : g ≡ record { edges = h.edges + 1; since = h.since; flagged = h.flagged } = rw l at e in
    rw q (refl, refl, ltb-true (h.edges + 1) n l))
    (λ l.
    let q : g ≡ record { edges = 0; since = 0; flagged = true } = rw l at e in
    absurd (true_false (ap (λ (x : High). x.flagged) q) f))

next_fills : (n : ℕ) (ticked : Bool) (h g : High) → g ≡ high_next n true ticked h → n ≤ h.edges + 1 → g.flagged ≡ true
next_fills n ticked h g e l =
    let q : g ≡ record { edges = 0; since = 0; flagged = true } = rw (le-ltb (h.edges + 1) n l) at e in
    ap (λ (x : High). x.flagged) q

next_filled : (n : ℕ) (ticked : Bool) (h g : High) → g ≡ high_next n true ticked h → h.flagged ≡ false → g.flagged ≡ true → n ≤ h.edges + 1
next_filled n ticked h g e f t =
    by_cases (ltb (h.edges + 1) n)
    (λ l.
    let q : g ≡ record { edges = h.edges + 1; since = h.since; flagged = h.flagged } = rw l at e in
    absurd (true_false (sym (ap (λ (x : High). x.flagged) q) ∙ t) f))
    (λ l. ltb-false (h.edges + 1) n l)

next_flag : (n : ℕ) (ticked : Bool) (h g : High) → g ≡ high_next n false ticked h → g.flagged ≡ h.flagged
next_flag n ticked h g e =
    ap (λ (x : High). x.flagged) e
    ∙ pick_case (λ (x : High). x.flagged ≡ h.flagged) (ticked && ltb 0 h.edges)
    (pick_case (λ (x : High). x.flagged ≡ h.flagged) (ltb h.since window_ticks) refl refl) refl

next_empty : (n : ℕ) (ticked : Bool) (h g : High) → g ≡ high_next n false ticked h → h.edges ≡ 0 → g ≡ h
next_empty n true h g e z = rw (le-ltb 0 h.edges (omega arith)) at e
next_empty n false h g e z = e

next_inside :
    (n : ℕ) (h g : High) → g ≡ high_next n false true h → 0 < h.edges → h.since < 8192 → (g.edges ≡ h.edges) × (g.since ≡ h.since + 1)
next_inside n h g e p l =
    let q : g ≡ record { edges = h.edges; since = h.since + 1; flagged = h.flagged } = rw (lt-ltb 0 h.edges p, lt-ltb h.since window_ticks l) at e in
    (ap (λ (x : High). x.edges) q, ap (λ (x : High). x.since) q)

next_beyond : (n : ℕ) (h g : High) → g ≡ high_next n false true h → 0 < h.edges → 8192 ≤ h.since → (g.edges ≡ 0) × (g.since ≡ 0)
next_beyond n h g e p l =
    let q : g ≡ record { edges = 0; since = 0; flagged = h.flagged } = rw (lt-ltb 0 h.edges p, le-ltb h.since window_ticks l) at e in
    (ap (λ (x : High). x.edges) q, ap (λ (x : High). x.since) q)

-- a stretch: ready at its start, 0Bh unwritten, the flag clear at its end
pub record Stretch (s : Inputs) (past : List Move) : Type 0 where
  pub ready : HighReady s
  pub kept : written past ≡ false
  pub clear : evhif (after s past).control ≡ false

stretch_less : {s : Inputs} {m : Move} {past : List Move} → Stretch s (m ∷ past) → Stretch s past
stretch_less {s} {m} {past} t =
    record { ready = t.ready; kept = written_less m past t.kept; clear = high_before s m past t.kept t.ready.byte t.clear }

stretch_rest : {s : Inputs} (x y : List Move) → Stretch s (x ++ y) → Stretch s y
stretch_rest {s} x y t =
    record { ready = t.ready; kept = written_rest x y t.kept; clear = high_rest s t.ready.byte x y t.kept t.clear }

-- the move after a stretch
stretch_step :
    {s : Inputs} (m : Move) {past : List Move} → Stretch s past → written (m ∷ past) ≡ false
    → high_of (after s (m ∷ past)) ≡ high_next (number_of s.control) (drum_rise (drum_after s.events.drum past) m) (ticking m) (high_of (after s past))
stretch_step {s} m {past} t w = high_step s m past w t.ready.byte t.ready.enabled t.ready.event t.clear

open-first :
    (s : Inputs) (first : Move) (earlier : List Move) → Shut s earlier → drum_rise (drum_after s.events.drum earlier) first ≡ true
    → Stretch s (first ∷ earlier) → Open s [] first earlier
open-first s first earlier z r t =
    let e = rw r at (stretch_step first (stretch_less t) t.kept) in
    let p = next_first (number_of s.control) (ticking first) (high_of (after s earlier)) (high_of (after s (first ∷ earlier))) e t.clear in
    record {
      edges = omega (arith, p.0, z.edges, rises_none (drum_after s.events.drum (first ∷ earlier)));
      since = omega (arith, p.1, z.since, ticks_none);
      below = p.2;
    }

open_more :
    (s : Inputs) (m : Move) (later : List Move) (first : Move) (earlier : List Move) → Open s later first earlier → ticks (m ∷ later) ≤ 8192
    → Stretch s (m ∷ (later ++ (first ∷ earlier))) → Open s (m ∷ later) first earlier
open_more s m later first earlier o l t =
    let d : ℕ = drum_after s.events.drum (first ∷ earlier) in
    let past : List Move = later ++ (first ∷ earlier) in
    let h : High = high_of (after s past) in
    let g : High = high_of (after s (m ∷ past)) in
    let n : ℕ = number_of s.control in
    let e0 = stretch_step m (stretch_less t) t.kept in
    let e : g ≡ high_next n (drum_rise (drum_after d later) m) (ticking m) h = rw (drum_join s.events.drum later (first ∷ earlier)) at e0 in
    let i = rises_more d m later in
    let j = ticks_more m later in
    by_cases (drum_rise (drum_after d later) m)
    (λ r.
    let p = next_first n (ticking m) h g (rw r at e) t.clear in
    let i1 : rises d (m ∷ later) ≡ rises d later + 1 = rw r at i in
    let j1 : ticks (m ∷ later) ≡ ticks later + 0 = rw (rise_no_tick (drum_after d later) m r) at j in
    record { edges = omega (arith, p.0, o.edges, i1); since = omega (arith, p.1, o.since, j1); below = p.2 })
    (λ r.
    let i0 : rises d (m ∷ later) ≡ rises d later + 0 = rw r at i in
    by_cases (ticking m)
    (λ k.
    let j1 : ticks (m ∷ later) ≡ ticks later + 1 = rw k at j in
    let p = next_inside n h g (rw (r, k) at e) (omega (arith, o.edges)) (omega (arith, o.since)) in
    record { edges = omega (arith, p.0, o.edges, i0); since = omega (arith, p.1, o.since, j1); below = omega (arith, p.0, o.below) })
    (λ k.
    let j0 : ticks (m ∷ later) ≡ ticks later + 0 = rw k at j in
    let q : g ≡ h = rw (r, k) at e in
    let a = ap (λ (x : High). x.edges) q in
    let b = ap (λ (x : High). x.since) q in
    record { edges = omega (arith, a, o.edges, i0); since = omega (arith, b, o.since, j0); below = omega (arith, a, o.below) }))

ticks_less : (m : Move) (later : List Move) → ticks later ≤ ticks (m ∷ later)
ticks_less m later = omega (arith, ticks_more m later)

open-state :
    (s : Inputs) (later : List Move) (first : Move) (earlier : List Move) → Shut s earlier
    → drum_rise (drum_after s.events.drum earlier) first ≡ true → ticks later ≤ 8192 → Stretch s (later ++ (first ∷ earlier)) → Open s later first earlier
open-state s [] first earlier z r l t = open-first s first earlier z r t
open-state s (m ∷ later) first earlier z r l t =
    open_more s m later first earlier (open-state s later first earlier z r (omega (arith, ticks_less m later)) (stretch_less t)) l t

closed_state : (s : Inputs) (past : List Move) → Closed s.events.drum past → Stretch s past → Shut s past
unfolding after
closed_state s past none t = record { edges = t.ready.edges; since = t.ready.since }
closed_state s past (still {m = m} {past = rest} c r) t =
    let z = closed_state s rest c (stretch_less t) in
    let e = rw r at (stretch_step m (stretch_less t) t.kept) in
    let q = next_empty (number_of s.control) (ticking m) (high_of (after s rest)) (high_of (after s (m ∷ rest))) e z.edges in
    record { edges = ap (λ (x : High). x.edges) q ∙ z.edges; since = ap (λ (x : High). x.since) q ∙ z.since }
closed_state s past (beyond {m = m} first later earlier c r n k) t =
    let rest : List Move = later ++ (first ∷ earlier) in
    let u = stretch_less t in
    let z = closed_state s earlier c (stretch_less (stretch_rest later (first ∷ earlier) u)) in
    let o = open-state s later first earlier z r (omega (arith, n)) u in
    let e = rw (tick_no_rise (drum_after s.events.drum rest) m k, k) at (stretch_step m u t.kept) in
    let p = next_beyond (number_of s.control) (high_of (after s rest)) (high_of (after s (m ∷ rest))) e (omega (arith, o.edges)) (omega (arith, o.since, n)) in
    record { edges = p.0; since = p.1 }

-- After any moves either no window is open or one is.
rise_ticks : (level : ℕ) (m : Move) (later : List Move) → drum_rise level m ≡ true → ticks (m ∷ later) ≡ ticks later
rise_ticks level m later r =
    let j : ticks (m ∷ later) ≡ ticks later + 0 = rw (rise_no_tick level m r) at (ticks_more m later) in
    omega arith

phase : (level : ℕ) (past : List Move) → Closed level past ⊎ ((n : ℕ) × Window level n past)
phase level [] = inl none
phase level (m ∷ past) =
    ⊎_elim
    (λ c.
    by_cases (drum_rise (drum_after level past) m)
    (λ r.
    inr (1, record { later = []; first = m; earlier = past; whole = refl; opened = c; rose = r; count = omega (arith, rises_none (drum_after level (m ∷ past))); within = omega (arith, ticks_none) }))
    (λ r. inl (still c r)))
    (λ p.
    let w = p.1 in
    let longer : ticks (m ∷ w.later) ≤ 8192 → (n : ℕ) × Window level n (m ∷ past) =
    λ l. (
      rises (drum_after level (w.first ∷ w.earlier)) (m ∷ w.later) + 1,
      record { later = m ∷ w.later; first = w.first; earlier = w.earlier; whole = ap (λ (x : List Move). m ∷ x) w.whole; opened = w.opened; rose = w.rose; count = refl; within = l },
    ) in
    by_cases (ticking m)
    (λ k.
    let j : ticks (m ∷ w.later) ≡ ticks w.later + 1 = rw k at (ticks_more m w.later) in
    by_cases (eqb (ticks w.later) 8192)
    (λ q.
    inl (subst (λ (x : List Move). Closed level (m ∷ x)) (sym w.whole)
    (beyond w.first w.later w.earlier w.opened w.rose (eqb-true (ticks w.later) 8192 q) k)))
    (λ q. inr (longer (omega (arith, j, w.within, eqb-false (ticks w.later) 8192 q)))))
    (λ k.
    let j : ticks (m ∷ w.later) ≡ ticks w.later + 0 = rw k at (ticks_more m w.later) in
    inr (longer (omega (arith, j, w.within)))))
    (phase level past)

-- the flag comes with a window filled
filled_closed :
    (s : Inputs) (m : Move) (past : List Move) → Stretch s past → written (m ∷ past) ≡ false → Closed s.events.drum past
    → evhif (after s (m ∷ past)).control ≡ true → Window s.events.drum (number_of s.control) (m ∷ past)
filled_closed s m past t w c f =
    let n : ℕ = number_of s.control in
    let h : High = high_of (after s past) in
    let g : High = high_of (after s (m ∷ past)) in
    let z = closed_state s past c t in
    let e = stretch_step m t w in
    by_cases (drum_rise (drum_after s.events.drum past) m)
    (λ r.
    let l = next_filled n (ticking m) h g (rw r at e) t.clear f in
    record {
      later = [];
      first = m;
      earlier = past;
      whole = refl;
      opened = c;
      rose = r;
      count = omega (arith, rises_none (drum_after s.events.drum (m ∷ past)), l, z.edges, number_least s.control);
      within = omega (arith, ticks_none);
    })
    (λ r. absurd (true_false (sym (next_flag n (ticking m) h g (rw r at e)) ∙ f) t.clear))

filled_open :
    (s : Inputs) (m : Move) (later : List Move) (first : Move) (earlier : List Move) → Stretch s (later ++ (first ∷ earlier))
    → written (m ∷ (later ++ (first ∷ earlier))) ≡ false → Closed s.events.drum earlier → drum_rise (drum_after s.events.drum earlier) first ≡ true
    → ticks later ≤ 8192 → evhif (after s (m ∷ (later ++ (first ∷ earlier)))).control ≡ true
    → Window s.events.drum (number_of s.control) (m ∷ (later ++ (first ∷ earlier)))
filled_open s m later first earlier t w c a l f =
    let n : ℕ = number_of s.control in
    let past : List Move = later ++ (first ∷ earlier) in
    let d : ℕ = drum_after s.events.drum (first ∷ earlier) in
    let h : High = high_of (after s past) in
    let g : High = high_of (after s (m ∷ past)) in
    let z = closed_state s earlier c (stretch_less (stretch_rest later (first ∷ earlier) t)) in
    let o = open-state s later first earlier z a l t in
    let e : g ≡ high_next n (drum_rise (drum_after d later) m) (ticking m) h = rw (drum_join s.events.drum later (first ∷ earlier)) at (stretch_step m t w) in
    by_cases (drum_rise (drum_after d later) m)
    (λ r.
    let b = next_filled n (ticking m) h g (rw r at e) t.clear f in
    let i : rises d (m ∷ later) ≡ rises d later + 1 = rw r at (rises_more d m later) in
    record {
      later = m ∷ later;
      first = first;
      earlier = earlier;
      whole = refl;
      opened = c;
      rose = a;
      count = omega (arith, b, i, o.edges, o.below);
      within = omega (arith, l, rise_ticks (drum_after d later) m later r);
    })
    (λ r. absurd (true_false (sym (next_flag n (ticking m) h g (rw r at e)) ∙ f) t.clear))

high_filled :
    (s : Inputs) (m : Move) (past : List Move) → Stretch s past → written (m ∷ past) ≡ false
    → evhif (after s (m ∷ past)).control ≡ true → Window s.events.drum (number_of s.control) (m ∷ past)
high_filled s m past t w f =
    ⊎_elim (λ c. filled_closed s m past t w c f)
    (λ p.
    let v = p.1 in
    let e = v.whole in
    rw e (filled_open s m v.later v.first v.earlier (rw e at t) (rw e at w) v.opened v.rose v.within (rw e at f)))
    (phase s.events.drum past)

-- a window filled brings the flag
window_flags :
    (s : Inputs) (m : Move) (past : List Move) → Stretch s past → written (m ∷ past) ≡ false
    → (later : List Move) (first : Move) (earlier : List Move) → m ∷ past ≡ later ++ (first ∷ earlier) → Closed s.events.drum earlier
    → drum_rise (drum_after s.events.drum earlier) first ≡ true
    → rises (drum_after s.events.drum (first ∷ earlier)) later + 1 ≡ number_of s.control → ticks later ≤ 8192
    → evhif (after s (m ∷ past)).control ≡ true
window_flags s m past t w [] first earlier e c a n l =
    let p : past ≡ earlier = tail-eq_of_cons-eq e in
    let q : m ≡ first = head-eq_of_cons-eq e in
    let z = closed_state s past (rw (sym p) at c) t in
    let r : drum_rise (drum_after s.events.drum past) m ≡ true = rw (p, q) a in
    next_fills (number_of s.control) (ticking m) (high_of (after s past)) (high_of (after s (m ∷ past))) (rw r at (stretch_step m t w))
    (omega (arith, n, z.edges, rises_none (drum_after s.events.drum (first ∷ earlier))))
window_flags s m past t w (x ∷ later) first earlier e c a n l =
    let p : past ≡ later ++ (first ∷ earlier) = tail-eq_of_cons-eq e in
    let q : m ≡ x = head-eq_of_cons-eq e in
    let d : ℕ = drum_after s.events.drum (first ∷ earlier) in
    let u : Stretch s (later ++ (first ∷ earlier)) = rw p at t in
    let z = closed_state s earlier c (stretch_less (stretch_rest later (first ∷ earlier) u)) in
    let o = open-state s later first earlier z a (omega (arith, l, ticks_less x later)) u in
    let oe : (high_of (after s past)).edges ≡ rises d later + 1 = rw p o.edges in
    let ob : (high_of (after s past)).edges < number_of s.control = rw p o.below in
    let g : drum_after s.events.drum past ≡ drum_after d later = ap (drum_after s.events.drum) p ∙ drum_join s.events.drum later (first ∷ earlier) in
    let i : rises d (x ∷ later) ≡ rises d later + flag (drum_rise (drum_after s.events.drum past) m) = rw (g, q) (rises_more d x later) in
    by_cases (drum_rise (drum_after s.events.drum past) m)
    (λ r.
    let i1 : rises d (x ∷ later) ≡ rises d later + 1 = rw r at i in
    next_fills (number_of s.control) (ticking m) (high_of (after s past)) (high_of (after s (m ∷ past))) (rw r at (stretch_step m t w))
    (omega (arith, n, oe, i1)))
    (λ r.
    let i0 : rises d (x ∷ later) ≡ rises d later + 0 = rw r at i in
    absurd (omega (arith, n, oe, ob, i0)))

-- V15. The claim for EVHS, from where 0Bh enables it and nothing is counted: while 0Bh is not written and EVHIF is clear, the next move sets EVHIF
-- exactly if it fills a window of the number of edges set.
pub high_exact_lem :
    (s : Inputs) (m : Move) (past : List Move) → HighReady s → written (m ∷ past) ≡ false → evhif (after s past).control ≡ false
    → (evhif (after s (m ∷ past)).control ≡ true) ↔ Window s.events.drum (number_of s.control) (m ∷ past)
high_exact_lem s m past ready w f =
    let t : Stretch s past = record { ready = ready; kept = written_less m past w; clear = f } in (
      high_filled s m past t w,
      λ v. window_flags s m past t w v.later v.first v.earlier v.whole v.opened v.rose v.count v.within,
    )

-- EVLS: edges and levels
rise_no_fall : (level : ℕ) (m : Move) → door_rise level m ≡ true → door_fall level m ≡ false
rise_no_fall level (Drum counted new) r = refl
rise_no_fall level (Door counted new) r = rw (both_left (is_low level) (not (is_low new)) (both_left (went_up level new) counted r))
rise_no_fall level (Tick counted) r = refl
rise_no_fall level (Write v) r = refl

rise_level : (level : ℕ) (m : Move) → door_rise level m ≡ true → 0 < door_in level m
rise_level level (Drum counted new) r = absurd (false≢true r)
rise_level level (Door counted new) r =
    let z = not-true (is_low new) (both_right (is_low level) (not (is_low new)) (both_left (went_up level new) counted r)) in
    omega (arith, eqb-false new 0 z)
rise_level level (Tick counted) r = absurd (false≢true r)
rise_level level (Write v) r = absurd (false≢true r)

stay_level : (level : ℕ) (m : Move) → 0 < level → door_fall level m ≡ false → 0 < door_in level m
stay_level level (Drum counted new) p f = p
stay_level level (Door counted new) p f =
    let n : eqb new 0 ≡ false = rw (ne_eqb level 0 (λ e. omega arith)) at f in
    omega (arith, eqb-false new 0 n)
stay_level level (Tick counted) p f = p
stay_level level (Write v) p f = p

high_no_rise : (level : ℕ) (m : Move) → 0 < level → door_rise level m ≡ false
high_no_rise level (Drum counted new) p = refl
high_no_rise level (Door counted new) p = rw (ne_eqb level 0 (λ e. omega arith))
high_no_rise level (Tick counted) p = refl
high_no_rise level (Write v) p = refl

door_join : (level : ℕ) (x y : List Move) → door_after level (x ++ y) ≡ door_after (door_after level y) x
unfolding door_after
door_join level [] y = refl
door_join level (m ∷ x) y = ap (λ (l : ℕ). door_in l m) (door_join level x y)

door_more : (level : ℕ) (m : Move) (past : List Move) → door_after level (m ∷ past) ≡ door_in (door_after level past) m
unfolding door_after
door_more level m past = refl

fell_none : (level : ℕ) → fell level [] ≡ false
unfolding fell
fell_none level = refl

fell_more : (level : ℕ) (m : Move) (past : List Move) → fell level (m ∷ past) ≡ (fell level past || door_fall (door_after level past) m)
unfolding fell
fell_more level m past = refl

held_before : (level : ℕ) (m : Move) (past : List Move) → fell level (m ∷ past) ≡ false → fell level past ≡ false
held_before level m past f = neither_left (fell level past) (door_fall (door_after level past) m) (sym (fell_more level m past) ∙ f)

held_now : (level : ℕ) (m : Move) (past : List Move) → fell level (m ∷ past) ≡ false → door_fall (door_after level past) m ≡ false
held_now level m past f = neither_right (fell level past) (door_fall (door_after level past) m) (sym (fell_more level m past) ∙ f)

held_level : (level : ℕ) → 0 < level → (past : List Move) → fell level past ≡ false → 0 < door_after level past
unfolding door_after
held_level level p [] f = p
held_level level p (m ∷ past) f = stay_level (door_after level past) m (held_level level p past (held_before level m past f)) (held_now level m past f)

-- one move over plain halves
low_rises : (n : ℕ) (ticked : Bool) (h g : Low) → g ≡ low_next n false true ticked h → g.left ≡ n
low_rises n ticked h g e = ap (λ (x : Low). x.left) e

low_falls : (n : ℕ) (rise ticked : Bool) (h g : Low) → g ≡ low_next n true rise ticked h → g.left ≡ 0
low_falls n rise ticked h g e = ap (λ (x : Low). x.left) e

low_rests : (n : ℕ) (ticked : Bool) (h g : Low) → g ≡ low_next n false false ticked h → h.left ≡ 0 → g.left ≡ 0
low_rests n true h g e z = let q : g ≡ h = rw (le-ltb 0 h.left (omega arith)) at e in ap (λ (x : Low). x.left) q ∙ z
low_rests n false h g e z = ap (λ (x : Low). x.left) e ∙ z

low_last : (n : ℕ) (h g : Low) → g ≡ low_next n false false true h → h.left ≡ 1 → g.flagged ≡ true
low_last n h g e z =
    let q : g ≡ record { left = 0; flagged = true } = rw (lt-ltb 0 h.left (omega arith), eq-eqb h.left 1 z) at e in
    ap (λ (x : Low). x.flagged) q

low_ticks : (n : ℕ) (h g : Low) → g ≡ low_next n false false true h → 1 < h.left → g.left ≡ h.left - 1
low_ticks n h g e p =
    let q : g ≡ record { left = h.left - 1; flagged = h.flagged } = rw (lt-ltb 0 h.left (omega arith), ne_eqb h.left 1 (λ z. omega arith)) at e in
    ap (λ (x : Low). x.left) q

low_cause :
    (n : ℕ) (fall rise ticked : Bool) (h g : Low) → g ≡ low_next n fall rise ticked h → h.flagged ≡ false → g.flagged ≡ true
    → (fall ≡ false) × (ticked ≡ true) × (h.left ≡ 1)
low_cause n true rise ticked h g e f t = absurd (true_false (sym (ap (λ (x : Low). x.flagged) e) ∙ t) f)
low_cause n false true ticked h g e f t = absurd (true_false (sym (ap (λ (x : Low). x.flagged) e) ∙ t) f)
low_cause n false false false h g e f t = absurd (true_false (sym (ap (λ (x : Low). x.flagged) e) ∙ t) f)
low_cause n false false true h g e f t =
    by_cases (ltb 0 h.left)
    (λ p.
    by_cases (eqb h.left 1) (λ z. (refl, refl, eqb-true h.left 1 z))
    (λ z.
    let q : g ≡ record { left = h.left - 1; flagged = h.flagged } = rw (p, z) at e in
    absurd (true_false (sym (ap (λ (x : Low). x.flagged) q) ∙ t) f)))
    (λ p.
    let q : g ≡ h = rw p at e in
    absurd (true_false (sym (ap (λ (x : Low). x.flagged) q) ∙ t) f))

pub record Calm (s : Inputs) (past : List Move) : Type 0 where
  pub ready : LowReady s
  pub kept : written past ≡ false
  pub clear : evlif (after s past).control ≡ false

calm_less : {s : Inputs} {m : Move} {past : List Move} → Calm s (m ∷ past) → Calm s past
calm_less {s} {m} {past} t =
    record { ready = t.ready; kept = written_less m past t.kept; clear = low_before s m past t.kept t.ready.byte t.clear }

calm_step :
    {s : Inputs} (m : Move) {past : List Move} → Calm s past → written (m ∷ past) ≡ false
    → low_of (after s (m ∷ past))
    ≡ low_next (debounce_of s.control) (door_fall (door_after s.events.door past) m) (door_rise (door_after s.events.door past) m) (ticking m) (low_of (after s past))
calm_step {s} m {past} t w = low_step s m past w t.ready.byte t.ready.enabled t.clear

-- the chip's half of EVLS since a rise with no fall
pub record Running (s : Inputs) (later past : List Move) : Type 0 where
  pub left : (low_of (after s past)).left ≡ debounce_of s.control - ticks later
  pub below : ticks later < debounce_of s.control

run_first :
    (s : Inputs) (first : Move) (earlier : List Move) → door_rise (door_after s.events.door earlier) first ≡ true → Calm s (first ∷ earlier)
    → Running s [] (first ∷ earlier)
run_first s first earlier r t =
    let n : ℕ = debounce_of s.control in
    let l : ℕ = door_after s.events.door earlier in
    let e = rw (rise_no_fall l first r, r) at (calm_step first (calm_less t) t.kept) in
    let p = low_rises n (ticking first) (low_of (after s earlier)) (low_of (after s (first ∷ earlier))) e in
    record { left = omega (arith, p, ticks_none); below = omega (arith, ticks_none, debounce_least s.control) }

run_more :
    (s : Inputs) (m : Move) (later past : List Move) → door_fall (door_after s.events.door past) m ≡ false → 0 < door_after s.events.door past
    → Running s later past → Calm s (m ∷ past) → Running s (m ∷ later) (m ∷ past)
run_more s m later past f p o t =
    let n : ℕ = debounce_of s.control in
    let h : Low = low_of (after s past) in
    let g : Low = low_of (after s (m ∷ past)) in
    let e : g ≡ low_next n false false (ticking m) h = rw (f, high_no_rise (door_after s.events.door past) m p) at (calm_step m (calm_less t) t.kept) in
    by_cases (ticking m)
    (λ k.
    let j : ticks (m ∷ later) ≡ ticks later + 1 = rw k at (ticks_more m later) in
    by_cases (eqb h.left 1)
    (λ z. absurd (true_false (low_last n h g (rw k at e) (eqb-true h.left 1 z)) t.clear))
    (λ z.
    let u : 1 < h.left = omega (arith, o.left, o.below, eqb-false h.left 1 z) in
    let q = low_ticks n h g (rw k at e) u in
    record { left = omega (arith, q, j, o.left, o.below); below = omega (arith, j, o.left, o.below, u) }))
    (λ k.
    let j : ticks (m ∷ later) ≡ ticks later + 0 = rw k at (ticks_more m later) in
    let q : g ≡ h = rw k at e in
    record { left = omega (arith, ap (λ (x : Low). x.left) q, j, o.left); below = omega (arith, j, o.below) })

run_state :
    (s : Inputs) (later : List Move) (first : Move) (earlier : List Move) → door_rise (door_after s.events.door earlier) first ≡ true
    → fell (door_after s.events.door (first ∷ earlier)) later ≡ false → Calm s (later ++ (first ∷ earlier)) → Running s later (later ++ (first ∷ earlier))
run_state s [] first earlier r f t = run_first s first earlier r t
run_state s (m ∷ later) first earlier r f t =
    let d : ℕ = door_after s.events.door (first ∷ earlier) in
    let up : 0 < d = rw (door_more s.events.door first earlier) (rise_level (door_after s.events.door earlier) first r) in
    let g = door_join s.events.door later (first ∷ earlier) in
    let b = held_before d m later f in
    run_more s m later (later ++ (first ∷ earlier)) (rw g (held_now d m later f)) (rw g (held_level d up later b)) (run_state s later first earlier r b (calm_less t)) t

-- after any moves the debounce rests, or there was a rise with no fall since
rest_or_run :
    (s : Inputs) (past : List Move) → Calm s past → ((low_of (after s past)).left ≡ 0) ⊎ Steady s.events.door (debounce_of s.control - (low_of (after s past)).left) past
unfolding after
rest_or_run s [] t = inl t.ready.debounce
rest_or_run s (m ∷ past) t =
    let n : ℕ = debounce_of s.control in
    let l : ℕ = door_after s.events.door past in
    let h : Low = low_of (after s past) in
    let g : Low = low_of (after s (m ∷ past)) in
    let e = calm_step m (calm_less t) t.kept in
    by_cases (door_fall l m) (λ f. inl (low_falls n (door_rise l m) (ticking m) h g (rw f at e)))
    (λ f.
    ⊎_elim
    (λ z.
    by_cases (door_rise l m)
    (λ r.
    let o = run_first s m past r t in
    inr (record { later = []; first = m; earlier = past; whole = refl; rose = r; held = fell_none (door_after s.events.door (m ∷ past)); count = omega (arith, o.left, o.below) }))
    (λ r. inl (low_rests n (ticking m) h g (rw (f, r) at e) z)))
    (λ v.
    let d : ℕ = door_after s.events.door (v.first ∷ v.earlier) in
    let x = v.whole in
    let j : l ≡ door_after d v.later = ap (door_after s.events.door) x ∙ door_join s.events.door v.later (v.first ∷ v.earlier) in
    let held : fell d (m ∷ v.later) ≡ false = fell_more d m v.later ∙ rw (v.held, sym j) f in
    let o : Running s (m ∷ v.later) (m ∷ past) = rw x (run_state s (m ∷ v.later) v.first v.earlier v.rose held (rw x at t)) in
    inr
    (record {
      later = m ∷ v.later;
      first = v.first;
      earlier = v.earlier;
      whole = ap (λ (y : List Move). m ∷ y) x;
      rose = v.rose;
      held = held;
      count = omega (arith, o.left, o.below);
    }))
    (rest_or_run s past (calm_less t)))

low_filled :
    (s : Inputs) (m : Move) (past : List Move) → Calm s past → written (m ∷ past) ≡ false → evlif (after s (m ∷ past)).control ≡ true
    → Steady s.events.door (debounce_of s.control) (m ∷ past)
low_filled s m past t w f =
    let n : ℕ = debounce_of s.control in
    let l : ℕ = door_after s.events.door past in
    let h : Low = low_of (after s past) in
    let c = low_cause n (door_fall l m) (door_rise l m) (ticking m) h (low_of (after s (m ∷ past))) (calm_step m t w) t.clear f in
    ⊎_elim (λ z. absurd (omega (arith, z, c.2)))
    (λ v.
    let d : ℕ = door_after s.events.door (v.first ∷ v.earlier) in
    let j : l ≡ door_after d v.later = ap (door_after s.events.door) v.whole ∙ door_join s.events.door v.later (v.first ∷ v.earlier) in
    let k : ticks (m ∷ v.later) ≡ ticks v.later + 1 = rw c.1 at (ticks_more m v.later) in
    record {
      later = m ∷ v.later;
      first = v.first;
      earlier = v.earlier;
      whole = ap (λ (y : List Move). m ∷ y) v.whole;
      rose = v.rose;
      held = fell_more d m v.later ∙ rw (v.held, sym j) c.0;
      count = omega (arith, k, v.count, c.2, debounce_least s.control);
    })
    (rest_or_run s past t)

steady_flags :
    (s : Inputs) (m : Move) (past : List Move) → Calm s past → written (m ∷ past) ≡ false
    → (later : List Move) (first : Move) (earlier : List Move) → m ∷ past ≡ later ++ (first ∷ earlier)
    → door_rise (door_after s.events.door earlier) first ≡ true → fell (door_after s.events.door (first ∷ earlier)) later ≡ false
    → ticks later ≡ debounce_of s.control → evlif (after s (m ∷ past)).control ≡ true
steady_flags s m past t w [] first earlier e r f n = absurd (omega (arith, n, ticks_none, debounce_least s.control))
steady_flags s m past t w (x ∷ later) first earlier e r f n =
    by_cases (evlif (after s (m ∷ past)).control) (λ y. y)
    (λ z.
    let c : Calm s (m ∷ past) = record { ready = t.ready; kept = w; clear = z } in
    let u = run_state s (x ∷ later) first earlier r f (rw e at c) in
    absurd (omega (arith, u.below, n)))

-- V16. The claim for EVLS, from where 0Bh enables it and no debounce runs: while 0Bh is not written and EVLIF is clear, the next move sets EVLIF
-- exactly if it is the last of the debounce's ticks since a counted rise with no fall.
pub low_exact_lem :
    (s : Inputs) (m : Move) (past : List Move) → LowReady s → written (m ∷ past) ≡ false → evlif (after s past).control ≡ false
    → (evlif (after s (m ∷ past)).control ≡ true) ↔ Steady s.events.door (debounce_of s.control) (m ∷ past)
low_exact_lem s m past ready w f =
    let t : Calm s past = record { ready = ready; kept = written_less m past w; clear = f } in
    (low_filled s m past t w, λ v. steady_flags s m past t w v.later v.first v.earlier v.whole v.rose v.held v.count)

-- V5, V9. So the move that sets EVHIF is a counted rise of EVHS, and the one that sets EVLIF a counted tick.
pub high_by_rise :
    (s : Inputs) (m : Move) (past : List Move) → HighReady s → written (m ∷ past) ≡ false → evhif (after s past).control ≡ false
    → evhif (after s (m ∷ past)).control ≡ true → drum_rise (drum_after s.events.drum past) m ≡ true
high_by_rise s m past ready w f g =
    let t : Stretch s past = record { ready = ready; kept = written_less m past w; clear = f } in
    by_cases (drum_rise (drum_after s.events.drum past) m) (λ r. r)
    (λ r.
    absurd
    (true_false
    (sym (next_flag (number_of s.control) (ticking m) (high_of (after s past)) (high_of (after s (m ∷ past))) (rw r at (stretch_step m t w))) ∙ g) f))

pub low_by_tick :
    (s : Inputs) (m : Move) (past : List Move) → LowReady s → written (m ∷ past) ≡ false → evlif (after s past).control ≡ false
    → evlif (after s (m ∷ past)).control ≡ true → ticking m ≡ true
low_by_tick s m past ready w f g =
    let t : Calm s past = record { ready = ready; kept = written_less m past w; clear = f } in
    let l : ℕ = door_after s.events.door past in
    (low_cause (debounce_of s.control) (door_fall l m) (door_rise l m) (ticking m) (low_of (after s past)) (low_of (after s (m ∷ past))) (calm_step m t w) f g).1

-- V12. A write of 0Bh is where a stretch begins: what it enables with the flag clear is ready, whatever was counted before.
pub written_high : (v : ℕ) (s : Inputs) → v < 256 → even1 v ≡ true → evwdt v ≡ false → evhif v ≡ false → HighReady (control_written v s)
unfolding control_written
written_high v s b on ev f = record { byte = b; enabled = on; event = ev; clear = f; edges = refl; since = refl }

pub written_low : (v : ℕ) (s : Inputs) → v < 256 → even0 v ≡ true → evlif v ≡ false → LowReady (control_written v s)
unfolding control_written
written_low v s b on f = record { byte = b; enabled = on; clear = f; debounce = refl }

-- moves in two parts
pub after_join : (s : Inputs) (x y : List Move) → after s (x ++ y) ≡ after (after s y) x
unfolding after
after_join s [] y = refl
after_join s (m ∷ x) y = ap (moved m) (after_join s x y)

after_write_lem : (s : Inputs) (v : ℕ) (x y : List Move) → after s (x ++ (Write v ∷ y)) ≡ after (control_written v (after s y)) x
unfolding after
after_write_lem s v x y = after_join s x (Write v ∷ y)

write_drum : (s : Inputs) (v : ℕ) (y : List Move) → (control_written v (after s y)).events.drum ≡ drum_after s.events.drum y
unfolding control_written
write_drum s v y = drum_after_lem s y

write_door : (s : Inputs) (v : ℕ) (y : List Move) → (control_written v (after s y)).events.door ≡ door_after s.events.door y
unfolding control_written
write_door s v y = door_after_lem s y

write_control : (s : Inputs) (v : ℕ) (y : List Move) → (control_written v (after s y)).control ≡ v
unfolding control_written
write_control s v y = refl

-- V12, V15, V16. Over any list of moves with a write of 0Bh in it: whatever came before the last write, the flags go by what came after it.
pub high_over :
    (s : Inputs) (v : ℕ) (older : List Move) (m : Move) (newer : List Move) → v < 256 → even1 v ≡ true → evwdt v ≡ false → evhif v ≡ false
    → written (m ∷ newer) ≡ false → evhif (after s (newer ++ (Write v ∷ older))).control ≡ false
    → (evhif (after s (m ∷ (newer ++ (Write v ∷ older)))).control ≡ true) ↔ Window (drum_after s.events.drum older) (number_of v) (m ∷ newer)
high_over s v older m newer b on ev c w f =
    let t : Inputs = control_written v (after s older) in
    let e = after_write_lem s v newer older in
    let g = after_write_lem s v (m ∷ newer) older in
    let x = high_exact_lem t m newer (written_high v (after s older) b on ev c) w (rw e at f) in
    let y : Window t.events.drum (number_of t.control) (m ∷ newer) ≡ Window (drum_after s.events.drum older) (number_of v) (m ∷ newer) =
    λ i. Window (write_drum s v older i) (number_of (write_control s v older i)) (m ∷ newer) in
    (λ q. subst (λ (A : Type 0). A) y (x.0 (rw g at q)), λ q. rw g (x.1 (subst (λ (A : Type 0). A) (sym y) q)))

pub low_over :
    (s : Inputs) (v : ℕ) (older : List Move) (m : Move) (newer : List Move) → v < 256 → even0 v ≡ true → evlif v ≡ false
    → written (m ∷ newer) ≡ false → evlif (after s (newer ++ (Write v ∷ older))).control ≡ false
    → (evlif (after s (m ∷ (newer ++ (Write v ∷ older)))).control ≡ true) ↔ Steady (door_after s.events.door older) (debounce_of v) (m ∷ newer)
low_over s v older m newer b on c w f =
    let t : Inputs = control_written v (after s older) in
    let e = after_write_lem s v newer older in
    let g = after_write_lem s v (m ∷ newer) older in
    let x = low_exact_lem t m newer (written_low v (after s older) b on c) w (rw e at f) in
    let y : Steady t.events.door (debounce_of t.control) (m ∷ newer) ≡ Steady (door_after s.events.door older) (debounce_of v) (m ∷ newer) =
    λ i. Steady (write_door s v older i) (debounce_of (write_control s v older i)) (m ∷ newer) in
    (λ q. subst (λ (A : Type 0). A) y (x.0 (rw g at q)), λ q. rw g (x.1 (subst (λ (A : Type 0). A) (sym y) q)))

-- V4. Without EVEN1, or with EVWDT set, no move but a write changes EVHIF, from any record.
pub high_off_lem : (m : Move) (s : Inputs) → writing m ≡ false → s.control < 256 → (even1 s.control && not (evwdt s.control)) ≡ false → evhif (moved m s).control ≡ evhif s.control
unfolding drum_set door_set events_tick
high_off_lem (Drum counted level) s w b o =
    let P : Inputs → Type 0 = λ t. evhif t.control ≡ evhif s.control in
    pick_when P (rising s.events.drum level && counts_edge counted s.control)
    (λ t.
    let p = counts_parts counted s.control (both_right (rising s.events.drum level) (counts_edge counted s.control) t) in
    absurd (true_false (both_true p.0 (ap not p.1)) o))
    (λ t. refl)
high_off_lem (Door counted level) s w b o = ap (λ (h : High). h.flagged) (door_high counted level s)
high_off_lem (Tick counted) s w b o =
    ap (λ (h : High). h.flagged) (debounce_high counted (window_tick counted s) (rw (window_control counted s) b))
    ∙ ap evhif (window_control counted s)
high_off_lem (Write v) s w b o = absurd (true≢false w)

-- V8, V9. Without EVEN0 no move but a write changes EVLIF, from any record.
pub low_off_lem :
    (m : Move) (s : Inputs) → writing m ≡ false → s.control < 256 → even0 s.control ≡ false → evlif (moved m s).control ≡ evlif s.control
unfolding door_set events_tick
low_off_lem (Drum counted level) s w b o = ap (λ (h : Low). h.flagged) (drum_low counted level s b)
low_off_lem (Door counted level) s w b o =
    let P : Inputs → Type 0 = λ t. evlif t.control ≡ evlif s.control in
    pick_case P (falling s.events.door level) refl
    (pick_case P (rising s.events.door level && low_runs counted s.control) refl refl)
low_off_lem (Tick counted) s w b o =
    let n : Inputs = window_tick counted s in
    let P : Inputs → Type 0 = λ t. evlif t.control ≡ evlif s.control in
    let e = window_control counted s in
    pick_when P (debounce_runs counted n)
    (λ t.
    let p = low_parts counted n.control (both_left (low_runs counted n.control) (ltb 0 n.events.debounce) t) in
    absurd (true_false p.0 (ap even0 e ∙ o)))
    (λ t. ap evlif e)
low_off_lem (Write v) s w b o = absurd (true≢false w)

-- V14. In range over any moves.
move_in : (m : Move) (s : Inputs) → Allowed m → s.control < 256 → InputsIn s → ((moved m s).control < 256) × InputsIn (moved m s)
unfolding control_written
move_in (Drum counted level) s (drum l) b r = ((leaves (Drum counted level) s refl b).settings.byte, drum_in_lem counted level s l b r)
move_in (Door counted level) s (door l) b r = ((leaves (Door counted level) s refl b).settings.byte, door_in_lem counted level s l r)
move_in (Tick counted) s tick b r = ((leaves (Tick counted) s refl b).settings.byte, tick_in counted s b r)
move_in (Write v) s (write l) b r = (l, write_in v s r.door r.drum)

pub moves_in : (s : Inputs) (past : List Move) → Each past → s.control < 256 → InputsIn s → ((after s past).control < 256) × InputsIn (after s past)
unfolding after
moves_in s past end b r = (b, r)
moves_in s past (more {m = m} {past = rest} a e) b r =
    let p = moves_in s rest e b r in
    move_in m (after s rest) a p.0 p.1
