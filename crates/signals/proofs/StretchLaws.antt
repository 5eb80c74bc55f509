-- Of lists of moves alone: the events' claims, where the newest moves are those of one act; and what moves without a write leave of the flags.
-- Assumes nothing.
use Prim.Native.Nat.{ℕ, ◌<◌}
use mathlib.Core.Path.{◌≡◌, refl, ap, ◌∙◌}
use mathlib.Core.Bool.{Bool, true, false, not, ◌&&◌}
use mathlib.Core.Logic.{◌↔◌}
use mathlib.Core.List.{List, [], ◌∷◌, ◌++◌, nil≢cons}
use lib.Dec.{ltb}
use Rattle.base.proofs.Tests.{pick_case, neither_left, neither_right, true_false}
use Rattle.events.specs.declared.Inputs.{Inputs}
use Rattle.events.specs.Control.{evhif, evlif, even1, even0, evwdt, number_of, debounce_of, low_runs, window_ticks}
use Rattle.events.specs.Tick.{window_runs, window_tick, events_tick}
use Rattle.events.specs.Story.{Move, moved, after, writing, written, Window, Steady, HighReady, LowReady}
use Rattle.events.proofs.ControlLaws.{Settings}
use Rattle.events.proofs.MoveLaws.{High, debounce_high, window_control, leaves, settings_after}
use Rattle.events.proofs.StoryLaws.{high_exact_lem, low_exact_lem, high_off_lem, low_off_lem}

-- what is written in none of two lists
pub written_older : (x y : List Move) → written (x ++ y) ≡ false → written y ≡ false
unfolding written
written_older [] y w = w
written_older (m ∷ x) y w = written_older x y (neither_left (written (x ++ y)) (writing m) w)

-- no move at all ends in nothing
empty_ends : (later : List Move) (first : Move) (earlier : List Move) → [] ≡ later ++ (first ∷ earlier) → ⊥
empty_ends [] first earlier e = nil≢cons e
empty_ends (m ∷ later) first earlier e = nil≢cons e

-- What a law of the events says of a flag g from the inputs s on: as long as it is clear and 0Bh is not written, the next move sets it exactly where the
-- moves then have the property P. Windows and steady levels are two; a law from inputs that have counted something is another.
pub record Exact (g : ℕ → Bool) (s : Inputs) (P : List Move → Type 0) : Type 0 where
  pub none : g s.control ≡ false → P [] → ⊥
  pub next :
      (m : Move) (past : List Move) → written (m ∷ past) ≡ false → g (after s past).control ≡ false
      → (g (after s (m ∷ past)).control ≡ true) ↔ P (m ∷ past)

pub high_window : (s : Inputs) → HighReady s → Exact evhif s (Window s.events.drum (number_of s.control))
high_window s r =
    record { none = λ f v. empty_ends v.later v.first v.earlier v.whole; next = λ m past w f. high_exact_lem s m past r w f }

pub low_steady : (s : Inputs) → LowReady s → Exact evlif s (Steady s.events.door (debounce_of s.control))
low_steady s r =
    record { none = λ f v. empty_ends v.later v.first v.earlier v.whole; next = λ m past w f. low_exact_lem s m past r w f }

-- a flag that is clear was clear before: `high_before`, `low_before`
abbrev pub Lasting : (ℕ → Bool) → Inputs → Type 0
Lasting g s = (m : Move) (past : List Move) → written (m ∷ past) ≡ false → g (after s (m ∷ past)).control ≡ false → g (after s past).control ≡ false

module _ (g : ℕ → Bool) (s : Inputs) (lasting : Lasting g s) (P : List Move → Type 0) (x : Exact g s P) where
  -- where it is clear the moves have not the property
  pub exact_none : (past : List Move) → written past ≡ false → g (after s past).control ≡ false → P past → ⊥
  unfolding after
  exact_none [] w f v = x.none f v
  exact_none (m ∷ past) w f v = true_false ((x.next m past w (lasting m past w f)).1 v) f

  -- Several moves more: none, or some of which only the newest can set it.
  pub exact_at :
      (new past : List Move) → written (new ++ past) ≡ false → g (after s past).control ≡ false
      → ((m : Move) (rest : List Move) → new ≡ m ∷ rest → g (after s (rest ++ past)).control ≡ false)
      → (g (after s (new ++ past)).control ≡ true) ↔ P (new ++ past)
  exact_at [] past w f q = (λ t. absurd (true_false t f), λ v. absurd (exact_none past w f v))
  exact_at (m ∷ rest) past w f q = x.next m (rest ++ past) w (q m rest refl)

-- What every move but a write keeps, under the settings that were there at first, a list of such moves keeps.
stretch :
    (P : Inputs → Type 0) (s : Inputs) → ((m : Move) (x : Inputs) → writing m ≡ false → Settings s.control x.control → P x → P (moved m x))
    → (past : List Move) → written past ≡ false → s.control < 256 → P s → P (after s past)
unfolding after written
stretch P s step [] w b h = h
stretch P s step (m ∷ past) w b h =
    let p = neither_left (written past) (writing m) w in
    step m (after s past) (neither_right (written past) (writing m) w) (settings_after s past p b) (stretch P s step past p b h)

-- V4, V8. not enabled: no moves but a write change the flag
pub high_offs :
    (s : Inputs) (past : List Move) → written past ≡ false → s.control < 256 → (even1 s.control && not (evwdt s.control)) ≡ false
    → evhif (after s past).control ≡ evhif s.control
high_offs s past w b o =
    stretch (λ (x : Inputs). evhif x.control ≡ evhif s.control) s (λ m x f k e. high_off_lem m x f k.byte ((λ i. k.high i && not (k.kick i)) ∙ o) ∙ e) past w b refl

pub low_offs :
    (s : Inputs) (past : List Move) → written past ≡ false → s.control < 256 → even0 s.control ≡ false
    → evlif (after s past).control ≡ evlif s.control
low_offs s past w b o =
    stretch (λ (x : Inputs). evlif x.control ≡ evlif s.control) s (λ m x f k e. low_off_lem m x f k.byte (k.low ∙ o) ∙ e) past w b refl

-- a flag that is set stays
pub high_kept :
    (s : Inputs) (past : List Move) → written past ≡ false → s.control < 256 → evhif s.control ≡ true → evhif (after s past).control ≡ true
high_kept s = stretch (λ (x : Inputs). evhif x.control ≡ true) s (λ m x f k. (leaves m x f k.byte).high)

pub low_kept :
    (s : Inputs) (past : List Move) → written past ≡ false → s.control < 256 → evlif s.control ≡ true → evlif (after s past).control ≡ true
low_kept s = stretch (λ (x : Inputs). evlif x.control ≡ true) s (λ m x f k. (leaves m x f k.byte).low)

-- a tick never sets EVHIF, and EVLIF only where a debounce runs
pub tick_high : (c : Bool) (s : Inputs) → s.control < 256 → evhif (events_tick c s).control ≡ evhif s.control
unfolding events_tick
tick_high c s b =
    ap (λ (h : High). h.flagged) (debounce_high c (window_tick c s) (rw (window_control c s) b)) ∙ ap evhif (window_control c s)

window_debounce : (c : Bool) (s : Inputs) → (window_tick c s).events.debounce ≡ s.events.debounce
window_debounce c s =
    let P : Inputs → Type 0 = λ t. t.events.debounce ≡ s.events.debounce in
    pick_case P (window_runs c s) (pick_case P (ltb s.events.since window_ticks) refl refl) refl

pub none_runs : (r : Bool) (n : ℕ) → n ≡ 0 → (r && ltb 0 n) ≡ false
none_runs true n e = ap (ltb 0) e
none_runs false n e = refl

pub tick_rests : (c : Bool) (s : Inputs) → s.events.debounce ≡ 0 → ((events_tick c s).control ≡ s.control) × ((events_tick c s).events.debounce ≡ 0)
unfolding events_tick
tick_rests c s z =
    let n : Inputs = window_tick c s in
    let e = window_debounce c s ∙ z in
    rw (none_runs (low_runs c n.control) n.events.debounce e) (window_control c s, e)
