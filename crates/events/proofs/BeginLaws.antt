-- The claims from any record in range: its counts are led to by moves from inputs at 0 (`high_led_lem`, `low_led_lem`), a half of the inputs goes by itself
-- alone (`high_alike`, `low_alike`), so the claims of StoryLaws hold with these moves behind. `event_claims` lists all that is claimed.
-- Assumes nothing.
use Prim.Native.Nat.{ℕ, zero, suc, ◌+◌, ◌-◌, ◌<◌, ◌≤◌}
use native.Mathlib.Omega.{arith}
use mathlib.Core.Path.{◌≡◌, refl, sym, ap, ◌∙◌}
use mathlib.Core.Logic.{◌⊎◌, ⊎_elim, ◌↔◌}
use mathlib.Core.Bool.{Bool, true, false, not, ◌&&◌, beq}
use mathlib.Core.List.{List, [], ◌∷◌, ◌++◌}
use borrow.Author.Tests.{lt-ltb, ltb-true, ltb-false, eqb-true, eqb-false, ne_eqb}
use lib.Dec.{ltb, eqb}
use lib.ListN.{replicate}
use Rattle.base.proofs.Tests.{by_cases, pick_case, pick_when, either, neither, neither_left, neither_right}
use Rattle.events.specs.declared.Inputs.{Inputs}
use Rattle.events.specs.Control.{evhif, evlif, even1, even0, evwdt, number_of, debounce_of, window_ticks, high_runs, low_runs, pulls_irq}
use Rattle.events.specs.Pins.{rising, drum_set, door_set, zeroes_watchdog, control_written}
use Rattle.events.specs.Tick.{events_tick}
use Rattle.events.specs.Story.{Move, Drum, Door, Tick, after, is_low, drum_after, door_after, drum_rise, door_rise, door_fall, ticking, writing, written, Window, Steady, HighReady, LowReady}
use Rattle.events.specs.Beginning.{begun, risen, high_back, low_back, high_only, low_only, HighOn, LowOn}
use Rattle.events.specs.Claims.{EventClaims}
use Rattle.events.proofs.EdgeLaws.{up_words, down_words}
use Rattle.events.proofs.RangeLaws.{events_row}
use Rattle.events.proofs.MoveLaws.{High, high_of, high_next, Low, low_of, low_next, high_step, low_step, high_before, low_before, leaves}
use Rattle.events.proofs.StoryLaws.{written_less, after_join, high_exact_lem, low_exact_lem, high_off_lem, low_off_lem, moves_in}

-- the half of EVHS alone, by its numbers; one move of it
abbrev at_high : ℕ → ℕ → ℕ → ℕ → Inputs
at_high v level edges since = record { events = record { door = 0; drum = level; edges = edges; since = since; debounce = 0 }; control = v }

record On (v : ℕ) : Type 0 where
  enabled : even1 v ≡ true
  event : evwdt v ≡ false
  clear : evhif v ≡ false

counted_up : (v k : ℕ) → On v → k + 1 < number_of v → drum_set true 1 (at_high v 0 k 0) ≡ at_high v 1 (k + 1) 0
unfolding drum_set
counted_up v k o l = rw (o.enabled, o.event, o.clear, lt-ltb (k + 1) (number_of v) l)

counted_down : (v level k : ℕ) → drum_set true 0 (at_high v level k 0) ≡ at_high v 0 k 0
unfolding drum_set
counted_down v level k = by_cases (eqb level 0) (λ z. rw z) (λ z. rw z)

uncounted : (v level new k : ℕ) → On v → drum_set false new (at_high v level k 0) ≡ at_high v new k 0
unfolding drum_set
uncounted v level new k o = by_cases (rising level new) (λ r. rw (r, o.enabled, o.clear)) (λ r. rw r)

high_ticks : (v level k n : ℕ) → On v → 0 < k → n < 8192 → events_tick true (at_high v level k n) ≡ at_high v level k (n + 1)
unfolding events_tick
high_ticks v level k n o p l =
    let some = lt-ltb 0 k p in
    let inside = lt-ltb n window_ticks (omega arith) in
    by_cases (low_runs true v) (λ e. rw (o.enabled, o.clear, some, inside, e)) (λ e. rw (o.enabled, o.clear, some, inside, e))

-- as many edges as are to be counted, then the level, then the ticks
led_edges : (v k : ℕ) → On v → k < number_of v → (level : ℕ) × (after (begun v) (risen k) ≡ at_high v level k 0)
unfolding after risen
led_edges v zero o l = (0, refl)
led_edges v (suc k) o l =
    let p = led_edges v k o (omega arith) in
    let n : suc k ≡ k + 1 = omega arith in
    (1, ap (λ (t : Inputs). drum_set true 1 (drum_set true 0 t)) p.1 ∙ ap (drum_set true 1) (counted_down v p.0 k) ∙ counted_up v k o (omega arith) ∙ ap (λ (e : ℕ). at_high v 1 e 0) (sym n))

led_ticks :
    (v level k n : ℕ) (past : List Move) → On v → (k ≡ 0 → n ≡ 0) → n ≤ 8192 → after (begun v) past ≡ at_high v level k 0
    → after (begun v) (replicate n (Tick true) ++ past) ≡ at_high v level k n
unfolding after
led_ticks v level k zero past o z l e = e
led_ticks v level k (suc n) past o z l e =
    let p : 0 < k = by_cases (eqb k 0) (λ q. absurd (omega (arith, z (eqb-true k 0 q)))) (λ q. omega (arith, eqb-false k 0 q)) in
    let m : suc n ≡ n + 1 = omega arith in
    ap (events_tick true) (led_ticks v level k n past o (λ q. absurd (omega arith)) (omega arith) e) ∙ high_ticks v level k n o p (omega arith)
    ∙ ap (λ (x : ℕ). at_high v level k x) (sym m)

-- V15. The list leads to the record's half of EVHS.
pub high_led_lem : (s : Inputs) → HighOn s → after (begun s.control) (high_back s) ≡ high_only s
unfolding after high_back
high_led_lem s h =
    let v : ℕ = s.control in
    let o : On v = record { enabled = h.enabled; event = h.event; clear = h.clear } in
    let p = led_edges v s.events.edges o h.inside.edges in
    led_ticks v s.events.drum s.events.edges s.events.since (Drum false s.events.drum ∷ risen s.events.edges) o h.inside.none h.inside.since
    (ap (drum_set false s.events.drum) p.1 ∙ uncounted v p.0 s.events.drum s.events.edges o)

-- the half of EVLS alone, and one move of it
abbrev at_low : ℕ → ℕ → ℕ → Inputs
at_low v level left = record { events = record { door = level; drum = 0; edges = 0; since = 0; debounce = left }; control = v }

low_up : (v level : ℕ) → even0 v ≡ true → evlif v ≡ false → 0 < level → door_set true level (begun v) ≡ at_low v level (debounce_of v)
unfolding door_set
low_up v level on f p = rw (on, f, lt-ltb 0 level p)

low_level : (v level : ℕ) → even0 v ≡ true → evlif v ≡ false → door_set false level (begun v) ≡ at_low v level 0
unfolding door_set
low_level v level on f = by_cases (ltb 0 level) (λ r. rw (r, on, f)) (λ r. rw r)

low_tick : (v level n : ℕ) → even0 v ≡ true → evlif v ≡ false → 1 < n → events_tick true (at_low v level n) ≡ at_low v level (n - 1)
unfolding events_tick
low_tick v level n on f l =
    let p = lt-ltb 0 n (omega arith) in
    let q = ne_eqb n 1 (λ e. omega arith) in
    by_cases (high_runs true v) (λ e. rw (e, on, f, p, q)) (λ e. rw (e, on, f, p, q))

gone_ticks :
    (v level k : ℕ) → even0 v ≡ true → evlif v ≡ false → 0 < level → k < debounce_of v
    → after (begun v) (replicate k (Tick true) ++ (Door true level ∷ [])) ≡ at_low v level (debounce_of v - k)
unfolding after
gone_ticks v level zero on f p l =
    let m : debounce_of v ≡ debounce_of v - 0 = omega arith in
    low_up v level on f p ∙ ap (λ (x : ℕ). at_low v level x) m
gone_ticks v level (suc k) on f p l =
    let m : debounce_of v - k - 1 ≡ debounce_of v - suc k = omega arith in
    ap (events_tick true) (gone_ticks v level k on f p (omega arith)) ∙ low_tick v level (debounce_of v - k) on f (omega arith)
    ∙ ap (λ (x : ℕ). at_low v level x) m

-- V16. The list leads to the record's half of EVLS.
pub low_led_lem : (s : Inputs) → LowOn s → after (begun s.control) (low_back s) ≡ low_only s
unfolding after low_back
low_led_lem s h =
    let v : ℕ = s.control in
    let d : ℕ = s.events.debounce in
    let level : ℕ = s.events.door in
    let P : List Move → Type 0 = λ x. after (begun v) x ≡ low_only s in
    pick_when P (ltb 0 d)
    (λ t.
    let p : 0 < d = ltb-true 0 d t in
    let u : 0 < level = by_cases (eqb level 0) (λ z. absurd (omega (arith, h.inside.low (eqb-true level 0 z)))) (λ z. omega (arith, eqb-false level 0 z)) in
    let b = h.inside.debounce in
    let m : debounce_of v - (debounce_of v - d) ≡ d = omega arith in
    gone_ticks v level (debounce_of v - d) h.enabled h.clear u (omega arith) ∙ ap (λ (x : ℕ). at_low v level x) m)
    (λ t.
    let m : 0 ≡ d = omega (arith, ltb-false 0 d t) in
    low_level v level h.enabled h.clear ∙ ap (λ (x : ℕ). at_low v level x) m)

-- no list that counts stand for has a write in it
written_join : (x y : List Move) → written x ≡ false → written y ≡ false → written (x ++ y) ≡ false
unfolding written
written_join [] y a b = b
written_join (m ∷ x) y a b =
    neither (written_join x y (neither_left (written x) (writing m) a) b) (neither_right (written x) (writing m) a)

written_ticks : (n : ℕ) → written (replicate n (Tick true)) ≡ false
unfolding written
written_ticks zero = refl
written_ticks (suc n) = neither (written_ticks n) refl

written_risen : (k : ℕ) → written (risen k) ≡ false
unfolding written risen
written_risen zero = refl
written_risen (suc k) = neither (neither (written_risen k) refl) refl

pub high_kept : (s : Inputs) → written (high_back s) ≡ false
unfolding written high_back
high_kept s =
    written_join (replicate s.events.since (Tick true)) (Drum false s.events.drum ∷ risen s.events.edges) (written_ticks s.events.since)
    (neither (written_risen s.events.edges) refl)

pub low_kept : (s : Inputs) → written (low_back s) ≡ false
unfolding written low_back
low_kept s =
    let k : ℕ = debounce_of s.control - s.events.debounce in
    pick_case (λ (x : List Move). written x ≡ false) (ltb 0 s.events.debounce)
    (written_join (replicate k (Tick true)) (Door true s.events.door ∷ []) (written_ticks k) refl) refl

-- A half goes by itself alone: with the other half at 0 it is the same after every move.
high_alike :
    (s : Inputs) → HighOn s → (m : Move) (past : List Move) → written (m ∷ past) ≡ false → evhif (after s past).control ≡ false
    → high_of (after s past) ≡ high_of (after (high_only s) past) → high_of (after s (m ∷ past)) ≡ high_of (after (high_only s) (m ∷ past))
high_alike s h m past w f e =
    high_step s m past w h.byte h.enabled h.event f
    ∙ ap (high_next (number_of s.control) (drum_rise (drum_after s.events.drum past) m) (ticking m)) e
    ∙ sym (high_step (high_only s) m past w h.byte h.enabled h.event (sym (ap (λ (x : High). x.flagged) e) ∙ f))

high_past :
    (s : Inputs) → HighOn s → (past : List Move) → written past ≡ false → evhif (after s past).control ≡ false
    → high_of (after s past) ≡ high_of (after (high_only s) past)
unfolding after
high_past s h [] w f = refl
high_past s h (m ∷ past) w f =
    let g = high_before s m past w h.byte f in
    high_alike s h m past w g (high_past s h past (written_less m past w) g)

low_alike :
    (s : Inputs) → LowOn s → (m : Move) (past : List Move) → written (m ∷ past) ≡ false → evlif (after s past).control ≡ false
    → low_of (after s past) ≡ low_of (after (low_only s) past) → low_of (after s (m ∷ past)) ≡ low_of (after (low_only s) (m ∷ past))
low_alike s h m past w f e =
    let l : ℕ = door_after s.events.door past in
    low_step s m past w h.byte h.enabled f
    ∙ ap (low_next (debounce_of s.control) (door_fall l m) (door_rise l m) (ticking m)) e
    ∙ sym (low_step (low_only s) m past w h.byte h.enabled (sym (ap (λ (x : Low). x.flagged) e) ∙ f))

low_past :
    (s : Inputs) → LowOn s → (past : List Move) → written past ≡ false → evlif (after s past).control ≡ false
    → low_of (after s past) ≡ low_of (after (low_only s) past)
unfolding after
low_past s h [] w f = refl
low_past s h (m ∷ past) w f =
    let g = low_before s m past w h.byte f in
    low_alike s h m past w g (low_past s h past (written_less m past w) g)

-- a test of the inputs after moves, with a list behind them that leads to where they begin
led_on : (f : Inputs → Bool) (s t b : Inputs) (back past : List Move) → after b back ≡ t → f (after s past) ≡ f (after t past) → f (after s past) ≡ f (after b (past ++ back))
led_on f s t b back past led e = e ∙ sym (ap f (after_join b past back ∙ ap (λ (x : Inputs). after x past) led))

-- V15. The claim for EVHS from any record in range: the next move sets EVHIF exactly if it fills a window of the moves with those that the
-- record's counts stand for behind them.
pub high_exact_from :
    (s : Inputs) (m : Move) (past : List Move) → HighOn s → written (m ∷ past) ≡ false → evhif (after s past).control ≡ false
    → (evhif (after s (m ∷ past)).control ≡ true) ↔ Window 0 (number_of s.control) (m ∷ (past ++ high_back s))
high_exact_from s m past h w f =
    let b : Inputs = begun s.control in
    let e = high_past s h past (written_less m past w) f in
    let on : (x : List Move) → high_of (after s x) ≡ high_of (after (high_only s) x) → evhif (after s x).control ≡ evhif (after b (x ++ high_back s)).control =
    λ x q. led_on (λ (t : Inputs). evhif t.control) s (high_only s) b (high_back s) x (high_led_lem s h) (ap (λ (y : High). y.flagged) q) in
    let g = on (m ∷ past) (high_alike s h m past w f e) in
    let ready : HighReady b = record { byte = h.byte; enabled = h.enabled; event = h.event; clear = h.clear; edges = refl; since = refl } in
    let x = high_exact_lem b m (past ++ high_back s) ready (written_join (m ∷ past) (high_back s) w (high_kept s)) (sym (on past e) ∙ f) in
    (λ q. x.0 (sym g ∙ q), λ q. g ∙ x.1 q)

-- V16. The claim for EVLS from any record in range: the next move sets EVLIF exactly if it is the last of the debounce's ticks since a counted rise
-- with no fall, in the moves with those that the record's debounce stands for behind them.
pub low_exact_from :
    (s : Inputs) (m : Move) (past : List Move) → LowOn s → written (m ∷ past) ≡ false → evlif (after s past).control ≡ false
    → (evlif (after s (m ∷ past)).control ≡ true) ↔ Steady 0 (debounce_of s.control) (m ∷ (past ++ low_back s))
low_exact_from s m past h w f =
    let b : Inputs = begun s.control in
    let e = low_past s h past (written_less m past w) f in
    let on : (x : List Move) → low_of (after s x) ≡ low_of (after (low_only s) x) → evlif (after s x).control ≡ evlif (after b (x ++ low_back s)).control =
    λ x q. led_on (λ (t : Inputs). evlif t.control) s (low_only s) b (low_back s) x (low_led_lem s h) (ap (λ (y : Low). y.flagged) q) in
    let g = on (m ∷ past) (low_alike s h m past w f e) in
    let ready : LowReady b = record { byte = h.byte; enabled = h.enabled; clear = h.clear; debounce = refl } in
    let x = low_exact_lem b m (past ++ low_back s) ready (written_join (m ∷ past) (low_back s) w (low_kept s)) (sym (on past e) ∙ f) in
    (λ q. x.0 (sym g ∙ q), λ q. g ∙ x.1 q)

-- V7. EVWDT and a change of level.
kick_words : (level : ℕ) (s : Inputs) → zeroes_watchdog level s ≡ (evwdt s.control && not (beq (is_low s.events.drum) (is_low level)))
unfolding zeroes_watchdog
kick_words level s =
    let old : ℕ = s.events.drum in
    let u = up_words old level in
    let d = down_words old level in
    by_cases (eqb old 0)
    (λ a. by_cases (eqb level 0) (λ b. rw (u, d, a, b)) (λ b. rw (u, d, a, b)))
    (λ a. by_cases (eqb level 0) (λ b. rw (u, d, a, b)) (λ b. rw (u, d, a, b)))

-- V10. Nothing runs in a tick that is not counted.
tick_stands : (s : Inputs) → events_tick false s ≡ s
unfolding events_tick
tick_stands s =
    let v : ℕ = s.control in
    by_cases (even1 v && not (evhif v))
    (λ a. by_cases (even0 v && not (evlif v)) (λ b. rw (a, b)) (λ b. rw (a, b)))
    (λ a. by_cases (even0 v && not (evlif v)) (λ b. rw (a, b)) (λ b. rw (a, b)))

-- V11. Either flag.
irq_words : (v : ℕ) → (pulls_irq v ≡ true) ↔ ((evhif v ≡ true) ⊎ (evlif v ≡ true))
unfolding pulls_irq
irq_words v = (either (evhif v) (evlif v), ⊎_elim (λ a. rw a) (λ b. by_cases (evhif v) (λ a. rw a) (λ a. rw (a, b))))

-- All that is claimed.
pub event_claims : EventClaims
unfolding control_written
event_claims =
    record {
      high = high_exact_from;
      low = low_exact_from;
      high_led = high_led_lem;
      low_led = low_led_lem;
      high_off = high_off_lem;
      low_off = low_off_lem;
      high_stays = λ m s w b. (leaves m s w b).high;
      low_stays = λ m s w b. (leaves m s w b).low;
      writes = λ v s. refl;
      stands = tick_stands;
      kicks = kick_words;
      irq = irq_words;
      rows = events_row;
      range = moves_in;
    }
