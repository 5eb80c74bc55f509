-- What one move does to the two halves of the inputs: EVHS with its flag, EVLS with its flag; and what it leaves alone.
-- Assumes nothing.
use Prim.Native.Nat.{ℕ, ◌+◌, ◌-◌, ◌<◌}
use mathlib.Core.Path.{◌≡◌, refl, ap, ◌∙◌}
use mathlib.Core.Bool.{Bool, true, false, ◌&&◌, true≢false}
use mathlib.Core.List.{List, [], ◌∷◌}
use lib.Dec.{ltb, eqb}
use Rattle.base.specs.Words.{pick}
use Rattle.base.proofs.Tests.{by_cases, pick_case, neither_left, neither_right, true_false}
use Rattle.events.specs.declared.Inputs.{Inputs}
use Rattle.events.specs.Control.{evhif, evlif, even1, even0, evwdt, number_of, debounce_of, window_ticks, low_runs}
use Rattle.events.specs.Pins.{rising, falling, counts_edge, drum_set, door_set, control_written}
use Rattle.events.specs.Tick.{window_runs, window_tick, debounce_runs, debounce_tick, events_tick}
use Rattle.events.specs.Story.{Move, Drum, Door, Tick, Write, moved, after, drum_in, door_in, drum_after, door_after, drum_rise, door_rise, door_fall, ticking, writing, written}
use Rattle.events.proofs.EdgeLaws.{up_words, down_words}
use Rattle.events.proofs.ControlLaws.{Settings, high_settings, low_settings, high_low, low_high, high_set, low_set}

-- the half of EVHS
pub record High : Type 0 where
  pub edges : ℕ
  pub since : ℕ
  pub flagged : Bool

abbrev pub high_of : Inputs → High
high_of s = record { edges = s.events.edges; since = s.events.since; flagged = evhif s.control }

-- a move with the flag clear
abbrev pub high_next : ℕ → Bool → Bool → High → High
high_next number rise tick h =
    pick rise
    (pick (ltb (h.edges + 1) number) (record { edges = h.edges + 1; since = h.since; flagged = h.flagged }) (record { edges = 0; since = 0; flagged = true }))
    (pick (tick && ltb 0 h.edges)
    (pick (ltb h.since window_ticks) (record { edges = h.edges; since = h.since + 1; flagged = h.flagged }) (record { edges = 0; since = 0; flagged = h.flagged }))
    h)

-- the half of EVLS
pub record Low : Type 0 where
  pub left : ℕ
  pub flagged : Bool

abbrev pub low_of : Inputs → Low
low_of s = record { left = s.events.debounce; flagged = evlif s.control }

abbrev pub low_next : ℕ → Bool → Bool → Bool → Low → Low
low_next most fall rise tick h =
    pick fall (record { left = 0; flagged = h.flagged })
    (pick rise (record { left = most; flagged = h.flagged })
    (pick (tick && ltb 0 h.left)
    (pick (eqb h.left 1) (record { left = 0; flagged = true }) (record { left = h.left - 1; flagged = h.flagged }))
    h))

-- the debounce's part of a tick leaves the half of EVHS, the window's part that of EVLS
pub debounce_high : (counted : Bool) (s : Inputs) → s.control < 256 → high_of (debounce_tick counted s) ≡ high_of s
debounce_high counted s b =
    pick_case (λ (t : Inputs). high_of t ≡ high_of s) (debounce_runs counted s)
    (pick_case (λ (t : Inputs). high_of t ≡ high_of s) (eqb s.events.debounce 1)
    (λ i. record { edges = s.events.edges; since = s.events.since; flagged = low_high s.control b i }) refl)
    refl

window_low : (counted : Bool) (s : Inputs) → low_of (window_tick counted s) ≡ low_of s
window_low counted s =
    pick_case (λ (t : Inputs). low_of t ≡ low_of s) (window_runs counted s)
    (pick_case (λ (t : Inputs). low_of t ≡ low_of s) (ltb s.events.since window_ticks) refl refl)
    refl

pub window_control : (counted : Bool) (s : Inputs) → (window_tick counted s).control ≡ s.control
window_control counted s =
    pick_case (λ (t : Inputs). t.control ≡ s.control) (window_runs counted s)
    (pick_case (λ (t : Inputs). t.control ≡ s.control) (ltb s.events.since window_ticks) refl refl)
    refl

-- a level at EVLS leaves the half of EVHS, and the other way round
pub door_high : (counted : Bool) (level : ℕ) (s : Inputs) → high_of (door_set counted level s) ≡ high_of s
unfolding door_set
door_high counted level s =
    pick_case (λ (t : Inputs). high_of t ≡ high_of s) (falling s.events.door level) refl
    (pick_case (λ (t : Inputs). high_of t ≡ high_of s) (rising s.events.door level && low_runs counted s.control) refl refl)

pub drum_low : (counted : Bool) (level : ℕ) (s : Inputs) → s.control < 256 → low_of (drum_set counted level s) ≡ low_of s
unfolding drum_set
drum_low counted level s b =
    pick_case (λ (t : Inputs). low_of t ≡ low_of s) (rising s.events.drum level && counts_edge counted s.control)
    (pick_case (λ (t : Inputs). low_of t ≡ low_of s) (ltb (s.events.edges + 1) (number_of s.control)) refl
    (λ i. record { left = s.events.debounce; flagged = high_low s.control b i }))
    refl

-- EVHS enabled, its edges events, the flag clear
pub record HighOpen (s : Inputs) : Type 0 where
  pub byte : s.control < 256
  pub enabled : even1 s.control ≡ true
  pub event : evwdt s.control ≡ false
  pub clear : evhif s.control ≡ false

pub record LowOpen (s : Inputs) : Type 0 where
  pub byte : s.control < 256
  pub enabled : even0 s.control ≡ true
  pub clear : evlif s.control ≡ false

drum_high : (counted : Bool) (level : ℕ) (s : Inputs) → HighOpen s
    → high_of (drum_set counted level s) ≡ high_next (number_of s.control) (rising s.events.drum level && counted) false (high_of s)
unfolding drum_set
drum_high true level s o =
    by_cases (rising s.events.drum level)
    (λ r.
    by_cases (ltb (s.events.edges + 1) (number_of s.control))
    (λ l. rw (o.enabled, o.event, o.clear, r, l) (λ i. record { edges = s.events.edges + 1; since = s.events.since; flagged = o.clear i }))
    (λ l. rw (o.enabled, o.event, o.clear, r, l) (λ i. record { edges = 0; since = 0; flagged = high_set s.control o.byte i })))
    (λ r. rw r)
drum_high false level s o =
    by_cases (rising s.events.drum level)
    (λ r. rw (o.enabled, o.event, o.clear, r) (λ i. record { edges = s.events.edges; since = s.events.since; flagged = o.clear i }))
    (λ r. rw r)

window_high : (counted : Bool) (s : Inputs) → HighOpen s → high_of (window_tick counted s) ≡ high_next (number_of s.control) false counted (high_of s)
window_high true s o =
    by_cases (ltb 0 s.events.edges)
    (λ n.
    by_cases (ltb s.events.since window_ticks)
    (λ l. rw (o.enabled, o.clear, n, l) (λ i. record { edges = s.events.edges; since = s.events.since + 1; flagged = o.clear i }))
    (λ l. rw (o.enabled, o.clear, n, l) (λ i. record { edges = 0; since = 0; flagged = o.clear i })))
    (λ n. rw (o.enabled, o.clear, n) (λ i. record { edges = s.events.edges; since = s.events.since; flagged = o.clear i }))
window_high false s o = rw (o.enabled, o.clear) (λ i. record { edges = s.events.edges; since = s.events.since; flagged = o.clear i })

-- The half of EVHS after a move.
pub high_moved :
    (m : Move) (s : Inputs) → writing m ≡ false → HighOpen s
    → high_of (moved m s) ≡ high_next (number_of s.control) (drum_rise s.events.drum m) (ticking m) (high_of s)
unfolding events_tick
high_moved (Drum counted level) s w o =
    drum_high counted level s o
    ∙ (λ i. high_next (number_of s.control) (up_words s.events.drum level i && counted) false (high_of s))
high_moved (Door counted level) s w o = door_high counted level s
high_moved (Tick counted) s w o =
    debounce_high counted (window_tick counted s) (rw (window_control counted s) o.byte) ∙ window_high counted s o
high_moved (Write v) s w o = absurd (true≢false w)

door_low : (counted : Bool) (level : ℕ) (s : Inputs) → LowOpen s
    → low_of (door_set counted level s) ≡ low_next (debounce_of s.control) (falling s.events.door level) (rising s.events.door level && counted) false (low_of s)
unfolding door_set
door_low true level s o =
    by_cases (falling s.events.door level)
    (λ f. rw f)
    (λ f. by_cases (rising s.events.door level) (λ r. rw (o.enabled, o.clear, f, r) (λ i. record { left = debounce_of s.control; flagged = o.clear i })) (λ r. rw (f, r)))
door_low false level s o =
    by_cases (falling s.events.door level)
    (λ f. rw f)
    (λ f.
    by_cases (rising s.events.door level)
    (λ r. rw (o.enabled, o.clear, f, r) (λ i. record { left = s.events.debounce; flagged = o.clear i })) (λ r. rw (f, r)))

debounce_low_lem : (counted : Bool) (s : Inputs) → LowOpen s → low_of (debounce_tick counted s) ≡ low_next (debounce_of s.control) false false counted (low_of s)
debounce_low_lem true s o =
    by_cases (ltb 0 s.events.debounce)
    (λ n.
    by_cases (eqb s.events.debounce 1)
    (λ l. rw (o.enabled, o.clear, n, l) (λ i. record { left = 0; flagged = low_set s.control o.byte i }))
    (λ l. rw (o.enabled, o.clear, n, l) (λ i. record { left = s.events.debounce - 1; flagged = o.clear i })))
    (λ n. rw (o.enabled, o.clear, n) (λ i. record { left = s.events.debounce; flagged = o.clear i }))
debounce_low_lem false s o = rw (o.enabled, o.clear) (λ i. record { left = s.events.debounce; flagged = o.clear i })

-- The half of EVLS after a move.
pub low_moved :
    (m : Move) (s : Inputs) → writing m ≡ false → LowOpen s
    → low_of (moved m s) ≡ low_next (debounce_of s.control) (door_fall s.events.door m) (door_rise s.events.door m) (ticking m) (low_of s)
unfolding events_tick
low_moved (Drum counted level) s w o = drum_low counted level s o.byte
low_moved (Door counted level) s w o =
    let d : ℕ = s.events.door in
    door_low counted level s o
    ∙ (λ i. low_next (debounce_of s.control) (down_words d level i) (up_words d level i && counted) false (low_of s))
low_moved (Tick counted) s w o =
    let e = window_control counted s in
    let p : LowOpen (window_tick counted s) = record { byte = rw e o.byte; enabled = rw e o.enabled; clear = rw e o.clear } in
    debounce_low_lem counted (window_tick counted s) p
    ∙ (λ i. low_next (debounce_of (e i)) false false counted (window_low counted s i))
low_moved (Write v) s w o = absurd (true≢false w)

-- Settings stay in every move but a write; a flag that is set stays.
settings_same : (v : ℕ) → v < 256 → Settings v v
settings_same v b = record { byte = b; high = refl; low = refl; kick = refl; number = refl; debounce = refl }

settings_then : {u v w : ℕ} → Settings u v → Settings v w → Settings u w
settings_then p q =
    record {
      byte = q.byte;
      high = q.high ∙ p.high;
      low = q.low ∙ p.low;
      kick = q.kick ∙ p.kick;
      number = q.number ∙ p.number;
      debounce = q.debounce ∙ p.debounce;
    }

-- what a move leaves: the settings, and each flag that is set
pub record Leaves (v w : ℕ) : Type 0 where
  pub settings : Settings v w
  pub high : evhif v ≡ true → evhif w ≡ true
  pub low : evlif v ≡ true → evlif w ≡ true

leaves_same : (v : ℕ) → v < 256 → Leaves v v
leaves_same v b = record { settings = settings_same v b; high = λ t. t; low = λ t. t }

pub leaves : (m : Move) (s : Inputs) → writing m ≡ false → s.control < 256 → Leaves s.control (moved m s).control
unfolding drum_set door_set events_tick
leaves (Drum counted level) s w b =
    let P : Inputs → Type 0 = λ t. Leaves s.control t.control in
    pick_case P (rising s.events.drum level && counts_edge counted s.control)
    (pick_case P (ltb (s.events.edges + 1) (number_of s.control)) (leaves_same s.control b)
    (record { settings = high_settings s.control b; high = λ t. high_set s.control b; low = λ t. high_low s.control b ∙ t }))
    (leaves_same s.control b)
leaves (Door counted level) s w b =
    let P : Inputs → Type 0 = λ t. Leaves s.control t.control in
    pick_case P (falling s.events.door level) (leaves_same s.control b)
    (pick_case P (rising s.events.door level && low_runs counted s.control) (leaves_same s.control b) (leaves_same s.control b))
leaves (Tick counted) s w b =
    let n : Inputs = window_tick counted s in
    let P : Inputs → Type 0 = λ t. Leaves s.control t.control in
    let k : Leaves s.control n.control = rw (window_control counted s) (leaves_same s.control b) in
    pick_case P (debounce_runs counted n)
    (pick_case P (eqb n.events.debounce 1)
    (rw (window_control counted s) (record { settings = low_settings s.control b; high = λ t. low_high s.control b ∙ t; low = λ t. low_set s.control b }))
    k)
    k
leaves (Write v) s w b = absurd (true≢false w)

-- levels
debounce_levels : (counted : Bool) (s : Inputs) → ((debounce_tick counted s).events.drum ≡ s.events.drum) × ((debounce_tick counted s).events.door ≡ s.events.door)
debounce_levels counted s =
    let P : Inputs → Type 0 = λ t. (t.events.drum ≡ s.events.drum) × (t.events.door ≡ s.events.door) in
    pick_case P (debounce_runs counted s) (pick_case P (eqb s.events.debounce 1) (refl, refl) (refl, refl)) (refl, refl)

window_levels : (counted : Bool) (s : Inputs) → ((window_tick counted s).events.drum ≡ s.events.drum) × ((window_tick counted s).events.door ≡ s.events.door)
window_levels counted s =
    let P : Inputs → Type 0 = λ t. (t.events.drum ≡ s.events.drum) × (t.events.door ≡ s.events.door) in
    pick_case P (window_runs counted s) (pick_case P (ltb s.events.since window_ticks) (refl, refl) (refl, refl)) (refl, refl)

pub levels : (m : Move) (s : Inputs) → ((moved m s).events.drum ≡ drum_in s.events.drum m) × ((moved m s).events.door ≡ door_in s.events.door m)
unfolding drum_set door_set events_tick control_written
levels (Drum counted level) s =
    let P : Inputs → Type 0 = λ t. (t.events.drum ≡ level) × (t.events.door ≡ s.events.door) in
    pick_case P (rising s.events.drum level && counts_edge counted s.control)
    (pick_case P (ltb (s.events.edges + 1) (number_of s.control)) (refl, refl) (refl, refl)) (refl, refl)
levels (Door counted level) s =
    let P : Inputs → Type 0 = λ t. (t.events.drum ≡ s.events.drum) × (t.events.door ≡ level) in
    pick_case P (falling s.events.door level) (refl, refl)
    (pick_case P (rising s.events.door level && low_runs counted s.control) (refl, refl) (refl, refl))
levels (Tick counted) s =
    let d = debounce_levels counted (window_tick counted s) in
    let w = window_levels counted s in
    (d.0 ∙ w.0, d.1 ∙ w.1)
levels (Write v) s = (refl, refl)

-- Over a list of moves.
pub drum_after_lem : (s : Inputs) (past : List Move) → (after s past).events.drum ≡ drum_after s.events.drum past
unfolding after drum_after
drum_after_lem s [] = refl
drum_after_lem s (m ∷ past) = (levels m (after s past)).0 ∙ ap (λ (l : ℕ). drum_in l m) (drum_after_lem s past)

pub door_after_lem : (s : Inputs) (past : List Move) → (after s past).events.door ≡ door_after s.events.door past
unfolding after door_after
door_after_lem s [] = refl
door_after_lem s (m ∷ past) = (levels m (after s past)).1 ∙ ap (λ (l : ℕ). door_in l m) (door_after_lem s past)

pub settings_after : (s : Inputs) (past : List Move) → written past ≡ false → s.control < 256 → Settings s.control (after s past).control
unfolding after written
settings_after s [] w b = settings_same s.control b
settings_after s (m ∷ past) w b =
    let k = settings_after s past (neither_left (written past) (writing m) w) b in
    settings_then k (leaves m (after s past) (neither_right (written past) (writing m) w) k.byte).settings

-- The halves after one more move.
pub high_step :
    (s : Inputs) (m : Move) (past : List Move) → written (m ∷ past) ≡ false → s.control < 256
    → even1 s.control ≡ true → evwdt s.control ≡ false → evhif (after s past).control ≡ false
    → high_of (after s (m ∷ past)) ≡ high_next (number_of s.control) (drum_rise (drum_after s.events.drum past) m) (ticking m) (high_of (after s past))
unfolding after written
high_step s m past w b on ev f =
    let k = settings_after s past (neither_left (written past) (writing m) w) b in
    let o : HighOpen (after s past) = record { byte = k.byte; enabled = k.high ∙ on; event = k.kick ∙ ev; clear = f } in
    high_moved m (after s past) (neither_right (written past) (writing m) w) o
    ∙ (λ i. high_next (k.number i) (drum_rise (drum_after_lem s past i) m) (ticking m) (high_of (after s past)))

pub low_step :
    (s : Inputs) (m : Move) (past : List Move) → written (m ∷ past) ≡ false → s.control < 256
    → even0 s.control ≡ true → evlif (after s past).control ≡ false
    → low_of (after s (m ∷ past))
    ≡ low_next (debounce_of s.control) (door_fall (door_after s.events.door past) m) (door_rise (door_after s.events.door past) m) (ticking m) (low_of (after s past))
unfolding after written
low_step s m past w b on f =
    let k = settings_after s past (neither_left (written past) (writing m) w) b in
    let o : LowOpen (after s past) = record { byte = k.byte; enabled = k.low ∙ on; clear = f } in
    low_moved m (after s past) (neither_right (written past) (writing m) w) o
    ∙ (λ i. low_next (k.debounce i) (door_fall (door_after_lem s past i) m) (door_rise (door_after_lem s past i) m) (ticking m) (low_of (after s past)))

-- a flag that is clear was clear before
pub high_before :
    (s : Inputs) (m : Move) (past : List Move) → written (m ∷ past) ≡ false → s.control < 256 → evhif (after s (m ∷ past)).control ≡ false
    → evhif (after s past).control ≡ false
unfolding after written
high_before s m past w b f =
    let k = settings_after s past (neither_left (written past) (writing m) w) b in
    by_cases (evhif (after s past).control)
    (λ t. absurd (true_false ((leaves m (after s past) (neither_right (written past) (writing m) w) k.byte).high t) f)) (λ g. g)

pub low_before :
    (s : Inputs) (m : Move) (past : List Move) → written (m ∷ past) ≡ false → s.control < 256 → evlif (after s (m ∷ past)).control ≡ false
    → evlif (after s past).control ≡ false
unfolding after written
low_before s m past w b f =
    let k = settings_after s past (neither_left (written past) (writing m) w) b in
    by_cases (evlif (after s past).control)
    (λ t. absurd (true_false ((leaves m (after s past) (neither_right (written past) (writing m) w) k.byte).low t) f)) (λ g. g)
