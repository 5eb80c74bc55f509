-- A state array's tests with other words for their numbers in their places: whoever has those has the tests.
-- Assumes nothing.
use mathlib.Core.Path.{◌≡◌, ap, ◌∙◌}
use mathlib.Core.Bool.{Bool, not}
use mathlib.Core.List.{List, [], ◌∷◌}
use Prim.Native.Nat.{ℕ, ◌+◌}
use lib.Dec.{leb, eqb}
use lib.ListN.{get_or}
use Rattle.base.specs.Words.{bit, every, any_of}
use Rattle.record.specs.Numbers.{stage_of}
use Rattle.record.specs.Part.{is_part, size_of, boots_of}
use Rattle.record.specs.Registers.{power_down_at, period_of, divider_ticks, long_pulse, delay_ticks}
use Rattle.record.specs.Stages.{foreign_to_wip}
use Rattle.form.specs.Table.{startup_by, mark_by, kind_by, case_good, value_limit, target_limit, left_by, edges_by, since_by, debounce_by}
use Rattle.form.specs.State.{count_at}
use Rattle.arrays.specs.Tests.{is_kept_at, clock_bad, frame_bad, events_bad}

-- the tests with what code's calls answered in their places
pub clock_by :
    (bs : List ℕ) {named outside : Bool} {part seconds watchdog startup period a b c d e : ℕ} → part ≡ get_or bs 0 0 → seconds ≡ get_or bs 2 0 → watchdog ≡ get_or bs 11 0
    → named ≡ is_part part → outside ≡ not (every (is_kept_at bs) power_down_at) → startup ≡ startup_by (boots_of part) (bit seconds 7) → period ≡ period_of watchdog
    → a ≡ count_at bs 97 → b ≡ count_at bs 100 → c ≡ count_at bs 103 → d ≡ count_at bs 106 → e ≡ count_at bs 109
    → any_of (not named ∷ outside ∷ leb divider_ticks a ∷ leb startup b ∷ leb period c ∷ leb (1 + delay_ticks) d ∷ leb (1 + long_pulse) e ∷ []) ≡ clock_bad bs
unfolding clock_bad
clock_by bs part seconds watchdog named outside startup period a b c d e i =
    any_of
    (not ((named ∙ ap is_part part) i)
    ∷ outside i
    ∷ leb divider_ticks (a i)
    ∷ leb ((startup ∙ (λ k. startup_by (boots_of (part k)) (bit (seconds k) 7))) i) (b i)
    ∷ leb ((period ∙ ap period_of watchdog) i) (c i)
    ∷ leb (1 + delay_ticks) (d i)
    ∷ leb (1 + long_pulse) (e i)
    ∷ [])

pub frame_by :
    (bs : List ℕ) {case : Bool} {power kind which target part size mark kinds value place left a b c d : ℕ} → power ≡ get_or bs 112 0 → kind ≡ get_or bs 117 0
    → which ≡ get_or bs 118 0 → target ≡ get_or bs 130 0 → part ≡ get_or bs 0 0 → size ≡ size_of part → case ≡ case_good kind which → mark ≡ mark_by (eqb power 1)
    → kinds ≡ kind_by (eqb power 1) → value ≡ value_limit size kind which → place ≡ target_limit size target
    → left ≡ left_by (eqb power 1) (foreign_to_wip (stage_of kind which 0)) → a ≡ get_or bs 113 0 → b ≡ get_or bs 119 0 → c ≡ get_or bs 131 0 → d ≡ get_or bs 132 0
    → any_of
    (leb 2 power
    ∷ leb mark a
    ∷ leb 2 (get_or bs 114 0)
    ∷ leb 4 (get_or bs 115 0)
    ∷ leb 3 (get_or bs 116 0)
    ∷ leb kinds kind
    ∷ not case
    ∷ leb value b
    ∷ leb 8 (get_or bs 129 0)
    ∷ leb 3 target
    ∷ leb place c
    ∷ leb left d
    ∷ [])
    ≡ frame_bad bs
unfolding frame_bad
frame_by bs power kind which target part size case mark kinds value place left a b c d i =
    any_of
    (leb 2 (power i)
    ∷ leb ((mark ∙ (λ k. mark_by (eqb (power k) 1))) i) (a i)
    ∷ leb 2 (get_or bs 114 0)
    ∷ leb 4 (get_or bs 115 0)
    ∷ leb 3 (get_or bs 116 0)
    ∷ leb ((kinds ∙ (λ k. kind_by (eqb (power k) 1))) i) (kind i)
    ∷ not ((case ∙ (λ k. case_good (kind k) (which k))) i)
    ∷ leb ((value ∙ (λ k. value_limit ((size ∙ ap size_of part) k) (kind k) (which k))) i) (b i)
    ∷ leb 8 (get_or bs 129 0)
    ∷ leb 3 (target i)
    ∷ leb ((place ∙ (λ k. target_limit ((size ∙ ap size_of part) k) (target k))) i) (c i)
    ∷ leb ((left ∙ (λ k. left_by (eqb (power k) 1) (foreign_to_wip (stage_of (kind k) (which k) 0)))) i) (d i)
    ∷ [])

pub events_by :
    (bs : List ℕ) {control door edges first since debounce a c : ℕ} → control ≡ get_or bs 12 0 → door ≡ get_or bs 133 0 → edges ≡ get_or bs 135 0
    → first ≡ edges_by control → since ≡ since_by edges → a ≡ count_at bs 136 → debounce ≡ debounce_by control door → c ≡ count_at bs 139
    → any_of (leb 2 door ∷ leb 2 (get_or bs 134 0) ∷ leb first edges ∷ leb since a ∷ leb debounce c ∷ []) ≡ events_bad bs
unfolding events_bad
events_by bs control door edges first since a debounce c i =
    any_of
    (leb 2 (door i)
    ∷ leb 2 (get_or bs 134 0)
    ∷ leb ((first ∙ ap edges_by control) i) (edges i)
    ∷ leb ((since ∙ ap since_by edges) i) (a i)
    ∷ leb ((debounce ∙ (λ k. debounce_by (control k) (door k))) i) (c i)
    ∷ [])
