-- The tests of a state array, as code makes them: each tells what is bad. Not the rule, which is the table's (`is_state`): TestLaws ties the two. That a
-- byte is one, code need not test.
-- Assumes nothing.
use Rattle.std.specs.Prelude.{ℕ, ◌+◌, Bool, false, not, ◌||◌, List, [], ◌∷◌, leb, eqb, get_or, take, drop}
use Rattle.std.specs.Int.Bits.{bit_and}
use Rattle.std.specs.List.{fold, zip}
use Rattle.base.specs.Words.{bit, every, any_of}
use Rattle.record.specs.Numbers.{stage_of}
use Rattle.record.specs.Part.{is_part, size_of, boots_of}
use Rattle.record.specs.Registers.{writable, power_down_at, period_of, divider_ticks, long_pulse, delay_ticks}
use Rattle.record.specs.Stages.{foreign_to_wip}
use Rattle.form.specs.Table.{startup_by, mark_by, kind_by, case_good, value_limit, target_limit, left_by, edges_by, since_by, debounce_by}
use Rattle.form.specs.State.{count_at}

-- register j, below the time-stamps, has no bit outside its mask
abbrev pub is_kept_at : List ℕ → ℕ → Bool
is_kept_at bs j = eqb (bit_and (get_or bs (1 + j) 0) (get_or writable j 0)) (get_or bs (1 + j) 0)

-- some register below the time-stamps has one, register by register
abbrev pub outside : List ℕ → Bool
outside bs = fold (λ (bad : Bool) (p : ℕ × ℕ). bad || not (eqb (bit_and p.0 p.1) p.0)) false (zip (take 24 (drop 1 bs)) writable)

-- I1. What is bad in the array, place by place: part, registers and counts;
abbrev pub clock_tests : List ℕ → List Bool
clock_tests bs =
    not (is_part (get_or bs 0 0))
    ∷ not (every (is_kept_at bs) power_down_at)
    ∷ leb divider_ticks (count_at bs 97)
    ∷ leb (startup_by (boots_of (get_or bs 0 0)) (bit (get_or bs 2 0) 7)) (count_at bs 100)
    ∷ leb (period_of (get_or bs 11 0)) (count_at bs 103)
    ∷ leb (1 + delay_ticks) (count_at bs 106)
    ∷ leb (1 + long_pulse) (count_at bs 109)
    ∷ []

-- power, latch and lock, the frame, its load, and the cycle;
abbrev pub frame_tests : List ℕ → List Bool
frame_tests bs =
    leb 2 (get_or bs 112 0)
    ∷ leb (mark_by (eqb (get_or bs 112 0) 1)) (get_or bs 113 0)
    ∷ leb 2 (get_or bs 114 0)
    ∷ leb 4 (get_or bs 115 0)
    ∷ leb 3 (get_or bs 116 0)
    ∷ leb (kind_by (eqb (get_or bs 112 0) 1)) (get_or bs 117 0)
    ∷ not (case_good (get_or bs 117 0) (get_or bs 118 0))
    ∷ leb (value_limit (size_of (get_or bs 0 0)) (get_or bs 117 0) (get_or bs 118 0)) (get_or bs 119 0)
    ∷ leb 8 (get_or bs 129 0)
    ∷ leb 3 (get_or bs 130 0)
    ∷ leb (target_limit (size_of (get_or bs 0 0)) (get_or bs 130 0)) (get_or bs 131 0)
    ∷ leb (left_by (eqb (get_or bs 112 0) 1) (foreign_to_wip (stage_of (get_or bs 117 0) (get_or bs 118 0) 0))) (get_or bs 132 0)
    ∷ []

-- and the event inputs.
abbrev pub event_tests : List ℕ → List Bool
event_tests bs =
    leb 2 (get_or bs 133 0)
    ∷ leb 2 (get_or bs 134 0)
    ∷ leb (edges_by (get_or bs 12 0)) (get_or bs 135 0)
    ∷ leb (since_by (get_or bs 135 0)) (count_at bs 136)
    ∷ leb (debounce_by (get_or bs 12 0) (get_or bs 133 0)) (count_at bs 139)
    ∷ []

unfoldable pub clock_bad : List ℕ → Bool
clock_bad bs = any_of (clock_tests bs)

unfoldable pub frame_bad : List ℕ → Bool
frame_bad bs = any_of (frame_tests bs)

unfoldable pub events_bad : List ℕ → Bool
events_bad bs = any_of (event_tests bs)
