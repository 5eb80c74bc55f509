-- A state array: part and record as a caller in another language holds them, their numbers as bytes.
-- Assumes nothing.
use Rattle.std.specs.Prelude.{ℕ, ◌+◌, ◌*◌, ◌/◌, ◌%◌, Bool, ◌&&◌, List, [], ◌∷◌, ◌++◌, eqb, length, take, drop, get_or}
use Rattle.base.specs.Words.{flag}
use Rattle.events.specs.declared.Events.{Events}
use Rattle.record.specs.declared.Counters.{Counters}
use Rattle.record.specs.declared.Device.{Device}
use Rattle.form.specs.Chip.{guard_numbers, stage_numbers, tail_numbers, is_record}

-- I1. A count has three bytes, the least significant first.
abbrev pub count_of : ℕ → ℕ → ℕ → ℕ
count_of a b c = a + 256 * b + 65536 * c

abbrev pub count_at : List ℕ → ℕ → ℕ
count_at bs k = count_of (get_or bs k 0) (get_or bs (k + 1) 0) (get_or bs (k + 2) 0)

abbrev pub count_bytes : ℕ → List ℕ
count_bytes n = n % 256 ∷ n / 256 % 256 ∷ n / 65536 % 256 ∷ []

-- I1. The numbers of an array: the part, registers and SRAM, the five counts, the rest of the record, and the event inputs with their two counts.
abbrev pub last_numbers : List ℕ → List ℕ
last_numbers bs = get_or bs 133 0 ∷ get_or bs 134 0 ∷ get_or bs 135 0 ∷ count_at bs 136 ∷ count_at bs 139 ∷ []

unfoldable pub array_numbers : List ℕ → List ℕ
array_numbers bs =
    take 97 bs
    ++ (count_at bs 97 ∷ count_at bs 100 ∷ count_at bs 103 ∷ count_at bs 106 ∷ count_at bs 109 ∷ (take 21 (drop 112 bs) ++ last_numbers bs))

-- I1. how many bytes it has
abbrev pub state_bytes : ℕ
state_bytes = 142

-- I1. it is a chip's where it has as many, and its numbers are those of part and record
unfoldable pub is_state : List ℕ → Bool
is_state bs = eqb (length bs) state_bytes && is_record (array_numbers bs)

-- I1. The array of a record: each number a byte, but a count.
abbrev pub counts_bytes : Counters → List ℕ
counts_bytes c =
    count_bytes c.divider ++ (count_bytes c.startup ++ (count_bytes c.watchdog ++ (count_bytes c.delay ++ count_bytes c.pulse)))

abbrev pub frame_bytes : Device → List ℕ
frame_bytes d = flag d.power ∷ flag d.mark ∷ (guard_numbers d.guard ++ (stage_numbers d.frame.stage ++ (d.load.offsets ∷ [])))

abbrev pub head_bytes : Device → List ℕ
head_bytes d = counts_bytes d.counters ++ frame_bytes d

abbrev pub event_bytes : Events → List ℕ
event_bytes e = e.door ∷ e.drum ∷ e.edges ∷ (count_bytes e.since ++ count_bytes e.debounce)

unfoldable pub state_of : ℕ → Device → List ℕ
state_of part d =
    part ∷ (d.regs ++ (d.sram ++ (head_bytes d ++ (d.load.bytes ++ (tail_numbers d.load d.cycle ++ event_bytes d.events)))))
