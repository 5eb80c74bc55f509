-- The table of the saved form: a row for each key. A chip is one list of numbers; the table tells how many lines a key has, how many numbers are on each, and
-- which number is good at a place, by the numbers before it. What limits a number stands before it, and 0 is good at every place but the part's.
-- Assumes nothing.
use Rattle.std.specs.Prelude.{ℕ, zero, suc, ◌+◌, ◌*◌, ◌/◌, ◌<◌, ◌≤◌, ◌≡◌, Bool, true, false, not, ◌&&◌, ◌||◌, List, [], ◌∷◌, ◌++◌, ltb, leb, eqb, length, take, drop, get_or, replicate}
use Prim.Native.String.{String}
use Rattle.std.specs.Int.Bits.{bit_and}
use Rattle.base.specs.Words.{pick, bit, every}
use Rattle.events.specs.Control.{even1, even0, number_of, debounce_of, window_ticks}
use Rattle.record.specs.declared.Stage.{Stage}
use Rattle.record.specs.Codes.{code_of, code_number}
use Rattle.record.specs.Numbers.{stage_of}
use Rattle.record.specs.Part.{is_part, size_of, id_size, boots_of}
use Rattle.record.specs.Registers.{seconds_at, watchdog_at, event_at, kept, period_of, cycle_ticks, startup_ticks, divider_ticks, long_pulse, delay_ticks}
use Rattle.record.specs.Stages.{foreign_to_wip}
use Rattle.text.specs.Bytes.{bytes_of}
use Rattle.text.specs.Decimal.{decimal_text}
use Rattle.form.specs.Lines.{line_text}
use Rattle.form.specs.Form.{Form, done, line, may_end}

-- A row: its key; whether the key has the line's number after it; how many lines it has, by the numbers before them; how many numbers are on a line; and
-- whether a number is good as number j of the row, by those before it.
pub record Row : Type 0 where
  pub key : String
  pub numbered : Bool
  pub lines : List ℕ → ℕ
  pub width : ℕ
  pub good : List ℕ → ℕ → ℕ → Bool

-- S1. Where in the list the numbers stand that limit others.
abbrev pub part_in : List ℕ → ℕ
part_in b = get_or b 0 0

abbrev pub register_in : List ℕ → ℕ → ℕ
register_in b k = get_or b (1 + k) 0

abbrev pub power_in : List ℕ → Bool
power_in b = eqb (get_or b 102 0) 1

abbrev pub stage_in : List ℕ → Stage
stage_in b = stage_of (get_or b 107 0) (get_or b 108 0) (get_or b 109 0)

-- S1, I1. The first place of the event inputs: behind the memories in a chip's list, behind the record in that of a state array.
abbrev pub chip_events : List ℕ → ℕ
chip_events b = 123 + size_of (part_in b) + id_size

abbrev pub state_events : List ℕ → ℕ
state_events b = 123

-- How many values a number may have, from 0, where that depends on others.

-- S4. the start-up count: none on a W part whose ST is clear
abbrev pub startup_by : Bool → Bool → ℕ
startup_by boots starts = pick (boots || starts) (suc startup_ticks) 1

abbrev pub startup_limit : List ℕ → ℕ
startup_limit b = startup_by (boots_of (part_in b)) (bit (register_in b seconds_at) 7)

-- S4. the watchdog's count: less than the period of 0Ah
abbrev pub watchdog_by : ℕ → ℕ
watchdog_by v = period_of v

abbrev pub watchdog_limit : List ℕ → ℕ
watchdog_limit b = watchdog_by (register_in b watchdog_at)

-- S4. the mark of a power failure: with power off
abbrev pub mark_by : Bool → ℕ
mark_by power = pick power 1 2

abbrev pub mark_limit : List ℕ → ℕ
mark_limit b = mark_by (power_in b)

-- S5. the stage's kind: with power off it is 0
abbrev pub kind_by : Bool → ℕ
kind_by power = pick power 8 1

abbrev pub kind_limit : List ℕ → ℕ
kind_limit b = kind_by (power_in b)

-- S5. its case: an instruction by its byte, else by the kind
abbrev pub case_limit : ℕ → ℕ
case_limit kind = get_or (1 ∷ 1 ∷ 1 ∷ 256 ∷ 3 ∷ 3 ∷ 4 ∷ 6 ∷ []) kind 1

abbrev pub case_good : ℕ → ℕ → Bool
case_good kind n = ltb n (case_limit kind) && (not (eqb kind 3) || eqb (code_number (code_of n)) n)

-- S5. its value: an address, by the memory; the second byte of SRWRITE and UNLOCK
abbrev pub address_limit : ℕ → ℕ → ℕ
address_limit size memory = pick (eqb memory 0) size (pick (eqb memory 1) 256 id_size)

abbrev pub value_limit : ℕ → ℕ → ℕ → ℕ
value_limit size kind which = pick (eqb kind 4 || eqb kind 5) (address_limit size which) (pick (eqb kind 6 && ltb which 2) 256 1)

-- S6. what a cycle writes: an EEPROM address, an ID address, the protection
abbrev pub target_limit : ℕ → ℕ → ℕ
target_limit size kind = pick (eqb kind 0) size (pick (eqb kind 1) id_size 4)

-- S6. the ticks left: none with power off, nor with a frame that could not have been heard
abbrev pub left_by : Bool → Bool → ℕ
left_by power foreign = pick (power && not foreign) (suc cycle_ticks) 1

abbrev pub left_limit : List ℕ → ℕ
left_limit b = left_by (power_in b) (foreign_to_wip (stage_in b))

-- S12. edges counted: fewer than 0Bh sets, and none with EVEN1 clear
abbrev pub edges_by : ℕ → ℕ
edges_by v = pick (even1 v) (number_of v) 1

-- S12. the ticks since the first of them: none where no edge is counted
abbrev pub since_by : ℕ → ℕ
since_by edges = pick (ltb 0 edges) (suc window_ticks) 1

-- S12. the debounce ticks left: at most what 0Bh sets, and none with EVEN0 clear or EVLS low
abbrev pub debounce_by : ℕ → ℕ → ℕ
debounce_by v level = pick (even0 v && ltb 0 level) (suc (debounce_of v)) 1

-- S3. a register's byte: no bit outside its mask
abbrev pub register_good : ℕ → ℕ → Bool
register_good j n = ltb n 256 && eqb (bit_and n (get_or kept j 0)) n

-- rows whose numbers have a limit
abbrev pub row : String → (List ℕ → ℕ) → Row
row key limit = record { key = key; numbered = false; lines = λ b. 1; width = 1; good = λ b j n. ltb n (limit b) }

abbrev pub memory_row : String → (List ℕ → ℕ) → Row
memory_row key lines = record { key = key; numbered = true; lines = lines; width = 8; good = λ b j n. ltb n 256 }

-- S5. kind, case and value
abbrev pub stage_good : List ℕ → ℕ → ℕ → Bool
stage_good b zero n = ltb n (kind_limit b)
stage_good b (suc zero) n = case_good (get_or b 107 0) n
stage_good b (suc (suc j)) n = ltb n (value_limit (size_of (part_in b)) (get_or b 107 0) (get_or b 108 0))

-- S6. kind and value
abbrev pub target_good : List ℕ → ℕ → ℕ → Bool
target_good b zero n = ltb n 3
target_good b (suc j) n = ltb n (target_limit (size_of (part_in b)) (get_or b 120 0))

-- S1. the rows in their order
unfoldable pub part_row : Row
part_row = record { key = "part"; numbered = false; lines = λ b. 1; width = 1; good = λ b j n. is_part n }

unfoldable pub register_row : Row
register_row = record { key = "reg"; numbered = true; lines = λ b. 32; width = 1; good = λ b. register_good }

unfoldable pub sram_row : Row
sram_row = memory_row "sram" (λ b. 8)

-- S4. the counts
unfoldable pub divider_row : Row
divider_row = row "divider" (λ b. divider_ticks)

unfoldable pub startup_row : Row
startup_row = row "startup" startup_limit

unfoldable pub watchdog_row : Row
watchdog_row = row "watchdog" watchdog_limit

unfoldable pub delay_row : Row
delay_row = row "delay" (λ b. suc delay_ticks)

unfoldable pub pulse_row : Row
pulse_row = row "pulse" (λ b. suc long_pulse)

unfoldable pub power_row : Row
power_row = row "power" (λ b. 2)

unfoldable pub mark_row : Row
mark_row = row "mark" mark_limit

unfoldable pub wel_row : Row
wel_row = row "wel" (λ b. 2)

unfoldable pub protection_row : Row
protection_row = row "bp" (λ b. 4)

unfoldable pub lock_row : Row
lock_row = row "lock" (λ b. 3)

unfoldable pub stage_row : Row
stage_row = record { key = "stage"; numbered = false; lines = λ b. 1; width = 3; good = stage_good }

unfoldable pub offsets_row : Row
offsets_row = row "offsets" (λ b. 256)

unfoldable pub load_row : Row
load_row = record { key = "load"; numbered = false; lines = λ b. 1; width = 8; good = λ b j n. ltb n 256 }

unfoldable pub next_row : Row
next_row = row "next" (λ b. 8)

unfoldable pub target_row : Row
target_row = record { key = "target"; numbered = false; lines = λ b. 1; width = 2; good = target_good }

unfoldable pub left_row : Row
left_row = row "left" left_limit

unfoldable pub eeprom_row : Row
eeprom_row = memory_row "ee" (λ b. size_of (part_in b) / 8)

unfoldable pub id_row : Row
id_row = memory_row "id" (λ b. 2)

-- S12. the event inputs, from their first place on
unfoldable pub evls_row : Row
evls_row = row "evls" (λ b. 2)

unfoldable pub evhs_row : Row
evhs_row = row "evhs" (λ b. 2)

unfoldable pub edges_row : Row
edges_row = row "edges" (λ b. edges_by (register_in b event_at))

unfoldable pub since_row : (List ℕ → ℕ) → Row
since_row place = row "since" (λ b. since_by (get_or b (place b + 2) 0))

unfoldable pub debounce_row : (List ℕ → ℕ) → Row
debounce_row place = row "debounce" (λ b. debounce_by (register_in b event_at) (get_or b (place b) 0))

-- S1. those of part and record, of the memories, and of the event inputs
abbrev pub record_rows : List Row
record_rows =
    part_row ∷ register_row ∷ sram_row ∷ divider_row ∷ startup_row ∷ watchdog_row ∷ delay_row ∷ pulse_row ∷ power_row ∷ mark_row ∷ wel_row ∷ protection_row ∷ lock_row
    ∷ stage_row ∷ offsets_row ∷ load_row ∷ next_row ∷ target_row ∷ left_row ∷ []

abbrev pub memory_rows : List Row
memory_rows = eeprom_row ∷ id_row ∷ []

abbrev pub event_rows : (List ℕ → ℕ) → List Row
event_rows place = evls_row ∷ evhs_row ∷ edges_row ∷ since_row place ∷ debounce_row place ∷ []

-- S11. the rows that every text has, and the groups of rows that one may lack: it ends before one of them
abbrev pub older_rows : List Row
older_rows = record_rows ++ memory_rows

abbrev pub later_groups : List (List Row)
later_groups = event_rows chip_events ∷ []

-- the rows of groups
abbrev pub in_groups : List (List Row) → List Row
in_groups [] = []
in_groups (g ∷ gs) = g ++ in_groups gs

unfoldable pub rows : List Row
rows = older_rows ++ in_groups later_groups

-- I1. those of a state array
abbrev pub state_rows : List Row
state_rows = record_rows ++ event_rows state_events

-- S2. the key of line i of a row
abbrev pub key_of : Row → ℕ → List ℕ
key_of r i = bytes_of r.key ++ pick r.numbered (decimal_text i) []

-- how many numbers a row has
abbrev pub span : Row → List ℕ → ℕ
span r b = r.lines b * r.width

-- The numbers from place k on are good by the rows: there are as many as the rows have, and each is good after those before it.
unfoldable pub Good : List Row → ℕ → List ℕ → Type 0
Good [] k ns = length ns ≡ k
Good (r ∷ rs) k ns =
    (k + span r (take k ns) ≤ length ns)
    × ((j : ℕ) → j < span r (take k ns) → r.good (take (k + j) ns) j (get_or ns (k + j) 0) ≡ true)
    × Good rs (k + span r (take k ns)) ns

-- S7. The same as a test.
unfoldable pub good_test : List Row → ℕ → List ℕ → Bool
good_test [] k ns = eqb (length ns) k
good_test (r ∷ rs) k ns =
    leb (k + span r (take k ns)) (length ns)
    && (every (λ j. r.good (take (k + j) ns) j (get_or ns (k + j) 0)) (span r (take k ns)) && good_test rs (k + span r (take k ns)) ns)

-- The text of numbers from place k on: line i of a row, n lines of it, and all rows.
abbrev pub numbers_at : Row → ℕ → List ℕ → List ℕ
numbers_at r k ns = take r.width (drop k ns)

unfoldable pub row_text : Row → ℕ → ℕ → ℕ → List ℕ → List ℕ
row_text r zero i k ns = []
row_text r (suc n) i k ns = line_text (key_of r i) (numbers_at r k ns) ++ row_text r n (suc i) (k + r.width) ns

unfoldable pub text_from : List Row → ℕ → List ℕ → List ℕ
text_from [] k ns = []
text_from (r ∷ rs) k ns = row_text r (r.lines (take k ns)) 0 k ns ++ text_from rs (k + span r (take k ns)) ns

-- The rows as a form, which a text is read by: what was read before, and what comes.

-- numbers x that come after b as those of a row from its number j on
unfoldable pub good_after : Row → List ℕ → ℕ → List ℕ → Bool
good_after r b j [] = true
good_after r b j (n ∷ x) = r.good b j n && good_after r (b ++ (n ∷ [])) (suc j) x

-- the numbers of line i
unfoldable pub line_good : Row → ℕ → List ℕ → List ℕ → Bool
line_good r i b x = eqb (length x) r.width && good_after r b (i * r.width) x

unfoldable pub row_form : Row → ℕ → ℕ → List ℕ → (List ℕ → Form (List ℕ)) → Form (List ℕ)
row_form r zero i b next = next b
row_form r (suc n) i b next = line (key_of r i) (line_good r i b) (λ x. row_form r n (suc i) (b ++ x) next)

-- rows, and the form after them
unfoldable pub rows_form : List Row → (List ℕ → Form (List ℕ)) → List ℕ → Form (List ℕ)
rows_form [] next b = next b
rows_form (r ∷ rs) next b = row_form r (r.lines b) 0 b (rows_form rs next)

-- as many numbers 0 as rows have after those before
unfoldable pub zeros_after : List Row → List ℕ → List ℕ
zeros_after [] b = []
zeros_after (r ∷ rs) b = replicate (span r b) 0 ++ zeros_after rs (b ++ replicate (span r b) 0)

-- S11. Groups of rows: a text may end before each; the numbers of that group and of those behind it are then 0.
unfoldable pub groups_form : List (List Row) → List ℕ → Form (List ℕ)
groups_form [] b = done b
groups_form (g ∷ gs) b = may_end (b ++ zeros_after (in_groups (g ∷ gs)) b) (rows_form g (groups_form gs) b)

-- S1. the form of a chip
unfoldable pub chip_form : Form (List ℕ)
chip_form = rows_form older_rows (groups_form later_groups) []
