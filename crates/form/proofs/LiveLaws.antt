-- The chip's form can always be carried on: at each place of each row some number is good, whatever came before. It is 1 for the part, and 0 for all else.
-- Assumes nothing.
use mathlib.Core.Path.{◌≡◌, refl, ap}
use mathlib.Core.Bool.{true, not, ◌&&◌, ◌||◌, or-true}
use mathlib.Core.List.{List, [], ◌∷◌, ◌++◌}
use Prim.Native.String.{String}
use Prim.Native.Nat.{ℕ, zero, suc, ◌+◌}
use native.Mathlib.Omega.{arith}
use borrow.Author.Tests.{lt-ltb, ltb-true, ltb-false, eq-eqb}
use lib.Dec.{ltb, eqb}
use lib.Bits.{bit_and, and_zero_l}
use lib.ListN.{get_or, get_or-eq_default}
use Rattle.base.specs.Words.{bit, every}
use Rattle.base.proofs.Tests.{by_cases, pick_case, both_true}
use Rattle.base.proofs.Every.{every_at}
use Rattle.events.specs.Control.{even1, even0, number_of, debounce_of}
use Rattle.events.proofs.ControlLaws.{number_least}
use Rattle.record.specs.Part.{size_of, boots_of}
use Rattle.record.specs.Registers.{kept, seconds_at, watchdog_at, event_at, period_of}
use Rattle.record.specs.Stages.{foreign_to_wip}
use Rattle.record.proofs.PeriodLaws.{period_least}
use Rattle.text.specs.Bytes.{bytes_of}
use Rattle.text.specs.Decimal.{decimal_text}
use Rattle.text.proofs.DecimalLaws.{decimal_digits}
use Rattle.form.specs.Lines.{unbroken}
use Rattle.form.specs.Form.{Live}
use Rattle.form.specs.Table.{row, memory_row, part_in, register_in, power_in, stage_in, case_limit, case_good, address_limit, value_limit, target_limit, edges_by, since_by, debounce_by, chip_events, stage_good, target_good, older_rows, event_rows, later_groups, groups_form, chip_form, part_row, register_row, sram_row, divider_row, startup_row, watchdog_row, delay_row, pulse_row, power_row, mark_row, wel_row, protection_row, lock_row, stage_row, offsets_row, load_row, next_row, target_row, left_row, eeprom_row, id_row, evls_row, evhs_row, edges_row, since_row, debounce_row}
use Rattle.form.proofs.LinesLaws.{unbroken_append, unbroken_digits}
use Rattle.form.proofs.TableLaws.{RowLive, RowsLive, RowsZero, GroupsLive, rows_live, groups_live}

-- a key with a number
numbered_key : (key : String) → unbroken (bytes_of key) ≡ true → (i : ℕ) → unbroken (bytes_of key ++ decimal_text i) ≡ true
numbered_key key e i = unbroken_append (bytes_of key) (decimal_text i) e (unbroken_digits (decimal_text i) (decimal_digits i))

row_alive : (key : String) (limit : List ℕ → ℕ) → unbroken (bytes_of key ++ []) ≡ true → ((b : List ℕ) → ltb 0 (limit b) ≡ true) → RowLive (row key limit)
row_alive key limit e h = record { keyed = λ i. e; wide = ltb-true 0 1 refl; filler = 0; fills = λ b j. h b }

memory_alive : (key : String) (lines : List ℕ → ℕ) → unbroken (bytes_of key) ≡ true → RowLive (memory_row key lines)
memory_alive key lines e = record { keyed = numbered_key key e; wide = ltb-true 0 8 refl; filler = 0; fills = λ b j. refl }

-- limits that depend on others are above 0
abbrev Some : ℕ → Type 0
Some n = ltb 0 n ≡ true

size_alive : (part : ℕ) → Some (size_of part)
size_alive part = lt-ltb 0 (size_of part) (omega arith)

case_alive : (kind : ℕ) → case_good kind 0 ≡ true
unfolding every
case_alive kind =
    both_true
    (by_cases (ltb kind 8) (λ t. every_at (λ (k : ℕ). ltb 0 (case_limit k)) 8 refl kind (ltb-true kind 8 t))
    (λ t. ap (ltb 0) (get_or-eq_default (1 ∷ 1 ∷ 1 ∷ 256 ∷ 3 ∷ 3 ∷ 4 ∷ 6 ∷ []) 1 {n = kind} (ltb-false kind 8 t))))
    (or-true (not (eqb kind 3)))

address_alive : (size memory : ℕ) → Some size → Some (address_limit size memory)
address_alive size memory h = pick_case Some (eqb memory 0) h (pick_case Some (eqb memory 1) refl refl)

value_alive : (size kind which : ℕ) → Some size → Some (value_limit size kind which)
value_alive size kind which h =
    pick_case Some (eqb kind 4 || eqb kind 5) (address_alive size which h) (pick_case Some (eqb kind 6 && ltb which 2) refl refl)

target_alive : (size kind : ℕ) → Some size → Some (target_limit size kind)
target_alive size kind h = pick_case Some (eqb kind 0) h (pick_case Some (eqb kind 1) refl refl)

stage_alive : (b : List ℕ) (j : ℕ) → stage_good b j 0 ≡ true
stage_alive b zero = pick_case Some (power_in b) refl refl
stage_alive b (suc zero) = case_alive (get_or b 107 0)
stage_alive b (suc (suc j)) = value_alive (size_of (part_in b)) (get_or b 107 0) (get_or b 108 0) (size_alive (part_in b))

targets_alive : (b : List ℕ) (j : ℕ) → target_good b j 0 ≡ true
targets_alive b zero = refl
targets_alive b (suc j) = target_alive (size_of (part_in b)) (get_or b 120 0) (size_alive (part_in b))

pub older_live : RowsLive older_rows
unfolding RowsLive part_row register_row sram_row divider_row startup_row watchdog_row delay_row pulse_row power_row mark_row wel_row protection_row lock_row stage_row offsets_row load_row next_row target_row left_row eeprom_row id_row unbroken
older_live = (
  record { keyed = λ i. refl; wide = ltb-true 0 1 refl; filler = 1; fills = λ b j. refl },
  (
    record { keyed = numbered_key "reg" refl; wide = ltb-true 0 1 refl; filler = 0; fills = λ b j. eq-eqb (bit_and 0 (get_or kept j 0)) 0 (and_zero_l (get_or kept j 0)) },
    (
      memory_alive "sram" _ refl,
      (
        row_alive "divider" _ refl (λ b. refl),
        (
          row_alive "startup" _ refl (λ b. pick_case Some (boots_of (part_in b) || bit (register_in b seconds_at) 7) refl refl),
          (
            row_alive "watchdog" _ refl (λ b. lt-ltb 0 (period_of (register_in b watchdog_at)) (omega (arith, period_least (register_in b watchdog_at)))),
            (
              row_alive "delay" _ refl (λ b. refl),
              (
                row_alive "pulse" _ refl (λ b. refl),
                (
                  row_alive "power" _ refl (λ b. refl),
                  (
                    row_alive "mark" _ refl (λ b. pick_case Some (power_in b) refl refl),
                    (
                      row_alive "wel" _ refl (λ b. refl),
                      (
                        row_alive "bp" _ refl (λ b. refl),
                        (
                          row_alive "lock" _ refl (λ b. refl),
                          (
                            record { keyed = λ i. refl; wide = ltb-true 0 3 refl; filler = 0; fills = stage_alive },
                            (
                              row_alive "offsets" _ refl (λ b. refl),
                              (
                                record { keyed = λ i. refl; wide = ltb-true 0 8 refl; filler = 0; fills = λ b j. refl },
                                (
                                  row_alive "next" _ refl (λ b. refl),
                                  (
                                    record { keyed = λ i. refl; wide = ltb-true 0 2 refl; filler = 0; fills = targets_alive },
                                    (
                                      row_alive "left" _ refl (λ b. pick_case Some (power_in b && not (foreign_to_wip (stage_in b))) refl refl),
                                      (
                                        memory_alive "ee" _ refl,
                                        (memory_alive "id" _ refl, tt),
                                      ),
                                    ),
                                  ),
                                ),
                              ),
                            ),
                          ),
                        ),
                      ),
                    ),
                  ),
                ),
              ),
            ),
          ),
        ),
      ),
    ),
  ),
)

-- the event inputs: 0 is good at each of their places
edges_alive : (v : ℕ) → Some (edges_by v)
edges_alive v = pick_case Some (even1 v) (lt-ltb 0 (number_of v) (number_least v)) refl

since_alive : (edges : ℕ) → Some (since_by edges)
since_alive edges = pick_case Some (ltb 0 edges) refl refl

debounce_alive : (v level : ℕ) → Some (debounce_by v level)
debounce_alive v level = pick_case Some (even0 v && ltb 0 level) (lt-ltb 0 (suc (debounce_of v)) (omega arith)) refl

module _ (place : List ℕ → ℕ) where
  pub events_live : RowsLive (event_rows place)
  unfolding RowsLive evls_row evhs_row edges_row since_row debounce_row unbroken
  events_live = (
    row_alive "evls" _ refl (λ b. refl),
    (
      row_alive "evhs" _ refl (λ b. refl),
      (
        row_alive "edges" _ refl (λ b. edges_alive (register_in b event_at)),
        (
          row_alive "since" _ refl (λ b. since_alive (get_or b (place b + 2) 0)),
          (row_alive "debounce" _ refl (λ b. debounce_alive (register_in b event_at) (get_or b (place b) 0)), tt),
        ),
      ),
    ),
  )

  pub events_zero : RowsZero (event_rows place)
  unfolding RowsZero evls_row evhs_row edges_row since_row debounce_row
  events_zero = (
    λ b j. refl,
    (
      λ b j. refl,
      (
        λ b j. edges_alive (register_in b event_at),
        (λ b j. since_alive (get_or b (place b + 2) 0), (λ b j. debounce_alive (register_in b event_at) (get_or b (place b) 0), tt)),
      ),
    ),
  )

pub later_live : GroupsLive later_groups
unfolding GroupsLive
later_live = (events_live chip_events, tt)

pub chip_live : Live chip_form
unfolding chip_form
chip_live = rows_live older_rows older_live (groups_form later_groups) (groups_live later_groups later_live) []
