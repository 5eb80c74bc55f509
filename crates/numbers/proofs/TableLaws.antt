-- Laws of the table as code has it: a row by its place, and by its name.
-- Assumes nothing.
use mathlib.Core.Path.{◌≡◌, refl, sym, ap, ◌∙◌}
use mathlib.Core.Logic.{◌≢◌, ◌⊎◌, inl, inr}
use mathlib.Core.Bool.{Bool, true, false, ◌||◌}
use mathlib.Core.List.{List, [], ◌∷◌}
use Prim.Native.Nat.{ℕ, zero, suc, ◌/◌, ◌<◌, ◌≤◌}
use native.Mathlib.Omega.{arith}
use borrow.Author.Tests.{ne_eqb, eqb-true, ltb-true, ltb-false}
use lib.Dec.{ltb, eqb}
use lib.ListN.{get_or, get_or-eq_default}
use Rattle.base.specs.Words.{pick, every}
use Rattle.base.proofs.Tests.{by_cases}
use Rattle.base.proofs.Every.{every_at, same_below}
use Rattle.record.specs.declared.ClockAddress.{ClockAddress}
use Rattle.record.specs.declared.EepromAddress.{EepromAddress}
use Rattle.record.specs.declared.IdAddress.{IdAddress}
use Rattle.record.specs.declared.Place.{Place}
use Rattle.record.specs.declared.Place.TheVariants.{EepromAt, ClockAt, IdAt}
use Rattle.record.specs.declared.Stage.{Stage}
use Rattle.record.specs.declared.Stage.TheVariants.{Reading, Writing, Second}
use Rattle.record.specs.Numbers.{place_of, pair_of, stage_of}
use Rattle.record.specs.Part.{size_of}
use Rattle.record.specs.Stages.{foreign_to_wip}
use Rattle.form.specs.Table.{rows, part_in, power_in, case_limit, left_by, left_limit, part_row, register_row, sram_row, divider_row, startup_row, watchdog_row, delay_row, pulse_row, power_row, mark_row, wel_row, protection_row, lock_row, stage_row, offsets_row, load_row, next_row, target_row, left_row, eeprom_row, id_row, evls_row, evhs_row, edges_row, since_row, debounce_row, register_good, stage_good, target_good}
use Rattle.numbers.specs.declared.table.Row.{Row as Name}
use Rattle.numbers.specs.declared.table.Row.TheVariants.{Part as PartRow, Reg, Sram, Divider, Startup, Watchdog, Delay, Pulse, Power, Mark, Wel, Bp, Lock, Stage as StageRow, Offsets, Load, Next, Target, Left, Ee, Id, Evls, Evhs, Edges, Since, Debounce}
use Rattle.numbers.specs.Tables.{row_at, row_count, row_place, row_of}

-- What is constant of each row, as code has it. Numbers on a line;
abbrev pub widths : List ℕ
widths = 1 ∷ 1 ∷ 8 ∷ 1 ∷ 1 ∷ 1 ∷ 1 ∷ 1 ∷ 1 ∷ 1 ∷ 1 ∷ 1 ∷ 1 ∷ 3 ∷ 1 ∷ 8 ∷ 1 ∷ 2 ∷ 1 ∷ 8 ∷ 8 ∷ 1 ∷ 1 ∷ 1 ∷ 1 ∷ 1 ∷ []

-- lines of a row, those of the EEPROM by the part;
abbrev pub line_counts : List ℕ
line_counts = 1 ∷ 32 ∷ 8 ∷ 1 ∷ 1 ∷ 1 ∷ 1 ∷ 1 ∷ 1 ∷ 1 ∷ 1 ∷ 1 ∷ 1 ∷ 1 ∷ 1 ∷ 1 ∷ 1 ∷ 1 ∷ 1 ∷ 0 ∷ 2 ∷ 1 ∷ 1 ∷ 1 ∷ 1 ∷ 1 ∷ []

abbrev pub lines_by : ℕ → ℕ → ℕ
lines_by i part = pick (eqb i 19) (size_of part / 8) (get_or line_counts i 0)

-- what a number is less than, where that is one number; 0 where it depends on others.
abbrev pub limits : List ℕ
limits =
    0 ∷ 0 ∷ 256 ∷ 32768 ∷ 0 ∷ 0 ∷ 2097153 ∷ 4097 ∷ 2 ∷ 0 ∷ 2 ∷ 4 ∷ 3 ∷ 0 ∷ 256 ∷ 256 ∷ 8 ∷ 0 ∷ 0 ∷ 256 ∷ 256 ∷ 2 ∷ 2 ∷ 0 ∷ 0 ∷ 0 ∷ []

pub row_width : (i : ℕ) → i < row_count → get_or widths i 0 ≡ (row_at i).width
unfolding every row_at rows part_row register_row sram_row divider_row startup_row watchdog_row delay_row pulse_row power_row mark_row wel_row protection_row lock_row stage_row offsets_row load_row next_row target_row left_row eeprom_row id_row evls_row evhs_row edges_row since_row debounce_row
row_width i h = same_below (λ (k : ℕ). get_or widths k 0) (λ (k : ℕ). (row_at k).width) 26 refl i h

pub row_lines_lem : (b : List ℕ) (i : ℕ) → i < row_count → (row_at i).lines b ≡ lines_by i (part_in b)
unfolding every row_at rows part_row register_row sram_row divider_row startup_row watchdog_row delay_row pulse_row power_row mark_row wel_row protection_row lock_row stage_row offsets_row load_row next_row target_row left_row eeprom_row id_row evls_row evhs_row edges_row since_row debounce_row
row_lines_lem b i h =
    by_cases (eqb i 19) (λ t. rw (eqb-true i 19 t))
    (λ f. rw f (eqb-true _ _ (other f (every_at (λ (k : ℕ). eqb k 19 || eqb ((row_at k).lines b) (get_or line_counts k 0)) 26 refl i h))))
  where
    other : {t u : Bool} → t ≡ false → (t || u) ≡ true → u ≡ true
    other e g = rw e at g

-- Rows by name: those of one number on a line,
pub narrow : (r : Name) → r ≢ Sram → r ≢ StageRow → r ≢ Load → r ≢ Target → r ≢ Ee → r ≢ Id → 1 ≡ (row_of r).width
unfolding row_at rows part_row register_row sram_row divider_row startup_row watchdog_row delay_row pulse_row power_row mark_row wel_row protection_row lock_row stage_row offsets_row load_row next_row target_row left_row eeprom_row id_row evls_row evhs_row edges_row since_row debounce_row
narrow Sram a b c d e f = absurd (a refl)
narrow StageRow a b c d e f = absurd (b refl)
narrow Load a b c d e f = absurd (c refl)
narrow Target a b c d e f = absurd (d refl)
narrow Ee a b c d e f = absurd (e refl)
narrow Id a b c d e f = absurd (f refl)
narrow _ a b c d e f = refl

-- those of one line,
pub short : (r : Name) (b : List ℕ) → r ≢ Reg → r ≢ Sram → r ≢ Ee → r ≢ Id → 1 ≡ (row_of r).lines b
unfolding row_at rows part_row register_row sram_row divider_row startup_row watchdog_row delay_row pulse_row power_row mark_row wel_row protection_row lock_row stage_row offsets_row load_row next_row target_row left_row eeprom_row id_row evls_row evhs_row edges_row since_row debounce_row
short Reg b c d e f = absurd (c refl)
short Sram b c d e f = absurd (d refl)
short Ee b c d e f = absurd (e refl)
short Id b c d e f = absurd (f refl)
short _ b c d e f = refl

-- those without a line's number after the key, and with it,
pub bare : (r : Name) → r ≢ Reg → r ≢ Sram → r ≢ Ee → r ≢ Id → false ≡ (row_of r).numbered
unfolding row_at rows part_row register_row sram_row divider_row startup_row watchdog_row delay_row pulse_row power_row mark_row wel_row protection_row lock_row stage_row offsets_row load_row next_row target_row left_row eeprom_row id_row evls_row evhs_row edges_row since_row debounce_row
bare Reg b c d e = absurd (b refl)
bare Sram b c d e = absurd (c refl)
bare Ee b c d e = absurd (d refl)
bare Id b c d e = absurd (e refl)
bare _ b c d e = refl

pub numbered : {r : Name} → (r ≡ Reg) ⊎ ((r ≡ Sram) ⊎ ((r ≡ Ee) ⊎ (r ≡ Id))) → true ≡ (row_of r).numbered
unfolding row_at rows part_row register_row sram_row divider_row startup_row watchdog_row delay_row pulse_row power_row mark_row wel_row protection_row lock_row stage_row offsets_row load_row next_row target_row left_row eeprom_row id_row evls_row evhs_row edges_row since_row debounce_row
numbered (inl e) = rw e refl
numbered (inr (inl e)) = rw e refl
numbered (inr (inr (inl e))) = rw e refl
numbered (inr (inr (inr e))) = rw e refl

-- and those of bytes.
pub byte_rows :
    (b : List ℕ) (j n : ℕ) {r : Name} → (r ≡ Sram) ⊎ ((r ≡ Offsets) ⊎ ((r ≡ Load) ⊎ ((r ≡ Ee) ⊎ (r ≡ Id)))) → ltb n 256 ≡ (row_of r).good b j n
unfolding row_at rows part_row register_row sram_row divider_row startup_row watchdog_row delay_row pulse_row power_row mark_row wel_row protection_row lock_row stage_row offsets_row load_row next_row target_row left_row eeprom_row id_row evls_row evhs_row edges_row since_row debounce_row
byte_rows b j n (inl e) = rw e refl
byte_rows b j n (inr (inl e)) = rw e refl
byte_rows b j n (inr (inr (inl e))) = rw e refl
byte_rows b j n (inr (inr (inr (inl e)))) = rw e refl
byte_rows b j n (inr (inr (inr (inr e)))) = rw e refl

-- The rows in their order: each has its place in the table.
abbrev pub names : List Name
names = PartRow ∷ Reg ∷ Sram ∷ Divider ∷ Startup ∷ Watchdog ∷ Delay ∷ Pulse ∷ Power ∷ Mark ∷ Wel ∷ Bp ∷ Lock ∷ StageRow ∷ Offsets ∷ Load ∷ Next ∷ Target ∷ Left ∷ Ee ∷ Id ∷ Evls ∷ Evhs ∷ Edges ∷ Since ∷ Debounce ∷ []

pub row_here : (d : Name) (i : ℕ) → i < row_count → row_of (get_or names i d) ≡ row_at i
unfolding every
row_here d i h = ap row_at (eqb-true _ _ (every_at (λ (k : ℕ). eqb (row_place (get_or names k d)) k) 26 refl i h))

pub row_in : (r : Name) → row_place r < row_count
row_in Reg = omega arith
row_in _ = omega arith

-- the rows whose limit is one number
pub row_limit :
    (i : ℕ) → i < row_count → i ≢ 0 → i ≢ 1 → i ≢ 4 → i ≢ 5 → i ≢ 9 → i ≢ 13 → i ≢ 17 → i ≢ 18 → i ≢ 23 → i ≢ 24 → i ≢ 25 → (b : List ℕ) (j n : ℕ)
    → ltb n (get_or limits i 0) ≡ (row_at i).good b j n
unfolding row_at rows part_row register_row sram_row divider_row startup_row watchdog_row delay_row pulse_row power_row mark_row wel_row protection_row lock_row stage_row offsets_row load_row next_row target_row left_row eeprom_row id_row evls_row evhs_row edges_row since_row debounce_row
row_limit zero h e0 e1 e4 e5 e9 e13 e17 e18 e23 e24 e25 b j n = absurd (e0 refl)
row_limit (suc zero) h e0 e1 e4 e5 e9 e13 e17 e18 e23 e24 e25 b j n = absurd (e1 refl)
row_limit (suc (suc zero)) h e0 e1 e4 e5 e9 e13 e17 e18 e23 e24 e25 b j n = refl
row_limit (suc (suc (suc zero))) h e0 e1 e4 e5 e9 e13 e17 e18 e23 e24 e25 b j n = refl
row_limit (suc (suc (suc (suc zero)))) h e0 e1 e4 e5 e9 e13 e17 e18 e23 e24 e25 b j n = absurd (e4 refl)
row_limit (suc (suc (suc (suc (suc zero))))) h e0 e1 e4 e5 e9 e13 e17 e18 e23 e24 e25 b j n = absurd (e5 refl)
row_limit (suc (suc (suc (suc (suc (suc zero)))))) h e0 e1 e4 e5 e9 e13 e17 e18 e23 e24 e25 b j n = refl
row_limit (suc (suc (suc (suc (suc (suc (suc zero))))))) h e0 e1 e4 e5 e9 e13 e17 e18 e23 e24 e25 b j n = refl
row_limit (suc (suc (suc (suc (suc (suc (suc (suc zero)))))))) h e0 e1 e4 e5 e9 e13 e17 e18 e23 e24 e25 b j n = refl
row_limit (suc (suc (suc (suc (suc (suc (suc (suc (suc zero))))))))) h e0 e1 e4 e5 e9 e13 e17 e18 e23 e24 e25 b j n = absurd (e9 refl)
row_limit (suc (suc (suc (suc (suc (suc (suc (suc (suc (suc zero)))))))))) h e0 e1 e4 e5 e9 e13 e17 e18 e23 e24 e25 b j n = refl
row_limit (suc (suc (suc (suc (suc (suc (suc (suc (suc (suc (suc zero))))))))))) h e0 e1 e4 e5 e9 e13 e17 e18 e23 e24 e25 b j n = refl
row_limit (suc (suc (suc (suc (suc (suc (suc (suc (suc (suc (suc (suc zero)))))))))))) h e0 e1 e4 e5 e9 e13 e17 e18 e23 e24 e25 b j n = refl
row_limit (suc (suc (suc (suc (suc (suc (suc (suc (suc (suc (suc (suc (suc zero))))))))))))) h e0 e1 e4 e5 e9 e13 e17 e18 e23 e24 e25 b j n = absurd (e13 refl)
row_limit (suc (suc (suc (suc (suc (suc (suc (suc (suc (suc (suc (suc (suc (suc zero)))))))))))))) h e0 e1 e4 e5 e9 e13 e17 e18 e23 e24 e25 b j n = refl
row_limit (suc (suc (suc (suc (suc (suc (suc (suc (suc (suc (suc (suc (suc (suc (suc zero))))))))))))))) h e0 e1 e4 e5 e9 e13 e17 e18 e23 e24 e25 b j n = refl
row_limit (suc (suc (suc (suc (suc (suc (suc (suc (suc (suc (suc (suc (suc (suc (suc (suc zero)))))))))))))))) h e0 e1 e4 e5 e9 e13 e17 e18 e23 e24 e25 b j n = refl
row_limit (suc (suc (suc (suc (suc (suc (suc (suc (suc (suc (suc (suc (suc (suc (suc (suc (suc zero))))))))))))))))) h e0 e1 e4 e5 e9 e13 e17 e18 e23 e24 e25 b j n = absurd (e17 refl)
row_limit (suc (suc (suc (suc (suc (suc (suc (suc (suc (suc (suc (suc (suc (suc (suc (suc (suc (suc zero)))))))))))))))))) h e0 e1 e4 e5 e9 e13 e17 e18 e23 e24 e25 b j n = absurd (e18 refl)
row_limit (suc (suc (suc (suc (suc (suc (suc (suc (suc (suc (suc (suc (suc (suc (suc (suc (suc (suc (suc zero))))))))))))))))))) h e0 e1 e4 e5 e9 e13 e17 e18 e23 e24 e25 b j n = refl
row_limit (suc (suc (suc (suc (suc (suc (suc (suc (suc (suc (suc (suc (suc (suc (suc (suc (suc (suc (suc (suc zero)))))))))))))))))))) h e0 e1 e4 e5 e9 e13 e17 e18 e23 e24 e25 b j n = refl
row_limit (suc (suc (suc (suc (suc (suc (suc (suc (suc (suc (suc (suc (suc (suc (suc (suc (suc (suc (suc (suc (suc zero))))))))))))))))))))) h e0 e1 e4 e5 e9 e13 e17 e18 e23 e24 e25 b j n = refl
row_limit (suc (suc (suc (suc (suc (suc (suc (suc (suc (suc (suc (suc (suc (suc (suc (suc (suc (suc (suc (suc (suc (suc zero)))))))))))))))))))))) h e0 e1 e4 e5 e9 e13 e17 e18 e23 e24 e25 b j n = refl
row_limit (suc (suc (suc (suc (suc (suc (suc (suc (suc (suc (suc (suc (suc (suc (suc (suc (suc (suc (suc (suc (suc (suc (suc zero))))))))))))))))))))))) h e0 e1 e4 e5 e9 e13 e17 e18 e23 e24 e25 b j n = absurd (e23 refl)
row_limit (suc (suc (suc (suc (suc (suc (suc (suc (suc (suc (suc (suc (suc (suc (suc (suc (suc (suc (suc (suc (suc (suc (suc (suc zero)))))))))))))))))))))))) h e0 e1 e4 e5 e9 e13 e17 e18 e23 e24 e25 b j n = absurd (e24 refl)
row_limit (suc (suc (suc (suc (suc (suc (suc (suc (suc (suc (suc (suc (suc (suc (suc (suc (suc (suc (suc (suc (suc (suc (suc (suc (suc zero))))))))))))))))))))))))) h e0 e1 e4 e5 e9 e13 e17 e18 e23 e24 e25 b j n = absurd (e25 refl)
row_limit (suc (suc (suc (suc (suc (suc (suc (suc (suc (suc (suc (suc (suc (suc (suc (suc (suc (suc (suc (suc (suc (suc (suc (suc (suc (suc i)))))))))))))))))))))))))) h e0 e1 e4 e5 e9 e13 e17 e18 e23 e24 e25 b j n = absurd (omega arith)

-- Kind and case of a stage as bytes: one that is no byte is no number of theirs, and neither is 255.
off : (n : ℕ) → ltb n 256 ≡ false → (i : ℕ) → ltb i 256 ≡ true → eqb n i ≡ false
off n t i h = ne_eqb n i (λ e. absurd (omega (arith, ltb-false n 256 t, ltb-true i 256 h, e)))

kind_byte : (k c v : ℕ) → stage_of (pick (ltb k 256) k 255) c v ≡ stage_of k c v
kind_byte k c v =
    by_cases (ltb k 256) (λ t. rw t) (λ t. rw (t, off k t 0 refl, off k t 1 refl, off k t 2 refl, off k t 3 refl, off k t 4 refl, off k t 5 refl, off k t 6 refl))

case_byte_of : (k c v : ℕ) → stage_of k (pick (ltb c 256) c 255) v ≡ stage_of k c v
case_byte_of k c v =
    by_cases (ltb c 256) (λ t. rw t)
    (λ t.
    let f = off c t in
    rw (t, f 0 refl, f 1 refl, f 2 refl, f 3 refl, f 4 refl, f 5 refl, f 6 refl, f 0x12 refl, f 0x13 refl, f 0x14 refl, f 0x32 refl, f 0x33 refl, f 0x44 refl, f 0x54 refl))

-- a frame is foreign by kind and case alone, whatever value they have
module _ (c v : ℕ) where
  same_memory_lem :
      (P : Place → Place → Type 0) → ((a b : EepromAddress) → P (EepromAt a) (EepromAt b)) → ((a b : ClockAddress) → P (ClockAt a) (ClockAt b))
      → ((a b : IdAddress) → P (IdAt a) (IdAt b)) → P (place_of c 0) (place_of c v)
  same_memory_lem P e f g =
      by_cases (eqb c 0) (λ t. rw t (e _ _)) (λ t. by_cases (eqb c 1) (λ u. rw (t, u) (f _ _)) (λ u. rw (t, u) (g _ _)))

  same_pair : foreign_to_wip (Second (pair_of c 0)) ≡ foreign_to_wip (Second (pair_of c v))
  same_pair = by_cases (eqb c 0) (λ t. rw t) (λ t. by_cases (eqb c 1) (λ u. rw (t, u)) (λ u. rw (t, u)))

  value_free : (k : ℕ) → foreign_to_wip (stage_of k c 0) ≡ foreign_to_wip (stage_of k c v)
  value_free k =
      by_cases (eqb k 4)
      (λ t. rw (eqb-true k 4 t) (same_memory_lem (λ p q. foreign_to_wip (Reading p) ≡ foreign_to_wip (Reading q)) (λ a b. refl) (λ a b. refl) (λ a b. refl)))
      (λ t4.
      by_cases (eqb k 5)
      (λ t. rw (eqb-true k 5 t) (same_memory_lem (λ p q. foreign_to_wip (Writing p) ≡ foreign_to_wip (Writing q)) (λ a b. refl) (λ a b. refl) (λ a b. refl)))
      (λ t5. by_cases (eqb k 6) (λ t. rw (eqb-true k 6 t) same_pair) (λ t6. rw (t4, t5, t6))))

-- from kind and case as bytes
pub foreign_by :
    (k c : ℕ) {a b : ℕ} {s : Stage} {t : Bool} → a ≡ pick (ltb k 256) k 255 → b ≡ pick (ltb c 256) c 255 → s ≡ stage_of a b 0 → t ≡ foreign_to_wip s
    → t ≡ foreign_to_wip (stage_of k c 0)
foreign_by k c e f g h = h ∙ ap foreign_to_wip (g ∙ (λ i. stage_of (e i) (f i) 0) ∙ kind_byte k (pick (ltb c 256) c 255) 0 ∙ case_byte_of k c 0)

pub case_limit_past : (k : ℕ) → 8 ≤ k → 1 ≡ case_limit k
case_limit_past k h = sym (get_or-eq_default (1 ∷ 1 ∷ 1 ∷ 256 ∷ 3 ∷ 3 ∷ 4 ∷ 6 ∷ []) 1 {n = k} h)

pub left_told : (b : List ℕ) → left_by (power_in b) (foreign_to_wip (stage_of (get_or b 107 0) (get_or b 108 0) 0)) ≡ left_limit b
left_told b = ap (left_by (power_in b)) (value_free (get_or b 108 0) (get_or b 109 0) (get_or b 107 0))

-- the rows whose limit depends on other numbers, place by place
module _ (i : ℕ) (b : List ℕ) (j n : ℕ) where
  pub register_good_lem : i ≡ 1 → register_good j n ≡ (row_at i).good b j n
  unfolding row_at rows register_row
  register_good_lem e = ap (λ (k : ℕ). (row_at k).good b j n) (sym e)

  pub stage_good_lem : i ≡ 13 → stage_good b j n ≡ (row_at i).good b j n
  unfolding row_at rows stage_row
  stage_good_lem e = ap (λ (k : ℕ). (row_at k).good b j n) (sym e)

  pub target_good_lem : i ≡ 17 → target_good b j n ≡ (row_at i).good b j n
  unfolding row_at rows target_row
  target_good_lem e = ap (λ (k : ℕ). (row_at k).good b j n) (sym e)
