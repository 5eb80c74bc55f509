-- The saved form as text and as numbers, written out from docs/DECISIONS.md, section 17: a second statement beside the laws, which hold of any keys and any
-- order.
-- Assumes nothing.
use Rattle.std.specs.Prelude.{ℕ, ◌≡◌, refl, true, false, List, [], ◌∷◌, ◌++◌, length, take, drop, set, replicate}
use Prim.Native.String.{String}
use Rattle.events.specs.declared.Events.{Events}
use Rattle.record.specs.declared.Code.TheVariants.{Eewrite, Other}
use Rattle.record.specs.declared.Device.{Device}
use Rattle.record.specs.declared.Lock.TheVariants.{First}
use Rattle.record.specs.declared.Long.TheVariants.{DisableOver}
use Rattle.record.specs.declared.Pair.TheVariants.{UnlockData, ClearRam}
use Rattle.record.specs.declared.Place.TheVariants.{EepromAt, ClockAt, IdAt}
use Rattle.record.specs.declared.Protection.TheVariants.{Half, All}
use Rattle.record.specs.declared.Stage.TheVariants.{Idle, Opened, Unheard, Instruction, Reading, Writing, Second, Over}
use Rattle.record.specs.declared.Target.TheVariants.{Eeprom, Id, Status}
use Rattle.record.specs.Fresh.{fresh}
use Rattle.record.specs.Setters.{with_regs, with_events}
use Rattle.record.specs.Numbers.{target_kind, target_value}
use Rattle.record.specs.World.{World, moved, fresh_world}
use Rattle.text.specs.Bytes.{bytes_of, agreed}
use Rattle.text.specs.Decimal.{text_within, decimal_text, value_from}
use Rattle.form.specs.Lines.{followed, numbers_text, line_text, numbers_in, read_line, lines_in, lined}
use Rattle.form.specs.Form.{loaded, bad, judged, load}
use Rattle.form.specs.Table.{rows, row_text, text_from, good_after, line_good, row_form, rows_form, zeros_after, groups_form, chip_form, part_row, register_row, sram_row, divider_row, startup_row, watchdog_row, delay_row, pulse_row, power_row, mark_row, wel_row, protection_row, lock_row, stage_row, offsets_row, load_row, next_row, target_row, left_row, eeprom_row, id_row, evls_row, evhs_row, edges_row, since_row, debounce_row}
use Rattle.form.specs.State.{array_numbers, is_state, counts_bytes, frame_bytes, event_bytes, state_of}
use Rattle.form.specs.Chip.{stage_numbers, head_numbers, tail_numbers, event_numbers, numbers_of, form_text, saved_text, older_text}

-- S1, S2, S11. the whole text of a fresh part 1 in the older form, and what today's has behind it
abbrev pub older_lines : List String
older_lines =
    "part=1" ∷ "reg0=0" ∷ "reg1=0" ∷ "reg2=0" ∷ "reg3=0" ∷ "reg4=1" ∷ "reg5=1" ∷ "reg6=1" ∷ "reg7=0" ∷ "reg8=0" ∷ "reg9=0" ∷ "reg10=0" ∷ "reg11=0"
    ∷ "reg12=0" ∷ "reg13=0" ∷ "reg14=0" ∷ "reg15=0" ∷ "reg16=0" ∷ "reg17=0" ∷ "reg18=0" ∷ "reg19=0" ∷ "reg20=0" ∷ "reg21=0" ∷ "reg22=0" ∷ "reg23=0"
    ∷ "reg24=0" ∷ "reg25=0" ∷ "reg26=0" ∷ "reg27=0" ∷ "reg28=0" ∷ "reg29=0" ∷ "reg30=0" ∷ "reg31=0" ∷ "sram0=0,0,0,0,0,0,0,0"
    ∷ "sram1=0,0,0,0,0,0,0,0" ∷ "sram2=0,0,0,0,0,0,0,0" ∷ "sram3=0,0,0,0,0,0,0,0" ∷ "sram4=0,0,0,0,0,0,0,0" ∷ "sram5=0,0,0,0,0,0,0,0"
    ∷ "sram6=0,0,0,0,0,0,0,0" ∷ "sram7=0,0,0,0,0,0,0,0" ∷ "divider=0" ∷ "startup=0" ∷ "watchdog=0" ∷ "delay=0" ∷ "pulse=0" ∷ "power=1" ∷ "mark=0"
    ∷ "wel=0" ∷ "bp=0" ∷ "lock=0" ∷ "stage=0,0,0" ∷ "offsets=0" ∷ "load=0,0,0,0,0,0,0,0" ∷ "next=0" ∷ "target=0,0" ∷ "left=0"
    ∷ "ee0=255,255,255,255,255,255,255,255" ∷ "ee1=255,255,255,255,255,255,255,255" ∷ "ee2=255,255,255,255,255,255,255,255"
    ∷ "ee3=255,255,255,255,255,255,255,255" ∷ "ee4=255,255,255,255,255,255,255,255" ∷ "ee5=255,255,255,255,255,255,255,255"
    ∷ "ee6=255,255,255,255,255,255,255,255" ∷ "ee7=255,255,255,255,255,255,255,255" ∷ "ee8=255,255,255,255,255,255,255,255"
    ∷ "ee9=255,255,255,255,255,255,255,255" ∷ "ee10=255,255,255,255,255,255,255,255" ∷ "ee11=255,255,255,255,255,255,255,255"
    ∷ "ee12=255,255,255,255,255,255,255,255" ∷ "ee13=255,255,255,255,255,255,255,255" ∷ "ee14=255,255,255,255,255,255,255,255"
    ∷ "ee15=255,255,255,255,255,255,255,255" ∷ "id0=255,255,255,255,255,255,255,255" ∷ "id1=255,255,255,255,255,255,255,255"
    ∷ []

abbrev pub event_lines : List String
event_lines = "evls=0" ∷ "evhs=0" ∷ "edges=0" ∷ "since=0" ∷ "debounce=0" ∷ []

pub FreshShown : Type 0
FreshShown =
    (saved_text 1 (fresh_world 1) ≡ lined (older_lines ++ event_lines))
    × (older_text 1 (fresh_world 1) ≡ lined older_lines)
    × (length (numbers_of 1 (fresh_world 1)) ≡ 272)
    × (length (numbers_of 4 (fresh_world 4)) ≡ 400)

-- S4, S5, S6. A chip at work: its numbers between SRAM and page load, and after it.
abbrev pub at_work : Device
at_work =
    record {
      regs = fresh.regs;
      sram = fresh.sram;
      counters = record { divider = 11; startup = 12; watchdog = 13; delay = 14; pulse = 15 };
      power = true;
      mark = false;
      guard = record { wel = true; protection = Half; lock = First };
      frame = record { stage = Reading (ClockAt (record { 0 = 0x5f })) };
      load = record { offsets = 129; bytes = replicate 8 7; next = 5 };
      cycle = record { target = Id (record { 0 = 9 }); left = 164 };
      events = record { door = 1; drum = 0; edges = 3; since = 4096; debounce = 512 };
    }

pub NumbersShown : Type 0
NumbersShown =
    (head_numbers at_work ≡ 11 ∷ 12 ∷ 13 ∷ 14 ∷ 15 ∷ 1 ∷ 0 ∷ 1 ∷ 2 ∷ 1 ∷ 4 ∷ 1 ∷ 95 ∷ 129 ∷ [])
    × (tail_numbers at_work.load at_work.cycle ≡ 5 ∷ 1 ∷ 9 ∷ 164 ∷ [])
    -- EVLS, EVHS, edges, ticks since the first, debounce ticks left
    × (event_numbers at_work.events ≡ 1 ∷ 0 ∷ 3 ∷ 4096 ∷ 512 ∷ [])
    -- each kind of stage
    × (stage_numbers Idle ≡ 0 ∷ 0 ∷ 0 ∷ [])
    × (stage_numbers Opened ≡ 1 ∷ 0 ∷ 0 ∷ [])
    × (stage_numbers Unheard ≡ 2 ∷ 0 ∷ 0 ∷ [])
    × (stage_numbers (Instruction Eewrite) ≡ 3 ∷ 2 ∷ 0 ∷ [])
    × (stage_numbers (Instruction Other) ≡ 3 ∷ 0 ∷ 0 ∷ [])
    × (stage_numbers (Writing (EepromAt (record { 0 = 16 }))) ≡ 5 ∷ 0 ∷ 16 ∷ [])
    × (stage_numbers (Reading (IdAt (record { 0 = 15 }))) ≡ 4 ∷ 2 ∷ 15 ∷ [])
    × (stage_numbers (Second (UnlockData 0x55)) ≡ 6 ∷ 1 ∷ 85 ∷ [])
    × (stage_numbers (Second ClearRam) ≡ 6 ∷ 3 ∷ 0 ∷ [])
    × (stage_numbers (Over DisableOver) ≡ 7 ∷ 5 ∷ 0 ∷ [])
    -- what a cycle writes
    × (target_kind (Eeprom (record { 0 = 200 })) ∷ target_value (Eeprom (record { 0 = 200 })) ∷ [] ≡ 0 ∷ 200 ∷ [])
    × (target_kind (Status All) ∷ target_value (Status All) ∷ [] ≡ 2 ∷ 3 ∷ [])

-- I1. State arrays: a fresh part 2, and the counts of a chip at work, the least significant byte first.
pub ArraysShown : Type 0
ArraysShown =
    (state_of 2 fresh ≡ 2 ∷ 0 ∷ 0 ∷ 0 ∷ 0 ∷ 1 ∷ 1 ∷ 1 ∷ (replicate 25 0 ++ (replicate 64 0 ++ (replicate 15 0 ++ (1 ∷ replicate 29 0)))))
    × (counts_bytes (record { divider = 0x1234; startup = 32; watchdog = 0x0a0b0c; delay = 2097152; pulse = 4096 })
    ≡ 0x34 ∷ 0x12 ∷ 0 ∷ 32 ∷ 0 ∷ 0 ∷ 0x0c ∷ 0x0b ∷ 0x0a ∷ 0 ∷ 0 ∷ 0x20 ∷ 0 ∷ 0x10 ∷ 0 ∷ [])
    -- power, mark, WEL, BP, lock, stage, offsets
    × (frame_bytes at_work ≡ 1 ∷ 0 ∷ 1 ∷ 2 ∷ 1 ∷ 4 ∷ 1 ∷ 95 ∷ 129 ∷ [])
    -- the event inputs
    × (event_bytes at_work.events ≡ 1 ∷ 0 ∷ 3 ∷ 0 ∷ 0x10 ∷ 0 ∷ 0 ∷ 2 ∷ 0 ∷ [])
    × (length (state_of 1 at_work) ≡ 142)
    × (numbers_of 1 (fresh_world 1)
    ≡ take 123 (array_numbers (state_of 1 fresh)) ++ ((fresh_world 1).eeprom ++ ((fresh_world 1).id ++ drop 123 (array_numbers (state_of 1 fresh)))))
    -- an array of the length that it had without them is none
    × (is_state (take 133 (state_of 1 fresh)) ≡ false)

-- S8. The first bad line of short texts.
abbrev pub Judges : List ℕ → ℕ → Type 0
Judges text n = load chip_form text ≡ bad n

pub BadShown : Type 0
BadShown =
    -- nothing; no such part; a needless zero; a blank; no newline
    Judges [] 1
    × Judges (lined ("part=0" ∷ [])) 1
    × Judges (lined ("part=5" ∷ [])) 1
    × Judges (lined ("part=01" ∷ [])) 1
    × Judges (lined ("part= 1" ∷ [])) 1
    × Judges (bytes_of "part=1") 1
    -- a text that ends too early; another key; a number too many; none; a letter
    × Judges (lined ("part=1" ∷ [])) 2
    × Judges (lined ("part=1" ∷ "reg1=0" ∷ [])) 2
    × Judges (lined ("part=1" ∷ "reg0=0,0" ∷ [])) 2
    × Judges (lined ("part=1" ∷ "reg0=" ∷ [])) 2
    × Judges (lined ("part=1" ∷ "reg0=a" ∷ [])) 2
    -- 04h may hold bits 4 to 0 (OSCON, bit 5, is made): a bit outside its mask, and none
    × Judges (lined ("part=1" ∷ "reg0=0" ∷ "reg1=0" ∷ "reg2=0" ∷ "reg3=0" ∷ "reg4=32" ∷ [])) 6
    × Judges (lined ("part=1" ∷ "reg0=0" ∷ "reg1=0" ∷ "reg2=0" ∷ "reg3=0" ∷ "reg4=31" ∷ [])) 7

-- S8, S11. Whole texts of a fresh part 1: today's, and one of the older form; cut behind each line from the last but one of `id` on.
abbrev pub Gives : List String → ℕ → World → Type 0
Gives ls part w = load chip_form (lined ls) ≡ loaded (numbers_of part w)

pub WholeShown : Type 0
WholeShown =
    Gives (older_lines ++ event_lines) 1 (fresh_world 1)
    × Gives older_lines 1 (fresh_world 1)
    × Judges (lined (take 74 older_lines)) 75
    × Judges (lined (older_lines ++ take 1 event_lines)) 77
    × Judges (lined (older_lines ++ take 2 event_lines)) 78
    × Judges (lined (older_lines ++ take 3 event_lines)) 79
    × Judges (lined (older_lines ++ take 4 event_lines)) 80
    × Judges (lined (older_lines ++ (event_lines ++ ("evls=0" ∷ [])))) 81

-- S12. The same with a byte in 0Bh and these event lines: what each may be at most, and one more.
abbrev pub control : String → List String → List String
control l ls = take 12 older_lines ++ (l ∷ (drop 13 older_lines ++ ls))

abbrev pub inputs : String → String → String → String → String → List String
inputs evls evhs edges since debounce = evls ∷ evhs ∷ edges ∷ since ∷ debounce ∷ []

abbrev pub with_inputs : ℕ → Events → World
with_inputs v e = moved (fresh_world 1) (with_events (with_regs fresh (set fresh.regs 0x0b v)) e)

pub LimitsShown : Type 0
LimitsShown =
    -- 32h: both enabled, 16 edges, 1,024 ticks of debounce
    Gives (control "reg11=50" (inputs "evls=1" "evhs=1" "edges=15" "since=8192" "debounce=1024")) 1
    (with_inputs 0x32 (record { door = 1; drum = 1; edges = 15; since = 8192; debounce = 1024 }))
    × Judges (lined (control "reg11=50" (inputs "evls=2" "evhs=1" "edges=15" "since=8192" "debounce=1024"))) 76
    × Judges (lined (control "reg11=50" (inputs "evls=1" "evhs=2" "edges=15" "since=8192" "debounce=1024"))) 77
    × Judges (lined (control "reg11=50" (inputs "evls=1" "evhs=1" "edges=16" "since=8192" "debounce=1024"))) 78
    × Judges (lined (control "reg11=50" (inputs "evls=1" "evhs=1" "edges=15" "since=8193" "debounce=1024"))) 79
    × Judges (lined (control "reg11=50" (inputs "evls=1" "evhs=1" "edges=15" "since=8192" "debounce=1025"))) 80
    -- ticks since an edge that was not counted; debounce ticks with EVLS low
    × Judges (lined (control "reg11=50" (inputs "evls=1" "evhs=1" "edges=0" "since=1" "debounce=0"))) 79
    × Judges (lined (control "reg11=50" (inputs "evls=0" "evhs=1" "edges=0" "since=0" "debounce=1"))) 80
    -- 12h, 22h: EVEN1 clear, EVEN0 clear
    × Judges (lined (control "reg11=18" (inputs "evls=1" "evhs=1" "edges=1" "since=0" "debounce=0"))) 78
    × Judges (lined (control "reg11=34" (inputs "evls=1" "evhs=1" "edges=1" "since=1" "debounce=1"))) 80
    -- 37h: 32 edges, 16,384 ticks
    × Gives (control "reg11=55" (inputs "evls=1" "evhs=0" "edges=31" "since=1" "debounce=16384")) 1
    (with_inputs 0x37 (record { door = 1; drum = 0; edges = 31; since = 1; debounce = 16384 }))
    × Judges (lined (control "reg11=55" (inputs "evls=1" "evhs=0" "edges=32" "since=1" "debounce=16384"))) 78
    × Judges (lined (control "reg11=55" (inputs "evls=1" "evhs=0" "edges=31" "since=1" "debounce=16385"))) 80
    -- 30h, 31h: one edge, four
    × Judges (lined (control "reg11=48" (inputs "evls=1" "evhs=0" "edges=1" "since=1" "debounce=0"))) 78
    × Judges (lined (control "reg11=49" (inputs "evls=1" "evhs=0" "edges=4" "since=1" "debounce=0"))) 78

pub fresh_shown : FreshShown
unfolding FreshShown fresh numbers_of form_text text_from row_text line_text numbers_text followed decimal_text text_within rows part_row register_row sram_row divider_row startup_row watchdog_row delay_row pulse_row power_row mark_row wel_row protection_row lock_row stage_row offsets_row load_row next_row target_row left_row eeprom_row id_row evls_row evhs_row edges_row since_row debounce_row
fresh_shown = (refl, refl, refl, refl)

pub numbers_shown : NumbersShown
unfolding NumbersShown
numbers_shown = (refl, refl, refl, refl, refl, refl, refl, refl, refl, refl, refl, refl, refl, refl, refl)

pub arrays_shown : ArraysShown
unfolding ArraysShown fresh state_of array_numbers numbers_of is_state
arrays_shown = (refl, refl, refl, refl, refl, refl, refl)

pub bad_shown : BadShown
unfolding BadShown load judged chip_form rows_form row_form part_row register_row line_good good_after read_line numbers_in lines_in agreed decimal_text text_within value_from
bad_shown = (refl, refl, refl, refl, refl, refl, refl, refl, refl, refl, refl, refl, refl)

pub whole_shown : WholeShown
unfolding WholeShown fresh numbers_of load judged chip_form rows_form groups_form zeros_after row_form part_row register_row sram_row divider_row startup_row watchdog_row delay_row pulse_row power_row mark_row wel_row protection_row lock_row stage_row offsets_row load_row next_row target_row left_row eeprom_row id_row evls_row evhs_row edges_row since_row debounce_row line_good good_after read_line numbers_in lines_in agreed decimal_text text_within value_from
whole_shown = (refl, refl, refl, refl, refl, refl, refl, refl)

pub limits_shown : LimitsShown
unfolding LimitsShown fresh numbers_of load judged chip_form rows_form groups_form zeros_after row_form part_row register_row sram_row divider_row startup_row watchdog_row delay_row pulse_row power_row mark_row wel_row protection_row lock_row stage_row offsets_row load_row next_row target_row left_row eeprom_row id_row evls_row evhs_row edges_row since_row debounce_row line_good good_after read_line numbers_in lines_in agreed decimal_text text_within value_from
limits_shown = (refl, refl, refl, refl, refl, refl, refl, refl, refl, refl, refl, refl, refl, refl, refl)
