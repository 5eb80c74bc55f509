-- V17. The chip of before the event inputs, kept for one theorem: runs without a pin act, in which 0Bh gets neither flag, answer as on it. It works on
-- today's record and leaves its levels and counts alone. Six places differ from today's chip: a tick, the line IRQ, what stops a wait, what follows
-- from a WRITE, a cut without the battery, and the rows of number 6. What is not said here anew is today's.
-- Assumes nothing.
use Rattle.std.specs.Prelude.{ℕ, ◌-◌, ◌≡◌, Bool, false, not, ◌&&◌, ◌||◌, List, [], ◌∷◌, ltb, eqb, length, get_or, set, Option, None, Result, Ok, Err}
use Rattle.base.specs.Words.{pick, bit, any_of}
use Rattle.base.specs.Wait.{Waited, waited_by}
use Rattle.events.specs.declared.Inputs.{Inputs}
use Rattle.record.specs.declared.Act.{Act}
use Rattle.record.specs.declared.Act.TheVariants.{Select, Byte, End, Wait, Cut, Up, Set}
use Rattle.record.specs.declared.ClockAddress.{ClockAddress}
use Rattle.record.specs.declared.Device.{Device}
use Rattle.record.specs.declared.Pin.{Pin}
use Rattle.record.specs.declared.Place.{Place}
use Rattle.record.specs.declared.Place.TheVariants.{EepromAt, ClockAt, IdAt}
use Rattle.record.specs.declared.Stage.{Stage}
use Rattle.record.specs.declared.Stage.TheVariants.{Idle, Opened, Unheard, Instruction, Reading, Writing, Second, Over}
use Rattle.record.specs.Fresh.{fresh_regs, fresh_sram, fresh_counters}
use Rattle.record.specs.Part.{is_part, size_of, top_of, boots_of}
use Rattle.record.specs.Registers.{st, vbaten, vbat, oscon, alm_pin, alm0, alm1, alarm0_at, alarm1_at, seconds_at, day_at, watchdog_at, writable}
use Rattle.record.specs.Setters.{with_regs, with_sram, with_counters, with_startup, with_watchdog, with_delay, with_stage, with_load, inputs_of}
use Rattle.record.specs.Stages.{selected}
use Rattle.record.specs.World.{World, world, moved, Shaped, fresh_world}
use Rattle.refusals.specs.InRange.{InRange}
use Rattle.refusals.specs.Range.{clock_out, frame_out, cycle_out, power_out}
use Rattle.refusals.specs.Refusal.{wrong_length, wrong_arg, wrong_power, wrong_select, first_refusal}
use Rattle.registers.specs.Write.{delay_after, day_written, under_mask}
use Rattle.ticks.specs.Lines.{flagged, irq_low, wdo_low, wip, differ}
use Rattle.ticks.specs.Oscillator.{oscillator_tick}
use Rattle.ticks.specs.Watchdog.{watchdog_tick}
use Rattle.ticks.specs.Clock.{calendar_tick, alarm_tick}
use Rattle.ticks.specs.Tick.{cycle_tick, alive}
use Rattle.frames.specs.Frame.{stage_after, load_after}
use Rattle.power.specs.Power.{watchdog_cut, failure_stamped, stopped_by, cut_count, cut_world}
use Rattle.acts.specs.Act.{Outcome, outcome, refused, waited_outcome, accepted, performed}
use Rattle.run.specs.Claim.{Input}
use Rattle.lines.specs.declared.Fault.{Fault}
use Rattle.lines.specs.declared.Request.{Request}
use Rattle.lines.specs.declared.Request.TheVariants.{Part as PartLine, Act as ActLine}
use Rattle.lines.specs.Request.{request_of, fault_number, fault_column}
use Rattle.lines.specs.Print.{answer_line}
use Rattle.answers.specs.Answer.{Setup, setup, no_part, LineAnswer, faulty_line, misplaced, part_answer, outcome_answer, request_answer, level_high, answer_text}
use Rattle.signals.specs.Claim.{to_event}

-- a tick has no part of the event inputs
unfoldable pub clockwork_before : Bool → Device → Device
clockwork_before boots d =
    let counted : Bool = oscon d.counters in
    let w : Device = watchdog_tick counted (oscillator_tick boots d) in
    alarm_tick counted w (calendar_tick counted w)

unfoldable pub tick_before : Bool → World → World
tick_before boots w =
    let c : World = cycle_tick w in
    pick (alive w.device) (world (clockwork_before boots c.device) c.eeprom c.id) w

-- alarms alone hold IRQ low
unfoldable pub irq_before : Device → Bool
irq_before d = (flagged d.regs alm0 alarm0_at && not (alm_pin d.regs alarm0_at)) || (flagged d.regs alm1 alarm1_at && not (alm_pin d.regs alarm1_at))

-- no flag stops a wait by itself
unfoldable pub changed_before : Device → Device → Bool
changed_before d e = differ (irq_before d) (irq_before e) || differ (wdo_low d) (wdo_low e) || differ (wip d) (wip e)

abbrev pub stops_before : World → World → Bool
stops_before v w = changed_before v.device w.device

abbrev pub waited_before : Bool → ℕ → World → Waited World
waited_before boots n w = waited_by (tick_before boots) stops_before n w

-- nothing follows from a write of 0Bh
unfoldable pub after_write_before : Bool → Bool → ℕ → Device → Device
after_write_before boots vbatBefore a d =
    pick (eqb a seconds_at) (pick (not boots && not (st d.regs)) (with_startup d 0) d)
    (pick (eqb a day_at) (with_regs d (day_written vbatBefore d.regs))
    (pick (eqb a watchdog_at) (with_delay (with_watchdog d 0) (delay_after (get_or d.regs watchdog_at 0))) d))

unfoldable pub write_before : Bool → Device → ℕ → ClockAddress → Device
write_before boots d v a =
    pick (ltb a.0 0x20)
    (after_write_before boots (vbat d.regs) a.0 (with_regs d (set d.regs a.0 (under_mask (get_or writable a.0 0) (get_or d.regs a.0 0) v))))
    (pick (ltb a.0 0x60) (with_sram d (set d.sram (a.0 - 0x20) v)) d)

-- what a byte stores, over what WRITE does at an address
abbrev pub place_by : (ClockAddress → Device) → Device → Place → Device
place_by write d (EepromAt a) = d
place_by write d (ClockAt a) = write a
place_by write d (IdAt a) = d

abbrev pub stored_by : (ClockAddress → Device) → Device → Stage → Device
stored_by write d Idle = d
stored_by write d Opened = d
stored_by write d Unheard = d
stored_by write d (Instruction c) = d
stored_by write d (Reading p) = d
stored_by write d (Writing p) = place_by write d p
stored_by write d (Second q) = d
stored_by write d (Over l) = d

unfoldable pub byte_before : Bool → ℕ → ℕ → Device → Device
byte_before boots top v d =
    with_load (with_stage (stored_by (write_before boots d v) d d.frame.stage) (stage_after top (wip d) v d.frame.stage))
    (load_after d.load v d.frame.stage)

-- a cut without the battery leaves the event inputs; the memories are today's
abbrev pub forgotten_before : Device → Device
forgotten_before d = with_counters (with_sram (with_regs d fresh_regs) fresh_sram) fresh_counters

abbrev pub clock_cut_before : Device → Device
clock_cut_before d = pick (vbaten d.regs) (watchdog_cut (with_regs d (failure_stamped d.regs))) (forgotten_before d)

unfoldable pub cut_before : ℕ → World → World
cut_before mask w = moved (cut_world mask w) (clock_cut_before (stopped_by mask w.device))

-- number 6 has no row of the event inputs
unfoldable pub out_before : ℕ → Device → Bool
out_before part d =
    any_of
    (clock_out (boots_of part) d.regs d.counters
    ∷ frame_out (size_of part) d.frame.stage d.load
    ∷ cycle_out (size_of part) d.cycle
    ∷ power_out d.power d.mark d.frame.stage d.cycle
    ∷ [])

unfoldable pub refusal_before : ℕ → Act → ℕ → World → ℕ
refusal_before part act arg w =
    first_refusal (not (is_part part)) (wrong_length part (length w.eeprom) (length w.id)) (out_before part w.device) (wrong_arg act arg)
    (wrong_power act w.device.power) (wrong_select act (selected w.device.frame.stage))

-- what an act does; replies and a cut's count are today's. There were no pin acts: the theorem is not about them.
abbrev pub accepted_before : ℕ → ℕ → World → Act → Outcome
accepted_before part arg w Select = accepted part arg w Select
accepted_before part arg w Byte = outcome 0 (accepted part arg w Byte).reply 0 (moved w (byte_before (boots_of part) (top_of part) arg w.device))
accepted_before part arg w End = accepted part arg w End
accepted_before part arg w Wait = waited_outcome (waited_before (boots_of part) arg w)
accepted_before part arg w Cut = outcome 0 None (cut_count arg w.device) (cut_before arg w)
accepted_before part arg w Up = accepted part arg w Up
accepted_before part arg w (Set p) = outcome 0 None 0 w

unfoldable pub performed_before : ℕ → Act → ℕ → World → Outcome
performed_before part act arg w =
    pick (eqb (refusal_before part act arg w) 0) (accepted_before part arg w act) (refused (refusal_before part act arg w) w)

-- Two makes of the chip: what an act does, and IRQ of a record. WDO is the same of both.
pub record Make : Type 0 where
  pub does : ℕ → Act → ℕ → World → Outcome
  pub irq : Device → Bool

abbrev pub today : Make
today = record { does = performed; irq = irq_low }

abbrev pub before : Make
before = record { does = performed_before; irq = irq_before }

-- what is seen of an act: the number, the reply, the count, and both lines after it
pub record Seen : Type 0 where
  pub number : ℕ
  pub reply : Option ℕ
  pub count : ℕ
  pub irq : Bool
  pub wdo : Bool

abbrev pub seen_of : Make → Outcome → Seen
seen_of m o = record { number = o.number; reply = o.reply; count = o.count; irq = m.irq o.after.device; wdo = wdo_low o.after.device }

-- of each act of a run in its turn, and what the run leaves
unfoldable pub seen_by : Make → ℕ → List Input → World → List Seen
seen_by m part [] w = []
seen_by m part (x ∷ xs) w = seen_of m (m.does part x.act x.arg w) ∷ seen_by m part xs (m.does part x.act x.arg w).after

unfoldable pub left_by : Make → ℕ → List Input → World → World
left_by m part [] w = w
left_by m part (x ∷ xs) w = left_by m part xs (m.does part x.act x.arg w).after

-- no count of the inputs is above 0, and bits 7 and 6 of 0Bh are clear
pub record Quiet (s : Inputs) : Type 0 where
  pub edges : s.events.edges ≡ 0
  pub since : s.events.since ≡ 0
  pub debounce : s.events.debounce ≡ 0
  pub high : bit s.control 7 ≡ false
  pub low : bit s.control 6 ≡ false

-- an act that sets no pin, and a list of them
abbrev pub NoPin : Act → Type 0
NoPin act = (p : Pin) → act ≡ Set p → ⊥

unfoldable pub NoPins : List Input → Type 0
NoPins [] = Unit {0}
NoPins (x ∷ xs) = NoPin x.act × NoPins xs

-- an act that is no byte to 0Bh with bit 7 or 6 set; whether it is done goes by the chip of before
abbrev pub NoFlag : ℕ → Act → ℕ → World → Type 0
NoFlag part act arg w =
    act ≡ Byte → (performed_before part act arg w).number ≡ 0 → w.device.frame.stage ≡ to_event
    → (bit arg 7 ≡ false) × (bit arg 6 ≡ false)

-- no act of the run is one; the run is that of the chip of before
unfoldable pub NoFlags : ℕ → List Input → World → Type 0
NoFlags part [] w = Unit {0}
NoFlags part (x ∷ xs) w = NoFlag part x.act x.arg w × NoFlags part xs (performed_before part x.act x.arg w).after

-- Of a tape. What a line asks for is answered by a make of the chip: today's answers (Answer), with the make's acts and its IRQ.
abbrev pub answer_by : Make → Result Request Fault → Setup → LineAnswer
answer_by m (Ok (PartLine arg)) s = part_answer arg s
answer_by m (Ok (ActLine act arg)) s = pick (no_part s) (misplaced s) (outcome_answer s.part act (m.does s.part act arg s.chip))
answer_by m (Err fault) s = faulty_line (fault_number fault) (fault_column fault) s

abbrev pub text_by : Make → LineAnswer → List ℕ
text_by m a =
    let d : Device = a.after.chip.device in
    answer_line a.number a.out (level_high a.after.part (m.irq d)) (level_high a.after.part (wdo_low d))

-- the texts of the answers to lines
unfoldable pub printed_by : Make → List (List ℕ) → Setup → List (List ℕ)
printed_by m [] s = []
printed_by m (line ∷ lines) s =
    let a : LineAnswer = answer_by m (request_of line) s in
    text_by m a ∷ printed_by m lines a.after

-- a line that names no pin, nor an act that writes a flag; and lines of that kind, on the chip of before
abbrev pub PlainRequest : Result Request Fault → Setup → Type 0
PlainRequest (Ok (PartLine arg)) s = Unit {0}
PlainRequest (Ok (ActLine act arg)) s = NoPin act × NoFlag s.part act arg s.chip
PlainRequest (Err fault) s = Unit {0}

unfoldable pub PlainLines : List (List ℕ) → Setup → Type 0
PlainLines [] s = Unit {0}
PlainLines (line ∷ lines) s = PlainRequest (request_of line) s × PlainLines lines (answer_by before (request_of line) s).after

-- V17. The promise.
pub record AsBefore : Type 0 where
  -- a run from any record in range that has counted nothing and has no flag
  pub run :
      (part : ℕ) (xs : List Input) (w : World) → InRange part w.device → Shaped part w → Quiet (inputs_of w.device) → NoPins xs → NoFlags part xs w
      → (seen_by today part xs w ≡ seen_by before part xs w) × (left_by today part xs w ≡ left_by before part xs w)
  -- so every run from fresh
  pub fresh :
      (part : ℕ) (xs : List Input) → NoPins xs → NoFlags part xs (fresh_world part)
      → (seen_by today part xs (fresh_world part) ≡ seen_by before part xs (fresh_world part))
      × (left_by today part xs (fresh_world part) ≡ left_by before part xs (fresh_world part))
  -- one act, a byte that writes a flag too: it is answered as before and leaves the same; the flag shows in the lines after it
  pub act :
      (part : ℕ) (act : Act) (arg : ℕ) (w : World) → InRange part w.device → Shaped part w → Quiet (inputs_of w.device)
      → NoPin act → performed part act arg w ≡ performed_before part act arg w
  -- the lines of a tape, from its start: the same bytes are printed
  pub tape : (lines : List (List ℕ)) (w : World) → PlainLines lines (setup 0 w) → printed_by today lines (setup 0 w) ≡ printed_by before lines (setup 0 w)
  -- and on today's chip these bytes are the answers
  pub prints : (r : Result Request Fault) (s : Setup) → text_by today (answer_by today r s) ≡ answer_text (request_answer r s)
  -- where it begins the lines are the same
  pub lines : (d : Device) → Quiet (inputs_of d) → irq_low d ≡ irq_before d
