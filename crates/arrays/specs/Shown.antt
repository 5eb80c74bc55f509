-- Answers and refusals of a caller's arrays as numbers, written out from the rules: a second statement beside the contracts. Each computes.
-- Assumes nothing.
use Rattle.std.specs.Prelude.{◌≡◌, refl, true, false, [], ◌∷◌, set, Some, None}
use Rattle.events.specs.Control.{pulls_irq}
use Rattle.record.specs.declared.Device.{Device}
use Rattle.record.specs.Fresh.{fresh}
use Rattle.record.specs.Setters.{with_regs, with_counters}
use Rattle.ticks.specs.Lines.{irq_low, wdo_low}
use Rattle.arrays.specs.Arrays.{arrays_refusal, answer_of, no_chip}

-- alarm 0 active with its flag set, on IRQ; a pulse on WDO
abbrev pub alarmed : Device
alarmed = with_regs fresh (set (set fresh.regs 0x08 0x10) 0x0f 0x08)

abbrev pub pulsing : Device
pulsing = with_counters fresh (record { divider = 0; startup = 0; watchdog = 0; delay = 0; pulse = 1 })

pub AnswersShown : Type 0
AnswersShown =
    -- I5. a driven 0, a driven byte, no reply with a count; levels
    (answer_of 0 (Some 0) 0 fresh ≡ 0 ∷ 1 ∷ 0 ∷ 0 ∷ 1 ∷ 1 ∷ [])
    × (answer_of 0 (Some 210) 0 fresh ≡ 0 ∷ 1 ∷ 210 ∷ 0 ∷ 1 ∷ 1 ∷ [])
    × (answer_of 0 None 164 fresh ≡ 0 ∷ 0 ∷ 0 ∷ 164 ∷ 1 ∷ 1 ∷ [])
    × (answer_of 2 None 0 alarmed ≡ 2 ∷ 0 ∷ 0 ∷ 0 ∷ 0 ∷ 1 ∷ [])
    × (answer_of 0 None 1 pulsing ≡ 0 ∷ 0 ∷ 0 ∷ 1 ∷ 1 ∷ 0 ∷ [])
    -- I3. no chip: no reply, both levels high
    × (no_chip 6 ≡ 6 ∷ 0 ∷ 0 ∷ 0 ∷ 1 ∷ 1 ∷ [])
    -- I2, I3. 3 before 4 before 6, and 0
    × (arrays_refusal 0 128 16 false ≡ 3)
    × (arrays_refusal 5 255 15 false ≡ 3)
    × (arrays_refusal 2 128 16 false ≡ 4)
    × (arrays_refusal 3 128 17 true ≡ 4)
    × (arrays_refusal 4 256 16 false ≡ 6)
    × (arrays_refusal 1 128 16 true ≡ 0)

pub answers_shown : AnswersShown
unfolding AnswersShown fresh irq_low wdo_low pulls_irq
answers_shown = (refl, refl, refl, refl, refl, refl, refl, refl, refl, refl, refl, refl)
