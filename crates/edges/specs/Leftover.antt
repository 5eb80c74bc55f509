-- Closed witnesses of ends with leftover bits, through `performed`: at each kind of frame and pointer the bits of the byte that comes next, as numbers.
-- Assumes nothing.
use Rattle.std.specs.Prelude.{ℕ, ◌≡◌, refl, true, List, [], ◌∷◌, set, replicate, Option, None}
use Rattle.base.specs.Words.{every}
use Rattle.calendar.specs.Date.{leap_year}
use Rattle.calendar.specs.Field.{valid_field}
use Rattle.events.specs.Range.{window_out, debounce_out, events_out}
use Rattle.record.specs.declared.Act.TheVariants.{End, Cut}
use Rattle.record.specs.declared.Device.{Device}
use Rattle.record.specs.declared.Protection.TheVariants.{All}
use Rattle.record.specs.declared.Target.TheVariants.{Eeprom}
use Rattle.record.specs.Fresh.{fresh}
use Rattle.record.specs.Scene.{chip, started}
use Rattle.record.specs.Setters.{counts, with_sram, with_wel, with_protection, with_cycle}
use Rattle.record.specs.Stamps.{stamped, unstamped}
use Rattle.record.specs.World.{World, world, moved}
use Rattle.refusals.specs.Range.{out_of_range, clock_out, frame_out, cycle_out, power_out, bit_outside}
use Rattle.refusals.specs.Refusal.{refusal_of}
use Rattle.registers.specs.Read.{read_clock}
use Rattle.registers.specs.Write.{write_clock, after_write}
use Rattle.replies.specs.Reply.{status_byte, next_reply, leftover_reply}
use Rattle.frames.specs.Frame.{after_byte, after_select}
use Rattle.replies.specs.Shown.{numbers}
use Rattle.ends.specs.Write.{carried, cycle_after, wel_after}
use Rattle.ends.specs.End.{after_end}
use Rattle.power.specs.Power.{after_cut, cut_count, cut_world}
use Rattle.acts.specs.Act.{performed}
use Rattle.edges.specs.Scene.{after_bytes, sent_in}

-- the replies to the ends of a frame with 0 to 7 leftover bits
abbrev bits : ℕ → List ℕ → World → List (Option ℕ)
bits part bs w =
    (performed part End 0 (sent_in part bs w)).reply ∷ (performed part End 1 (sent_in part bs w)).reply ∷ (performed part End 2 (sent_in part bs w)).reply
    ∷ (performed part End 3 (sent_in part bs w)).reply ∷ (performed part End 4 (sent_in part bs w)).reply ∷ (performed part End 5 (sent_in part bs w)).reply
    ∷ (performed part End 6 (sent_in part bs w)).reply ∷ (performed part End 7 (sent_in part bs w)).reply ∷ []

-- none at each of them; a driven 0; and the bits of the three bytes below: 0101 1010, 1100 0011, 1010 0101
abbrev off : List (Option ℕ)
off = replicate 8 None

abbrev zeros : List (Option ℕ)
zeros = numbers 0 0 0 0 0 0 0

abbrev of5a : List (Option ℕ)
of5a = numbers 0 1 2 5 11 22 45

abbrev ofc3 : List (Option ℕ)
ofc3 = numbers 1 3 6 12 24 48 97

abbrev ofa5 : List (Option ℕ)
ofa5 = numbers 1 2 5 10 20 41 82

-- 5Ah at the first place of a memory, C3h behind it, A5h at its last
abbrev at_ends : ℕ → List ℕ → List ℕ
at_ends last m = set (set (set m 0 0x5a) 1 0xc3) last 0xa5

abbrev filled : Device
filled = with_sram (chip (at_ends 31 started) (counts 0 32 0 0 0)) (at_ends 63 (replicate 64 7))

-- a 1 Kbit chip, a 2 Kbit chip, and the first in a cycle, with every bit of STATUS set
abbrev small : World
small = world filled (at_ends 127 (replicate 128 255)) (at_ends 15 (replicate 16 255))

abbrev large : World
large = world filled (at_ends 255 (replicate 256 255)) (at_ends 15 (replicate 16 255))

abbrev cycling : World
cycling = moved small (with_cycle (with_protection (with_wel filled true) All) (record { target = Eeprom (record { 0 = 0 }); left = 9 }))

unfoldable pub LeftoverShown : Type 0
LeftoverShown =
    -- A38, F4, F7. EEREAD broken off in its third byte, and in its fourth; round the end of either size; a byte that is FFh
    (bits 1 (0x03 ∷ 0x00 ∷ []) small ≡ of5a)
    × (bits 1 (0x03 ∷ 0x00 ∷ 0 ∷ []) small ≡ ofc3)
    × (bits 1 (0x03 ∷ 0x7f ∷ []) small ≡ ofa5)
    × (bits 1 (0x03 ∷ 0x7f ∷ 0 ∷ []) small ≡ of5a)
    × (bits 2 (0x03 ∷ 0xff ∷ []) large ≡ ofa5)
    × (bits 2 (0x03 ∷ 0xff ∷ 0 ∷ []) large ≡ of5a)
    × (bits 1 (0x03 ∷ 0x40 ∷ []) small ≡ numbers 1 3 7 15 31 63 127)
    -- A38, F9. IDREAD
    × (bits 1 (0x33 ∷ 0x01 ∷ []) small ≡ ofc3)
    × (bits 1 (0x33 ∷ 0x0f ∷ []) small ≡ ofa5)
    × (bits 1 (0x33 ∷ 0x0f ∷ 0 ∷ []) small ≡ of5a)
    -- A38, F10. READ: the clock block and the SRAM, each to its end and round
    × (bits 1 (0x13 ∷ 0x00 ∷ []) small ≡ of5a)
    × (bits 1 (0x13 ∷ 0x1f ∷ []) small ≡ ofa5)
    × (bits 1 (0x13 ∷ 0x1f ∷ 0 ∷ []) small ≡ of5a)
    × (bits 1 (0x13 ∷ 0x21 ∷ []) small ≡ ofc3)
    × (bits 1 (0x13 ∷ 0x5f ∷ []) small ≡ ofa5)
    × (bits 1 (0x13 ∷ 0x5f ∷ 0 ∷ []) small ≡ of5a)
    -- F15. a made bit: OSCON, bit 5 of 04h
    × (bits 1 (0x13 ∷ 0x04 ∷ []) small ≡ numbers 0 0 1 2 4 8 16)
    -- A38, F11. from 60h up a driven 0
    × (bits 1 (0x13 ∷ 0x60 ∷ []) small ≡ zeros)
    × (bits 1 (0x13 ∷ 0xff ∷ 0 ∷ []) small ≡ zeros)
    -- A38, F5. SRREAD, from the code on: STATUS 00h and 0Fh
    × (bits 1 (0x05 ∷ []) small ≡ zeros)
    × (bits 1 (0x05 ∷ []) cycling ≡ numbers 0 0 0 0 1 3 7)
    × (bits 1 (0x05 ∷ 0 ∷ []) cycling ≡ numbers 0 0 0 0 1 3 7)
    -- A38, F2, F3, F31. SO is off: no byte, the code of a read alone, a code that is none
    × (bits 1 [] small ≡ off)
    × (bits 1 (0x03 ∷ []) small ≡ off)
    × (bits 1 (0x13 ∷ []) small ≡ off)
    × (bits 1 (0x33 ∷ []) small ≡ off)
    × (bits 1 (0x00 ∷ 0x00 ∷ []) small ≡ off)
    -- A38, F3. and in what is no read
    × (bits 1 (0x02 ∷ 0x00 ∷ 1 ∷ []) small ≡ off)
    × (bits 1 (0x12 ∷ 0x20 ∷ 1 ∷ []) small ≡ off)
    × (bits 1 (0x32 ∷ 0x00 ∷ 1 ∷ []) small ≡ off)
    × (bits 1 (0x01 ∷ 0x00 ∷ []) small ≡ off)
    × (bits 1 (0x14 ∷ 0x55 ∷ []) small ≡ off)
    × (bits 1 (0x04 ∷ []) small ≡ off)
    × (bits 1 (0x06 ∷ []) small ≡ off)
    × (bits 1 (0x44 ∷ []) small ≡ off)
    × (bits 1 (0x54 ∷ 0x00 ∷ []) small ≡ off)
    -- A38, F31, F32. in a cycle EEREAD and IDREAD are not heard, READ is
    × (bits 1 (0x03 ∷ 0x00 ∷ 0 ∷ []) cycling ≡ off)
    × (bits 1 (0x33 ∷ 0x00 ∷ 0 ∷ []) cycling ≡ off)
    × (bits 1 (0x13 ∷ 0x00 ∷ []) cycling ≡ of5a)
    -- A38. the bits are all that is new: the frame is over, and nothing else changed
    × ((performed 1 End 3 (sent_in 1 (0x13 ∷ 0x5f ∷ []) small)).after ≡ small)
    × ((performed 1 End 3 (sent_in 1 (0x13 ∷ 0x5f ∷ []) small)).number ≡ 0)
    × ((performed 1 End 3 (sent_in 1 (0x13 ∷ 0x5f ∷ []) small)).count ≡ 0)
    -- A34. a refused end answers none: eight leftover bits in a read, no frame, no power
    × ((performed 1 End 8 (sent_in 1 (0x13 ∷ 0x5f ∷ []) small)).reply ≡ None)
    × ((performed 1 End 8 (sent_in 1 (0x13 ∷ 0x5f ∷ []) small)).number ≡ 3)
    × ((performed 1 End 3 small).reply ≡ None) × ((performed 1 End 3 small).number ≡ 2)
    × ((performed 1 End 3 (performed 1 Cut 0 (sent_in 1 (0x13 ∷ 0x5f ∷ []) small)).after).reply ≡ None)

-- Each of them computes.
pub leftover_shown : LeftoverShown
unfolding LeftoverShown valid_field leap_year after_bytes fresh performed refusal_of out_of_range clock_out frame_out cycle_out power_out events_out window_out debounce_out bit_outside every status_byte after_select after_byte next_reply leftover_reply read_clock write_clock after_write after_end carried cycle_after wel_after after_cut cut_count cut_world stamped unstamped
leftover_shown =
    (refl, refl, refl, refl, refl, refl, refl, refl, refl, refl, refl, refl, refl, refl, refl, refl, refl, refl, refl, refl, refl, refl, refl, refl, refl, refl, refl, refl, refl, refl, refl, refl, refl, refl, refl, refl, refl, refl, refl, refl, refl, refl, refl, refl, refl, refl, refl)
