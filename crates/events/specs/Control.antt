-- Register 0Bh, the control of the event inputs, bit by bit, in the sheet's names. What the bits do stands in Pins and Tick.
-- `counted` says that OSCON is set (in a tick: was set before it).
-- Assumes nothing.
use Rattle.std.specs.Prelude.{ℕ, ◌%◌, Bool, not, ◌&&◌, ◌||◌, List, [], ◌∷◌, get_or}
use Rattle.std.specs.Int.Bits.{bit_or}
use Rattle.base.specs.Words.{pick, bit}

-- V3. The flags: EVHIF of EVHS, EVLIF of EVLS.
abbrev pub evhif : ℕ → Bool
evhif v = bit v 7

abbrev pub evlif : ℕ → Bool
evlif v = bit v 6

-- V3. The enables: EVEN1 for EVHS, EVEN0 for EVLS.
abbrev pub even1 : ℕ → Bool
even1 v = bit v 5

abbrev pub even0 : ℕ → Bool
even0 v = bit v 4

-- V3. EVWDT: edges of EVHS are for the watchdog.
abbrev pub evwdt : ℕ → Bool
evwdt v = bit v 3

-- V3. How many edges make an event, by bits 1:0.
abbrev pub numbers : List ℕ
numbers = 1 ∷ 4 ∷ 16 ∷ 32 ∷ []

abbrev pub number_of : ℕ → ℕ
number_of v = get_or numbers (v % 4) 0

-- V8. Ticks of the debounce: the short one (31.25 ms), and with EVLDB set the long one (half a second).
abbrev pub short_debounce : ℕ
short_debounce = 1024

abbrev pub long_debounce : ℕ
long_debounce = 16384

abbrev pub debounce_of : ℕ → ℕ
debounce_of v = pick (bit v 2) long_debounce short_debounce

-- V6. The last tick that is inside a window: a quarter of a second from its first edge.
abbrev pub window_ticks : ℕ
window_ticks = 8192

-- V5, V9. The byte with a flag set.
abbrev pub set_high : ℕ → ℕ
set_high v = bit_or v 0x80

abbrev pub set_low : ℕ → ℕ
set_low v = bit_or v 0x40

-- V4, V6, V8, V9. An input runs while it is enabled, its flag is clear and the act or tick is counted.
abbrev pub high_runs : Bool → ℕ → Bool
high_runs counted v = (even1 v && not (evhif v)) && counted

abbrev pub low_runs : Bool → ℕ → Bool
low_runs counted v = (even0 v && not (evlif v)) && counted

-- V11. Either flag holds IRQ low, whatever is enabled.
unfoldable pub pulls_irq : ℕ → Bool
pulls_irq v = evhif v || evlif v
