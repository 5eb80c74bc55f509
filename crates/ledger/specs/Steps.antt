-- The ledger's step for each act, and its run over a list of them.
-- It runs no act of a chip and reads no answer of one, a wait's ticks used apart.
-- Assumes nothing.
use Rattle.std.specs.Prelude.{Bool, true, false, not, ◌&&◌, ◌||◌, List, [], ◌∷◌, ℕ, ◌-◌, leb, ltb, eqb}
use Rattle.base.specs.Words.{pick}
use Rattle.ledger.specs.State.{Act, select, byte, end, wait, cut, up, Step, closed, Cycle, Ledger, no_byte, no_cycle}
use Rattle.ledger.specs.Setters.{with_power, with_selected, with_wel, with_bp, with_lock, with_frame, with_cycle, with_entries}
use Rattle.ledger.specs.Frames.{running, frame_after, carried, cycle_of, wel_after, lock_after}
use Rattle.ledger.specs.Bytes.{entries_after, bp_after, whole_page}

-- A11. The most ticks that a wait may ask for.
abbrev pub longest_wait : ℕ
longest_wait = 16777216

-- A10, A11, A12, A13. The arguments that are refused with 3: an end has 0 to 7 bits left over, a byte and a mask are bytes, and
-- select and up ask for nothing.
abbrev pub bad_number : Act → ℕ → Bool
bad_number select n = not (eqb n 0)
bad_number byte n = ltb 255 n
bad_number end n = ltb 7 n
bad_number wait n = ltb longest_wait n
bad_number cut n = ltb 255 n
bad_number up n = not (eqb n 0)

-- A16, A17. The acts that the power refuses, with 5: without it every act but wait and up, with it up.
abbrev pub bad_power : Act → Bool → Bool
bad_power select on = not on
bad_power byte on = not on
bad_power end on = not on
bad_power wait on = false
bad_power cut on = not on
bad_power up on = on

-- A8, A9. The acts that are refused with 1 or 2: a second select, and a byte or an end that no select came before.
abbrev pub bad_selected : Act → Bool → Bool
bad_selected select chosen = chosen
bad_selected byte chosen = not chosen
bad_selected end chosen = not chosen
bad_selected wait chosen = false
bad_selected cut chosen = false
bad_selected up chosen = false

-- L7. Whether an act is refused, by what it asks for and by the ledger's own state.
unfoldable pub refused : Act → ℕ → Ledger → Bool
refused a n l = bad_number a n || bad_power a l.power || bad_selected a l.selected

-- L8. Select opens a frame.
unfoldable pub on_select : Ledger → Ledger
on_select l = with_selected true (with_frame no_byte l)

-- L9. A byte goes into the frame, the first as its code.
unfoldable pub on_byte : ℕ → ℕ → Ledger → Ledger
on_byte part b l = with_frame (frame_after part l.cycle b l.frame) l

-- L10, L11. An end closes the frame. Of a heard one a carried write starts its cycle, and WEL and the lock move; all three are
-- judged by the ledger before the end.
unfoldable pub on_end : ℕ → ℕ → Ledger → Ledger
on_end part leftover l =
    with_selected false
    (with_frame no_byte
    (with_cycle (pick (l.frame.heard && carried part leftover l) (cycle_of l.frame) l.cycle)
    (with_wel (pick l.frame.heard (wel_after leftover l.frame l.wel) l.wel)
    (with_lock (pick l.frame.heard (lock_after leftover l.frame l.lock) l.lock) l))))

-- L12. A wait takes its ticks off those that the cycle has left.
unfoldable pub ticked : ℕ → Cycle → Cycle
ticked used c = record { kind = c.kind; page = c.page; loaded = c.loaded; left = c.left - used }

-- L12. A wait in which no cycle ends.
unfoldable pub waited : ℕ → Ledger → Ledger
waited used l = with_cycle (ticked used l.cycle) l

-- L13, F28. A cycle that ran to its end: its bytes are entered, or BP is what it wrote, and the enable is used up.
unfoldable pub finished : Ledger → Ledger
finished l =
    with_entries (entries_after whole_page l.cycle l.entries)
    (with_bp (bp_after whole_page l.cycle l.bp)
    (with_wel false
    (with_cycle no_cycle l)))

-- L12, L13. The wait ends the cycle if it used all the ticks left.
unfoldable pub on_wait : ℕ → Ledger → Ledger
on_wait used l = pick (running l.cycle && leb l.cycle.left used) (finished l) (waited used l)

-- L14, P1, P2, P3, P5, P6, P8, P11. A cut ends the cycle there: what the mask stored of it is entered, or is in BP, which is all
-- that stays with the entries. Power, frame, WEL and lock are gone.
unfoldable pub on_cut : ℕ → Ledger → Ledger
on_cut mask l =
    record {
      power = false;
      selected = false;
      wel = false;
      bp = bp_after mask l.cycle l.bp;
      lock = closed;
      frame = no_byte;
      cycle = no_cycle;
      entries = entries_after mask l.cycle l.entries;
    }

-- L15, P18. Up brings the power back, with WEL clear.
unfoldable pub on_up : Ledger → Ledger
on_up l = with_power true (with_wel false l)

-- an act that is not refused
abbrev pub done : ℕ → Act → ℕ → ℕ → Ledger → Ledger
done part select n used l = on_select l
done part byte n used l = on_byte part n l
done part end n used l = on_end part n l
done part wait n used l = on_wait used l
done part cut n used l = on_cut n l
done part up n used l = on_up l

-- L7, A34. A refused act leaves the ledger as it is.
unfoldable pub follow : ℕ → Step → Ledger → Ledger
follow part s l = pick (refused s.act s.arg l) l (done part s.act s.arg s.used l)

-- L1. The ledger after a list of steps, on a part.
unfoldable pub ledger_run : ℕ → List Step → Ledger → Ledger
ledger_run part [] l = l
ledger_run part (s ∷ ss) l = ledger_run part ss (follow part s l)
