-- Closed runs of the ledger, from its start but for one, worked by hand from the rules: the bytes, BP or WEL that each leaves, under one statement.
-- They show that the ledger is not empty. They say nothing of a chip, and no rule stands here: codes are written as on the wire.
-- Assumes nothing.
use Rattle.std.specs.Prelude.{◌≡◌, true, false, List, [], ◌∷◌, ◌++◌, ℕ}
use Rattle.ledger.specs.State.{Act, select, byte, end, wait, cut, up, Step, Memory, eeprom, id, Entry, no_byte, no_cycle, start}
use Rattle.ledger.specs.Setters.{with_power, with_wel}
use Rattle.ledger.specs.Frames.{first_byte, later_byte, carried, cycle_of, wel_after, lock_after}
use Rattle.ledger.specs.Bytes.{is_loaded, loaded_byte, entries_under, entries_after, bp_after, byte_of}
use Rattle.ledger.specs.Steps.{refused, on_select, on_byte, on_end, ticked, waited, finished, on_wait, on_cut, on_up, follow, ledger_run}

-- an act with its argument; a wait with its argument and the ticks that it used
abbrev does : Act → ℕ → Step
does a n = record { act = a; arg = n; used = 0 }

abbrev waits : ℕ → ℕ → List Step
waits n used = record { act = wait; arg = n; used = used } ∷ []

-- a wait that stops where the cycle ends, and one in which none runs
abbrev ends : List Step
ends = waits 200 164

abbrev idle : List Step
idle = waits 200 200

-- whole bytes, then the end with its leftover bits
sends : ℕ → List ℕ → List Step
sends leftover [] = does end leftover ∷ []
sends leftover (b ∷ bs) = does byte b ∷ sends leftover bs

-- a frame with leftover bits, and a whole one
abbrev ragged : ℕ → List ℕ → List Step
ragged leftover bs = does select 0 ∷ sends leftover bs

abbrev frame : List ℕ → List Step
frame bs = ragged 0 bs

-- EEWREN, EEWRITE, IDWRITE, SRWRITE, UNLOCK, and a READ of two bytes
abbrev enable : List Step
enable = frame (0x06 ∷ [])

abbrev write : ℕ → List ℕ → List Step
write a bs = frame (0x02 ∷ a ∷ bs)

abbrev id_write : ℕ → List ℕ → List Step
id_write a bs = frame (0x32 ∷ a ∷ bs)

abbrev status : ℕ → List Step
status b = frame (0x01 ∷ b ∷ [])

abbrev unlock : ℕ → List Step
unlock b = frame (0x14 ∷ b ∷ [])

abbrev read : List Step
read = frame (0x13 ∷ 0x00 ∷ [])

-- the bytes at places of a memory, and BP, after a run from the start on a part
found_at : Memory → List ℕ → List Entry → List ℕ
found_at m [] es = []
found_at m (p ∷ ps) es = byte_of 255 m p es ∷ found_at m ps es

abbrev eeprom_after : ℕ → List Step → List ℕ → List ℕ
eeprom_after part ss ps = found_at eeprom ps (ledger_run part ss start).entries

abbrev id_after : ℕ → List Step → List ℕ → List ℕ
id_after part ss ps = found_at id ps (ledger_run part ss start).entries

abbrev bp_found : ℕ → List Step → ℕ
bp_found part ss = (ledger_run part ss start).bp

-- the two steps of the lock
abbrev steps : List Step
steps = unlock 0x55 ++ unlock 0xaa

-- after these acts an IDWRITE with its enable is carried, since the lock is open; or it is not
abbrev Opens : List Step → Type 0
Opens ss = id_after 2 (ss ++ enable ++ id_write 0x05 (1 ∷ []) ++ ends) (0x05 ∷ []) ≡ 1 ∷ []

abbrev Shuts : List Step → Type 0
Shuts ss = id_after 2 (ss ++ enable ++ id_write 0x05 (1 ∷ []) ++ idle) (0x05 ∷ []) ≡ 255 ∷ []

-- T10. The whole case, after its part.
abbrev whole_case : List Step
whole_case = enable ++ write 7 (18 ∷ 52 ∷ []) ++ ends ++ frame (3 ∷ 0 ∷ 0 ∷ [])

-- L7. The same write, with acts between that the table refuses.
abbrev refused_between : List Step
refused_between =
    does select 1 ∷ does byte 6 ∷ does end 0 ∷ does up 0 ∷ does cut 256 ∷ waits 16777217 0 ++ enable
    ++ does select 0 ∷ does byte 2 ∷ does select 0 ∷ does byte 256 ∷ does byte 7 ∷ does byte 18 ∷ does end 8 ∷ does up 1 ∷ sends 0 (52 ∷ [])
    ++ ends

-- writes, their enable and their data
pub WriteRuns : Type 0
WriteRuns =
    -- T10, E13. The whole case: 18 goes to 07h, 52 rolls to 00h, and the places beside them, 08h of the next page too, get nothing.
    (eeprom_after 2 whole_case (0x07 ∷ 0x00 ∷ 0x06 ∷ 0x01 ∷ 0x08 ∷ []) ≡ 18 ∷ 52 ∷ 255 ∷ 255 ∷ 255 ∷ [])
    -- L7, A34. The same with refused acts between.
    × (eeprom_after 2 refused_between (0x07 ∷ 0x00 ∷ 0x01 ∷ []) ≡ 18 ∷ 52 ∷ 255 ∷ [])
    -- A9, L10. After its end a frame takes no byte: an enable without a select is none.
    × (eeprom_after 2 (frame [] ++ sends 0 (0x06 ∷ []) ++ write 0x00 (1 ∷ []) ++ idle) (0x00 ∷ []) ≡ 255 ∷ [])
    -- A11, L12. The longest wait ends a cycle, and one tick more is refused, whatever ticks it is said to have used.
    × (eeprom_after 2 (enable ++ write 0x00 (1 ∷ []) ++ waits 16777216 164) (0x00 ∷ []) ≡ 1 ∷ [])
    × (eeprom_after 2 (enable ++ write 0x00 (1 ∷ []) ++ waits 16777217 164) (0x00 ∷ []) ≡ 255 ∷ [])
    -- F23. The enable is forgotten, of each of the three writes.
    × (eeprom_after 2 (write 0x00 (1 ∷ []) ++ idle) (0x00 ∷ []) ≡ 255 ∷ [])
    × (id_after 2 (steps ++ id_write 0x05 (1 ∷ []) ++ idle) (0x05 ∷ []) ≡ 255 ∷ [])
    × (bp_found 2 (status 0x0c ++ idle) ≡ 0)
    -- F19. An enable with a second byte, or with three bits more, is none.
    × (eeprom_after 2 (frame (0x06 ∷ 0x00 ∷ []) ++ write 0x00 (1 ∷ []) ++ idle) (0x00 ∷ []) ≡ 255 ∷ [])
    × (eeprom_after 2 (ragged 3 (0x06 ∷ []) ++ write 0x00 (1 ∷ []) ++ idle) (0x00 ∷ []) ≡ 255 ∷ [])
    -- F19. EEWRDI takes the enable back.
    × (eeprom_after 2 (enable ++ frame (0x04 ∷ []) ++ write 0x00 (1 ∷ []) ++ idle) (0x00 ∷ []) ≡ 255 ∷ [])
    -- F19. With a second byte or a bit more it does not, nor does another code alone.
    × (eeprom_after 2 (enable ++ frame (0x04 ∷ 0x00 ∷ []) ++ ragged 1 (0x04 ∷ []) ++ write 0x00 (1 ∷ []) ++ ends) (0x00 ∷ []) ≡ 1 ∷ [])
    × (eeprom_after 2 (enable ++ frame (0x00 ∷ []) ++ frame (0x03 ∷ []) ++ frame (0x05 ∷ []) ++ read ++ frame (0x44 ∷ []) ++ write 0x00 (1 ∷ []) ++ ends) (0x00 ∷ []) ≡ 1 ∷ [])
    -- F25, F30, E18. Seven bits more after the data: no cycle, and WEL stays set for the write that follows.
    × (eeprom_after 2 (enable ++ ragged 7 (0x02 ∷ 0x00 ∷ 1 ∷ []) ++ write 0x01 (2 ∷ []) ++ ends) (0x00 ∷ 0x01 ∷ []) ≡ 255 ∷ 2 ∷ [])
    -- F25. They start no cycle of IDWRITE with the lock open either, nor of SRWRITE.
    × (id_after 2 (steps ++ enable ++ ragged 7 (0x32 ∷ 0x05 ∷ 1 ∷ []) ++ idle) (0x05 ∷ []) ≡ 255 ∷ [])
    × (bp_found 2 (enable ++ ragged 7 (0x01 ∷ 0x0c ∷ []) ++ idle) ≡ 0)
    -- F24, F30. WEL stays too after an address and no data, and after SRWRITE with two data bytes.
    × (eeprom_after 2 (enable ++ write 0x00 [] ++ write 0x01 (2 ∷ []) ++ ends) (0x00 ∷ 0x01 ∷ []) ≡ 255 ∷ 2 ∷ [])
    × (eeprom_after 2 (enable ++ frame (0x01 ∷ 0x0c ∷ 0x0c ∷ []) ++ write 0x01 (2 ∷ []) ++ ends) (0x01 ∷ []) ≡ 2 ∷ [])
    -- F26, F30. And after a protected page: under BP 01 C0h gets nothing, and 01h is written without a new enable.
    × (eeprom_after 2 (enable ++ status 0x04 ++ ends ++ enable ++ write 0xc0 (1 ∷ []) ++ write 0x01 (2 ∷ []) ++ ends) (0xc0 ∷ 0x01 ∷ []) ≡ 255 ∷ 2 ∷ [])
    -- F27, F30. And after a lock that was not open.
    × (eeprom_after 2 (enable ++ id_write 0x05 (1 ∷ []) ++ write 0x01 (2 ∷ []) ++ ends) (0x01 ∷ []) ≡ 2 ∷ [])
    -- F19, F30. After such a write EEWRDI still takes the enable back.
    × (eeprom_after 2 (enable ++ ragged 7 (0x02 ∷ 0x00 ∷ 1 ∷ []) ++ frame (0x04 ∷ []) ++ write 0x01 (2 ∷ []) ++ idle) (0x01 ∷ []) ≡ 255 ∷ [])
    -- F21, F22, E21. A page rolls: from 0Eh the third byte goes to 08h and not to 10h; a ninth byte takes the place of the first.
    × (eeprom_after 2 (enable ++ write 0x0e (1 ∷ 2 ∷ 3 ∷ []) ++ ends) (0x0e ∷ 0x0f ∷ 0x08 ∷ 0x10 ∷ []) ≡ 1 ∷ 2 ∷ 3 ∷ 255 ∷ [])
    × (eeprom_after 2 (enable ++ write 0x08 (1 ∷ 2 ∷ 3 ∷ 4 ∷ 5 ∷ 6 ∷ 7 ∷ 8 ∷ 9 ∷ []) ++ ends) (0x08 ∷ 0x09 ∷ 0x0f ∷ 0x10 ∷ []) ≡ 9 ∷ 2 ∷ 8 ∷ 255 ∷ [])
    -- F9, F21, F22. So does a page of the ID: address 1Fh is place 0Fh, and the second byte goes to 08h.
    × (id_after 2 (steps ++ enable ++ id_write 0x1f (1 ∷ 2 ∷ 3 ∷ 4 ∷ 5 ∷ 6 ∷ 7 ∷ 8 ∷ 9 ∷ []) ++ ends) (0x0f ∷ 0x08 ∷ 0x0e ∷ 0x00 ∷ []) ≡ 9 ∷ 2 ∷ 8 ∷ 255 ∷ [])
    -- F8. Bit 7 of an address does not count on a 1 Kbit part.
    × (eeprom_after 1 (enable ++ write 0x85 (1 ∷ []) ++ ends) (0x05 ∷ 0x85 ∷ []) ≡ 1 ∷ 255 ∷ [])
    -- L16. Of a byte written twice the second stands.
    × (eeprom_after 2 (enable ++ write 0x00 (1 ∷ 2 ∷ []) ++ ends ++ enable ++ write 0x00 (3 ∷ []) ++ ends) (0x00 ∷ 0x01 ∷ []) ≡ 3 ∷ 2 ∷ [])

-- what BP protects
pub ProtectionRuns : Type 0
ProtectionRuns =
    -- F29. BP 00: the last page is free, on both sizes.
    (eeprom_after 2 (enable ++ write 0xf8 (1 ∷ []) ++ ends) (0xf8 ∷ []) ≡ 1 ∷ [])
    × (eeprom_after 3 (enable ++ write 0x78 (1 ∷ []) ++ ends) (0x78 ∷ []) ≡ 1 ∷ [])
    -- F26, F29, E14, E15. After a status cycle with BP 01, BFh is free and C0h is not, on a 1 Kbit part 5Fh and 60h.
    × (eeprom_after 2 (enable ++ status 0x04 ++ ends ++ enable ++ write 0xbf (1 ∷ []) ++ ends ++ enable ++ write 0xc0 (2 ∷ []) ++ idle) (0xbf ∷ 0xc0 ∷ []) ≡ 1 ∷ 255 ∷ [])
    × (eeprom_after 3 (enable ++ status 0x04 ++ ends ++ enable ++ write 0x5f (1 ∷ []) ++ ends ++ enable ++ write 0x60 (2 ∷ []) ++ idle) (0x5f ∷ 0x60 ∷ []) ≡ 1 ∷ 255 ∷ [])
    -- F26, F29, F30. BP 10: from 80h to the last page nothing is written, and 7Fh is; on 1 Kbit from 40h, and 3Fh.
    × (eeprom_after 2 (enable ++ status 0x08 ++ ends ++ enable ++ write 0x80 (1 ∷ []) ++ write 0xf8 (2 ∷ []) ++ write 0x7f (3 ∷ []) ++ ends) (0x80 ∷ 0xf8 ∷ 0x7f ∷ []) ≡ 255 ∷ 255 ∷ 3 ∷ [])
    × (eeprom_after 3 (enable ++ status 0x08 ++ ends ++ enable ++ write 0x40 (1 ∷ []) ++ write 0x78 (2 ∷ []) ++ write 0x3f (3 ∷ []) ++ ends) (0x40 ∷ 0x78 ∷ 0x3f ∷ []) ≡ 255 ∷ 255 ∷ 3 ∷ [])
    -- F26, F27, F29, F30. BP 11: not even 00h; but SRWRITE takes it back, and IDWRITE asks for the lock alone.
    × (eeprom_after 2 (enable ++ status 0x0c ++ ends ++ enable ++ write 0x00 (1 ∷ []) ++ status 0x00 ++ ends ++ enable ++ write 0x01 (2 ∷ []) ++ ends) (0x00 ∷ 0x01 ∷ []) ≡ 255 ∷ 2 ∷ [])
    × Opens (enable ++ status 0x0c ++ ends ++ steps)
    -- A12, F6. BP is bits 3 and 2 alone: of FFh, the last number that is a byte, and of 10h.
    × (bp_found 2 (enable ++ status 0xff ++ ends) ≡ 3)
    × (bp_found 2 (enable ++ status 0x10 ++ ends) ≡ 0)
    -- F6, F24, F28, E16. It is there from the 164th tick on, not from the 163rd; two data bytes start no cycle.
    × (bp_found 2 (enable ++ status 0xfb ++ waits 163 163) ≡ 0)
    × (bp_found 2 (enable ++ status 0xfb ++ waits 163 163 ++ waits 1 1) ≡ 2)
    × (bp_found 2 (enable ++ frame (0x01 ∷ 0x0c ∷ 0x0c ∷ []) ++ idle) ≡ 0)

-- cut and up
pub PowerRuns : Type 0
PowerRuns =
    -- P1, P2, P5, L14. A cut with mask 05h stores offsets 0 and 2 of three loaded; up and a wait bring no more.
    (eeprom_after 2 (enable ++ write 0x20 (1 ∷ 2 ∷ 3 ∷ []) ++ waits 100 100 ++ does cut 0x05 ∷ does up 0 ∷ idle) (0x20 ∷ 0x21 ∷ 0x22 ∷ 0x23 ∷ []) ≡ 1 ∷ 255 ∷ 3 ∷ 255 ∷ [])
    -- P3, P11. A status cycle that is cut goes by the mask's bit 0; any other cut leaves BP.
    × (bp_found 2 (enable ++ status 0x0c ++ does cut 0x01 ∷ []) ≡ 3)
    × (bp_found 2 (enable ++ status 0x0c ++ does cut 0xfe ∷ []) ≡ 0)
    × (bp_found 2 (enable ++ status 0x0c ++ ends ++ does cut 0x00 ∷ []) ≡ 3)
    × (bp_found 2 (enable ++ status 0x04 ++ ends ++ enable ++ write 0x00 (1 ∷ []) ++ does cut 0x01 ∷ []) ≡ 1)
    -- P6, P8. A cut takes the enable, as the ledger has it before any up, an open frame, and each step of the lock.
    × ((ledger_run 2 (enable ++ does cut 0 ∷ []) start).wel ≡ false)
    × (eeprom_after 2 (enable ++ does cut 0 ∷ does up 0 ∷ write 0x00 (1 ∷ []) ++ idle) (0x00 ∷ []) ≡ 255 ∷ [])
    × (eeprom_after 2 (enable ++ does select 0 ∷ does byte 2 ∷ does byte 0 ∷ does byte 1 ∷ does cut 255 ∷ does up 0 ∷ does end 0 ∷ idle) (0x00 ∷ []) ≡ 255 ∷ [])
    × Shuts (unlock 0x55 ++ does cut 0 ∷ does up 0 ∷ unlock 0xaa)
    × Shuts (steps ++ does cut 0 ∷ does up 0 ∷ [])
    -- A13, A16, L15. Without power no act counts until an up, which asks for nothing; and the chip is not selected then.
    × (eeprom_after 2 (does cut 0 ∷ enable ++ write 0x00 (1 ∷ []) ++ idle) (0x00 ∷ []) ≡ 255 ∷ [])
    × (eeprom_after 2 (does cut 0 ∷ does up 1 ∷ enable ++ write 0x00 (1 ∷ []) ++ idle) (0x00 ∷ []) ≡ 255 ∷ [])
    × (eeprom_after 2 (does cut 0 ∷ does up 0 ∷ enable ++ write 0x00 (1 ∷ []) ++ ends) (0x00 ∷ []) ≡ 1 ∷ [])
    × (eeprom_after 2 (does select 0 ∷ does cut 0 ∷ does up 0 ∷ sends 0 (0x06 ∷ []) ++ write 0x00 (1 ∷ []) ++ idle) (0x00 ∷ []) ≡ 255 ∷ [])
    -- L15, P18. Up clears WEL, of a ledger that begins without power and with WEL set.
    × (found_at eeprom (0x00 ∷ []) (ledger_run 2 (does up 0 ∷ write 0x00 (1 ∷ []) ++ idle) (with_power false (with_wel true start))).entries ≡ 255 ∷ [])

-- the lock
pub LockRuns : Type 0
LockRuns =
    -- F9, F27, F33, F36, L5. The lock is opened, an SRREAD and an EEWREN between, and used: address 15h is ID place 05h, and EEPROM 05h
    -- gets nothing, nor does ID 05h of an EEWRITE there.
    (id_after 2 (unlock 0x55 ++ frame (0x05 ∷ 0x00 ∷ []) ++ unlock 0xaa ++ enable ++ id_write 0x15 (1 ∷ []) ++ ends) (0x05 ∷ 0x06 ∷ []) ≡ 1 ∷ 255 ∷ [])
    × (eeprom_after 2 (steps ++ enable ++ id_write 0x05 (1 ∷ []) ++ ends) (0x05 ∷ []) ≡ 255 ∷ [])
    × (id_after 2 (enable ++ write 0x05 (1 ∷ []) ++ ends) (0x05 ∷ []) ≡ 255 ∷ [])
    -- F27. It is not opened at all.
    × Shuts []
    -- F33, F34. 55h is the first step whatever came before: twice, or on an open lock. It opens nothing by itself.
    × Opens (unlock 0x55 ++ steps)
    × Opens (steps ++ steps)
    × Shuts (steps ++ unlock 0x55)
    -- F35. AAh closes an open lock and is no first step; so does another byte, after 55h or after both.
    × Shuts (steps ++ unlock 0xaa)
    × Shuts (steps ++ unlock 0xaa ++ unlock 0xaa)
    × Shuts (unlock 0x55 ++ unlock 0x00)
    × Shuts (steps ++ unlock 0x00)
    -- F35. UNLOCK with a bit more, with a third byte, or alone: no step, and it closes.
    × Shuts (unlock 0x55 ++ ragged 1 (0x14 ∷ 0xaa ∷ []))
    × Shuts (steps ++ ragged 1 (0x14 ∷ 0x55 ∷ []))
    × Shuts (unlock 0x55 ++ frame (0x14 ∷ 0xaa ∷ 0xaa ∷ []))
    × Shuts (steps ++ frame (0x14 ∷ 0x55 ∷ 0x55 ∷ []))
    × Shuts (steps ++ frame (0x14 ∷ []))
    -- F36. Every other code closes it, one that is none too, after both steps and between them.
    × Shuts (steps ++ frame (0x00 ∷ [])) × Shuts (steps ++ frame (0x01 ∷ [])) × Shuts (steps ++ frame (0x02 ∷ [])) × Shuts (steps ++ frame (0x03 ∷ []))
    × Shuts (steps ++ frame (0x04 ∷ [])) × Shuts (steps ++ frame (0x12 ∷ [])) × Shuts (steps ++ frame (0x32 ∷ [])) × Shuts (steps ++ frame (0x33 ∷ []))
    × Shuts (steps ++ frame (0x44 ∷ [])) × Shuts (steps ++ frame (0x54 ∷ [])) × Shuts (steps ++ read) × Shuts (unlock 0x55 ++ read ++ unlock 0xaa)
    -- F36. IDWRITE closes it, carried or not: for leftover bits, for no data, for the enable. WEL stays (F30), so a second try wants the lock alone.
    × (id_after 2 (steps ++ enable ++ id_write 0x05 (1 ∷ []) ++ ends ++ enable ++ id_write 0x05 (2 ∷ []) ++ idle) (0x05 ∷ []) ≡ 1 ∷ [])
    × (id_after 2 (steps ++ enable ++ ragged 7 (0x32 ∷ 0x05 ∷ 1 ∷ []) ++ id_write 0x05 (2 ∷ []) ++ idle) (0x05 ∷ []) ≡ 255 ∷ [])
    × (id_after 2 (steps ++ enable ++ id_write 0x05 [] ++ id_write 0x05 (2 ∷ []) ++ idle) (0x05 ∷ []) ≡ 255 ∷ [])
    × (id_after 2 (steps ++ enable ++ id_write 0x05 [] ++ steps ++ id_write 0x05 (2 ∷ []) ++ ends) (0x05 ∷ []) ≡ 2 ∷ [])
    × Shuts (steps ++ id_write 0x05 (1 ∷ []))
    -- F31, F36. SRREAD and EEWREN leave it, however long, and so does a frame with no whole byte.
    × Opens (unlock 0x55 ++ enable ++ unlock 0xaa ++ frame (0x05 ∷ []) ++ frame (0x06 ∷ 0x00 ∷ []) ++ ragged 1 (0x06 ∷ []))
    × Opens (unlock 0x55 ++ frame [] ++ unlock 0xaa ++ ragged 3 [])

-- cycles, and what is heard in them
pub CycleRuns : Type 0
CycleRuns =
    -- F31, F32, L9. Neither an enable nor a write nor an UNLOCK is heard while a cycle runs; the cycle comes to its end.
    (eeprom_after 2 (enable ++ write 0x00 (1 ∷ []) ++ enable ++ write 0x01 (2 ∷ []) ++ ends) (0x00 ∷ 0x01 ∷ []) ≡ 1 ∷ 255 ∷ [])
    × Shuts (enable ++ write 0x00 (1 ∷ []) ++ steps ++ ends)
    -- F31. WIP is looked at when the first byte comes: a frame opened before the cycle's end is heard if its code comes after it,
    × (eeprom_after 2 (enable ++ write 0x00 (1 ∷ []) ++ does select 0 ∷ ends ++ sends 0 (0x06 ∷ []) ++ write 0x01 (2 ∷ []) ++ ends) (0x00 ∷ 0x01 ∷ []) ≡ 1 ∷ 2 ∷ [])
    -- and one whose code came before it is not, neither at its end nor at a second byte.
    × (eeprom_after 2 (enable ++ write 0x00 (1 ∷ []) ++ does select 0 ∷ does byte 0x06 ∷ ends ++ does end 0 ∷ write 0x01 (2 ∷ []) ++ idle) (0x00 ∷ 0x01 ∷ []) ≡ 1 ∷ 255 ∷ [])
    × (eeprom_after 2 (enable ++ write 0x00 (1 ∷ []) ++ does select 0 ∷ does byte 0x00 ∷ ends ++ sends 0 (0x06 ∷ []) ++ write 0x01 (2 ∷ []) ++ idle) (0x00 ∷ 0x01 ∷ []) ≡ 1 ∷ 255 ∷ [])
    -- F28, L13. A cycle uses up its enable.
    × (eeprom_after 2 (enable ++ write 0x00 (1 ∷ []) ++ ends ++ write 0x01 (2 ∷ []) ++ idle) (0x00 ∷ 0x01 ∷ []) ≡ 1 ∷ 255 ∷ [])
    -- F28, E16, L12, L13. A byte of EEPROM or ID is stored by the 164th tick and not by the 163rd.
    × (eeprom_after 2 (enable ++ write 0x00 (1 ∷ []) ++ waits 163 163) (0x00 ∷ []) ≡ 255 ∷ [])
    × (eeprom_after 2 (enable ++ write 0x00 (1 ∷ []) ++ waits 163 163 ++ waits 1 1) (0x00 ∷ []) ≡ 1 ∷ [])
    × (id_after 2 (steps ++ enable ++ id_write 0x05 (1 ∷ []) ++ waits 163 163) (0x05 ∷ []) ≡ 255 ∷ [])
    × (id_after 2 (steps ++ enable ++ id_write 0x05 (1 ∷ []) ++ waits 163 163 ++ waits 1 1) (0x05 ∷ []) ≡ 1 ∷ [])

pub ClosedRuns : Type 0
ClosedRuns = WriteRuns × ProtectionRuns × PowerRuns × LockRuns × CycleRuns

-- Each run computes. A refusal names the parts that do not, counted from 0.
pub closed_runs : ClosedRuns
unfolding ClosedRuns WriteRuns ProtectionRuns PowerRuns LockRuns CycleRuns ledger_run follow refused on_select on_byte on_end ticked waited finished on_wait on_cut on_up first_byte later_byte carried cycle_of wel_after lock_after is_loaded loaded_byte entries_under entries_after bp_after byte_of no_byte no_cycle start sends found_at
closed_runs = (search depth 1, search depth 1, search depth 1, search depth 1, search depth 1)
