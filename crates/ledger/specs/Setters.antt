-- A ledger with one field replaced. They say no rule.
-- Assumes nothing.
use Rattle.std.specs.Prelude.{Bool, List, ℕ}
use Rattle.ledger.specs.State.{Lock, Frame, Cycle, Entry, Ledger}

abbrev pub with_power : Bool → Ledger → Ledger
with_power x l =
    record { power = x; selected = l.selected; wel = l.wel; bp = l.bp; lock = l.lock; frame = l.frame; cycle = l.cycle; entries = l.entries }

abbrev pub with_selected : Bool → Ledger → Ledger
with_selected x l =
    record { power = l.power; selected = x; wel = l.wel; bp = l.bp; lock = l.lock; frame = l.frame; cycle = l.cycle; entries = l.entries }

abbrev pub with_wel : Bool → Ledger → Ledger
with_wel x l =
    record { power = l.power; selected = l.selected; wel = x; bp = l.bp; lock = l.lock; frame = l.frame; cycle = l.cycle; entries = l.entries }

abbrev pub with_bp : ℕ → Ledger → Ledger
with_bp x l =
    record { power = l.power; selected = l.selected; wel = l.wel; bp = x; lock = l.lock; frame = l.frame; cycle = l.cycle; entries = l.entries }

abbrev pub with_lock : Lock → Ledger → Ledger
with_lock x l =
    record { power = l.power; selected = l.selected; wel = l.wel; bp = l.bp; lock = x; frame = l.frame; cycle = l.cycle; entries = l.entries }

abbrev pub with_frame : Frame → Ledger → Ledger
with_frame x l =
    record { power = l.power; selected = l.selected; wel = l.wel; bp = l.bp; lock = l.lock; frame = x; cycle = l.cycle; entries = l.entries }

abbrev pub with_cycle : Cycle → Ledger → Ledger
with_cycle x l =
    record { power = l.power; selected = l.selected; wel = l.wel; bp = l.bp; lock = l.lock; frame = l.frame; cycle = x; entries = l.entries }

abbrev pub with_entries : List Entry → Ledger → Ledger
with_entries x l =
    record { power = l.power; selected = l.selected; wel = l.wel; bp = l.bp; lock = l.lock; frame = l.frame; cycle = l.cycle; entries = x }
