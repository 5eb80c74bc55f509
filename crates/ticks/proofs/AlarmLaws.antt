-- Laws of the alarms' part of a tick: what they do to the registers, and that the number of registers stays.
-- Assumes nothing.
use mathlib.Core.Path.{◌≡◌, refl, ◌∙◌}
use mathlib.Core.Bool.{Bool, true, false, ◌&&◌}
use mathlib.Core.List.{List}
use Prim.Native.Nat.{ℕ}
use lib.Bits.{bit_or}
use lib.ListN.{length, get_or, length-set}
use Rattle.base.proofs.StoreLaws.{set_each}
use Rattle.calendar.specs.declared.Advanced.{Advanced}
use Rattle.record.specs.Registers.{active, alm0, alm1, alarm0_at, alarm1_at}
use Rattle.ticks.specs.Alarm.{flag_raised, match0, match1, alarmed}

-- what holds of each register holds of each after a flag that may be set, and after both alarms
flag_each :
    (P : ℕ → ℕ → Type 0) (go : Bool) (regs : List ℕ) (a : ℕ) → ((v : ℕ) → P a v → P a (bit_or v 0x08)) → ((k : ℕ) → P k (get_or regs k 0))
    → (k : ℕ) → P k (get_or (flag_raised go regs a) k 0)
flag_each P true regs a f q = set_each P regs a (bit_or (get_or regs a 0) 0x08) (f (get_or regs a 0) (q a)) q
flag_each P false regs a f q = q

pub alarmed_each :
    (P : ℕ → ℕ → Type 0) (t : Advanced) (regs : List ℕ)
    → ((v : ℕ) → P alarm0_at v → P alarm0_at (bit_or v 0x08))
    → ((v : ℕ) → P alarm1_at v → P alarm1_at (bit_or v 0x08))
    → ((k : ℕ) → P k (get_or regs k 0))
    → (k : ℕ) → P k (get_or (alarmed t regs) k 0)
unfolding alarmed
alarmed_each P t regs f g q =
    let go0 : Bool = active regs alm0 && match0 t regs in
    let go1 : Bool = active regs alm1 && match1 t regs in
    flag_each P go1 (flag_raised go0 regs alarm0_at) alarm1_at g (flag_each P go0 regs alarm0_at f q)

-- the number of registers
flag_length : (go : Bool) (regs : List ℕ) (a : ℕ) → length (flag_raised go regs a) ≡ length regs
flag_length true regs a = length-set regs a (bit_or (get_or regs a 0) 0x08)
flag_length false regs a = refl

pub alarmed_length : (t : Advanced) (regs : List ℕ) → length (alarmed t regs) ≡ length regs
unfolding alarmed
alarmed_length t regs =
    let go0 : Bool = active regs alm0 && match0 t regs in
    flag_length (active regs alm1 && match1 t regs) (flag_raised go0 regs alarm0_at) alarm1_at ∙ flag_length go0 regs alarm0_at
