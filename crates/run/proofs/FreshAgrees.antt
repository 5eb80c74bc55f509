-- A fresh chip and the ledger's start agree, on every part.
-- Assumes nothing.
use Prim.Native.Nat.{ℕ}
use mathlib.Core.Path.{refl}
use mathlib.Core.Bool.{false≢true}
use native.Mathlib.Omega.{arith}
use Rattle.record.specs.Fresh.{fresh}
use Rattle.record.specs.World.{fresh_world}
use Rattle.acts.proofs.ValidLaws.{fresh_valid}
use Rattle.ledger.specs.State.{start, no_byte, no_cycle}
use Rattle.ledger.specs.Bytes.{byte_of}
use Rattle.run.proofs.Agree.{Agree}

pub fresh_agrees : (part : ℕ) → Agree (fresh_world part) part (fresh_world part) start
unfolding fresh start no_byte no_cycle byte_of
fresh_agrees part =
    record {
      valid = fresh_valid part;
      state =
          record {
            power = refl;
            chosen = refl;
            wel = refl;
            bp = refl;
            lock = refl;
            frame = record { heard = refl; code = λ h. absurd (false≢true h); count = refl; brought = tt };
            cycle = record { left = refl; target = λ h. absurd (omega arith) };
          };
      bytes = λ m p h. refl;
    }
