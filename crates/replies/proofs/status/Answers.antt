-- `replies::status`: the promises of its calls.
-- Assumes nothing.
use mathlib.Core.Path.{◌≡◌, refl}
use mathlib.Core.Bool.{Bool, true, false}
use Rattle.std.specs.Int.{from_bool}
use Rattle.base.specs.Words.{flag}
use Rattle.replies.specs.Reply.{status_byte}
use Rattle.replies.proofs.status.Goals as goal

-- a test as a byte is its flag
byte_flag : (b : Bool) → from_bool b ≡ flag b
byte_flag true = refl
byte_flag false = refl

pub returns : goal.returns
unfolding status_byte
returns c = simp (c.from-protected.ensures, c.from-enabled.ensures, c.from-busy.ensures, c.in_progress.ensures, byte_flag)
