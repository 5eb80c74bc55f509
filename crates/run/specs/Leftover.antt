-- What an end with leftover bits answers, beside what a whole exchange in its place would: of every end on any chip, and of every run; and of every
-- frame, by the bytes that came in it, whether it answers any. `Shaped` asks for memories and arrays of their lengths with bytes in them, which the types
-- give in code.
-- Assumes nothing.
use Rattle.std.specs.Prelude.{ℕ, ◌^◌, ◌<◌, ◌≡◌, Bool, true, false, ◌&&◌, ◌||◌, List, [], ◌∷◌, ◌↔◌, ◌⊎◌, ◌≢◌, eqb, Some, None}
use Rattle.record.specs.declared.Act.TheVariants.{Select, Byte, End, Wait}
use Rattle.record.specs.declared.Stage.TheVariants.{Idle}
use Rattle.record.specs.Part.{is_part}
use Rattle.record.specs.Setters.{with_stage, with_lock}
use Rattle.record.specs.World.{World, moved, Shaped}
use Rattle.replies.specs.Leftover.{BrokenOff}
use Rattle.acts.specs.Act.{performed}
use Rattle.run.specs.Claim.{Input, reached}
use Rattle.run.specs.Pieces.{Piece, byte, wait, WholeBytes, some_byte, framed}

-- an end with k leftover bits, and in its place an exchange of any byte: that is done too, and the end's reply is that of the exchange, broken off
abbrev pub InItsPlace : ℕ → ℕ → ℕ → World → Type 0
InItsPlace part k v w = ((performed part Byte v w).number ≡ 0) × BrokenOff k (performed part Byte v w).reply (performed part End k w).reply

-- F2, F3, F4, F5, F31, F32. SO is driven in a frame from its second byte on if the first is SRREAD's, 05h; from its third on if it is READ's, 13h, or, at a
-- moment when no cycle ran, EEREAD's, 03h, or IDREAD's, 33h. In no other frame.
abbrev pub so_driven : ℕ → List Piece → World → Bool
so_driven part [] w = false
so_driven part (byte b ∷ ps) w = eqb b 0x05 || (some_byte ps && (eqb b 0x13 || (eqb w.device.cycle.left 0 && (eqb b 0x03 || eqb b 0x33))))
so_driven part (wait n ∷ ps) w = so_driven part ps (performed part Wait n w).after

-- R15. The promise.
pub record LeftoverBits : Type 0 where
  -- an end that is done answers the first k bits of the exchange that it broke off, whatever byte that would have brought in
  pub agrees : (part k v : ℕ) (w : World) → Shaped part w → v < 256 → (performed part End k w).number ≡ 0 → InItsPlace part k v w
  -- and so after every list of acts from fresh: k bits now, and a whole byte in the run without the end
  pub in_runs :
      (part : ℕ) → is_part part ≡ true → (xs : List Input) (k v : ℕ) → v < 256 → (performed part End k (reached part xs)).number ≡ 0
      → InItsPlace part k v (reached part xs)
  -- it answers none exactly if k is 0 or SO is off, that is, the exchange would answer none
  pub none :
      (part k v : ℕ) (w : World) → v < 256 → (performed part End k w).number ≡ 0
      → ((performed part End k w).reply ≡ None) ↔ ((k ≡ 0) ⊎ ((performed part Byte v w).reply ≡ None))
  -- Of every frame that a select opens, whatever bytes and waits come in it: its end answers none exactly if k is 0 or, by these, SO is off.
  pub frame_none :
      (part k : ℕ) (ps : List Piece) (w : World) → (performed part Select 0 w).number ≡ 0 → k < 8 → WholeBytes ps
      → ((performed part End k (framed part ps w)).reply ≡ None) ↔ ((k ≡ 0) ⊎ (so_driven part ps (performed part Select 0 w).after ≡ false))
  -- its number is below 2 to the power k
  pub below : (part k n : ℕ) (w : World) → Shaped part w → (performed part End k w).reply ≡ Some n → n < 2 ^ k
  -- an end that is refused answers none
  pub refused : (part k : ℕ) (w : World) → (performed part End k w).number ≢ 0 → (performed part End k w).reply ≡ None
  -- What else an end with leftover bits does: the frame is over, the lock may move (F33 to F36), and all else is as it was.
  pub rest :
      (part k : ℕ) (w : World) → 0 < k → (performed part End k w).number ≡ 0
      → (performed part End k w).after ≡ moved w (with_lock (with_stage w.device Idle) (performed part End k w).after.device.guard.lock)
  -- and no end has a count
  pub uncounted : (part k : ℕ) (w : World) → (performed part End k w).count ≡ 0
