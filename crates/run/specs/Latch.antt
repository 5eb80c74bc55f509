-- What moves the write enable latch, WEL: the whole list, of every act on any chip, and of the end of every frame.
-- Assumes nothing.
use Rattle.std.specs.Prelude.{ℕ, ◌<◌, ◌≡◌, Bool, true, false, ◌↔◌, List, [], ◌∷◌}
use Rattle.record.specs.declared.Act.{Act}
use Rattle.record.specs.declared.Act.TheVariants.{Select, End, Wait, Cut, Up}
use Rattle.record.specs.declared.Code.{Code}
use Rattle.record.specs.declared.Code.TheVariants.{Eewrdi, Eewren}
use Rattle.record.specs.declared.Device.{Device}
use Rattle.record.specs.declared.Stage.TheVariants.{Instruction}
use Rattle.record.specs.World.{World}
use Rattle.acts.specs.Act.{performed}
use Rattle.run.specs.Pieces.{Piece, byte, wait, WholeBytes, some_byte, framed}

-- WEL of a chip with its memories
abbrev pub wel_of : World → Bool
wel_of w = w.device.guard.wel

-- F19. The end, with no leftover bit, of a heard frame that stands at the code's instruction byte. EEWREN and EEWRDI do so alone: a second byte
-- moves the stage on.
abbrev pub EndsAlone : Code → Act → ℕ → Device → Type 0
EndsAlone code act arg d = (act ≡ End) × (d.frame.stage ≡ Instruction code) × (arg ≡ 0)

-- The acts that reset the latch, each where it is done; `used` is the ticks of a wait.
pub data Resets (act : Act) (arg used : ℕ) (d : Device) : Type 0 where
  -- P6. a cut
  cuts : act ≡ Cut → Resets act arg used d
  -- P18. an up
  ups : act ≡ Up → Resets act arg used d
  -- F19. the end of EEWRDI alone
  disables : EndsAlone Eewrdi act arg d → Resets act arg used d
  -- F28. a wait that used all the ticks that a cycle had left
  completes : act ≡ Wait → 0 < d.cycle.left → used ≡ d.cycle.left → Resets act arg used d

-- F19, F31. One byte came, this one, at a moment when no cycle ran; the rest is waits.
abbrev pub SentAlone : ℕ → ℕ → List Piece → World → Type 0
SentAlone part code [] w = ⊥
SentAlone part code (byte b ∷ ps) w = (b ≡ code) × (w.device.cycle.left ≡ 0) × (some_byte ps ≡ false)
SentAlone part code (wait n ∷ ps) w = SentAlone part code ps (performed part Wait n w).after

-- R14. The promise.
pub record Latch : Type 0 where
  -- an act that finds WEL set leaves it clear exactly if it is done and resets it; so a failed write leaves it set
  pub cleared :
      (part : ℕ) (act : Act) (arg : ℕ) (w : World) → wel_of w ≡ true
      → (wel_of (performed part act arg w).after ≡ false)
      ↔ (((performed part act arg w).number ≡ 0) × Resets act arg (performed part act arg w).count w.device)
  -- an act that finds it clear leaves it set exactly if it is done and is the end of EEWREN alone
  pub set :
      (part : ℕ) (act : Act) (arg : ℕ) (w : World) → wel_of w ≡ false
      → (wel_of (performed part act arg w).after ≡ true) ↔ (((performed part act arg w).number ≡ 0) × EndsAlone Eewren act arg w.device)
  -- Of every frame that a select opens, whatever bytes and waits come in it: its end, where WEL is set, clears it exactly if the frame is EEWRDI, 04h,
  -- alone, heard, with no leftover bit;
  pub frame_cleared :
      (part leftover : ℕ) (ps : List Piece) (w : World) → (performed part Select 0 w).number ≡ 0 → leftover < 8 → WholeBytes ps → wel_of (framed part ps w) ≡ true
      → (wel_of (performed part End leftover (framed part ps w)).after ≡ false)
      ↔ (SentAlone part 0x04 ps (performed part Select 0 w).after × (leftover ≡ 0))
  -- and where WEL is clear, sets it exactly if it is EEWREN, 06h, so.
  pub frame_set :
      (part leftover : ℕ) (ps : List Piece) (w : World) → (performed part Select 0 w).number ≡ 0 → leftover < 8 → WholeBytes ps → wel_of (framed part ps w) ≡ false
      → (wel_of (performed part End leftover (framed part ps w)).after ≡ true)
      ↔ (SentAlone part 0x06 ps (performed part Select 0 w).after × (leftover ≡ 0))
