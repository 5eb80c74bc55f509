-- What an act that no row of the table refuses may suppose: an argument that is a byte, pointers inside the lent memories, and a page inside
-- its memory.
-- Assumes nothing.
use mathlib.Core.Path.{◌≡◌, refl}
use mathlib.Core.Bool.{false}
use Prim.Native.Nat.{ℕ, ◌%◌, ◌<◌}
use native.Mathlib.Omega.{arith}
use borrow.Author.Tests.{ltb-false}
use mathlib.Core.List.{List}
use lib.Dec.{ltb, lit<}
use lib.ListN.{length}
use Rattle.record.specs.declared.Act.{Act}
use Rattle.record.specs.declared.Act.TheVariants.{Byte, End, Cut, Set}
use Rattle.record.specs.declared.Pin.{Pin}
use Rattle.record.specs.declared.Device.{Device}
use Rattle.refusals.specs.InRange.{InRange}
use Rattle.record.specs.Part.{size_of, id_size}
use Rattle.record.specs.Stages.{frame_place, eeprom_pointer, id_pointer}
use Rattle.record.proofs.PartLaws.{whole_pages, page_fits}
use Rattle.refusals.specs.Refusal.{refusal_of}
use Rattle.acts.specs.Page.{PageInside}
use Rattle.refusals.proofs.RangeLaws.{in_range_lem}
use Rattle.refusals.proofs.TableLaws.{Accepted, accepted}

-- an argument that its row lets through is its own byte
byte_arg : (most n : ℕ) → most < 256 → ltb most n ≡ false → n % 256 ≡ n
byte_arg most n h e = omega (arith, ltb-false most n e)

-- of the acts that take a byte, a leftover, a mask or a level
pub accepted_byte : (part n : ℕ) (d : Device) (ee id : ℕ) → refusal_of part Byte n d ee id ≡ 0 → n % 256 ≡ n
accepted_byte part n d ee id e = byte_arg 255 n (lit< tt) (accepted part Byte n d ee id e).arg

pub accepted_end : (part n : ℕ) (d : Device) (ee id : ℕ) → refusal_of part End n d ee id ≡ 0 → n % 256 ≡ n
accepted_end part n d ee id e = byte_arg 7 n (lit< tt) (accepted part End n d ee id e).arg

-- an end has at most 7 leftover bits
pub few_bits : (part n : ℕ) (d : Device) (ee id : ℕ) → refusal_of part End n d ee id ≡ 0 → n < 8
few_bits part n d ee id e = omega (arith, ltb-false 7 n (accepted part End n d ee id e).arg)

pub accepted_cut : (part n : ℕ) (d : Device) (ee id : ℕ) → refusal_of part Cut n d ee id ≡ 0 → n % 256 ≡ n
accepted_cut part n d ee id e = byte_arg 255 n (lit< tt) (accepted part Cut n d ee id e).arg

pub accepted_set : (part n : ℕ) (p : Pin) (d : Device) (ee id : ℕ) → refusal_of part (Set p) n d ee id ≡ 0 → n % 256 ≡ n
accepted_set part n p d ee id e = byte_arg 1 n (lit< tt) (accepted part (Set p) n d ee id e).arg

-- a record and memories
pub record Suits (d : Device) (ee id : List ℕ) : Type 0 where
  pub frame_eeprom : eeprom_pointer (frame_place d.frame.stage) < length ee
  pub frame_id : id_pointer (frame_place d.frame.stage) < length id
  pub page : PageInside d.cycle.target ee id

pub suits :
    (part : ℕ) (act : Act) (n : ℕ) (d : Device) (ee id : List ℕ) → refusal_of part act n d (length ee) (length id) ≡ 0 → Suits d ee id
suits part act n d ee id e =
    let a : Accepted part act n d (length ee) (length id) = accepted part act n d _ _ e in
    let r : InRange part d = in_range_lem part d a.setup.ranged in
    record {
      frame_eeprom = rw a.setup.eeprom r.frame.place.eeprom;
      frame_id = rw a.setup.ids r.frame.place.id;
      page = record {
        eeprom_page = rw a.setup.eeprom (page_fits _ (size_of part) r.cycle.place.eeprom (whole_pages part));
        id_page = rw a.setup.ids (page_fits _ id_size r.cycle.place.id refl);
      };
    }

-- what the code of an accepted act asks and leans on
pub ruleset accepted_laws = (suits, few_bits, accepted_byte, accepted_end, accepted_cut, accepted_set)
