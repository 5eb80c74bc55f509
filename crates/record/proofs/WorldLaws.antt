-- Laws of sizes and bytes: what leaves a record's arrays alone keeps it sized; a stored byte and a stored page leave bytes; a fresh chip is
-- shaped. Not what is stored.
-- Assumes nothing.
use Prim.Native.Nat.{ℕ, ◌<◌}
use native.Mathlib.Omega.{arith}
use mathlib.Core.Path.{◌≡◌, refl, sym, ap, subst, ◌∙◌}
use mathlib.Core.List.{List}
use lib.ListN.{length, set, replicate, length-replicate}
use Rattle.base.proofs.StoreLaws.{set_each, store_each, store_length, replicate_each}
use Rattle.record.specs.declared.Device.{Device}
use Rattle.record.specs.declared.Load.{Load}
use Rattle.record.specs.declared.Target.{Target}
use Rattle.record.specs.declared.Target.TheVariants.{Eeprom, Id, Status}
use Rattle.record.specs.Address.{page_of}
use Rattle.record.specs.Fresh.{fresh}
use Rattle.record.specs.Part.{size_of, id_size}
use Rattle.record.specs.Stored.{stored_set, store_page, eeprom_after, id_after}
use Rattle.record.specs.World.{fresh_world, Bytes, Sized, Shaped}

-- what leaves SRAM, load and the number of registers alone keeps a record sized
pub sized_by : (d e : Device) → length e.regs ≡ length d.regs → e.sram ≡ d.sram → e.load ≡ d.load → Sized d → Sized e
sized_by d e r s l z =
    record {
      regs = r ∙ z.regs;
      sram = ap length s ∙ z.sram;
      bytes = ap (λ (x : Load). length x.bytes) l ∙ z.bytes;
      offsets = subst (λ (x : Load). x.offsets < 256) (sym l) z.offsets;
      sram_bytes = subst Bytes (sym s) z.sram_bytes;
      load_bytes = subst (λ (x : Load). Bytes x.bytes) (sym l) z.load_bytes;
    }

-- a byte is stored into bytes; one byte, so many times
pub set_bytes : (l : List ℕ) (i v : ℕ) → v < 256 → Bytes l → Bytes (set l i v)
set_bytes l i v h b = set_each (λ k x. x < 256) l i v h b

pub replicate_bytes : (n v : ℕ) → v < 256 → Bytes (replicate n v)
replicate_bytes n v h = replicate_each (λ x. x < 256) n v h (omega arith)

-- a stored page leaves the memory's length, and bytes stored into bytes leave bytes
pub page_length : (l : Load) (mask : ℕ) (m : List ℕ) (a : ℕ) → length (store_page l mask a m) ≡ length m
page_length l mask m a = store_length m (page_of a) (stored_set l mask) l.bytes 8

pub page_bytes : (l : Load) (mask : ℕ) (m : List ℕ) → Bytes l.bytes → Bytes m → (a : ℕ) → Bytes (store_page l mask a m)
page_bytes l mask m b h a = store_each (λ x. x < 256) m (page_of a) (stored_set l mask) l.bytes 8 b h

-- what holds of a memory, and of it with any page stored, holds of it after a cycle
module _ (P : List ℕ → Type 0) (l : Load) (mask : ℕ) (m : List ℕ) (h : P m) (s : (a : ℕ) → P (store_page l mask a m)) where
  pub eeprom_case : (t : Target) → P (eeprom_after l mask m t)
  eeprom_case (Eeprom a) = s a.0
  eeprom_case (Id a) = h
  eeprom_case (Status p) = h

  pub id_case : (t : Target) → P (id_after l mask m t)
  id_case (Eeprom a) = h
  id_case (Id a) = s a.0
  id_case (Status p) = h

pub fresh_shaped : (part : ℕ) → Shaped part (fresh_world part)
unfolding fresh
fresh_shaped part =
    record {
      sized =
          record {
            regs = refl;
            sram = refl;
            bytes = refl;
            offsets = omega arith;
            sram_bytes = replicate_bytes 64 0 (omega arith);
            load_bytes = replicate_bytes 8 0 (omega arith);
          };
      eeprom = length-replicate {A = ℕ} (size_of part) 255;
      id = length-replicate {A = ℕ} id_size 255;
      eeprom_bytes = replicate_bytes (size_of part) 255 (omega arith);
      id_bytes = replicate_bytes id_size 255 (omega arith);
    }
