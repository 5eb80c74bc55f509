-- A caller's arrays: what is read from a state array, and what is put into it.
-- Assumes nothing.
use mathlib.Core.Path.{◌≡◌, refl, sym, ap, ◌∙◌}
use mathlib.Core.Bool.{true}
use mathlib.Core.List.{List, [], ◌∷◌, ◌++◌, append_assoc}
use Prim.Native.Nat.{ℕ, ◌+◌, ◌<◌}
use native.Mathlib.Omega.{arith}
use borrow.Author.Tests.{eqb-true}
use lib.Dec.{eqb}
use lib.ListN.{length, take, drop, get_or, get_or-eq_default}
use Rattle.base.proofs.Tests.{both_left, both_right}
use Rattle.events.specs.declared.Events.{Events}
use Rattle.record.specs.declared.Counters.{Counters}
use Rattle.record.specs.declared.Device.{Device}
use Rattle.record.specs.declared.Lock.{Lock}
use Rattle.record.specs.declared.Protection.{Protection}
use Rattle.record.specs.declared.Stage.{Stage}
use Rattle.record.specs.declared.Target.{Target}
use Rattle.record.specs.Numbers.{protection_of, lock_of, stage_of, target_of}
use Rattle.record.specs.World.{Sized}
use Rattle.form.specs.Chip.{tail_numbers, is_record, device_of}
use Rattle.form.specs.Facts.{StateFacts}
use Rattle.form.specs.State.{count_at, counts_bytes, frame_bytes, event_bytes, array_numbers, state_bytes, is_state, state_of}
use Rattle.form.proofs.FactLaws.{recorded_facts}
use Rattle.form.proofs.StateLaws.{count_at_lem, high_at, event_at_lem, registers_in, sram_in, load_in}
use Rattle.numbers.proofs.ChipLaws.{Fields, fields, EventFields, event_fields}
use Rattle.std.proofs.lemmas.List.{take_all}

-- an array that is a chip's has its length,
pub state_long : (bs : List ℕ) → is_state bs ≡ true → length bs ≡ 142
unfolding is_state
state_long bs t = eqb-true (length bs) state_bytes (both_left (eqb (length bs) state_bytes) (is_record (array_numbers bs)) t)

-- and what it says of its bytes
module _ (bs : List ℕ) (t : is_state bs ≡ true) where
  abbrev l : length bs ≡ 142
  l = state_long bs t

  facts : StateFacts (array_numbers bs)
  unfolding is_state
  facts = recorded_facts (array_numbers bs) (both_right (eqb (length bs) state_bytes) (is_record (array_numbers bs)) t)

  fit : Fields (array_numbers bs)
  fit = fields (array_numbers bs) facts.first

  fit_events : EventFields 123 (array_numbers bs)
  fit_events = event_fields 123 (array_numbers bs) facts.events

  within : {a b n : ℕ} → a ≡ b → b < n → a < n
  within e h = omega (arith, e, h)

  pub divider_fits : count_at bs 97 < 65536
  divider_fits = within (sym (count_at_lem bs l 0)) fit.divider

  pub startup_fits : count_at bs 100 < 256
  startup_fits = within (sym (count_at_lem bs l 1)) fit.startup

  pub pulse_fits : count_at bs 109 < 65536
  pulse_fits = within (sym (count_at_lem bs l 4)) fit.pulse

  pub since_fits : count_at bs 136 < 65536
  since_fits = within (sym (event_at_lem bs l 3)) fit_events.since

  pub debounce_fits : count_at bs 139 < 65536
  debounce_fits = within (sym (event_at_lem bs l 4)) fit_events.debounce

-- the record of an array, place by place
module _ (bs : List ℕ) (l : length bs ≡ 142) where
  pub counters_by :
      {a b c d e : ℕ} → a ≡ count_at bs 97 → b ≡ count_at bs 100 → c ≡ count_at bs 103 → d ≡ count_at bs 106 → e ≡ count_at bs 109
      → record { divider = a; startup = b; watchdog = c; delay = d; pulse = e } ≡ (device_of (array_numbers bs)).counters
  counters_by a b c d e i =
      record {
        divider = (a ∙ sym (count_at_lem bs l 0)) i;
        startup = (b ∙ sym (count_at_lem bs l 1)) i;
        watchdog = (c ∙ sym (count_at_lem bs l 2)) i;
        delay = (d ∙ sym (count_at_lem bs l 3)) i;
        pulse = (e ∙ sym (count_at_lem bs l 4)) i;
      }

  pub inputs_by :
      {a c : ℕ} → a ≡ count_at bs 136 → c ≡ count_at bs 139
      → ◌≡◌ {A = Events}
      (record { door = get_or bs 133 0; drum = get_or bs 134 0; edges = get_or bs 135 0; since = a; debounce = c })
      (device_of (array_numbers bs)).events
  inputs_by a c i =
      record {
        door = sym (event_at_lem bs l 0) i;
        drum = sym (event_at_lem bs l 1) i;
        edges = sym (event_at_lem bs l 2) i;
        since = (a ∙ sym (event_at_lem bs l 3)) i;
        debounce = (c ∙ sym (event_at_lem bs l 4)) i;
      }

  pub device_by :
      {regs sram bytes : List ℕ} {c : Counters} {p : Protection} {k : Lock} {s : Stage} {t : Target} {e : Events} → regs ≡ take 32 (drop 1 bs) → sram ≡ take 64 (drop 33 bs)
      → c ≡ (device_of (array_numbers bs)).counters → p ≡ protection_of (get_or bs 115 0) → k ≡ lock_of (get_or bs 116 0)
      → s ≡ stage_of (get_or bs 117 0) (get_or bs 118 0) (get_or bs 119 0) → bytes ≡ take 8 (drop 121 bs) → t ≡ target_of (get_or bs 130 0) (get_or bs 131 0) → e ≡ (device_of (array_numbers bs)).events
      → ◌≡◌ {A = Device}
      (record {
        regs = regs;
        sram = sram;
        counters = c;
        power = eqb (get_or bs 112 0) 1;
        mark = eqb (get_or bs 113 0) 1;
        guard = record { wel = eqb (get_or bs 114 0) 1; protection = p; lock = k };
        frame = record { stage = s };
        load = record { offsets = get_or bs 120 0; bytes = bytes; next = get_or bs 129 0 };
        cycle = record { target = t; left = get_or bs 132 0 };
        events = e;
      })
      (device_of (array_numbers bs))
  device_by regs sram c p k s bytes t e i =
      record {
        regs = (regs ∙ sym (registers_in bs l)) i;
        sram = (sram ∙ sym (sram_in bs l)) i;
        counters = c i;
        power = eqb (sym (high_at bs l 0 refl) i) 1;
        mark = eqb (sym (high_at bs l 1 refl) i) 1;
        guard =
            record {
              wel = eqb (sym (high_at bs l 2 refl) i) 1;
              protection = (p ∙ ap protection_of (sym (high_at bs l 3 refl))) i;
              lock = (k ∙ ap lock_of (sym (high_at bs l 4 refl))) i;
            };
        frame = record { stage = (s ∙ (λ j. stage_of (sym (high_at bs l 5 refl) j) (sym (high_at bs l 6 refl) j) (sym (high_at bs l 7 refl) j))) i };
        load = record { offsets = sym (high_at bs l 8 refl) i; bytes = (bytes ∙ sym (load_in bs l)) i; next = sym (high_at bs l 17 refl) i };
        cycle = record { target = (t ∙ (λ j. target_of (sym (high_at bs l 18 refl) j) (sym (high_at bs l 19 refl) j))) i; left = sym (high_at bs l 20 refl) i };
        events = e i;
      }

-- The array put, piece behind piece.
behind :
    (k : ℕ) {n : ℕ} (l m xs : List ℕ) {whole : List ℕ} → take k l ≡ whole → take (k + length xs) m ≡ take k l ++ xs → k + length xs ≡ n → take n m ≡ whole ++ xs
behind k l m xs e f h = ap (λ (j : ℕ). take j m) (sym h) ∙ f ∙ ap (λ (x : List ℕ). x ++ xs) e

pub state_put :
    (part : ℕ) (d : Device) (a b c e f g h : List ℕ) (counts frame cycle events : List ℕ) → Sized d → length h ≡ 142
    → take (1 + length d.regs) a ≡ (part ∷ []) ++ d.regs → take (33 + length d.sram) b ≡ take 33 a ++ d.sram
    → counts ≡ counts_bytes d.counters → take (97 + length counts) c ≡ take 97 b ++ counts
    → frame ≡ frame_bytes d → take (112 + length frame) e ≡ take 112 c ++ frame
    → take (121 + length d.load.bytes) f ≡ take 121 e ++ d.load.bytes
    → cycle ≡ tail_numbers d.load d.cycle → take (129 + length cycle) g ≡ take 129 f ++ cycle
    → events ≡ event_bytes d.events → take (133 + length events) h ≡ take 133 g ++ events
    → h ≡ state_of part d
unfolding state_of
state_put part d a b c e f g h counts frame cycle events s l r₁ r₂ p₃ r₃ p₄ r₄ r₅ p₆ r₆ p₇ r₇ =
    let w₁ : take 33 a ≡ (part ∷ []) ++ d.regs = behind 1 (part ∷ []) a d.regs refl r₁ (ap (λ (n : ℕ). 1 + n) s.regs) in
    let w₂ = behind 33 a b d.sram w₁ r₂ (ap (λ (n : ℕ). 33 + n) s.sram) in
    let w₃ = behind 97 b c counts w₂ r₃ (ap (λ (x : List ℕ). 97 + length x) p₃) in
    let w₄ = behind 112 c e frame w₃ r₄ (ap (λ (x : List ℕ). 112 + length x) p₄) in
    let w₅ = behind 121 e f d.load.bytes w₄ r₅ (ap (λ (n : ℕ). 121 + n) s.bytes) in
    let w₆ = behind 129 f g cycle w₅ r₆ (ap (λ (x : List ℕ). 129 + length x) p₆) in
    let w₇ = behind 133 g h events w₆ r₇ (ap (λ (x : List ℕ). 133 + length x) p₇) in
    sym (take_all 142 h (omega (arith, l))) ∙ w₇ ∙ joined d.regs d.sram counts frame d.load.bytes cycle events
    ∙ (λ i. part ∷ (d.regs ++ (d.sram ++ ((p₃ i ++ p₄ i) ++ (d.load.bytes ++ (p₆ i ++ p₇ i))))))
  where
    joined :
        (q r s t u v w : List ℕ) → ((((((((part ∷ []) ++ q) ++ r) ++ s) ++ t) ++ u) ++ v) ++ w) ≡ part ∷ (q ++ (r ++ ((s ++ t) ++ (u ++ (v ++ w)))))
    joined q r s t u v w = simp append_assoc refl

-- an array without a byte begins with none
pub no_part : (bs : List ℕ) → length bs ≡ 0 → 0 ≡ get_or bs 0 0
no_part bs h = sym (get_or-eq_default bs 0 {n = 0} (omega (arith, h)))
