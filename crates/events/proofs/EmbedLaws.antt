-- What a record that embeds the inputs needs: range goes by the settings of 0Bh alone, which no level and no tick changes.
-- Assumes nothing.
use Prim.Native.Nat.{ℕ, ◌<◌, ◌≤◌}
use native.Mathlib.Omega.{arith}
use mathlib.Core.Path.{refl, ◌∙◌}
use mathlib.Core.Bool.{Bool}
use Rattle.events.specs.declared.Events.{Events}
use Rattle.events.specs.declared.Inputs.{Inputs}
use Rattle.events.specs.Rows.{EventsIn}
use Rattle.events.specs.Pins.{no_counts, drum_set, door_set, control_written}
use Rattle.events.specs.Tick.{events_tick}
use Rattle.events.specs.Story.{Drum, Door, Tick}
use Rattle.events.proofs.ControlLaws.{Settings}
use Rattle.events.proofs.RangeLaws.{InputsIn, drum_in_lem, door_in_lem, tick_in, write_in}
use Rattle.events.proofs.MoveLaws.{leaves}

pub settings_in : {v w : ℕ} {e : Events} → Settings v w → EventsIn w e → EventsIn v e
settings_in k r =
    record {
      door = r.door;
      drum = r.drum;
      edges = omega (arith, k.number, r.edges);
      since = r.since;
      none = r.none;
      debounce = omega (arith, k.debounce, r.debounce);
      low = r.low;
      high_off_lem = λ o. r.high_off_lem (k.high ∙ o);
      low_off_lem = λ o. r.low_off_lem (k.low ∙ o);
    }

-- what embeds the inputs: a byte, in range beside it and beside the byte that it replaces
pub record Embeds (v : ℕ) (s : Inputs) : Type 0 where
  pub byte : s.control < 256
  pub new : EventsIn s.control s.events
  pub old : EventsIn v s.events

embeds : {v : ℕ} {s : Inputs} → Settings v s.control → InputsIn s → Embeds v s
embeds k r = record { byte = k.byte; new = r; old = settings_in k r }

module _ (s : Inputs) (b : s.control < 256) (r : InputsIn s) where
  pub tick_embeds : (counted : Bool) → Embeds s.control (events_tick counted s)
  tick_embeds counted = embeds (leaves (Tick counted) s refl b).settings (tick_in counted s b r)

  pub drum_embeds : (counted : Bool) (level : ℕ) → level ≤ 1 → Embeds s.control (drum_set counted level s)
  drum_embeds counted level l = embeds (leaves (Drum counted level) s refl b).settings (drum_in_lem counted level s l b r)

  pub door_embeds : (counted : Bool) (level : ℕ) → level ≤ 1 → Embeds s.control (door_set counted level s)
  door_embeds counted level l = embeds (leaves (Door counted level) s refl b).settings (door_in_lem counted level s l r)

-- with no count the levels decide, whatever the byte
pub counts_none : (v : ℕ) (e : Events) → e.door ≤ 1 → e.drum ≤ 1 → EventsIn v (no_counts e)
unfolding control_written
counts_none v e d r = write_in v (record { events = e; control = v }) d r
