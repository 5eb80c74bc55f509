-- Ticks in which only the counts of the event inputs move, taken at once. No rule of the chip stands here: that so many ticks of Tick
-- leave the same is proved in JumpLaws.
-- Assumes nothing.
use Rattle.std.specs.Prelude.{ℕ, zero, suc, ◌+◌, ◌-◌, min, Bool, leb}
use Rattle.base.specs.Words.{pick}
use Rattle.events.specs.declared.Inputs.{Inputs}
use Rattle.events.specs.Control.{window_ticks}
use Rattle.events.specs.Tick.{window_runs, debounce_runs, events_tick}

-- n ticks, all counted or none
unfoldable pub events_ticks : Bool → ℕ → Inputs → Inputs
events_ticks counted zero s = s
events_ticks counted (suc n) s = events_ticks counted n (events_tick counted s)

-- how many ticks ahead, at most limit: up to the window's last, and to the last but one of the debounce
abbrev pub window_quiet : Bool → ℕ → Inputs → ℕ
window_quiet counted limit s = pick (window_runs counted s) (min limit (window_ticks - s.events.since)) limit

abbrev pub debounce_quiet : Bool → ℕ → Inputs → ℕ
debounce_quiet counted limit s = pick (debounce_runs counted s) (min limit (s.events.debounce - 1)) limit

unfoldable pub events_quiet : Bool → ℕ → Inputs → ℕ
events_quiet counted limit s = debounce_quiet counted (window_quiet counted limit s) s

-- what they leave (more ticks than the window has left, which no such jump has, leave the count)
abbrev pub raised_since : ℕ → ℕ → ℕ
raised_since k since = pick (leb k (window_ticks - since)) (since + k) since

unfoldable pub events_jumped : Bool → ℕ → Inputs → Inputs
events_jumped counted k s =
    record {
      events =
          record {
            door = s.events.door;
            drum = s.events.drum;
            edges = s.events.edges;
            since = pick (window_runs counted s) (raised_since k s.events.since) s.events.since;
            debounce = pick (debounce_runs counted s) (s.events.debounce - k) s.events.debounce;
          };
      control = s.control;
    }
