-- From a record that has counted something, the events' claim: its counts are moves that stand behind the run's.
-- Assumes nothing.
use mathlib.Core.Path.{refl, ap, ◌∙◌}
use mathlib.Core.List.{List, ◌++◌}
use Rattle.events.specs.declared.Inputs.{Inputs}
use Rattle.events.specs.Control.{evhif, evlif, number_of, debounce_of}
use Rattle.events.specs.Story.{Move, Window, Steady, HighReady, LowReady}
use Rattle.events.specs.Beginning.{begun, high_back, low_back, HighOn, LowOn}
use Rattle.events.proofs.MoveLaws.{high_before, low_before}
use Rattle.events.proofs.BeginLaws.{high_led_lem, low_led_lem, high_kept, low_kept, high_exact_from, low_exact_from}
use Rattle.signals.proofs.StretchLaws.{Exact, exact_none, high_window, low_steady}

-- V15. EVHS
pub high_loaded : (s : Inputs) → HighOn s → Exact evhif s (λ (ms : List Move). Window 0 (number_of s.control) (ms ++ high_back s))
high_loaded s h =
    let b : Inputs = begun s.control in
    let ready : HighReady b = record { byte = h.byte; enabled = h.enabled; event = h.event; clear = h.clear; edges = refl; since = refl } in
    record {
      none =
          λ f v.
          exact_none evhif b (λ m past w g. high_before b m past w h.byte g) (Window 0 (number_of s.control)) (high_window b ready) (high_back s) (high_kept s)
          (ap (λ (t : Inputs). evhif t.control) (high_led_lem s h) ∙ f) v;
      next = λ m past w f. high_exact_from s m past h w f;
    }

-- V16. EVLS
pub low_loaded : (s : Inputs) → LowOn s → Exact evlif s (λ (ms : List Move). Steady 0 (debounce_of s.control) (ms ++ low_back s))
low_loaded s h =
    let b : Inputs = begun s.control in
    let ready : LowReady b = record { byte = h.byte; enabled = h.enabled; clear = h.clear; debounce = refl } in
    record {
      none =
          λ f v.
          exact_none evlif b (λ m past w g. low_before b m past w h.byte g) (Steady 0 (debounce_of s.control)) (low_steady b ready) (low_back s) (low_kept s)
          (ap (λ (t : Inputs). evlif t.control) (low_led_lem s h) ∙ f) v;
      next = λ m past w f. low_exact_from s m past h w f;
    }
