-- `numbers::chip::numbers_of`: one piece after the other (`numbers_joined`).
-- Assumes nothing.
use mathlib.Core.Path.{◌≡◌, sym, ap, subst, ◌∙◌}
use mathlib.Core.List.{List, [], ◌∷◌, ◌++◌}
use Prim.Native.Nat.{ℕ, ◌+◌, ◌≤◌}
use lib.ListN.{length}
use Rattle.text.specs.Buffer.{buffer, append}
use Rattle.text.proofs.BufferLaws.{put_then, room_then, room_before}
use native.Mathlib.Nat.{zero-add}
use Rattle.form.specs.Chip.{record_numbers, event_numbers}
use Rattle.numbers.proofs.ChipLaws.{numbers_joined}
use Rattle.numbers.proofs.chip.numbers_of.Goals as goal

room : {n : ℕ} {s t : List ℕ} → s ≡ t → length s ≤ n → 0 + length t ≤ n
room {n} {s} {t} e h = subst (λ (k : ℕ). k ≤ n) (ap length e ∙ sym (zero-add (length t))) h

pub put_one-begun-requires : goal.put_one-begun-requires
put_one-begun-requires c =
    let a = c.args in
    let p : List ℕ = a.part ∷ [] in
    let r = record_numbers a.d in
    let m = (a.eeprom.now ++ a.id.now) ++ event_numbers a.d.events in
    room_before 0 p r (room_before 0 (p ++ r) m (room (sym (numbers_joined a.part a.d a.eeprom.now a.id.now)) c.requires))

pub put_record-next-requires : goal.put_record-next-requires
put_record-next-requires c =
    let a = c.args in
    let o = buffer a.into.now 0 in
    let p : List ℕ = a.part ∷ [] in
    let r = record_numbers a.d in
    let m = (a.eeprom.now ++ a.id.now) ++ event_numbers a.d.events in
    room_then o p r c.put_one-begun.ensures (room_before 0 (p ++ r) m (room (sym (numbers_joined a.part a.d a.eeprom.now a.id.now)) c.requires))

pub put_rest-requires : goal.put_rest-requires
put_rest-requires c =
    let a = c.args in
    let o = buffer a.into.now 0 in
    let p : List ℕ = a.part ∷ [] in
    let r = record_numbers a.d in
    let m = (a.eeprom.now ++ a.id.now) ++ event_numbers a.d.events in
    room_then o (p ++ r) m (put_then o p r c.put_one-begun.ensures c.put_record-next.ensures.result_after)
    (room (sym (numbers_joined a.part a.d a.eeprom.now a.id.now)) c.requires)

pub returns : goal.returns
returns c =
    let a = c.args in
    let o = buffer a.into.now 0 in
    let p : List ℕ = a.part ∷ [] in
    let r = record_numbers a.d in
    let m = (a.eeprom.now ++ a.id.now) ++ event_numbers a.d.events in
    record {
      result_after = put_then o (p ++ r) m (put_then o p r c.put_one-begun.ensures c.put_record-next.ensures.result_after) c.put_rest.ensures ∙ ap (append o) (numbers_joined a.part a.d a.eeprom.now a.id.now);
      stage_bound = c.put_record-next.ensures.stage_bound;
    }
