-- What `resume` answers begins a tape, and what is read is fed behind it.
use Rattle.std.proofs.Common.{◌≡◌, length, refl, rules}
use Rattle.mcp795.proofs.ReadingLaws.{resumed_fed, runs_from}
use Rattle.mcp795.proofs.one_tape.run_tape.Goals as goal

pub invariant_of-running : goal.invariant_of-running
invariant_of-running c =
    let eeprom : length c.args.chip.eeprom ≡ 256 = search rules in
    let id : length c.args.chip.id ≡ 16 = search rules in
    record { fed = ∣ resumed_fed _ _ _ _ _ _ c.resume.ensures.value c.resume.ensures.typed refl eeprom id ∣₁ }

pub returns : goal.returns
returns c =
    let s = c.read_all-ran.new.self in
    runs_from _ _ _ _ _ _ c.resume.ensures.value c.resume.ensures.typed refl _ s.line _ _ c.read_all-ran.ensures
