-- Laws of a piece that is fed at once: the output has room for its answers, so the call takes all of it; and of pieces one behind another.
-- Assumes nothing.
use mathlib.Core.Path.{◌≡◌, refl, sym, ap, subst, ◌∙◌}
use mathlib.Core.Bool.{Bool, true, false}
use mathlib.Core.List.{List, [], ◌++◌, append-nil, append_assoc}
use mathlib.Core.Logic.{inl, ⊎_elim, ∥∥₁_map}
use Prim.Native.Nat.{ℕ, ◌*◌, ◌-◌, ◌≤◌}
use native.Mathlib.Omega.{arith}
use lib.ListN.{length, take}
use Rattle.base.proofs.Tests.{by_cases, no}
use Rattle.record.specs.declared.Device.{Device}
use Rattle.record.specs.Part.{size_of, id_size}
use Rattle.record.specs.World.{world}
use Rattle.text.specs.Buffer.{Buffer, buffer}
use Rattle.lines.specs.Print.{answer_room}
use Rattle.tape.specs.declared.Feed.{Feed}
use Rattle.tape.specs.declared.Tape.{Tape}
use Rattle.tape.specs.Tape.{empty_setup, fed, Loan, loan, start_tape, resumes, resumed_tape, Typed, Given, feed_into, given_by}
use Rattle.answers.specs.Answer.{Setup, setup}
use Rattle.feeding.specs.Begin.{HasFed, ResumesWith}
use Rattle.feeding.specs.Feeding.{Begins}
use Rattle.feeding.proofs.FeedLaws.{has_start, resumes_with, has_all, wrote_all_lem, has_ended}
use Rattle.mcp795.specs.Reading.{IsFed, PieceFed, FeedsAll, Ends, FeedsRead, FedOn, RunsFrom}

-- a tape and a count taken over from a call stand in what it gave
pub taken_over :
    (f : Feed) (t : Tape) (put : ℕ) (line ee id out : List ℕ) {g : Given} → (t ≡ f.tape) × (put ≡ f.at) → given_by f line ee id out ≡ g
    → (loan t line ee id ≡ g.after) × (buffer out put ≡ g.written)
taken_over f t put line ee id out p e = (
  ap (λ (x : Tape). loan x line ee id) p.0 ∙ ap (λ (x : Given). x.after) e,
  ap (buffer out) p.1 ∙ ap (λ (x : Given). x.written) e,
)

-- a call that puts its answers at the output's beginning
pub all_fed :
    (l l' : Loan) (chunk out out' : List ℕ) (put : ℕ) → answer_room * length chunk ≤ length out
    → (l' ≡ (feed_into l chunk (buffer out 0)).after) × (buffer out' put ≡ (feed_into l chunk (buffer out 0)).written) → FeedsAll l chunk l' out' put
all_fed l l' chunk out out' put r e s bytes h =
    let o = buffer out 0 in
    let m : answer_room * length chunk ≤ length out - 0 = omega arith in
    let w = (feed_into l chunk o).written in
    let n : w.at - 0 ≡ w.at = omega arith in
    record {
      behind = subst (λ (x : Loan). HasFed s x (bytes ++ chunk)) (sym e.0) (has_all s l bytes chunk o h m);
      answered =
          ap (λ (x : Buffer). take x.at x.bytes) e.1 ∙ ap (λ (k : ℕ). take k w.bytes) (sym n) ∙ wrote_all_lem s l bytes chunk o h m;
    }

-- a failure to read feeds nothing
none_fed : (s : Setup) (l : Loan) (bytes : List ℕ) → HasFed s l bytes → HasFed s l (bytes ++ [])
none_fed s l bytes h = subst (HasFed s l) (sym (append-nil bytes)) h

pub none_read : (l : Loan) (out input : List ℕ) → FeedsRead l out input l out 0 false
unfolding fed
none_read l out input s bytes h = inl (0, record { behind = none_fed s l bytes h; answered = refl })

-- a chunk that was fed whole is fed, what was read is, and so is the end
pub all_on : (l l' : Loan) (chunk out : List ℕ) (put : ℕ) → FeedsAll l chunk l' out put → FedOn l l'
all_on l l' chunk out put f s bytes h = (chunk, (f s bytes h).behind)

pub ends_on : (l l' : Loan) (out out' : List ℕ) (put : ℕ) → Ends l out l' out' put → FedOn l l'
ends_on l l' out out' put r s bytes h =
    let e = has_ended s l bytes (buffer out 0) h in
    (e.0, subst (λ (x : Loan). HasFed s x (bytes ++ e.0)) (sym r.0) e.1)

pub read_on_lem :
    (l l' : Loan) (out out' input : List ℕ) (put : ℕ) (more : Bool) → FeedsRead l out input l' out' put more → FedOn l l'
read_on_lem l l' out out' input put more f s bytes h =
    ⊎_elim (λ (r : (n : ℕ) × PieceFed s l bytes (take n input) l' out' put). (take r.0 input, r.1.behind))
    (λ (r : (more ≡ false) × Ends l out l' out' put). ends_on l l' out out' put r.1 s bytes h) (f s bytes h)

-- one thing behind another
pub on_none : (l : Loan) → FedOn l l
on_none l s bytes h = ([], none_fed s l bytes h)

pub on_more : (l l' l'' : Loan) → FedOn l l' → FedOn l' l'' → FedOn l l''
on_more l l' l'' f g s bytes h =
    let p = f s bytes h in
    let q = g s (bytes ++ p.0) p.1 in
    (p.0 ++ q.0, subst (HasFed s l'') (append_assoc bytes p.0 q.0) q.1)

-- a read behind others
pub read_behind :
    (l l' l'' : Loan) (out out' input : List ℕ) (put : ℕ) (more : Bool) → FedOn l l' → FeedsRead l' out input l'' out' put more → FedOn l l''
read_behind l l' l'' out out' input put more f r = on_more l l' l'' f (read_on_lem l' l'' out out' input put more r)

pub on_fed : (l l' : Loan) → IsFed l → FedOn l l' → IsFed l'
on_fed l l' i f =
    let p = f i.0 i.1.0 i.1.1 in
    (i.0, (i.1.0 ++ p.0, p.1))

-- the same where it is only known that some bytes lead there
pub fed_on : (l l' : Loan) → ∥ IsFed l ∥₁ → FedOn l l' → ∥ IsFed l' ∥₁
fed_on l l' i f = ∥∥₁_map i (λ (e : IsFed l). on_fed l l' e f)

-- what a tape begins with that `start` answered, and that `resume` did
start_fed : (l : Loan) → Begins l → IsFed l
start_fed l b = (empty_setup, ([], has_start l b))

module _
    (part : ℕ) (d : Device) (t : Tape) (line ee id : List ℕ) (e : t ≡ resumed_tape part d (length ee) (length id)) (y : Typed d ee id)
    (n : length line ≡ 65)
  where
    begins_chip :
        resumes part d (length ee) (length id) ≡ true
        → HasFed (setup part (world d (take (size_of part) ee) (take id_size id))) (loan t line ee id) []
    unfolding ResumesWith
    begins_chip r =
        subst (λ (x : Tape). HasFed (setup part (world d (take (size_of part) ee) (take id_size id))) (loan x line ee id) []) (sym e)
        (resumes_with part d line ee id y n r)

    pub resumed_fed : length ee ≡ 256 → length id ≡ 16 → IsFed (loan t line ee id)
    resumed_fed a b =
        by_cases (resumes part d (length ee) (length id))
        (λ r. (setup part (world d (take (size_of part) ee) (take id_size id)), ([], begins_chip r)))
        (λ r. start_fed (loan t line ee id) (record { tape = e ∙ sym (no _ start_tape r); line = n; eeprom = a; id = b }))

    pub runs_from :
        (t' : Tape) (line' ee' id' : List ℕ) → FedOn (loan t line ee id) (loan t' line' ee' id') → RunsFrom part d ee id t' ee' id'
    runs_from t' line' ee' id' f r =
        let p = f (setup part (world d (take (size_of part) ee) (take id_size id))) [] (begins_chip r) in
        (line', (p.0, p.1))
