-- Laws of a text at a buffer's start, of a head with a piece behind it, and of a piece in what is left of a chunk.
-- Assumes nothing.
use mathlib.Core.Path.{◌≡◌, sym, ap, ◌∙◌}
use mathlib.Core.Logic.{◌⊎◌, inl, inr, ⊎_elim}
use mathlib.Core.Bool.{true, false, ◌||◌}
use mathlib.Core.List.{List, ◌++◌}
use Prim.Native.Nat.{ℕ, ◌+◌, ◌<◌, ◌≤◌}
use native.Mathlib.Nat.{zero-add}
use native.Mathlib.Omega.{arith}
use borrow.Author.Tests.{ltb-true, ltb-false, eqb-true, eqb-false}
use lib.Dec.{ltb, eqb}
use lib.ListN.{length, take, drop, length-drop}
use lib.Seq.{take_at, sets-eq}
use Rattle.base.specs.Words.{over}
use Rattle.base.proofs.OverLaws.{take_over}
use Rattle.base.proofs.Tests.{either, neither_left, neither_right}
use Rattle.text.specs.Bytes.{leading, plain}
use Rattle.text.specs.Buffer.{Buffer, buffer, append}
use Rattle.text.proofs.BytesLaws.{leading_within}
use Rattle.lines.specs.Print.{answer_room}
use Rattle.tape.specs.Tape.{head}

-- a text put at the start of a buffer
pub put_first : (w w' f : List ℕ) (k : ℕ) → buffer w' k ≡ append (buffer w 0) f → length f ≤ length w → (k ≡ length f) × (take k w' ≡ f)
unfolding append
put_first w w' f k e h =
    let q : k ≡ length f = ap (λ (o : Buffer). o.at) e ∙ zero-add (length f) in
    (q, ap (take k) (ap (λ (o : Buffer). o.bytes) e ∙ sets-eq f w 0 (omega arith)) ∙ take_at f (drop (0 + length f) w) k (sym q))

-- a head and a piece that were put together in a line of their own, and read again
pub head_whole :
    (w w' f p : List ℕ) (k n : ℕ) → take k w ≡ f → n ≡ length (head (take k w ++ p)) → w' ≡ over (head (take k w ++ p)) w → take n w' ≡ head (f ++ p)
head_whole w w' f p k n e a b =
    ap (take n) b ∙ take_over (head (take k w ++ p)) w n (sym a) ∙ ap (λ (x : List ℕ). head (x ++ p)) e

-- what the test of a turn says
pub stops :
    (n l room free : ℕ) → room ≡ free → (eqb n l || ltb room answer_room) ≡ true → (n ≡ l) ⊎ (free < answer_room)
stops n l room free q e =
    ⊎_elim (λ (k : eqb n l ≡ true). inl (eqb-true n l k))
    (λ (k : ltb room answer_room ≡ true). let h : room < answer_room = ltb-true room answer_room k in inr (omega arith))
    (either (eqb n l) (ltb room answer_room) e)

pub goes :
    (n l room free : ℕ) → n ≤ l → room ≡ free → (eqb n l || ltb room answer_room) ≡ false → (n < l) × (answer_room ≤ free)
goes n l room free h q e =
    let d : n ≡ l → ⊥ = eqb-false n l (neither_left (eqb n l) (ltb room answer_room) e) in
    let r : answer_room ≤ room = ltb-false room answer_room (neither_right (eqb n l) (ltb room answer_room) e) in
    (omega arith, omega arith)

-- the piece lies in what is left, and that in the chunk
pub record Piece (chunk left : List ℕ) (from n : ℕ) : Type 0 where
  pub size : n ≤ length left
  pub rest : from + length left ≡ length chunk

pub piece_in : (chunk left : List ℕ) (from n : ℕ) → left ≡ drop from chunk → n ≡ leading plain left → from ≤ length chunk → Piece chunk left from n
piece_in chunk left from n e m h =
    let d = ap length e ∙ length-drop from chunk in
    record { size = omega (arith, m, leading_within plain left); rest = omega (arith, h, d) }

-- a turn goes on where the piece ends before what is left does, and the answer has room; the place after the line's end lies in the chunk
pub record Next (from n left most room : ℕ) : Type 0 where
  pub less : n < left
  pub free : answer_room ≤ room
  pub inside : from + n < most

pub next_in :
    (chunk left : List ℕ) (from n room free : ℕ) → left ≡ drop from chunk → n ≡ leading plain left → from ≤ length chunk → room ≡ free
    → (eqb n (length left) || ltb room answer_room) ≡ false → Next from n (length left) (length chunk) free
next_in chunk left from n room free e m h q s =
    let d = piece_in chunk left from n e m h in
    let g = goes n (length left) room free d.size q s in
    record { less = g.0; free = g.1; inside = omega (arith, g.0, d.rest) }
