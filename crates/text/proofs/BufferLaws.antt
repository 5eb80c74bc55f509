-- Laws of a buffer that texts are put into: one after the other they are their join; the room that is left; and a loop that puts a text byte by
-- byte.
-- Assumes nothing.
use mathlib.Core.Path.{◌≡◌, sym, ap, ◌∙◌}
use mathlib.Core.List.{List, [], ◌∷◌, ◌++◌}
use Prim.Native.Nat.{ℕ, suc, ◌+◌, ◌-◌, ◌<◌, ◌≤◌}
use native.Mathlib.Nat.{add-zero, add-suc, suc-add, add_assoc}
use native.Mathlib.Numerals.{add-one}
use native.Mathlib.Omega.{arith}
use lib.ListN.{length, get_or, drop, take, set, length-append}
use lib.Seq.{take-suc, take-length, length-take-le, sets, length-sets}
use borrow.Rule.Slice.PartMut.{put_mid}
use Rattle.std.proofs.lemmas.List.{append_assoc, drop-drop}
use Rattle.std.proofs.lemmas.List.Edits.{sets-eq}
use Rattle.text.specs.Buffer.{BufferOf, Buffer, buffer, append, room_in}

-- a text put in two pieces
sets_append : {A : Type 0} (l : List A) (i : ℕ) (s t : List A) → sets l i (s ++ t) ≡ sets (sets l i s) (i + length s) t
sets_append l i [] t = ap (λ (k : ℕ). sets l k t) (sym (add-zero i))
sets_append l i (b ∷ s) t =
    sets_append (set l i b) (suc i) s t
    ∙ ap (λ (k : ℕ). sets (sets (set l i b) (suc i) s) k t) (suc-add i (length s) ∙ sym (add-suc i (length s)))

pub append_join : {A : Type 0} (o : BufferOf A) (s t : List A) → append (append o s) t ≡ append o (s ++ t)
unfolding append
append_join o s t =
    let b = sym (sets_append o.bytes o.at s t) in
    let e = add_assoc o.at (length s) (length t) ∙ ap (λ (n : ℕ). o.at + n) (sym (length-append s t)) in
    λ i. buffer (b i) (e i)

pub append_none : {A : Type 0} (o : BufferOf A) → append o [] ≡ o
unfolding append
append_none o = ap (buffer o.bytes) (add-zero o.at)

-- the place after a text; one text after another, and the room that the second needs
pub put_place : {A : Type 0} (o : BufferOf A) {p : BufferOf A} (s : List A) → p ≡ append o s → p.at ≡ o.at + length s
unfolding append
put_place {A} o s e = ap (λ (x : BufferOf A). x.at) e

pub put_then : {A : Type 0} (o : BufferOf A) {p q : BufferOf A} (s t : List A) → p ≡ append o s → q ≡ append p t → q ≡ append o (s ++ t)
put_then {A} o s t d e = e ∙ ap (λ (x : BufferOf A). append x t) d ∙ append_join o s t

pub room_then :
    {A : Type 0} (o : BufferOf A) {p : BufferOf A} (s t : List A) → p ≡ append o s → o.at + length (s ++ t) ≤ length o.bytes → p.at + length t ≤ length p.bytes
unfolding append
room_then {A} o s t e h =
    omega (arith, ap (λ (x : BufferOf A). x.at) e, ap (λ (x : BufferOf A). length x.bytes) e, length-sets o.bytes o.at s, length-append s t)

pub room_before : {A : Type 0} {n : ℕ} (i : ℕ) (s t : List A) → i + length (s ++ t) ≤ n → i + length s ≤ n
room_before i s t h = omega (arith, length-append s t)

pub room_append : (o : Buffer) (t : List ℕ) → room_in (append o t) ≡ room_in o - length t
unfolding append
room_append o t = rw (length-sets o.bytes o.at t) (omega arith)

-- a loop that puts elements one by one
pub sets_more :
    (l : List ℕ) (at : ℕ) (s : List ℕ) (i : ℕ) → i < length s
    → set (sets l at (take i s)) (at + i) (get_or s i 0) ≡ sets l at (take (i + 1) s)
sets_more l at s i h =
    let k : length (take i s) ≡ i = length-take-le i s (omega arith) in
    ap (λ (n : ℕ). set (sets l at (take i s)) (at + n) (get_or s i 0)) (sym k)
    ∙ sym (sets_append l at (take i s) (get_or s i 0 ∷ []))
    ∙ ap (sets l at) (sym (take-suc s i 0 h))
    ∙ ap (λ (n : ℕ). sets l at (take n s)) (sym (add-one i))

pub append_all :
    (l m : List ℕ) (at : ℕ) (s : List ℕ) (i : ℕ) → i ≡ length s → m ≡ sets l at (take i s) → buffer m (at + i) ≡ append (buffer l at) s
unfolding append
append_all l m at s i n e = rw (e, n, take-length s)

-- a text between two places
pub put_between :
    {A : Type 0} (at : ℕ) (m l s : List A) → m ≡ s → at + length s ≤ length l
    → buffer (put_mid at (at + length s - at) l m) (at + length s) ≡ append (buffer l at) s
unfolding append
put_between at m l s e h =
    let k : at + length s - at ≡ length s = omega arith in
    let d : put_mid at (at + length s - at) l m ≡ sets l at s = rw (k, e, sets-eq s l at h, drop-drop) (sym (append_assoc (take at l) s (drop (at + length s) l))) in
    ap (λ x. buffer x (at + length s)) d
