-- Laws of a wait over any state: none, stop, go, and the principle that they give; where it stops; a wait split in two; a loop that counts
-- the steps left down. No other proof unfolds `waited_by`.
-- Assumes nothing.
use mathlib.Core.Path.{◌≡◌, refl, sym, ap, ◌∙◌}
use mathlib.Core.Bool.{Bool, true, false}
use mathlib.Core.Logic.{◌⊎◌, inl, inr, ⊎_elim}
use Prim.Native.Nat.{ℕ, zero, suc, ◌+◌, ◌-◌, ◌<◌, ◌≤◌}
use native.Mathlib.Numerals.{add-one}
use native.Mathlib.Omega.{arith}
use borrow.Author.Tests.{ltb-true, ltb-false}
use lib.Dec.{ltb}
use Rattle.base.specs.Wait.{Waited, plus, waited_by, steps, stops_at}
use Rattle.base.proofs.Tests.{by_cases}

-- Steps with no stop.
module _ {S : Type 0} (step : S → S) where
  pub steps_none : (s : S) → steps step 0 s ≡ s
  unfolding steps
  steps_none s = refl

  pub steps_more : (n : ℕ) (s : S) → steps step (n + 1) s ≡ steps step n (step s)
  unfolding steps
  steps_more n s = rw add-one

-- Where a wait stops: the state is the one after the steps used; the test held after no step before the last; all n were used, or it
-- held after the last.
pub record Stops {S : Type 0} (step : S → S) (stops : S → S → Bool) (n : ℕ) (s : S) (r : Waited S) : Type 0 where
  pub after : r.after ≡ steps step r.used s
  pub within : r.used ≤ n
  pub earlier : (k : ℕ) → k + 1 < r.used → stops_at step stops k s ≡ false
  pub last : (r.used ≡ n) ⊎ ((k : ℕ) × (r.used ≡ k + 1) × (stops_at step stops k s ≡ true))

module _ {S : Type 0} (step : S → S) (stops : S → S → Bool) where
  pub wait_none : (s : S) → waited_by step stops 0 s ≡ record { used = 0; after = s }
  unfolding waited_by
  wait_none s = refl

  pub wait_stop : (n : ℕ) (s : S) → stops s (step s) ≡ true → waited_by step stops (n + 1) s ≡ record { used = 1; after = step s }
  unfolding waited_by
  wait_stop n s e = rw (add-one, e)

  pub wait_go : (n : ℕ) (s : S) → stops s (step s) ≡ false → waited_by step stops (n + 1) s ≡ plus 1 (waited_by step stops n (step s))
  unfolding waited_by
  wait_go n s e = rw (add-one, e)

  -- what holds of a wait of none, of one that stops at its first step, and of one that goes on from a wait of which it holds, holds of each
  pub wait_each :
      (P : ℕ → S → Waited S → Type 0)
      → ((s : S) → P 0 s (record { used = 0; after = s }))
      → ((n : ℕ) (s : S) → stops s (step s) ≡ true → P (n + 1) s (record { used = 1; after = step s }))
      → ((n : ℕ) (s : S) (r : Waited S) → stops s (step s) ≡ false → P n (step s) r → P (n + 1) s (plus 1 r))
      → (n : ℕ) (s : S) → P n s (waited_by step stops n s)
  wait_each P p q g zero s = rw (wait_none s) (p s)
  wait_each P p q g (suc n) s =
      rw (← (add-one n))
      (by_cases (stops s (step s))
      (λ e. rw (wait_stop n s e) (q n s e))
      (λ e. rw (wait_go n s e) (g n s (waited_by step stops n (step s)) e (wait_each P p q g n (step s)))))

  -- the first step, and the steps after it
  stops_first : (s : S) → stops_at step stops 0 s ≡ stops s (step s)
  unfolding steps
  stops_first s = refl

  stops_next : (k : ℕ) (s : S) → stops_at step stops (k + 1) s ≡ stops_at step stops k (step s)
  stops_next k s =
      ap (λ (t : S). stops t (steps step (k + 1 + 1) s)) (steps_more step k s)
      ∙ ap (λ (t : S). stops (steps step k (step s)) t) (steps_more step (k + 1) s)

  stops_after :
      (s : S) → stops s (step s) ≡ false → (m : ℕ) → ((k : ℕ) → k + 1 < m → stops_at step stops k (step s) ≡ false)
      → (k : ℕ) → k + 1 < 1 + m → stops_at step stops k s ≡ false
  stops_after s c m p zero h = stops_first s ∙ c
  stops_after s c m p (suc k) h = rw (← (add-one k)) (stops_next k s ∙ p k (omega arith))

  -- where each wait stops
  pub wait_stops : (n : ℕ) (s : S) → Stops step stops n s (waited_by step stops n s)
  wait_stops =
      wait_each (Stops step stops)
      (λ s. record { after = sym (steps_none step s); within = omega arith; earlier = λ k h. absurd (omega arith); last = inl refl })
      (λ n s c.
      record {
        after = sym (steps_more step 0 s ∙ steps_none step (step s));
        within = omega arith;
        earlier = λ k h. absurd (omega arith);
        last = inr (0, refl, stops_first s ∙ c);
      })
      (λ n s r c t.
      record {
        after = t.after ∙ sym (steps_more step r.used s) ∙ ap (λ (k : ℕ). steps step k s) (omega arith);
        within = omega (arith, t.within);
        earlier = stops_after s c r.used t.earlier;
        last = ⊎_elim (λ e. inl (omega arith)) (λ l. inr (l.0 + 1, omega (arith, l.1), stops_next l.0 s ∙ l.2)) t.last;
      })

  -- A wait whose first k steps do not stop is those k, and the wait of the rest from there.
  pub wait_calm :
      (k m : ℕ) (s : S) → ((j : ℕ) → j < k → stops_at step stops j s ≡ false)
      → waited_by step stops (k + m) s ≡ plus k (waited_by step stops m (steps step k s))
  wait_calm zero m s c =
      let r : Waited S = waited_by step stops m s in
      let e : zero + m ≡ m = omega arith in
      ap (λ (k : ℕ). waited_by step stops k s) e ∙ ap (λ (k : ℕ). record { used = k; after = r.after }) (omega arith)
      ∙ ap (λ (t : S). plus 0 (waited_by step stops m t)) (sym (steps_none step s))
  wait_calm (suc k) m s c =
      let r : Waited S = waited_by step stops m (steps step k (step s)) in
      let e : suc k + m ≡ k + m + 1 = omega arith in
      ap (λ (j : ℕ). waited_by step stops j s) e ∙ wait_go (k + m) s (sym (stops_first s) ∙ c 0 (omega arith))
      ∙ ap (plus 1) (wait_calm k m (step s) (λ j h. sym (stops_next j s) ∙ c (j + 1) (omega arith)))
      ∙ ap (λ (j : ℕ). record { used = j; after = r.after }) (omega arith)
      ∙ ap (λ (t : S). plus (suc k) (waited_by step stops m t)) (sym (steps_more step k s) ∙ ap (λ (j : ℕ). steps step j s) (add-one k))

  -- A wait split in two: the first ran its whole length and the test did not hold after its last step; then the two are the one.
  pub wait_split :
      (k m : ℕ) (s : S) → (waited_by step stops k s).used ≡ k → ((j : ℕ) → k ≡ j + 1 → stops_at step stops j s ≡ false)
      → waited_by step stops (k + m) s ≡ plus k (waited_by step stops m (waited_by step stops k s).after)
  wait_split k m s u l =
      let t : Stops step stops k s (waited_by step stops k s) = wait_stops k s in
      wait_calm k m s (λ j h. by_cases (ltb (j + 1) k) (λ b. t.earlier j (omega (arith, ltb-true (j + 1) k b))) (λ b. l j (omega (arith, ltb-false (j + 1) k b))))
      ∙ ap (λ (v : S). plus k (waited_by step stops m v)) (sym (t.after ∙ ap (λ (j : ℕ). steps step j s) u))

-- A jump: k steps at once, where a condition on the k steps ahead holds. Of a jump of one step is shown that it is the step, that the test does
-- not hold after it, and that the condition holds of the steps left; jumps join.
pub record Jumps {S : Type 0} (step : S → S) (stops : S → S → Bool) (Q : ℕ → S → Type 0) (jump : ℕ → S → S) : Type 0 where
  pub none : (s : S) → jump 0 s ≡ s
  pub one : (k : ℕ) (s : S) → Q (suc k) s → step s ≡ jump 1 s
  pub calm : (k : ℕ) (s : S) → Q (suc k) s → stops s (jump 1 s) ≡ false
  pub less : (k : ℕ) (s : S) → Q (suc k) s → Q k (jump 1 s)
  pub more : (k : ℕ) (s : S) → Q (suc k) s → jump k (jump 1 s) ≡ jump (suc k) s

-- a wait passes over them
pub wait_jump :
    {S : Type 0} (step : S → S) (stops : S → S → Bool) (Q : ℕ → S → Type 0) (jump : ℕ → S → S) → Jumps step stops Q jump → (k m : ℕ) (s : S) → Q k s
    → waited_by step stops (m + k) s ≡ plus k (waited_by step stops m (jump k s))
wait_jump {S} step stops Q jump j zero m s q =
    let n : m + 0 ≡ m = omega arith in
    let r : Waited S = waited_by step stops m s in
    ap (λ (i : ℕ). waited_by step stops i s) n ∙ ap (λ (i : ℕ). record { used = i; after = r.after }) (omega arith)
    ∙ ap (λ (t : S). plus 0 (waited_by step stops m t)) (sym (j.none s))
wait_jump {S} step stops Q jump j (suc k) m s q =
    let n : m + suc k ≡ m + k + 1 = omega arith in
    let t : step s ≡ jump 1 s = j.one k s q in
    let r : Waited S = waited_by step stops m (jump k (jump 1 s)) in
    ap (λ (i : ℕ). waited_by step stops i s) n ∙ wait_go step stops (m + k) s (ap (stops s) t ∙ j.calm k s q)
    ∙ ap (plus 1) (ap (waited_by step stops (m + k)) t ∙ wait_jump step stops Q jump j k m (jump 1 s) (j.less k s q))
    ∙ ap (λ (i : ℕ). record { used = i; after = r.after }) (omega arith)
    ∙ ap (λ (u : S). plus (suc k) (waited_by step stops m u)) (j.more k s q)

-- A view of the state that goes with the steps and the test goes with the wait.
pub wait_map :
    {S T : Type 0} (f : S → T) (step : S → S) (stops : S → S → Bool) (step' : T → T) (stops' : T → T → Bool)
    → ((s : S) → f (step s) ≡ step' (f s)) → ((s t : S) → stops s t ≡ stops' (f s) (f t)) → (n : ℕ) (s : S)
    → waited_by step' stops' n (f s) ≡ record { used = (waited_by step stops n s).used; after = f (waited_by step stops n s).after }
wait_map {S} {T} f step stops step' stops' p q =
    wait_each step stops (λ n s r. waited_by step' stops' n (f s) ≡ record { used = r.used; after = f r.after })
    (λ s. wait_none step' stops' (f s))
    (λ n s c.
    wait_stop step' stops' n (f s) (ap (stops' (f s)) (sym (p s)) ∙ sym (q s (step s)) ∙ c) ∙ ap (λ (t : T). record { used = 1; after = t }) (sym (p s)))
    (λ n s r c e.
    wait_go step' stops' n (f s) (ap (stops' (f s)) (sym (p s)) ∙ sym (q s (step s)) ∙ c)
    ∙ ap (plus 1) (ap (waited_by step' stops' n) (sym (p s)) ∙ e))

-- A loop that counts the steps left down: the wait from the start is the steps passed and the wait from here.
abbrev pub WaitFrom : {S : Type 0} → (S → S) → (S → S → Bool) → ℕ → S → ℕ → S → Type 0
WaitFrom step stops n first left s = waited_by step stops n first ≡ plus (n - left) (waited_by step stops left s)

module _ {S : Type 0} (step : S → S) (stops : S → S → Bool) (n : ℕ) (first : S) where
  pub loop_starts : WaitFrom step stops n first n first
  loop_starts =
      let r : Waited S = waited_by step stops n first in
      ap (λ (k : ℕ). record { used = k; after = r.after }) (omega arith)

  -- one step more on the way
  turn : (left : ℕ) (s : S) (r : Waited S) → 0 < left → waited_by step stops (left - 1 + 1) s ≡ r → WaitFrom step stops n first left s → waited_by step stops n first ≡ plus (n - left) r
  turn left s r h e p =
      let m : left ≡ left - 1 + 1 = omega arith in
      p ∙ ap (plus (n - left)) (ap (λ (k : ℕ). waited_by step stops k s) m ∙ e)

  pub loop_goes :
      (left : ℕ) (s : S) → 0 < left → left ≤ n → stops s (step s) ≡ false → WaitFrom step stops n first left s
      → WaitFrom step stops n first (left - 1) (step s)
  loop_goes left s h l c p =
      let rest : Waited S = waited_by step stops (left - 1) (step s) in
      turn left s (plus 1 rest) h (wait_go step stops (left - 1) s c) p ∙ ap (λ (k : ℕ). record { used = k; after = rest.after }) (omega arith)

  pub loop_stops :
      (left : ℕ) (s : S) → 0 < left → left ≤ n → stops s (step s) ≡ true → WaitFrom step stops n first left s
      → waited_by step stops n first ≡ record { used = n - (left - 1); after = step s }
  loop_stops left s h l c p =
      turn left s (record { used = 1; after = step s }) h (wait_stop step stops (left - 1) s c) p
      ∙ ap (λ (k : ℕ). record { used = k; after = step s }) (omega arith)

  pub loop_ends :
      (left : ℕ) (s : S) → left ≤ 0 → WaitFrom step stops n first left s → waited_by step stops n first ≡ record { used = n; after = s }
  loop_ends left s h p =
      let z : left ≡ 0 = omega arith in
      p ∙ ap (λ (k : ℕ). plus (n - k) (waited_by step stops k s)) z ∙ ap (plus (n - 0)) (wait_none step stops s)
      ∙ ap (λ (k : ℕ). record { used = k; after = s }) (omega arith)

  -- and may pass over k steps where the wait does
  pub loop_jumps :
      (left : ℕ) (s t : S) (k : ℕ) → k ≤ left → left ≤ n → waited_by step stops (left - k + k) s ≡ plus k (waited_by step stops (left - k) t)
      → WaitFrom step stops n first left s → WaitFrom step stops n first (left - k) t
  loop_jumps left s t k h l e p =
      let m : left ≡ left - k + k = omega arith in
      let rest : Waited S = waited_by step stops (left - k) t in
      p ∙ ap (plus (n - left)) (ap (λ (j : ℕ). waited_by step stops j s) m ∙ e) ∙ ap (λ (j : ℕ). record { used = j; after = rest.after }) (omega arith)
