-- The search for the lowest place at which a test is wrong: what it tells, what it is told by, and the run that makes it.
-- Assumes nothing.
use Rattle.std.specs.Prelude.{Some, None}
use mathlib.Core.Path.{◌≡◌, ap}
use mathlib.Core.Bool.{Bool, true, false, not}
use mathlib.Core.Logic.{◌⊎◌, ⊎_elim}
use mathlib.Core.Option.{none, some}
use Prim.Native.Nat.{ℕ, ◌+◌, ◌-◌, ◌≤◌, ◌<◌}
use native.Mathlib.Nat.{eq-or-lt_of_le}
use native.Mathlib.Omega.{arith}
use Rattle.ground.proofs.Searches.{Lowest, Nowhere, hit_from, miss_from, is_hit_from, is_miss_from}
use Rattle.read_test21_26.specs.Inside.Holds.{wrong_in, lowest_of}

module _ (holds : ℕ → Bool) where
  abbrev pub wrong : ℕ → Bool
  wrong k = not (holds k)

  module _ {from to : ℕ} (up : from ≤ to) where
    end : from + (to - from) ≡ to
    end = omega arith

    pub hit_in : {k : ℕ} → wrong_in holds from to ≡ some k → Lowest wrong from to k
    unfolding wrong_in
    hit_in {k} e = rw end at (hit_from wrong (to - from) from k e)

    pub miss_in : wrong_in holds from to ≡ none → Nowhere wrong from to
    unfolding wrong_in
    miss_in e = rw end at (miss_from wrong (to - from) from e)

    pub is_hit_in : {k : ℕ} → Lowest wrong from to k → wrong_in holds from to ≡ some k
    unfolding wrong_in
    is_hit_in {k} l = is_hit_from wrong (to - from) from k (rw end l)

    pub is_miss_in : Nowhere wrong from to → wrong_in holds from to ≡ none
    unfolding wrong_in
    is_miss_in l = is_miss_from wrong (to - from) from (rw end l)

  -- ---- the run: the test has held from one place on, up to k
  pub record Held (from k : ℕ) : Type 0 where
    pub come : from ≤ k
    pub held : (j : ℕ) → from ≤ j → j < k → holds j ≡ true

  pub begin : (from : ℕ) → Held from from
  begin from = record { come = omega arith; held = λ j h l. absurd (omega arith) }

  pub turn : {from k : ℕ} → Held from k → holds k ≡ true → Held from (k + 1)
  turn {from} {k} g t =
      record { come = omega (arith, g.come); held = λ j h l. ⊎_elim (λ q. rw q t) (λ q. g.held j h q) (sooner j l) }
    where
      sooner : (j : ℕ) → j < k + 1 → (j ≡ k) ⊎ (j < k)
      sooner j l = eq-or-lt_of_le (let b : j ≤ k = omega arith in b)

  -- it stops at the first place at which it does not hold
  pub stops : {from k : ℕ} (to : ℕ) → Held from k → k < to → holds k ≡ false → lowest_of (wrong_in holds from to) ≡ Some k
  stops {from} {k} to g h t =
      let up : from ≤ to = omega (arith, g.come) in
      rw (is_hit_in up (record { from = g.come; below = h; holds = ap not t; least = λ j p q. ap not (g.held j p q) }))

  -- or comes to the end
  pub ends : {from to : ℕ} → Held from to → lowest_of (wrong_in holds from to) ≡ None
  ends g = rw (is_miss_in g.come (record { never = λ j p q. ap not (g.held j p q) }))
