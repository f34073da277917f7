-- A test that is asked only in one run of words or in two: what is found among all places is what is found in the runs.
-- Assumes nothing.
use mathlib.Core.Path.{◌≡◌, refl, ap, ◌∙◌}
use mathlib.Core.Bool.{Bool, true, false, not}
use mathlib.Core.Option.{Option, none, some}
use Prim.Native.Nat.{ℕ, ◌-◌, ◌*◌, ◌/◌, ◌%◌, ◌≤◌, ◌<◌}
use native.Mathlib.Nat.{mul-le-mul_left, le-div_iff_mul-le, div-lt_iff_lt-mul}
use native.Mathlib.Omega.{arith}
use lib.Dec.{ltb}
use borrow.Author.Tests.{ltb-true, ltb-false}
use Rattle.ground.specs.Search.{first_below}
use Rattle.ground.proofs.Cases.{on_test}
use Rattle.ground.proofs.Searches.{Lowest, Nowhere}
use Rattle.window.specs.Read.{placed}
use Rattle.read_test21_26.specs.declared.service.Test.{Test}
use Rattle.read_test21_26.specs.Inside.Holds.{wrong_in}
use Rattle.read_test21_26.specs.Inside.Verdict.{Verdict, verdict_of}
use Rattle.read_test21_26.proofs.Searching.{wrong, hit_in, miss_in, is_hit_in, is_miss_in}

-- ---- places
module _ (holds : ℕ → Bool) where
  -- nowhere in one run nor up to a place in the next, is nowhere in both
  longer : {a b c : ℕ} → Nowhere (wrong holds) a b → ((j : ℕ) → b ≤ j → j < c → wrong holds j ≡ false)
      → (j : ℕ) → a ≤ j → j < c → wrong holds j ≡ false
  longer {a} {b} {c} x y j h l =
      on_test (ltb j b) (λ t. x.never j h (ltb-true j b t)) (λ t. y j (ltb-false j b t) l)

  module _ (kind : Test) where
    -- a run, and else the rest
    abbrev sought : ℕ → ℕ → Verdict → Verdict
    sought a b rest = verdict_of kind (wrong_in holds a b) rest

    -- one in which it holds
    pass : (rest : Verdict) {a b : ℕ} → a ≤ b → ((j : ℕ) → a ≤ j → j < b → holds j ≡ true) → sought a b rest ≡ rest
    pass rest p right = rw (is_miss_in holds p (record { never = λ j h l. ap not (right j h l) }))

    -- one in two parts
    split : (rest : Verdict) {a b c : ℕ} → a ≤ b → b ≤ c → sought a c rest ≡ sought a b (sought b c rest)
    split rest {a} {b} {c} p q = go (wrong_in holds a b) (wrong_in holds b c) refl refl
      where
        up : a ≤ c
        up = omega arith

        go : (x y : Option ℕ) → wrong_in holds a b ≡ x → wrong_in holds b c ≡ y → sought a c rest ≡ sought a b (sought b c rest)
        go (some k) y e f =
            let l = hit_in holds p e in
            let first : Lowest (wrong holds) a c k = record { from = l.from; below = omega (arith, l.below); holds = l.holds; least = l.least } in
            rw (e, is_hit_in holds up first)
        go none (some k) e f =
            let l = hit_in holds q f in
            let least = longer (miss_in holds p e) l.least in
            let first : Lowest (wrong holds) a c k = record { from = omega (arith, l.from); below = l.below; holds = l.holds; least = least } in
            rw (e, f, is_hit_in holds up first)
        go none none e f =
            rw (e, f, is_miss_in holds up (record { never = longer (miss_in holds p e) (miss_in holds q f).never }))

    -- one past a part in which it holds, and then in two parts
    past : (rest : Verdict) {a b c d : ℕ} → a ≤ b → b ≤ c → c ≤ d → ((j : ℕ) → a ≤ j → j < b → holds j ≡ true)
        → sought a d rest ≡ sought b c (sought c d rest)
    past rest {a} {b} {c} {d} p q r right =
        split rest p (let up : b ≤ d = omega arith in up) ∙ pass (sought b d rest) p right ∙ split rest q r

-- ---- words
module _ (s : ℕ) (some-stream : 1 ≤ s) where
  pub from_word : {a k : ℕ} → s * a ≤ k → a ≤ k / s
  from_word {a} {k} h = (le-div_iff_mul-le some-stream).1 (omega arith)

  pub before_word : {b k : ℕ} → k < s * b → k / s < b
  before_word {b} {k} h = (div-lt_iff_lt-mul some-stream).1 (omega arith)

  module _ (holds : ℕ → ℕ → Bool) (n : ℕ) (kind : Test) (rest : Verdict) where
    abbrev test : ℕ → Bool
    test k = placed s holds k

    -- in words from a to before b, and else the rest
    abbrev found : ℕ → ℕ → Verdict → Verdict
    found a b rest = verdict_of kind (wrong_in test (s * a) (s * b)) rest

    -- among all places
    abbrev all : Verdict
    all = verdict_of kind (first_below n (λ k. not (test k))) rest

    all_places : all ≡ sought test kind 0 n rest
    unfolding first_below wrong_in
    all_places = let z : n - 0 ≡ n = omega arith in rw z

    module _ {a b : ℕ} (p : a ≤ b) where
      pub in_one_run : s * b ≤ n → ((j t : ℕ) → (a ≤ j → b ≤ j) → holds j t ≡ true) → all ≡ found a b rest
      in_one_run e outside =
          all_places
          ∙ past test kind rest (omega arith) (mul-le-mul_left s p) e
          (λ k h l. right k (λ m. absurd (omega (arith, before_word l))))
          ∙ ap (found a b) (pass test kind rest e (λ k h l. right k (λ m. from_word h)))
        where
          right : (k : ℕ) → (a ≤ k / s → b ≤ k / s) → test k ≡ true
          right k = outside (k / s) (k % s)

      pub in_two_runs : {c d : ℕ} → b ≤ c → c ≤ d → s * d ≤ n
          → ((j t : ℕ) → (a ≤ j → b ≤ j) → (c ≤ j → d ≤ j) → holds j t ≡ true) → all ≡ found a b (found c d rest)
      in_two_runs {c} {d} q r e outside =
          all_places
          ∙ past test kind rest (omega arith) (mul-le-mul_left s p) (omega (arith, bc, cd))
          (λ k h l. right k (λ m. absurd (omega (arith, before_word l))) (λ m. absurd (omega (arith, before_word l))))
          ∙ ap (found a b)
          (past test kind rest bc cd e (λ k h l. right k (λ m. from_word h) (λ m. absurd (omega (arith, before_word l))))
          ∙ ap (found c d) (pass test kind rest e (λ k h l. right k (λ m. omega (arith, from_word h)) (λ m. from_word h))))
        where
          bc : s * b ≤ s * c
          bc = mul-le-mul_left s q

          cd : s * c ≤ s * d
          cd = mul-le-mul_left s r

          right : (k : ℕ) → (a ≤ k / s → b ≤ k / s) → (c ≤ k / s → d ≤ k / s) → test k ≡ true
          right k = outside (k / s) (k % s)
