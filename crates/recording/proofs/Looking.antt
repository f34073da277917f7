-- The search for K28.5: what it passes over is no place where a span may begin.
-- Assumes nothing.
use mathlib.Core.Path.{◌≡◌, sym, ◌∙◌}
use mathlib.Core.Bool.{true, false, true≢false}
use mathlib.Core.List.{List}
use Prim.Native.Nat.{ℕ, ◌+◌, ◌-◌, ◌≤◌, ◌<◌}
use native.Mathlib.Omega.{arith}
use lib.Dec.{ltb}
use lib.ListN.{get_or}
use borrow.Author.Tests.{ltb-true, ltb-false}
use Rattle.ground.proofs.Cases.{on_test}
use Rattle.recording.specs.Inside.Look.{is_comma, begins_at, MayBegin, LookInv, Clear, LastInv}

module _ (r : List ℕ) where
  -- ---- the last K28.5 of a range, from its end backward

  pub none_yet : (to : ℕ) → Clear r to to
  none_yet to = record { none = λ j p l. absurd (omega arith) }

  -- one symbol before
  pub one_before : {k to : ℕ} → Clear r k to → 1 ≤ k → is_comma (get_or r (k - 1) 0) ≡ false → Clear r (k - 1) to
  one_before {k} {to} n h e =
      record {
        none = λ j p l.
            on_test (ltb j k) (λ t. let here : j ≡ k - 1 = omega (arith, ltb-true j k t) in rw here e) (λ t. n.none j (ltb-false j k t) l);
      }

  -- one symbol behind
  pub one_behind : {from k : ℕ} → Clear r from k → is_comma (get_or r k 0) ≡ false → Clear r from (k + 1)
  one_behind {from} {k} n e =
      record {
        none = λ j p l.
            on_test (ltb j k) (λ t. n.none j p (ltb-true j k t)) (λ t. let here : j ≡ k = omega (arith, ltb-false j k t) in rw here e);
      }

  -- a run and what follows it
  pub joined : {from mid to : ℕ} → Clear r from mid → Clear r mid to → Clear r from to
  joined {from} {mid} a b =
      record { none = λ j p l. on_test (ltb j mid) (λ t. a.none j p (ltb-true j mid t)) (λ t. b.none j (ltb-false j mid t) l) }

  -- a K28.5 is met, or the range is passed
  pub met : {from k to : ℕ} → Clear r k to → from < k → k ≤ to → is_comma (get_or r (k - 1) 0) ≡ true → LastInv r from to k
  met n h l e = record { low = omega arith; high = l; clear = n; last = λ _. e }

  pub none_met : {from k to : ℕ} → Clear r k to → from ≡ k → k ≤ to → LastInv r from to k
  none_met n e l = record { low = omega arith; high = l; clear = n; last = λ h. absurd (omega arith) }

  -- what is met before a place from which on there is none
  pub met_before : {from k to mid : ℕ} → LastInv r from mid k → Clear r mid to → mid ≤ to → LastInv r from to k
  met_before m n l = record { low = m.low; high = omega (arith, m.high); clear = joined m.clear n; last = m.last }

  -- ---- places passed over

  module _ (n : ℕ) where
    -- window i, of which the symbols behind the first two are clear up to place `seen`
    module _ (i : ℕ) {seen k : ℕ} (three : 3 ≤ n) (low : i + 2 ≤ seen) (m : LastInv r seen (i + n) k) where
      -- they all are: no span begins in it but at i, since each place has no K28.5 at the next, or at its own
      pub all_passed : {q : ℕ} → Clear r (i + 2) seen → k ≡ seen → i + 1 ≤ q → q ≤ i + n → LookInv n r (i + 1) q
      all_passed {q} before e from to =
          let rest : Clear r (i + 2) (i + n) = joined before (rw e at m.clear) in
          record {
            at = from;
            none = λ j p l b.
                on_test (ltb (j + 1) (i + n))
                (λ t. true≢false (sym b.second ∙ rest.none (j + 1) (omega arith) (ltb-true (j + 1) (i + n) t)))
                (λ t. true≢false (sym b.first ∙ rest.none j (omega (arith, m.low, m.high, ltb-false (j + 1) (i + n) t)) (omega arith)));
          }

      -- they are not: no span begins that has the last K28.5 behind its own first two symbols
      pub some_passed : {q : ℕ} → (k ≡ seen → ⊥) → i ≤ q → q + 2 ≤ k → LookInv n r i q
      some_passed {q} e from to =
          let late : seen < k = omega (arith, m.low, e) in
          record {
            at = from;
            none = λ j p l b. true≢false (sym (m.last late) ∙ b.only (k - 1) (omega arith) (omega (arith, m.high)));
          }

    -- one place
    begins : {q : ℕ} → MayBegin n r q → begins_at r q ≡ true
    begins b = rw (b.first, b.second)

    pub no_begin : {q : ℕ} → begins_at r q ≡ false → MayBegin n r q → ⊥
    no_begin e b = true≢false (sym (begins b) ∙ e)
