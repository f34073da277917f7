-- The search: no span is read before place i; the first that is read is the next one.
-- Assumes nothing.
use mathlib.Core.Path.{◌≡◌, refl, sym, ap, ◌∙◌}
use mathlib.Core.Bool.{true, false}
use mathlib.Core.List.{List}
use mathlib.Core.Option.{Option, none, some}
use Prim.Native.Nat.{ℕ, ◌+◌, ◌≤◌, ◌<◌}
use native.Mathlib.Omega.{arith}
use lib.Dec.{ltb}
use lib.ListN.{length, take, drop}
use borrow.Author.Tests.{ltb-true, ltb-false}
use Rattle.ground.specs.Search.{is_some}
use Rattle.ground.proofs.Cases.{on_test}
use Rattle.span.specs.declared.format.Format.{Format}
use Rattle.span.specs.Format.{is_known, shape_of, symbols_in}
use Rattle.delivery.specs.Delivery.{Found, found_at, read_from, find_by as find_by, next_by as next_by}
use Rattle.delivery.proofs.Finding.{found_at_lem, found_told, found_nowhere, nowhere_told, not_at_the_end}
use Rattle.recording.specs.declared.answer.Spanned.{Spanned}
use Rattle.recording.specs.Call.{spanned, words_or}
use Rattle.recording.specs.Recording.{Reading, reading, accepts, next_from}
use Rattle.recording.specs.Inside.Look.{MayBegin, LookInv}
use Rattle.recording.proofs.Readings.{span_whole, accepted_begins}
use Rattle.finding.specs.Inside.Seek.{read_at}

module _ (f : Format) (r : List ℕ) where
  abbrev n : ℕ
  n = symbols_in (shape_of f)

  -- the reader accepts nowhere from a start on before place i
  pub record Sofar (start i : ℕ) : Type 0 where
    pub at : start ≤ i
    pub none : (j : ℕ) → start ≤ j → j < i → accepts f (take n (drop j r)) ≡ false

  pub begin : (start : ℕ) → Sofar start start
  begin start = record { at = omega arith; none = λ j p q. absurd (omega arith) }

  module _ (known : is_known f ≡ true) where
    -- what the search passes over
    pub pass : {start i q : ℕ} → Sofar start i → LookInv n r i q → Sofar start q
    pass {start} {i} {q} s p =
        record {
          at = omega (arith, s.at, p.at);
          none = λ j h l. on_test (ltb j i) (λ t. s.none j h (ltb-true j i t)) (λ t. passed j (p.none j (ltb-false j i t) l));
        }
      where
        passed : (j : ℕ) → (MayBegin n r j → ⊥) → accepts f (take n (drop j r)) ≡ false
        passed j x = on_test (accepts f (take n (drop j r))) (λ t. absurd (x (accepted_begins f known r j t))) (λ t. t)

    -- where none is read, the search goes on
    pub none_here : {start q : ℕ} → Sofar start q → none ≡ spanned (read_at f r q) → Sofar start (q + 1)
    none_here {start} {q} s e =
        record {
          at = omega (arith, s.at);
          none = λ j h l.
              on_test (ltb j q) (λ t. s.none j h (ltb-true j q t))
              (λ t. let here : j ≡ q = omega (arith, ltb-false j q t) in rw here (go (reading f (take n (drop q r))) e));
        }
      where
        go : (o : Option Reading) → none ≡ spanned (found_at q o) → is_some o ≡ false
        go none e = refl
        go (some x) e = let z : ◌≡◌ {A = ℕ} 0 1 = cc e in absurd (omega arith)

    -- where one is, it is the next
    pub found_here : {start q : ℕ} {a : Spanned} → Sofar start q → some a ≡ spanned (read_at f r q) → next_from f r start ≡ read_at f r q
    unfolding next_by
    found_here {start} {q} {a} s e = go (reading f (take n (drop q r))) refl e
      where
        go : (o : Option Reading) → reading f (take n (drop q r)) ≡ o → some a ≡ spanned (found_at q o)
            → read_from n (reading f) r (find_by n (reading f) r start) ≡ read_at f r q
        go none x e = let z : ◌≡◌ {A = ℕ} 0 1 = cc e in absurd (omega arith)
        go (some y) x e =
            let found = found_at_lem n (reading f) (span_whole f known) r start q s.at (ap is_some x) s.none in
            rw (found, x)

    -- what comes is the same from there on
    pub the_same : {start q : ℕ} → Sofar start q → next_from f r start ≡ next_from f r q
    unfolding next_by
    the_same {start} {q} s = ap (read_from n (reading f) r) (go (find_by n (reading f) r q) refl)
      where
        go : (o : Option ℕ) → find_by n (reading f) r q ≡ o → find_by n (reading f) r start ≡ find_by n (reading f) r q
        go none e =
            let never = nowhere_told n (reading f) (span_whole f known) r q e in
            found_nowhere n (reading f) (span_whole f known) r start
            (λ j h. on_test (ltb j q) (λ t. s.none j h (ltb-true j q t)) (λ t. never j (ltb-false j q t)))
            ∙ sym e
        go (some p) e =
            let told = found_told n (reading f) (span_whole f known) r q p e in
            found_at_lem n (reading f) (span_whole f known) r start p (omega (arith, s.at, told.0)) told.1
            (λ j h l. on_test (ltb j q) (λ t. s.none j h (ltb-true j q t)) (λ t. told.2 j (ltb-false j q t) l))
            ∙ sym e

    -- where too few symbols are left, nothing comes any more
    pub nothing : {start i : ℕ} → Sofar start i → length r < i + n → next_from f r start ≡ none
    unfolding next_by
    nothing {start} {i} s h =
        let nowhere = found_nowhere n (reading f) (span_whole f known) r start
        (λ j p.
        on_test (ltb j i) (λ t. s.none j p (ltb-true j i t))
        (λ t. not_at_the_end n (reading f) (span_whole f known) r j (omega (arith, ltb-false j i t)))) in
        rw nowhere

-- what the search leaves where it finds nothing
pub none_answered : {x : Option (Found Reading)} (rows : List ℕ) → x ≡ none → (none ≡ spanned x) × (rows ≡ words_or rows x)
none_answered rows e = (rw e, rw e)
