-- Delivery piece by piece: what was delivered of the symbols that have arrived stays delivered, and what may still come begins at the place
-- that is kept.
-- Assumes nothing.
use mathlib.Core.Path.{◌≡◌, refl, sym, ap, ◌∙◌}
use mathlib.Core.Bool.{false}
use mathlib.Core.List.{List, [], ◌∷◌, ◌++◌}
use mathlib.Core.Option.{Option, none, some}
use Prim.Native.Nat.{ℕ, zero, suc, ◌+◌, ◌-◌, ◌≤◌, ◌<◌}
use native.Mathlib.Nat.{add-zero}
use native.Mathlib.Omega.{arith}
use lib.Dec.{leb, ltb}
use lib.ListN.{length, get_or, take, drop, length-drop}
use lib.Seq.{drop-cons, drop-append-le, take-append-le}
use borrow.Author.Tests.{le-leb, leb-true, leb-false, ltb-true, ltb-false}
use Rattle.ground.specs.Search.{is_some}
use Rattle.ground.proofs.Cases.{on_test}
use Rattle.delivery.specs.Delivery.{Found, window_at, accepts_at, find_by, next_by, deliver, deliver_by, moved_by}
use Rattle.delivery.specs.Kept.{untried, kept_from}
use Rattle.delivery.specs.Inside.Ending.{end_after}
use Rattle.delivery.specs.Inside.Marked.{Whole}
use Rattle.delivery.proofs.Finding.{told, untold, stands_whole, found_at_lem, found_told, nowhere_told, at_the_end, next_then}
use Rattle.delivery.proofs.Steps.{passed_over, moved}

-- ---- the place that is kept

module _ (n long p : ℕ) where
  -- near the end it is the start
  pub kept_start : long + 1 ≤ p + n → kept_from n long p ≡ p
  unfolding kept_from
  kept_start h =
      on_test (leb p (untried n long))
      (λ t. let l = leb-true p (untried n long) t in rw t (omega arith))
      (λ t. rw t)

  -- else it is that of the last n - 1 symbols
  pub kept_last : p + n ≤ long + 1 → kept_from n long p + n ≡ long + 1
  unfolding kept_from
  kept_last h = rw (le-leb p (untried n long) (omega arith)) (omega arith)

  -- so fewer than n symbols are kept, and none before the start
  pub kept_bounds : 1 ≤ n → p ≤ long → (p ≤ kept_from n long p) × (kept_from n long p ≤ long) × (long < kept_from n long p + n)
  kept_bounds least inside =
      on_test (leb (long + 1) (p + n))
      (λ t. let e = kept_start (leb-true (long + 1) (p + n) t) in let l = leb-true (long + 1) (p + n) t in rw e (omega arith, inside, omega arith))
      (λ t. let l = leb-false (long + 1) (p + n) t in let e = kept_last (omega arith) in (omega arith, omega arith, omega arith))

-- kept once, it stays
pub kept_stays : (n long p : ℕ) → 1 ≤ n → p ≤ long → kept_from n long (kept_from n long p) ≡ kept_from n long p
kept_stays n long p least inside =
    let b = kept_bounds n long p least inside in
    kept_start n long (kept_from n long p) (omega (arith, b.2))

module _ {A : Type 0} (n : ℕ) (read : List ℕ → Option A) (whole : Whole n read) where
  -- places at which nothing is read are passed over
  one_passed : (r : List ℕ) (p : ℕ) → accepts_at n read r p ≡ false → deliver_by n read r p ≡ deliver_by n read r (suc p)
  unfolding deliver_by
  one_passed r p t =
      on_test (ltb p (length r))
      (λ s.
      let here : drop p r ≡ get_or r p 0 ∷ drop (suc p) r = drop-cons r p 0 (ltb-true p (length r) s) in
      let none_here : read (take n (get_or r p 0 ∷ drop (suc p) r)) ≡ none = ap (λ (l : List ℕ). read (take n l)) (sym here) ∙ untold (read (window_at n read r p)) t in
      ap (deliver n read p 0) here ∙ passed_over n read p (get_or r p 0) (drop (suc p) r) none_here)
      (λ s.
      let h = ltb-false p (length r) s in
      at_the_end n read whole r p h ∙ sym (at_the_end n read whole r (suc p) (omega arith)))

  pub passed_to : (r : List ℕ) (d p : ℕ) → ((j : ℕ) → p ≤ j → j < p + d → accepts_at n read r j ≡ false)
      → deliver_by n read r p ≡ deliver_by n read r (p + d)
  passed_to r zero p none_here = ap (deliver_by n read r) (sym (add-zero p))
  passed_to r (suc d) p none_here =
      let q : suc p + d ≡ p + suc d = omega arith in
      one_passed r p (none_here p (omega arith) (omega arith))
      ∙ passed_to r d (suc p) (λ j a b. none_here j (omega arith) (omega arith))
      ∙ ap (deliver_by n read r) q

  -- ---- symbols that have arrived, and those that arrive later
  module _ (r later : List ℕ) where
    -- a window that stands whole among the first stays as it is
    window_stays : (j : ℕ) → j + n ≤ length r → window_at n read (r ++ later) j ≡ window_at n read r j
    window_stays j h =
        ap (take n) (drop-append-le j r later (omega arith)) ∙ take-append-le n (drop j r) later (omega (arith, length-drop j r))

    accepts_stays : (j : ℕ) → j + n ≤ length r → accepts_at n read (r ++ later) j ≡ accepts_at n read r j
    accepts_stays j h = ap (λ (w : List ℕ). is_some (read w)) (window_stays j h)

    -- where none was found, none begins before the place that is kept, whatever arrives
    pub none_before : (p : ℕ) → p ≤ length r → find_by n read r p ≡ none → (j : ℕ) → p ≤ j → j < kept_from n (length r) p
        → accepts_at n read (r ++ later) j ≡ false
    none_before p inside e j from below =
        on_test (leb (length r + 1) (p + n))
        (λ t. let k = kept_start n (length r) p (leb-true (length r + 1) (p + n) t) in absurd (omega arith))
        (λ t.
        let k = kept_last n (length r) p (omega (arith, leb-false (length r + 1) (p + n) t)) in
        accepts_stays j (omega arith) ∙ nowhere_told n read whole r p e j from)

    -- what was found stays found
    found_stays : (p q : ℕ) → find_by n read r p ≡ some q → find_by n read (r ++ later) p ≡ some q
    found_stays p q e =
        let at = found_told n read whole r p q e in
        let fits = stands_whole n read whole r q at.1 in
        found_at_lem n read whole (r ++ later) p q at.0 (accepts_stays q fits ∙ at.1)
        (λ j a b. accepts_stays j (omega arith) ∙ at.2 j a b)

    -- delivery of all of them is delivery of the first, and then delivery from the place that is kept
    pub record Goes (p : ℕ) : Type 0 where
      pub end : end_after n p (deliver_by n read r p) ≤ length r
      pub on : deliver_by n read (r ++ later) p
          ≡ deliver_by n read r p ++ deliver_by n read (r ++ later) (kept_from n (length r) (end_after n p (deliver_by n read r p)))

    -- where there is none
    goes_none : (p : ℕ) → p ≤ length r → find_by n read r p ≡ none → Goes p
    unfolding next_by
    goes_none p inside e =
        let nothing : deliver_by n read r p ≡ [] = next_then n read whole r p ∙ rw e refl in
        let kept = kept_bounds n (length r) p whole.least inside in
        let d = kept_from n (length r) p - p in
        let to : p + d ≡ kept_from n (length r) p = omega (arith, kept.0) in
        record {
          end = rw nothing inside;
          on = rw nothing
              (passed_to (r ++ later) d p (λ j a b. none_before p inside e j a (omega (arith, to)))
              ∙ ap (deliver_by n read (r ++ later)) to);
        }

    -- where there is one, and then on from its end
    goes_some : (p q : ℕ) (a : A) → find_by n read r p ≡ some q → read (window_at n read r q) ≡ some a → q + n ≤ length r → Goes (q + n) → Goes p
    unfolding next_by
    goes_some p q a e is fits on =
        let stays : read (window_at n read (r ++ later) q) ≡ some a = ap read (window_stays q fits) ∙ is in
        let here : deliver_by n read r p ≡ record { place = q; reading = a } ∷ deliver_by n read r (q + n) = next_then n read whole r p ∙ rw (e, is) refl in
        let there : deliver_by n read (r ++ later) p ≡ record { place = q; reading = a } ∷ deliver_by n read (r ++ later) (q + n) =
        next_then n read whole (r ++ later) p ∙ rw (found_stays p q e, stays) refl in
        record {
          end = rw here on.end;
          on = rw here (there ∙ ap (λ (l : List (Found A)). record { place = q; reading = a } ∷ l) on.on);
        }

    goes_by : (k p : ℕ) → p ≤ length r → length r ≤ p + k → Goes p
    goes_by zero p inside enough = go (find_by n read r p) refl
      where
        go : (o : Option ℕ) → find_by n read r p ≡ o → Goes p
        go none e = goes_none p inside e
        go (some q) e =
            let at = found_told n read whole r p q e in
            absurd (omega (arith, at.0, stands_whole n read whole r q at.1, whole.least))
    goes_by (suc k) p inside enough = go (find_by n read r p) refl (λ q. goes_by k q)
      where
        go : (o : Option ℕ) → find_by n read r p ≡ o → ((q : ℕ) → q ≤ length r → length r ≤ q + k → Goes q) → Goes p
        go none e more = goes_none p inside e
        go (some q) e more =
            let at = found_told n read whole r p q e in
            let fits = stands_whole n read whole r q at.1 in
            let (a, is) = told (read (window_at n read r q)) at.1 in
            goes_some p q a e is fits (more (q + n) fits (omega (arith, at.0, whole.least)))

    pub goes : (p : ℕ) → p ≤ length r → Goes p
    goes p inside = goes_by (length r) p inside (omega arith)

    -- so what comes before that place may be given up: the rest is delivered by itself, moved to its place
    pub piece : let k = kept_from n (length r) (end_after n 0 (deliver_by n read r 0)) in
        deliver_by n read (r ++ later) 0 ≡ deliver_by n read r 0 ++ moved_by k (deliver_by n read (drop k r ++ later) 0)
    unfolding deliver_by
    piece =
        let g = goes 0 (omega arith) in
        let p = end_after n 0 (deliver_by n read r 0) in
        let k = kept_from n (length r) p in
        let inside = (kept_bounds n (length r) p whole.least g.end).1 in
        g.on
        ∙ ap (λ (l : List (Found A)). deliver_by n read r 0 ++ l)
        (ap (deliver n read k 0) (drop-append-le k r later inside)
        ∙ ap (λ (m : ℕ). deliver n read m 0 (drop k r ++ later)) (sym (add-zero k))
        ∙ moved n read k 0 0 (drop k r ++ later))
