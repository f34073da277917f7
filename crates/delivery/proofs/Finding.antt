-- The finder answers the first place at or after its start where the reader would accept, and none only where there is none; and delivery is
-- literally: find, read, find again from the end of that span, until none.
-- Assumes nothing.
use mathlib.Core.Path.{◌≡◌, refl, sym, ap, ◌∙◌}
use mathlib.Core.Bool.{true, false, true≢false}
use mathlib.Core.List.{List, [], ◌∷◌}
use mathlib.Core.Option.{Option, none, some}
use Prim.Native.Nat.{ℕ, zero, suc, ◌+◌, ◌-◌, ◌≤◌, ◌<◌}
use native.Mathlib.Omega.{arith}
use lib.Dec.{ltb}
use lib.ListN.{length, get_or, take, drop, length-take, length-drop, drop_of_length-le}
use lib.Seq.{drop-cons, drop-drop}
use borrow.Author.Tests.{ltb-true, ltb-false}
use Rattle.ground.specs.Search.{first_from, is_some}
use Rattle.ground.proofs.Cases.{on_test}
use Rattle.ground.proofs.Searches.{hit_from, miss_from, is_hit_from, is_miss_from}
use Rattle.delivery.specs.Delivery.{Found, followed, window_at, accepts_at, find_by, read_from, next_by, found_from, deliver, deliver_by}
use Rattle.delivery.specs.Inside.Marked.{Whole}
use Rattle.delivery.proofs.Steps.{too_few, found, passed_over}

-- a reading or none
pub told : {A : Type 0} (o : Option A) → is_some o ≡ true → (a : A) × (o ≡ some a)
told none e = absurd (true≢false (sym e))
told (some a) e = (a, refl)

pub untold : {A : Type 0} (o : Option A) → is_some o ≡ false → o ≡ none
untold none e = refl
untold (some a) e = absurd (true≢false e)

module _ {A : Type 0} (n : ℕ) (read : List ℕ → Option A) (whole : Whole n read) (r : List ℕ) where
  -- a place from which too few symbols are left is not accepted
  pub not_at_the_end : (q : ℕ) → length r < q + n → accepts_at n read r q ≡ false
  not_at_the_end q h =
      let few : length (window_at n read r q) < n = omega (arith, length-take n (drop q r), length-drop q r, whole.least) in
      ap is_some (too_few n read whole (window_at n read r q) few)

  -- so one that is accepted stands whole in the recording
  pub stands_whole : (q : ℕ) → accepts_at n read r q ≡ true → q + n ≤ length r
  stands_whole q t =
      on_test (ltb (length r) (q + n))
      (λ s. absurd (true≢false (sym t ∙ not_at_the_end q (ltb-true (length r) (q + n) s))))
      (λ s. ltb-false (length r) (q + n) s)

  module _ (p : ℕ) where
    -- the answer is q if and only if q is at or after p, the reader accepts there, and at no place between
    pub found_at_lem : (q : ℕ) → p ≤ q → accepts_at n read r q ≡ true → ((j : ℕ) → p ≤ j → j < q → accepts_at n read r j ≡ false)
        → find_by n read r p ≡ some q
    unfolding find_by
    found_at_lem q h t before =
        is_hit_from (accepts_at n read r) (length r - p) p q
        (record { from = h; below = omega (arith, stands_whole q t, whole.least); holds = t; least = before })

    pub found_told : (q : ℕ) → find_by n read r p ≡ some q
        → (p ≤ q) × (accepts_at n read r q ≡ true) × ((j : ℕ) → p ≤ j → j < q → accepts_at n read r j ≡ false)
    unfolding find_by
    found_told q e = let l = hit_from (accepts_at n read r) (length r - p) p q e in (l.from, l.holds, l.least)

    -- it is none if and only if the reader accepts nowhere from p on
    pub found_nowhere : ((j : ℕ) → p ≤ j → accepts_at n read r j ≡ false) → find_by n read r p ≡ none
    unfolding find_by
    found_nowhere never = is_miss_from (accepts_at n read r) (length r - p) p (record { never = λ j h _. never j h })

    pub nowhere_told : find_by n read r p ≡ none → (j : ℕ) → p ≤ j → accepts_at n read r j ≡ false
    unfolding find_by
    nowhere_told e j h =
        on_test (ltb j (length r))
        (λ s. (miss_from (accepts_at n read r) (length r - p) p e).never j h (omega (arith, ltb-true j (length r) s)))
        (λ s. not_at_the_end j (omega (arith, ltb-false j (length r) s, whole.least)))

  -- what follows from place p on
  abbrev behind : Found A → List (Found A)
  behind e = deliver_by n read r (e.place + n)

  -- at the end there is nothing
  pub at_the_end : (p : ℕ) → length r ≤ p → deliver_by n read r p ≡ []
  unfolding deliver_by deliver
  at_the_end p h = rw (drop_of_length-le r h)

  searched : (m p : ℕ) → m ≡ length r - p
      → deliver_by n read r p ≡ followed (read_from n read r (first_from p m (accepts_at n read r))) behind
  unfolding deliver_by first_from
  searched zero p e = at_the_end p (omega arith)
  searched (suc m) p e = go (read (window_at n read r p)) refl (searched m (suc p) (omega arith))
    where
      here : drop p r ≡ get_or r p 0 ∷ drop (suc p) r
      here = drop-cons r p 0 (omega arith)

      go : (o : Option A) → read (window_at n read r p) ≡ o
          → deliver_by n read r (suc p) ≡ followed (read_from n read r (first_from (suc p) m (accepts_at n read r))) behind
          → deliver_by n read r p ≡ followed (read_from n read r (first_from p (suc m) (accepts_at n read r))) behind
      go none e next =
          rw e
          (ap (deliver n read p 0) here
          ∙ passed_over n read p (get_or r p 0) (drop (suc p) r) (ap (λ (l : List ℕ). read (take n l)) (sym here) ∙ e)
          ∙ next)
      go (some a) e next =
          rw (e, e)
          (found n read whole p (drop p r) a e
          ∙ ap (λ (l : List ℕ). record { place = p; reading = a } ∷ deliver n read (p + n) 0 l) (drop-drop n p r))

  -- the next span, and then delivery from its end on
  pub next_then : (p : ℕ) → deliver_by n read r p ≡ followed (next_by n read r p) (λ e. deliver_by n read r (e.place + n))
  unfolding next_by find_by
  next_then p = searched (length r - p) p refl

  -- with as many calls as there are symbols left, or more, literally that is delivery
  pub literally : (k p : ℕ) → length r ≤ p + k → found_from n read k r p ≡ deliver_by n read r p
  unfolding found_from next_by
  literally zero p h = sym (at_the_end p (omega arith))
  literally (suc k) p h = go (find_by n read r p) refl (λ q l. literally k (q + n) l) ∙ sym (next_then p)
    where
      go : (o : Option ℕ) → find_by n read r p ≡ o
          → ((q : ℕ) → length r ≤ q + n + k → found_from n read k r (q + n) ≡ deliver_by n read r (q + n))
          → followed (read_from n read r (find_by n read r p)) (λ e. found_from n read k r (e.place + n))
          ≡ followed (read_from n read r (find_by n read r p)) (λ e. deliver_by n read r (e.place + n))
      go none e more = rw e
      go (some q) e more =
          let at = found_told p q e in
          let (a, is) = told (read (window_at n read r q)) at.1 in
          rw (e, is) (ap (λ (l : List (Found A)). record { place = q; reading = a } ∷ l) (more q (omega (arith, at.0, whole.least))))
