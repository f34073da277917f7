-- Steps give the delivery, rows included, and then none for ever.
-- Assumes nothing.
use mathlib.Core.Path.{◌≡◌, refl, sym, ap, ◌∙◌}
use mathlib.Core.Bool.{true}
use mathlib.Core.List.{List, [], ◌∷◌, ◌++◌, map}
use mathlib.Core.Option.{Option, none, some}
use Prim.Native.Nat.{ℕ, zero, suc, ◌+◌, ◌≤◌}
use native.Mathlib.Nat.{zero-add, suc-add}
use native.Mathlib.Omega.{arith}
use lib.ListN.{length, replicate}
use Rattle.ground.specs.Answer.{refused, given}
use Rattle.ground.proofs.Answers.{given_is, when_refused, when_given}
use Rattle.span.specs.declared.format.Format.{Format}
use Rattle.span.specs.Format.{is_known, shape_of, samples_in, symbols_in}
use Rattle.delivery.specs.Delivery.{Found, followed, next_by as next_by}
use Rattle.delivery.specs.Kept.{kept_from}
use Rattle.delivery.specs.Inside.Ending.{end_after}
use Rattle.delivery.proofs.Finding.{found_nowhere, nowhere_told, next_then}
use Rattle.delivery.proofs.Keeping.{kept_bounds, kept_stays}
use Rattle.recording.specs.Call.{spanned, next_rows, next_of, end_or, after_next, words_or, rows_next}
use Rattle.recording.specs.Recording.{limit, Reading, reading, next_from, delivery_from}
use Rattle.recording.specs.Steps.{Step, run_from, rest_by, span_step, end_step, last_rows}
use Rattle.recording.proofs.Calling.{none_found, next_given}
use Rattle.recording.proofs.Readings.{span_whole}
use Rattle.recording.proofs.Nexts.{IsNext, next_is}

module _ (f : Format) where
  abbrev n : ℕ
  n = symbols_in (shape_of f)

  -- a refused step, and a step at the end, leave the rows; a refused one leaves the place too
  module _ (r : List ℕ) (p : ℕ) (rows : List ℕ) where
    pub refused_stays : (number place : ℕ) → next_of f r p (length rows) ≡ refused number place
        → (rows_next f r p rows ≡ rows) × (after_next f r p (length rows) ≡ p)
    refused_stays number place e = (sym (when_refused rows _ e), ap (end_or n (length r) p) e)

    no_words : (o : Option (Found Reading)) → spanned o ≡ none → words_or rows o ≡ rows
    no_words none e = refl
    no_words (some x) e = cc

    pub end_stays : next_of f r p (length rows) ≡ given none → (rows_next f r p rows ≡ rows) × (after_next f r p (length rows) ≡ kept_from n (length r) p)
    end_stays e =
        let none_next = given_is (next_rows f r p (length rows)) (spanned (next_from f r p)) none e in
        (sym (when_given rows _ e) ∙ no_words (next_from f r p) none_next, ap (end_or n (length r) p) e)

  module _ (known : is_known f ≡ true) (r : List ℕ) (short : length r ≤ limit) where
    then : (p : ℕ) → delivery_from f r p ≡ followed (next_from f r p) (λ e. delivery_from f r (e.place + n))
    then p = next_then n (reading f) (span_whole f known) r p

    least : 1 ≤ n
    least = (span_whole f known).least

    -- where there is none from p on, there is none from a later place on
    none_later : (p q : ℕ) → p ≤ q → next_from f r p ≡ none → next_from f r q ≡ none
    unfolding next_by
    none_later p q h e =
        let whole = span_whole f known in
        let nowhere = found_nowhere n (reading f) whole r q (λ j l. nowhere_told n (reading f) whole r p (none_found f r p known (sym (ap spanned e))) j (omega arith)) in
        rw nowhere

    -- at the end each step answers none, and leaves the rows, and the place that is kept
    module _ (rows : List ℕ) (room : length rows ≡ samples_in (shape_of f)) where
      for_ever : (k p : ℕ) → p ≤ length r → next_from f r p ≡ none → run_from k f r p rows ≡ replicate k (end_step rows)
      unfolding run_from
      for_ever zero p inside end = refl
      for_ever (suc k) p inside end =
          let kept = kept_bounds n (length r) p least inside in
          rw (next_given f r p rows known short room inside, end)
          (ap (λ (l : List Step). end_step rows ∷ l)
          (for_ever k (kept_from n (length r) p) kept.1 (none_later p (kept_from n (length r) p) kept.0 end)))

      kept_left : (k p : ℕ) → p ≤ length r → next_from f r p ≡ none
          → rest_by (suc k) f r p rows ≡ record { place = kept_from n (length r) p; rows = rows }
      unfolding rest_by
      kept_left zero p inside end = rw (next_given f r p rows known short room inside, end)
      kept_left (suc k) p inside end =
          let kept = kept_bounds n (length r) p least inside in
          let q = kept_from n (length r) p in
          rw (next_given f r p rows known short room inside, end)
          (kept_left k q kept.1 (none_later p q kept.0 end)
          ∙ ap (λ (place : ℕ). record { place = place; rows = rows }) (kept_stays n (length r) p least inside))

    -- what a delivery that is known says of the next step
    end_is : (p : ℕ) → delivery_from f r p ≡ [] → next_from f r p ≡ none
    end_is p is = go (next_from f r p) refl
      where
        go : (o : Option (Found Reading)) → next_from f r p ≡ o → next_from f r p ≡ none
        go none e = e
        go (some x) e = let z : ◌≡◌ {A = ℕ} 0 1 = cc (rw e at (sym (then p) ∙ is)) in absurd (omega arith)

    record First (p : ℕ) (d : Found Reading) (ds : List (Found Reading)) : Type 0 where
      pub found : next_from f r p ≡ some d
      pub rest : delivery_from f r (d.place + n) ≡ ds
      pub next : IsNext f known r p d

    first_is : (p : ℕ) (d : Found Reading) (ds : List (Found Reading)) → delivery_from f r p ≡ d ∷ ds → First p d ds
    first_is p d ds is = go (next_from f r p) refl
      where
        go : (o : Option (Found Reading)) → next_from f r p ≡ o → First p d ds
        go none e = let z : ◌≡◌ {A = ℕ} 0 1 = cc (rw e at (sym (then p) ∙ is)) in absurd (omega arith)
        go (some x) e =
            let same : x ∷ delivery_from f r (x.place + n) ≡ d ∷ ds = rw e at (sym (then p) ∙ is) in
            let x-is : x ≡ d = cc same in
            let here : next_from f r p ≡ some d = e ∙ ap some x-is in
            record { found = here; rest = rw (← x-is) (cc same); next = next_is f known r p d here }

    steps : (ds : List (Found Reading)) (p : ℕ) (rows : List ℕ) → length rows ≡ samples_in (shape_of f) → p ≤ length r → delivery_from f r p ≡ ds
        → (k : ℕ) → run_from (length ds + k) f r p rows ≡ map span_step ds ++ replicate k (end_step (last_rows rows ds))
    unfolding run_from
    steps [] p rows room inside is k = rw (zero-add k) (for_ever rows room k p inside (end_is p is))
    steps (d ∷ ds) p rows room inside is k =
        let x = first_is p d ds is in
        rw (suc-add (length ds) k, next_given f r p rows known short room inside, x.found)
        (ap (λ (l : List Step). span_step d ∷ l) (steps ds (d.place + n) d.reading.words x.next.room x.next.inside x.rest k))

    -- from any place on: as many steps as there are spans, and k more
    pub steps_deliver : (p : ℕ) (rows : List ℕ) → length rows ≡ samples_in (shape_of f) → p ≤ length r → (k : ℕ)
        → run_from (length (delivery_from f r p) + k) f r p rows
        ≡ map span_step (delivery_from f r p) ++ replicate k (end_step (last_rows rows (delivery_from f r p)))
    steps_deliver p rows room inside k = steps (delivery_from f r p) p rows room inside refl k

    on_from : (p : ℕ) (rows : List ℕ) → length rows ≡ samples_in (shape_of f) → p ≤ length r → (d : Found Reading) → next_from f r p ≡ some d
        → (k : ℕ) → rest_by (suc k) f r p rows ≡ rest_by k f r (d.place + n) d.reading.words
    unfolding rest_by
    on_from p rows room inside d found k = rw (next_given f r p rows known short room inside, found)

    -- what all of them and one more leave: the place that is kept, and the rows of the last span
    left : (ds : List (Found Reading)) (p : ℕ) (rows : List ℕ) → length rows ≡ samples_in (shape_of f) → p ≤ length r → delivery_from f r p ≡ ds
        → (k : ℕ) → rest_by (length ds + suc k) f r p rows ≡ record { place = kept_from n (length r) (end_after n p ds); rows = last_rows rows ds }
    left [] p rows room inside is k = rw (zero-add (suc k)) (kept_left rows room k p inside (end_is p is))
    left (d ∷ ds) p rows room inside is k =
        let x = first_is p d ds is in
        rw (suc-add (length ds) (suc k))
        (on_from p rows room inside d x.found (length ds + suc k)
        ∙ left ds (d.place + n) d.reading.words x.next.room x.next.inside x.rest k)

    pub steps_leave : (p : ℕ) (rows : List ℕ) → length rows ≡ samples_in (shape_of f) → p ≤ length r → (k : ℕ)
        → rest_by (length (delivery_from f r p) + suc k) f r p rows
        ≡ record { place = kept_from n (length r) (end_after n p (delivery_from f r p)); rows = last_rows rows (delivery_from f r p) }
    steps_leave p rows room inside k = left (delivery_from f r p) p rows room inside refl k

    -- the rows stay as long as they were
    rows_long : (ds : List (Found Reading)) (p : ℕ) (rows : List ℕ) → length rows ≡ samples_in (shape_of f) → delivery_from f r p ≡ ds
        → length (last_rows rows ds) ≡ samples_in (shape_of f)
    rows_long [] p rows room is = room
    rows_long (d ∷ ds) p rows room is =
        let x = first_is p d ds is in rows_long ds (d.place + n) d.reading.words x.next.room x.rest

    pub last_long : (p : ℕ) (rows : List ℕ) → length rows ≡ samples_in (shape_of f)
        → length (last_rows rows (delivery_from f r p)) ≡ samples_in (shape_of f)
    last_long p rows room = rows_long (delivery_from f r p) p rows room refl
