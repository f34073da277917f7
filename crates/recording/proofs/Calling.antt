-- What the two calls answer, refusals in the order tried, and what they leave.
-- Assumes nothing.
use mathlib.Core.Path.{◌≡◌, refl, sym, ap, ◌∙◌}
use mathlib.Core.Bool.{true, false}
use mathlib.Core.List.{List}
use mathlib.Core.Option.{Option, none, some}
use Prim.Native.Nat.{ℕ, ◌+◌, ◌≤◌, ◌<◌}
use native.Mathlib.Omega.{arith}
use lib.ListN.{length}
use borrow.Author.Tests.{eq-eqb, ne_eqb, le-leb, lt-leb}
use Rattle.ground.specs.Answer.{Answer, refused, given}
use Rattle.span.specs.declared.format.Format.{Format}
use Rattle.span.specs.Format.{is_known, shape_of, samples_in, symbols_in}
use Rattle.delivery.specs.Delivery.{Found, window_at, read_from, next_by as next_by}
use Rattle.delivery.proofs.Finding.{told, stands_whole, found_told}
use Rattle.recording.specs.declared.answer.Spanned.{Spanned}
use Rattle.recording.specs.Call.{find_of, spanned, next_of, end_or, after_next, words_or, rows_next}
use Rattle.recording.specs.Recording.{limit, Reading, reading, find_from, next_from}
use Rattle.recording.proofs.Readings.{span_whole}

module _ (f : Format) (r : List ℕ) (start : ℕ) where
  -- ---- the place of the next span is what the finder answers
  module _ (known : is_known f ≡ true) where
    place_found : {s : Spanned} → some s ≡ spanned (next_from f r start) → find_from f r start ≡ some s.place
    unfolding next_by
    place_found {s} e = go (find_from f r start) refl e
      where
        go : (o : Option ℕ) → find_from f r start ≡ o → some s ≡ spanned (read_from (symbols_in (shape_of f)) (reading f) r (find_from f r start))
            → find_from f r start ≡ some s.place
        go none x e = let z : ◌≡◌ {A = ℕ} 0 1 = cc (rw x at e) in absurd (omega arith)
        go (some q) x e =
            let at = found_told (symbols_in (shape_of f)) (reading f) (span_whole f known) r start q x in
            let (a, is) = told (reading f (window_at (symbols_in (shape_of f)) (reading f) r q)) at.1 in
            let same : some s ≡ some (record { place = q; delivery = a.values }) = rw (x, is) at e in
            x ∙ ap (λ (o : Option Spanned). place_in o) (sym same)
          where
            place_in : Option Spanned → Option ℕ
            place_in none = none
            place_in (some s) = some s.place

    pub none_found : none ≡ spanned (next_from f r start) → find_from f r start ≡ none
    unfolding next_by
    none_found e = go (find_from f r start) refl e
      where
        go : (o : Option ℕ) → find_from f r start ≡ o → none ≡ spanned (read_from (symbols_in (shape_of f)) (reading f) r (find_from f r start))
            → find_from f r start ≡ none
        go none x e = x
        go (some q) x e =
            let at = found_told (symbols_in (shape_of f)) (reading f) (span_whole f known) r start q x in
            let (a, is) = told (reading f (window_at (symbols_in (shape_of f)) (reading f) r q)) at.1 in
            let z : ◌≡◌ {A = ℕ} 0 1 = cc (rw (x, is) at e) in absurd (omega arith)

    -- it stands whole in the recording
    pub ends_inside : {s : Spanned} → some s ≡ spanned (next_from f r start) → s.place + symbols_in (shape_of f) ≤ length r
    ends_inside {s} e =
        let n = symbols_in (shape_of f) in
        let at = found_told n (reading f) (span_whole f known) r start s.place (place_found e) in
        stands_whole n (reading f) (span_whole f known) r s.place at.1

  -- ---- finding
  pub find_meets_1 : is_known f ≡ false → find_of f r start ≡ refused 1 0
  find_meets_1 t = simp t

  module _ (known : is_known f ≡ true) where
    pub find_meets_3 : limit < length r → find_of f r start ≡ refused 3 0
    find_meets_3 h = simp (known, lt-leb (length r) limit h)

    module _ (short : length r ≤ limit) where
      pub find_meets_5 : length r < start → find_of f r start ≡ refused 5 0
      find_meets_5 h = simp (known, le-leb (length r) limit short, lt-leb start (length r) h)

      module _ (inside : start ≤ length r) where
        pub finds : find_of f r start ≡ given (find_from f r start)
        finds = simp (known, le-leb (length r) limit short, le-leb start (length r) inside)

        pub finds_place : {s : Spanned} → some s ≡ spanned (next_from f r start) → given (some s.place) ≡ find_of f r start
        finds_place e = sym (finds ∙ ap given (place_found known e))

        pub finds_none : none ≡ spanned (next_from f r start) → given none ≡ find_of f r start
        finds_none e = sym (finds ∙ ap given (none_found known e))

-- ---- the next span

-- the words that the search left, where there is a span; the rows as they were, where there is none
pub words_found : (x : Option (Found Reading)) {s : Spanned} {words : List ℕ} (entry : List ℕ) → some s ≡ spanned x → words ≡ words_or words x
    → words ≡ words_or entry x
words_found none entry e is = let z : ◌≡◌ {A = ℕ} 0 1 = cc e in absurd (omega arith)
words_found (some a) entry e is = is

pub none_left : (x : Option (Found Reading)) (entry : List ℕ) → none ≡ spanned x → entry ≡ words_or entry x
none_left none entry e = refl
none_left (some a) entry e = let z : ◌≡◌ {A = ℕ} 0 1 = cc e in absurd (omega arith)

module _ (f : Format) (r : List ℕ) (start : ℕ) (entry : List ℕ) where
  abbrev answer : Answer (Option Spanned)
  answer = next_of f r start (length entry)

  -- a refused call leaves the place and the rows
  abbrev pub Refuses : ℕ → Type 0
  Refuses number = (refused number 0 ≡ answer) × (start ≡ after_next f r start (length entry)) × (entry ≡ rows_next f r start entry)

  refuses : (number : ℕ) → answer ≡ refused number 0 → Refuses number
  refuses number e = (sym e, rw e, rw e)

  pub next_meets_1 : is_known f ≡ false → Refuses 1
  next_meets_1 t = refuses 1 (simp t)

  module _ (known : is_known f ≡ true) where
    pub next_meets_3 : limit < length r → Refuses 3
    next_meets_3 h = refuses 3 (simp (known, lt-leb (length r) limit h))

    module _ (short : length r ≤ limit) where
      pub next_meets_4 : (length entry ≡ samples_in (shape_of f) → ⊥) → Refuses 4
      next_meets_4 x =
          refuses 4 (simp (known, le-leb (length r) limit short, ne_eqb (length entry) (samples_in (shape_of f)) x))

      module _ (room : length entry ≡ samples_in (shape_of f)) where
        pub next_meets_5 : length r < start → Refuses 5
        next_meets_5 h =
            refuses 5
            (simp
            (known, le-leb (length r) limit short, eq-eqb (length entry) (samples_in (shape_of f)) room, lt-leb start (length r) h))

        -- any other is answered
        module _ (inside : start ≤ length r) where
          pub next_given : answer ≡ given (spanned (next_from f r start))
          next_given =
              simp
              (known, le-leb (length r) limit short, eq-eqb (length entry) (samples_in (shape_of f)) room, le-leb start (length r) inside)

          pub next_after : end_or (symbols_in (shape_of f)) (length r) start (given (spanned (next_from f r start))) ≡ after_next f r start (length entry)
          next_after = ap (end_or (symbols_in (shape_of f)) (length r) start) (sym next_given)

          pub next_rows_lem : words_or entry (next_from f r start) ≡ rows_next f r start entry
          next_rows_lem = rw next_given
