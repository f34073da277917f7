-- Which calls are judged and read, which number each other call meets, and what stands in the rows afterwards, in document 01's own
-- numbers.
-- Assumes nothing.
use mathlib.Core.Path.{◌≡◌, ap, ◌∙◌}
use mathlib.Core.Bool.{Bool, true, false, cond}
use mathlib.Core.List.{List}
use Prim.Native.Nat.{ℕ, ◌≤◌}
use native.Mathlib.Omega.{arith}
use lib.Dec.{eqb}
use lib.ListN.{length, replicate}
use borrow.Author.Tests.{eq-eqb, ne_eqb, le-ltb}
use Rattle.ground.specs.Answer.{Answer, refused, given}
use Rattle.span.specs.declared.format.Format.{Format}
use Rattle.span.specs.Format.{shape_of, samples_in, symbols_in}
use Rattle.span.specs.Numbers.{IsFormat, Symbols, Samples}
use Rattle.span.proofs.Formats.{is_known_lem, unknown}
use Rattle.span.proofs.Numbers.{symbols_are, samples_are, symbols_told, samples_told}
use Rattle.window.specs.declared.delivery.Delivery.{Delivery}
use Rattle.window.specs.Read.{picture_of, read_span, judge_of, read_of, rows_left, rows_read}
use Rattle.window.proofs.Refusals.{numbers}

-- ---- the table of formats, in those numbers

module _ (f : Format) (x : ℕ) where
  is_long : Symbols f x → eqb x (symbols_in (shape_of f)) ≡ true
  is_long h = eq-eqb x (symbols_in (shape_of f)) (symbols_are f x h)

  is_room : Samples f x → eqb x (samples_in (shape_of f)) ≡ true
  is_room h = eq-eqb x (samples_in (shape_of f)) (samples_are f x h)

  module _ (known : IsFormat f) where
    not_long : (Symbols f x → ⊥) → eqb x (symbols_in (shape_of f)) ≡ false
    not_long h = ne_eqb x (symbols_in (shape_of f)) (λ e. h (symbols_told f x known e))

    not_room : (Samples f x → ⊥) → eqb x (samples_in (shape_of f)) ≡ false
    not_room h = ne_eqb x (samples_in (shape_of f)) (λ e. h (samples_told f x known e))

-- ---- the answers

module _ (f : Format) (w : List ℕ) where
  -- judging
  pub judge_meets_1 : (IsFormat f → ⊥) → judge_of f w ≡ refused 1 0
  judge_meets_1 x = simp (unknown f x)

  module _ (known : IsFormat f) where
    pub judge_meets_3 : (Symbols f (length w) → ⊥) → judge_of f w ≡ refused 3 0
    judge_meets_3 x = simp (is_known_lem f known, not_long f (length w) known x)

    pub judged : Symbols f (length w) → judge_of f w ≡ read_span f w
    unfolding read_span
    judged x = simp (is_known_lem f known, is_long f (length w) x)

  -- reading, into rows that have so much room
  module _ (room : ℕ) where
    pub read_meets_1 : (IsFormat f → ⊥) → read_of f w room ≡ refused 1 0
    read_meets_1 x = simp (unknown f x)

    module _ (known : IsFormat f) where
      pub read_meets_3 : (Symbols f (length w) → ⊥) → read_of f w room ≡ refused 3 0
      read_meets_3 x = simp (is_known_lem f known, not_long f (length w) known x)

      module _ (long : Symbols f (length w)) where
        pub read_meets_4 : (Samples f room → ⊥) → read_of f w room ≡ refused 4 0
        read_meets_4 x = simp (is_known_lem f known, is_long f (length w) long, not_room f room known x)

        pub read : Samples f room → read_of f w room ≡ read_span f w
        unfolding read_span
        read x = simp (is_known_lem f known, is_long f (length w) long, is_room f room x)

    -- into rows of the right length it is read as it is judged
    pub read_as_judged : Samples f room → read_of f w room ≡ judge_of f w
    read_as_judged x = simp (is_room f room x)

-- ---- the rows

module _ (f : Format) (w entry : List ℕ) where
  left : (r : Answer Delivery) → read_of f w (length entry) ≡ r → rows_read f w entry ≡ rows_left r entry (picture_of f w)
  left r e = ap (λ (x : Answer Delivery). rows_left x entry (picture_of f w)) e

  -- a call that meets 1, 3 or 4 leaves them as they were
  pub rows_after_1 : (IsFormat f → ⊥) → rows_read f w entry ≡ entry
  rows_after_1 x = left (refused 1 0) (read_meets_1 f w (length entry) x)

  module _ (known : IsFormat f) where
    pub rows_after_3 : (Symbols f (length w) → ⊥) → rows_read f w entry ≡ entry
    rows_after_3 x = left (refused 3 0) (read_meets_3 f w (length entry) known x)

    module _ (long : Symbols f (length w)) where
      pub rows_after_4 : (Samples f (length entry) → ⊥) → rows_read f w entry ≡ entry
      rows_after_4 x = left (refused 4 0) (read_meets_4 f w (length entry) known long x)

      module _ (room : Samples f (length entry)) where
        -- one that meets 20 to 26 leaves nothing in them
        pub rows_after_refusal : {number place : ℕ} → read_span f w ≡ refused number place → rows_read f w entry ≡ replicate (length entry) 0
        rows_after_refusal {number} {place} e =
            let from : 20 ≤ number = (numbers f w number place e).0 in
            left (refused number place) (read f w (length entry) known long room ∙ e)
            ∙ ap (λ (low : Bool). cond low entry (replicate (length entry) 0)) (le-ltb number _ (omega (arith, from)))

        -- and a span that is delivered its picture
        pub rows_delivered : {r : Delivery} → read_span f w ≡ given r → rows_read f w entry ≡ picture_of f w
        rows_delivered {r} e = left (given r) (read f w (length entry) known long room ∙ e)
