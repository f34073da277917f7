-- Words of several streams, one word of each in turn.
-- Assumes nothing.
use mathlib.Core.Path.{◌≡◌, sym, ap, ◌∙◌}
use mathlib.Core.List.{List, ◌++◌}
use Prim.Native.Nat.{ℕ, ◌+◌, ◌*◌, ◌<◌}
use lib.ListN.{length, get_or}
use Rattle.ground.specs.Written.{upto}
use Rattle.ground.proofs.Writing.{length_upto, get_d_upto, length_table, get_d_table, upto_split, upto_same, table_same, get_d_first, get_d_second}
use Rattle.span.specs.Span.{across, interleaved}

module _ (s n : ℕ) (words : ℕ → List ℕ) where
  -- one of each stream
  wide : (j : ℕ) → length (across s words j) ≡ s
  wide j = length_table s _

  pub length_interleaved : length (interleaved s n words) ≡ s * n
  unfolding interleaved
  length_interleaved = length_upto s (across s words) wide n

  -- word j of stream t
  pub interleaved_at : (j t : ℕ) → j < n → t < s → get_or (interleaved s n words) (s * j + t) 0 ≡ get_or (words t) j 0
  unfolding interleaved
  interleaved_at j t h l =
      get_d_upto s (across s words) wide n j t 0 h l ∙ get_d_table s _ t 0 l

-- streams with the same words
pub interleaved_same :
    (s n : ℕ) (xs ys : ℕ → List ℕ)
    → ((t j : ℕ) → t < s → j < n → get_or (xs t) j 0 ≡ get_or (ys t) j 0)
    → interleaved s n xs ≡ interleaved s n ys
unfolding interleaved
interleaved_same s n xs ys e =
    upto_same n (across s xs) (across s ys)
    (λ j h. table_same s (λ t. get_or (xs t) j 0) (λ t. get_or (ys t) j 0) (λ t l. e t j l h))

-- first m words of each stream, and then n more
pub interleaved_append :
    (s m n : ℕ) (xs ys : ℕ → List ℕ)
    → ((t : ℕ) → length (xs t) ≡ m)
    → interleaved s (m + n) (λ t. xs t ++ ys t) ≡ interleaved s m xs ++ interleaved s n ys
unfolding interleaved
interleaved_append s m n xs ys sized =
    sym (upto_split m n (across s (λ t. xs t ++ ys t)))
    ∙ ap (λ (l : List ℕ). l ++ upto n (λ j. across s (λ t. xs t ++ ys t) (m + j)))
    (interleaved_same s m (λ t. xs t ++ ys t) xs (λ t j _ h. get_d_first (xs t) (ys t) m j 0 (sized t) h))
    ∙ ap (λ (l : List ℕ). interleaved s m xs ++ l)
    (upto_same n (λ j. across s (λ t. xs t ++ ys t) (m + j)) (across s ys)
    (λ j _. table_same s (λ t. get_or (xs t ++ ys t) (m + j) 0) (λ t. get_or (ys t) j 0)
    (λ t _. get_d_second (xs t) (ys t) m j 0 (sized t))))
