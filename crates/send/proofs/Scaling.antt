-- Samples as words: each by the factor.
-- Assumes nothing.
use Rattle.std.proofs.Common.{◌≡◌, ℕ, ◌+◌, ◌*◌, ◌<◌, List, [], ◌∷◌, length, get_or, set, sym, refl, ap, ◌∙◌, arith}
use lib.Seq.{sets}
use Rattle.ground.specs.Written.{upto, table}
use Rattle.ground.proofs.Writing.{sets_upto, sets_whole, length_table, get_d_table, is_table}
use Rattle.send.specs.Inside.Put.{scaled_words, AreWords, Fits}

module _ (factor : ℕ) (xs : List ℕ) where
  -- the room with the first n words in it
  unfoldable pub words_upto : List ℕ → ℕ → List ℕ
  words_upto room n = sets room 0 (upto n (λ i. get_or xs i 0 * factor ∷ []))

  module _ (room : List ℕ) where
    pub no_words : room ≡ words_upto room 0
    unfolding words_upto upto
    no_words = refl

    -- one word more
    pub one_word : (n : ℕ) {ws : List ℕ} {v : ℕ} → ws ≡ words_upto room n → v ≡ get_or xs n 0 * factor → set ws n v ≡ words_upto room (n + 1)
    unfolding words_upto
    one_word n p q = rw (p, q) (sets_upto 1 (λ i. get_or xs i 0 * factor ∷ []) (λ m. refl) room 0 n n (omega arith))

    -- all of them
    pub all_words_lem : length room ≡ length xs → words_upto room (length xs) ≡ scaled_words factor xs
    unfolding words_upto scaled_words table
    all_words_lem e = sets_whole room (scaled_words factor xs) (length_table (length xs) (λ i. get_or xs i 0 * factor) ∙ sym e)

  -- what is known of a list that is the words of samples
  module _ {ws : List ℕ} (is : ws ≡ scaled_words factor xs) where
    pub length_words : length ws ≡ length xs
    unfolding scaled_words
    length_words = ap (λ (l : List ℕ). length l) is ∙ length_table (length xs) (λ i. get_or xs i 0 * factor)

    pub are_words : Fits factor xs → AreWords ws
    unfolding scaled_words
    are_words f =
        record {
          below = λ i h.
              let l : i < length xs = omega (arith, length_words) in
              rw (is, get_d_table (length xs) (λ i. get_or xs i 0 * factor) i 0 l) (f.fits i l);
        }

-- by the factor 1 they are words as they are
pub as_they_are : {factor : ℕ} (xs : List ℕ) → factor ≡ 1 → xs ≡ scaled_words factor xs
unfolding scaled_words
as_they_are {factor} xs e = is_table (length xs) (λ i. get_or xs i 0 * factor) 0 xs refl (λ i h. rw e (omega arith))
