-- Words that were read into a row.
-- Assumes nothing.
use mathlib.Core.Path.{◌≡◌, refl, ap, ◌∙◌}
use mathlib.Core.List.{List, [], ◌∷◌}
use Prim.Native.Nat.{ℕ, ◌+◌, ◌≤◌}
use native.Mathlib.Omega.{arith}
use lib.ListN.{length, set, take, drop}
use lib.Seq.{sets, sets-eq, take_at}
use Rattle.ground.specs.Written.{table, upto}
use Rattle.ground.proofs.Writing.{sets_upto, length_table}
use Rattle.text.specs.Words.{word_in_bytes, words_in_bytes}

-- before the first word nothing changed
pub none_read : (l bytes : List ℕ) → l ≡ sets l 0 (words_in_bytes 0 bytes)
unfolding table upto
none_read l bytes = refl

-- one word more after the first i of them
pub one_word_more : (l bytes : List ℕ) (i w : ℕ) → w ≡ word_in_bytes bytes i → set (sets l 0 (words_in_bytes i bytes)) i w ≡ sets l 0 (words_in_bytes (i + 1) bytes)
unfolding table
one_word_more l bytes i w e = rw e (sets_upto 1 (λ k. word_in_bytes bytes k ∷ []) (λ m. refl) l 0 i i (omega arith))

-- the first of a row after they were read
pub words_read : (n : ℕ) (l bytes : List ℕ) → n ≤ length l → take n (sets l 0 (words_in_bytes n bytes)) ≡ words_in_bytes n bytes
words_read n l bytes h =
    let long : length (words_in_bytes n bytes) ≡ n = length_table n (word_in_bytes bytes) in
    ap (take n) (sets-eq (words_in_bytes n bytes) l 0 (omega arith)) ∙ take_at (words_in_bytes n bytes) (drop (0 + length (words_in_bytes n bytes)) l) n long
