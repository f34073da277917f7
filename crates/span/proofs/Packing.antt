-- Words as bytes, two words to three.
-- Assumes nothing.
use mathlib.Core.Path.{◌≡◌, refl, ap, ◌∙◌}
use mathlib.Core.List.{List, [], ◌∷◌, ◌++◌}
use Prim.Native.Nat.{ℕ, zero, suc, ◌+◌, ◌-◌, ◌*◌, ◌<◌}
use native.Mathlib.Omega.{arith}
use lib.ListN.{length, get_or, replicate}
use Rattle.ground.specs.Written.{upto, table}
use Rattle.ground.proofs.Writing.{length_upto, get_d_upto, length_table, is_table, upto_same, table_pairs, replicate_table}
use Rattle.packing.specs.Bytes.{bytes_of}
use Rattle.span.specs.Span.{across, interleaved, bytes_listed, bytes}

-- an even number of words, and the words after them
pub bytes_append : (k : ℕ) (xs ys : List ℕ) → length xs ≡ 2 * k → bytes (xs ++ ys) ≡ bytes xs ++ bytes ys
unfolding bytes
bytes_append k [] ys e = refl
bytes_append k (a ∷ []) ys e = absurd (omega arith)
bytes_append k (a ∷ b ∷ xs) ys e = ap (λ (l : List ℕ). bytes_listed (bytes_of a b) ++ l) (bytes_append (k - 1) xs ys (omega arith))

-- pieces of an even number of words
pub bytes_upto :
    (k : ℕ) (f : ℕ → List ℕ) → ((m : ℕ) → length (f m) ≡ 2 * k) → (n : ℕ) → bytes (upto n f) ≡ upto n (λ m. bytes (f m))
unfolding upto bytes
bytes_upto k f sized zero = refl
bytes_upto k f sized (suc n) =
    bytes_append (k * n) (upto n f) (f n) (length_upto (2 * k) f sized n ∙ omega arith)
    ∙ ap (λ (l : List ℕ). l ++ bytes (f n)) (bytes_upto k f sized n)

pub bytes_table :
    (half : ℕ) (w : ℕ → ℕ) → bytes (table (2 * half) w) ≡ upto half (λ u. bytes_listed (bytes_of (w (2 * u)) (w (2 * u + 1))))
unfolding bytes
bytes_table half w =
    ap bytes (table_pairs half w) ∙ bytes_upto 1 (λ u. w (2 * u) ∷ w (2 * u + 1) ∷ []) (λ m. refl) half

-- any even number of words, by their places
module _ (k : ℕ) (xs : List ℕ) (e : length xs ≡ 2 * k) where
  -- the bytes of pair u
  three : ℕ → List ℕ
  three u = bytes_listed (bytes_of (get_or xs (2 * u) 0) (get_or xs (2 * u + 1) 0))

  -- the bytes of all pairs
  bytes_even : bytes xs ≡ upto k three
  unfolding three
  bytes_even =
      ap bytes (is_table (2 * k) (λ j. get_or xs j 0) 0 xs e (λ j h. refl)) ∙ bytes_table k (λ j. get_or xs j 0)

  pub length_bytes : length (bytes xs) ≡ 3 * k
  unfolding three
  length_bytes = ap length bytes_even ∙ length_upto 3 three (λ m. refl) k

  -- byte i of pair p
  pub byte_at_lem :
      (p : ℕ)
      → p < k
      → (i : ℕ)
      → i < 3
      → get_or (bytes xs) (3 * p + i) 0 ≡ get_or (bytes_listed (bytes_of (get_or xs (2 * p) 0) (get_or xs (2 * p + 1) 0))) i 0
  unfolding three
  byte_at_lem p h i l =
      ap (λ (b : List ℕ). get_or b (3 * p + i) 0) bytes_even ∙ get_d_upto 3 three (λ m. refl) k p i 0 h l

-- streams two at a time
pub bytes_interleaved :
    (half n : ℕ) (words : ℕ → List ℕ)
    → bytes (interleaved (2 * half) n words)
    ≡ upto n (λ j. upto half (λ u. bytes_listed (bytes_of (get_or (words (2 * u)) j 0) (get_or (words (2 * u + 1)) j 0))))
unfolding interleaved
bytes_interleaved half n words =
    bytes_upto half (across (2 * half) words) (λ j. length_table (2 * half) (λ t. get_or (words t) j 0)) n
    ∙ upto_same n (λ j. bytes (across (2 * half) words j))
    (λ j. upto half (λ u. bytes_listed (bytes_of (get_or (words (2 * u)) j 0) (get_or (words (2 * u + 1)) j 0))))
    (λ j h. bytes_table half (λ t. get_or (words t) j 0))

-- one word again and again
pub bytes_replicate : (k w : ℕ) → bytes (replicate (2 * k) w) ≡ upto k (λ _. bytes_listed (bytes_of w w))
bytes_replicate k w = ap bytes (replicate_table (2 * k) w) ∙ bytes_table k (λ _. w)
