-- Laws of a list that is written piece by piece.
-- Assumes nothing.
use mathlib.Core.Path.{◌≡◌, refl, sym, ap, ◌∙◌}
use mathlib.Core.List.{List, [], ◌∷◌, ◌++◌, append_assoc, append-nil}
use Prim.Native.Nat.{ℕ, zero, suc, ◌+◌, ◌*◌, ◌≤◌, ◌<◌}
use native.Mathlib.Nat.{add-zero, add-suc, mul-zero, mul-suc, mul-le-mul_left, eq-or-lt_of_le, le_of_suc-le-suc, not-suc-le-zero}
use native.Mathlib.Numerals.{add-one}
use native.Mathlib.Omega.{arith}
use mathlib.Core.Logic.{⊎_elim}
use lib.ListN.{length, get_or, set, take, drop, replicate, length-append, length-replicate, get_or-replicate, get_or-append}
use lib.Seq.{sets, sets-eq, length-take-le, drop-length, get_or-append-add, ext_get_or}
use lib.Dec.{eqb}
use borrow.Author.Tests.{eqb-true}
use mathlib.Core.Bool.{true}
use Rattle.ground.specs.Written.{upto, table}
use Rattle.ground.specs.Inside.Test.{every_at}
use Rattle.ground.proofs.Tests.{at_entry}

module _ {A : Type 0} where
  -- a run of stores and the run that follows it are one run
  pub sets_append : (l x y : List A) (i o : ℕ) → o ≡ i + length x → sets (sets l i x) o y ≡ sets l i (x ++ y)
  sets_append l [] y i o e = let q : o ≡ i = omega arith in rw q
  sets_append l (a ∷ x) y i o e = sets_append (set l i a) x y (suc i) o (omega arith)

  -- a run of stores that is as long as the list leaves the run alone
  pub sets_whole : (l xs : List A) → length xs ≡ length l → sets l 0 xs ≡ xs
  sets_whole l xs e =
      let end : 0 + length xs ≡ length l = omega arith in
      sets-eq xs l 0 (omega arith) ∙ rw (end, drop-length) (append-nil xs)

  -- what a run of stores has written is there
  pub get_d_sets : (l xs : List A) (i j : ℕ) (d : A) → i + length xs ≤ length l → j < length xs → get_or (sets l i xs) (i + j) d ≡ get_or xs j d
  get_d_sets l xs i j d fits h =
      let front : length (take i l) ≡ i = length-take-le i l (omega arith) in
      let written : length (take i l ++ xs) ≡ i + length xs = length-append (take i l) xs ∙ ap (λ (n : ℕ). n + length xs) front in
      ap (λ (r : List A). get_or r (i + j) d) (sets-eq xs l i fits)
      ∙ get_or-append (take i l ++ xs) (drop (i + length xs) l) d (i + j) (rw written (omega arith))
      ∙ ap (λ (n : ℕ). get_or (take i l ++ xs) (n + j) d) (sym front)
      ∙ get_or-append-add (take i l) xs j d

  pub upto_more : (n : ℕ) (f : ℕ → List A) → upto (n + 1) f ≡ upto n f ++ f n
  unfolding upto
  upto_more n f = rw add-one

  -- the first m pieces, and then n more, are the first m + n
  pub upto_split : (m n : ℕ) (f : ℕ → List A) → upto m f ++ upto n (λ k. f (m + k)) ≡ upto (m + n) f
  unfolding upto
  upto_split m zero f = rw (add-zero, append-nil)
  upto_split m (suc n) f =
      sym (append_assoc (upto m f) (upto n (λ k. f (m + k))) (f (m + n)))
      ∙ ap (λ (l : List A). l ++ f (m + n)) (upto_split m n f) ∙ rw add-suc

  module _ (k : ℕ) (f : ℕ → List A) (sized : (m : ℕ) → length (f m) ≡ k) where
    pub length_upto : (n : ℕ) → length (upto n f) ≡ k * n
    unfolding upto
    length_upto zero = omega arith
    length_upto (suc n) = rw (length-append, sized n, length_upto n, mul-suc) (omega arith)

    -- the run of the first n pieces and the store of the next are the run of n + 1
    pub sets_upto : (l : List A) (i o n : ℕ) → o ≡ i + k * n → sets (sets l i (upto n f)) o (f n) ≡ sets l i (upto (n + 1) f)
    sets_upto l i o n e = rw upto_more (sets_append l (upto n f) (f n) i o (rw (length_upto n) e))

    -- element j of piece i
    pub get_d_upto : (n i j : ℕ) (d : A) → i < n → j < k → get_or (upto n f) (k * i + j) d ≡ get_or (f i) j d
    unfolding upto
    get_d_upto zero i j d h l = absurd (not-suc-le-zero h)
    get_d_upto (suc n) i j d h l =
        ⊎_elim
        (λ q.
        let e : k * i + j ≡ length (upto n f) + j = omega (arith, length_upto n, ap (λ (x : ℕ). k * x) q) in
        ap (λ (x : ℕ). get_or (upto n f ++ f n) x d) e
        ∙ get_or-append-add (upto n f) (f n) j d
        ∙ ap (λ (m : ℕ). get_or (f m) j d) (sym q))
        (λ q.
        let m : k * suc i ≤ k * n = mul-le-mul_left k q in
        let b : k * i + j < length (upto n f) = rw (length_upto n) (omega (arith, rw mul-suc at m)) in
        get_or-append (upto n f) (f n) d (k * i + j) b ∙ get_d_upto n i j d q l)
        (eq-or-lt_of_le (le_of_suc-le-suc h))

-- a table has n entries, entry i is f i, and a list of n entries that are those is the table
module _ {A : Type 0} (n : ℕ) (f : ℕ → A) where
  pub length_table : length (table n f) ≡ n
  unfolding table
  length_table = length_upto 1 (λ k. f k ∷ []) (λ m. refl) n ∙ omega arith

  pub get_d_table : (i : ℕ) (d : A) → i < n → get_or (table n f) i d ≡ f i
  unfolding table
  get_d_table i d h =
      let e : i ≡ 1 * i + 0 = omega arith in
      ap (λ (x : ℕ). get_or (table n f) x d) e ∙ get_d_upto 1 (λ k. f k ∷ []) (λ m. refl) n i 0 d h (omega arith)

  pub is_table : (d : A) (l : List A) → length l ≡ n → ((i : ℕ) → i < n → get_or l i d ≡ f i) → l ≡ table n f
  is_table d l e g =
      ext_get_or d l (table n f) (e ∙ sym length_table)
      (λ i h. let b : i < n = omega arith in g i b ∙ sym (get_d_table i d b))

-- a table's rule is one test that antt computes over all of it
pub tested_table : (n : ℕ) (f : ℕ → ℕ) (t : List ℕ) → length t ≡ n → every_at (λ i x. eqb x (f i)) 0 t ≡ true → t ≡ table n f
tested_table n f t long ok =
    is_table n f 0 t long (λ i h. eqb-true (get_or t i 0) (f i) (at_entry (λ k x. eqb x (f k)) t ok i (rw long h)))

-- a list of two pieces: what stands in the first, and what stands in the second
module _ {A : Type 0} (p q : List A) (n i : ℕ) (d : A) (sized : length p ≡ n) where
  pub get_d_first : i < n → get_or (p ++ q) i d ≡ get_or p i d
  get_d_first h = get_or-append p q d i (rw sized h)

  pub get_d_second : get_or (p ++ q) (n + i) d ≡ get_or q i d
  get_d_second = ap (λ (k : ℕ). get_or (p ++ q) (k + i) d) (sym sized) ∙ get_or-append-add p q i d

module _ {A : Type 0} where
  -- pieces that are the same one by one
  pub upto_same : (n : ℕ) (f g : ℕ → List A) → ((i : ℕ) → i < n → f i ≡ g i) → upto n f ≡ upto n g
  unfolding upto
  upto_same zero f g e = refl
  upto_same (suc n) f g e = rw (upto_same n f g (λ i h. e i (omega arith)), e n (omega arith))

  -- one piece again and again, so many at a time
  pub upto_again : (h n : ℕ) (p : List A) → upto n (λ _. upto h (λ _. p)) ≡ upto (h * n) (λ _. p)
  unfolding upto
  upto_again h zero p = rw mul-zero
  upto_again h (suc n) p =
      ap (λ (l : List A). l ++ upto h (λ _. p)) (upto_again h n p) ∙ upto_split (h * n) h (λ _. p) ∙ rw mul-suc

  -- entries that are the same one by one
  pub table_same : (n : ℕ) (f g : ℕ → A) → ((i : ℕ) → i < n → f i ≡ g i) → table n f ≡ table n g
  unfolding table
  table_same n f g e = upto_same n (λ k. f k ∷ []) (λ k. g k ∷ []) (λ i h. ap (λ (a : A). a ∷ []) (e i h))

  -- an even number of entries, two at a time
  pub table_pairs : (n : ℕ) (f : ℕ → A) → table (2 * n) f ≡ upto n (λ k. f (2 * k) ∷ f (2 * k + 1) ∷ [])
  unfolding table upto
  table_pairs zero f = refl
  table_pairs (suc n) f =
      let two : 2 * suc n ≡ suc (suc (2 * n)) = omega arith in
      rw (two, add-one, ← (table_pairs n f)) (append_assoc (table (2 * n) f) (f (2 * n) ∷ []) (f (suc (2 * n)) ∷ []))

  -- one entry again and again
  pub replicate_table : (n : ℕ) (a : A) → replicate n a ≡ table n (λ _. a)
  replicate_table n a = is_table n (λ _. a) a (replicate n a) (length-replicate n a) (λ i h. get_or-replicate n i a a h)
