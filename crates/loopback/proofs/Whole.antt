-- The frame as a whole: the file is the picture line by line, and the flags are those of its lines.
-- Assumes nothing.
use mathlib.Core.Path.{◌≡◌, refl, sym, ap, ap₂, ◌∙◌}
use mathlib.Core.Bool.{Bool, true, false, cond}
use mathlib.Core.List.{List, [], ◌∷◌, ◌++◌, append-nil}
use Prim.Native.Nat.{ℕ, zero, suc, ◌+◌, ◌-◌, ◌*◌, ◌/◌, ◌%◌, ◌≤◌, ◌<◌}
use native.Mathlib.Nat.{mul-le-mul_left}
use native.Mathlib.Omega.{arith}
use lib.ListN.{length, take, drop, replicate, length-drop, replicate-append-replicate}
use lib.Seq.{length-take-le, get_or-take, get_or-drop, ext_get_or}
use Rattle.ground.specs.Written.{upto, table}
use Rattle.ground.proofs.Ranges.{is_within, not_within}
use Rattle.ground.proofs.Writing.{upto_split, upto_same, length_upto, get_d_upto}
use Rattle.line.specs.Stream.{is_active}
use Rattle.test_picture.specs.TestPicture.{test_row}
use Rattle.rig.specs.declared.knock.Knock.{Knock}
use Rattle.rig.specs.Frame.{line_of_piece}
use Rattle.rig.specs.Knock.{lost}
use Rattle.rig.specs.Piece.{black, rows_at, picture_in, heard_in}
use Rattle.rig.proofs.Outcomes.{sent_on_active, length_rows}
use Rattle.loopback.specs.File.{high_first, header, rows_of_line, piece_bytes, file_of, row_shown}
use Rattle.loopback.specs.Frame.{heard_of}

-- ---- pieces one after the other

module _ {A : Type 0} where
  -- n groups of m pieces
  grouped : (m n : ℕ) (h : ℕ → List A) → upto n (λ p. upto m (λ i. h (m * p + i))) ≡ upto (m * n) h
  unfolding upto
  grouped m zero h = let q : 0 ≡ m * 0 = omega arith in ap (λ (j : ℕ). upto j h) q
  grouped m (suc n) h =
      let q : m * n + m ≡ m * suc n = omega arith in
      ap (λ (l : List A). l ++ upto m (λ i. h (m * n + i))) (grouped m n h) ∙ upto_split (m * n) m h ∙ ap (λ (j : ℕ). upto j h) q

  empty : (n : ℕ) (f : ℕ → List A) → ((i : ℕ) → i < n → f i ≡ []) → upto n f ≡ []
  unfolding upto
  empty zero f each = refl
  empty (suc n) f each = ap₂ (λ (x y : List A). x ++ y) (empty n f (λ i h. each i (omega arith))) (each n (omega arith))

-- piece i of pieces that are so long
part_of : (size n i : ℕ) (f : ℕ → List ℕ) → ((m : ℕ) → length (f m) ≡ size) → i < n → take size (drop (size * i) (upto n f)) ≡ f i
part_of size n i f sized h =
    let all = upto n f in
    let long : length all ≡ size * n = length_upto size f sized n in
    let enough : size ≤ length (drop (size * i) all) = rw length-drop (omega (arith, mul-le-mul_left size h)) in
    let much : length (take size (drop (size * i) all)) ≡ size = length-take-le size (drop (size * i) all) enough in
    ext_get_or 0 (take size (drop (size * i) all)) (f i) (much ∙ sym (sized i))
    (λ j b.
    let p : j < size = omega arith in
    get_or-take size (drop (size * i) all) j 0 p ∙ get_or-drop (size * i) all j 0 ∙ get_d_upto size f sized n i j 0 h p)

-- ---- the flags

pub heard_is : (k : Knock) → heard_of k ≡ table 1125 (λ i. cond (lost k (i + 1)) 0 1)
unfolding heard_in table
heard_is k =
    upto_same 225 (heard_in k) (λ p. upto 5 (λ i. flag (5 * p + i)))
    (λ p b. upto_same 5 (λ i. cond (lost k (line_of_piece p i)) 0 1 ∷ []) (λ i. flag (5 * p + i)) (λ i h. by_line p i))
    ∙ grouped 5 225 flag
  where
    flag : ℕ → List ℕ
    flag j = cond (lost k (j + 1)) 0 1 ∷ []

    by_line : (p i : ℕ) → ◌≡◌ {A = List ℕ} (cond (lost k (line_of_piece p i)) 0 1 ∷ []) (cond (lost k (5 * p + i + 1)) 0 1 ∷ [])
    by_line p i = let q : line_of_piece p i ≡ 5 * p + i + 1 = omega arith in ap (λ (n : ℕ). cond (lost k n) 0 1 ∷ []) q

-- ---- the file

bytes_append : (a b : List ℕ) → high_first (a ++ b) ≡ high_first a ++ high_first b
unfolding high_first
bytes_append [] b = refl
bytes_append (w ∷ a) b = ap (λ (l : List ℕ). w / 256 ∷ w % 256 ∷ l) (bytes_append a b)

-- two rows, which are black or not together
two_rows : (b : Bool) (odd even : List ℕ)
    → high_first (cond b black (odd ++ even)) ≡ high_first (cond b (replicate 3840 0) odd) ++ high_first (cond b (replicate 3840 0) even)
two_rows true odd even =
    ap high_first (sym (replicate-append-replicate 3840 3840 0)) ∙ bytes_append (replicate 3840 0) (replicate 3840 0)
two_rows false odd even = bytes_append odd even

module _ (k : Knock) where
  -- what is written of stream line n, and of picture line i + 1
  abbrev line_bytes : ℕ → List ℕ
  line_bytes n = cond (is_active n) (high_first (rows_at k n)) []

  abbrev row_bytes : ℕ → List ℕ
  row_bytes i = high_first (row_shown k (i + 1))

  of_blanking : (n : ℕ) → (42 ≤ n → n ≤ 1121 → ⊥) → line_bytes n ≡ []
  of_blanking n x = let t : is_active n ≡ false = not_within 42 1121 n x in ap (λ (b : Bool). cond b (high_first (rows_at k n)) []) t

  -- line l + 42 carries picture lines 2l + 1 and 2l + 2
  of_active : (l : ℕ) → l < 1080 → line_bytes (41 + l + 1) ≡ upto 2 (λ i. row_bytes (2 * l + i))
  unfolding upto
  of_active l h =
      let n = 41 + l + 1 in
      let t : is_active n ≡ true = is_within 42 1121 n (omega arith) (omega arith) in
      let odd : 2 * (l + 1) - 1 ≡ 2 * l + 0 + 1 = omega arith in
      let even : 2 * (l + 1) ≡ 2 * l + 1 + 1 = omega arith in
      let first : n ≡ 41 + (2 * l + 0 + 1 + 1) / 2 = omega arith in
      let second : n ≡ 41 + (2 * l + 1 + 1 + 1) / 2 = omega arith in
      ap (λ (b : Bool). cond b (high_first (rows_at k n)) []) t
      ∙ ap (λ (rows : List ℕ). high_first (cond (lost k n) black rows)) (sent_on_active (l + 1) n (omega arith) (omega arith) (omega arith))
      ∙ two_rows (lost k n) (test_row (2 * (l + 1) - 1)) (test_row (2 * (l + 1)))
      ∙ ap₂ (λ (x y : List ℕ). x ++ y)
      (ap₂ (λ (m y : ℕ). high_first (cond (lost k m) (replicate 3840 0) (test_row y))) first odd)
      (ap₂ (λ (m y : ℕ). high_first (cond (lost k m) (replicate 3840 0) (test_row y))) second even)

  -- the bytes of a piece are those of its lines
  of_piece : (piece : ℕ) → piece_bytes piece (picture_in k piece) ≡ upto 5 (λ i. line_bytes (5 * piece + i + 1))
  unfolding piece_bytes picture_in
  of_piece piece =
      upto_same 5 _ (λ i. line_bytes (5 * piece + i + 1))
      (λ i h.
      let rows : rows_of_line (picture_in k piece) i ≡ rows_at k (line_of_piece piece i) =
      part_of 7680 5 i (λ j. rows_at k (line_of_piece piece j)) (λ j. length_rows k (line_of_piece piece j)) h in
      let q : line_of_piece piece i ≡ 5 * piece + i + 1 = omega arith in
      ap (λ (l : List ℕ). cond (is_active (line_of_piece piece i)) (high_first l) []) rows ∙ ap line_bytes q)

  all_lines : upto 1125 (λ j. line_bytes (j + 1)) ≡ upto 1080 (λ l. line_bytes (41 + l + 1))
  all_lines =
      sym (upto_split 41 1084 (λ j. line_bytes (j + 1)))
      ∙ ap₂ (λ (x y : List ℕ). x ++ y)
      (empty 41 (λ j. line_bytes (j + 1)) (λ j h. of_blanking (j + 1) (λ p q. omega arith)))
      (sym (upto_split 1080 4 (λ j. line_bytes (41 + j + 1)))
      ∙ ap (λ (l : List ℕ). upto 1080 (λ j. line_bytes (41 + j + 1)) ++ l)
      (empty 4 (λ j. line_bytes (41 + (1080 + j) + 1)) (λ j h. of_blanking (41 + (1080 + j) + 1) (λ p q. omega arith)))
      ∙ append-nil (upto 1080 (λ j. line_bytes (41 + j + 1))))

  -- the file is the header and 2,160 rows, each two bytes a word
  pub file_is : file_of k ≡ header ++ upto 2160 (λ i. high_first (row_shown k (i + 1)))
  file_is =
      ap (λ (l : List ℕ). header ++ l)
      (upto_same 225 (λ piece. piece_bytes piece (picture_in k piece)) (λ p. upto 5 (λ i. line_bytes (5 * p + i + 1))) (λ p h. of_piece p)
      ∙ grouped 5 225 (λ j. line_bytes (j + 1))
      ∙ all_lines
      ∙ upto_same 1080 (λ l. line_bytes (41 + l + 1)) (λ l. upto 2 (λ i. row_bytes (2 * l + i))) of_active
      ∙ grouped 2 1080 row_bytes)
