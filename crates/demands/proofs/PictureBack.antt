-- Rows of a picture that are divided, sent, and joined again: the call is a good one, the streams carry the images in their order, and what
-- is joined is the words of the rows.
-- Assumes nothing.
use mathlib.Core.Path.{◌≡◌, refl, sym, ap, ap₂, subst, ◌∙◌}
use mathlib.Core.Bool.{true, cond}
use mathlib.Core.List.{List, ◌++◌, append_assoc}
use mathlib.Core.Logic.{⊎_elim}
use Prim.Native.Nat.{ℕ, zero, suc, ◌+◌, ◌-◌, ◌*◌, ◌/◌, ◌%◌, ◌≤◌, ◌<◌}
use native.Mathlib.Nat.{add-zero}
use native.Mathlib.Omega.{arith}
use lib.Dec.{eqb}
use lib.ListN.{length, get_or, drop, length-drop}
use lib.Seq.{length-take-le, get_or-take, get_or-drop, ext_get_or}
use borrow.Author.Tests.{eq-eqb, ne_eqb}
use Rattle.ground.specs.Answer.{given}
use Rattle.ground.specs.Written.{upto}
use Rattle.ground.proofs.Ranges.{is_within}
use Rattle.ground.proofs.Writing.{length_upto, get_d_upto, length_table, get_d_table, is_table}
use Rattle.line.specs.Stream.{is_active}
use Rattle.picture.specs.Division.{h, w, line_from, sample_from}
use Rattle.picture.specs.Place.{placed_of}
use Rattle.dividing.specs.Row.{divided, joined, stream_in}
use Rattle.picture.proofs.Places.{found}
use Rattle.dividing.specs.Inside.Row.{row_with}
use Rattle.dividing.proofs.Rows.{length_divided, sample_divided, length_joined, sample_joined}
use Rattle.span.specs.Content.{Content}
use Rattle.span.specs.declared.format.Format.{Format}
use Rattle.span.proofs.Formats.{two_streams, four_streams}
use Rattle.span.proofs.Numbers.{samples_told}
use Rattle.span.specs.Format.{shape_of, streams, samples_in}
use Rattle.span.specs.Image.{image_of}
use Rattle.span.specs.Sample.{sample_word}
use Rattle.span.specs.Stream.{Request, picture}
use Rattle.span.specs.Numbers.{IsFormat, Symbols}
use Rattle.request.specs.Send.{request}
use Rattle.request.specs.Laws.{GoodCall}
use Rattle.demands.specs.Form.{words_for}
use Rattle.demands.specs.Demands.{IsRow}

-- ---- one stream of all

pub length_picture : (f : Format) (a : Request) (t : ℕ) → length (picture f a t) ≡ 1920
unfolding picture
length_picture f a t = length_table 1920 (λ j. sample_word f a.line t (get_or a.samples (1920 * t + j) 0))

-- the part of all words that stands in the place of stream t is the words of stream t
pub sampled :
    (f : Format) (a : Request) (t : ℕ)
    → t < streams (shape_of f)
    → stream_in (upto (streams (shape_of f)) (picture f a)) t ≡ picture f a t
sampled f a t h =
    let s = streams (shape_of f) in
    let words = upto s (picture f a) in
    let long : length words ≡ 1920 * s = length_upto 1920 (picture f a) (length_picture f a) s in
    let fits : 1920 ≤ length (drop (1920 * t) words) = rw length-drop (omega arith) in
    let size : length (stream_in words t) ≡ 1920 = length-take-le 1920 (drop (1920 * t) words) fits in
    ext_get_or 0 (stream_in words t) (picture f a t) (size ∙ sym (length_picture f a t))
    (λ j b.
    let p : j < 1920 = omega arith in
    get_or-take 1920 (drop (1920 * t) words) j 0 p
    ∙ get_or-drop (1920 * t) words j 0
    ∙ get_d_upto 1920 (picture f a) (length_picture f a) s t j 0 h p)

-- ---- two streams joined

module _ (f : Format) (a : Request) (whole : List ℕ) (t : ℕ) (known : IsFormat f) (active : is_active a.line ≡ true) (r : IsRow f whole) where
  abbrev word_of : ℕ → ℕ
  word_of i = cond (eqb f.depth 10) (4 * get_or whole i 0) (get_or whole i 0)

  -- the word sent for a sample of the row is the row's word
  word_is : (s i : ℕ) → i < 3840 → sample_word f a.line s (get_or whole i 0) ≡ word_of i
  word_is s i h =
      ⊎_elim
      (λ e. let b = r.ten e i h in simp (active, eq-eqb f.depth 10 e) (omega arith))
      (λ e.
      let b = r.twelve e i h in
      let other : f.depth ≡ 10 → ⊥ = λ ten. omega arith in
      simp (active, ne_eqb f.depth 10 other) (omega arith))
      known.bits

  -- and it stands where the sample was asked to be sent
  carried : (s j i : ℕ) → j < 1920 → i < 3840 → get_or a.samples (1920 * s + j) 0 ≡ get_or whole i 0 → get_or (picture f a s) j 0 ≡ word_of i
  unfolding picture
  carried s j i p h e =
      get_d_table 1920 (λ k. sample_word f a.line s (get_or a.samples (1920 * s + k) 0)) j 0 p
      ∙ ap (sample_word f a.line s) e
      ∙ word_is s i h

  -- where stream t carries the even samples of a row, and the next stream the odd ones, the two joined are the row's words
  pub joined_back :
      ((j : ℕ) → j < 1920 → get_or a.samples (1920 * t + j) 0 ≡ get_or whole (2 * j) 0)
      → ((j : ℕ) → j < 1920 → get_or a.samples (1920 * (t + 1) + j) 0 ≡ get_or whole (2 * j + 1) 0)
      → joined 1920 (picture f a t) (picture f a (t + 1)) ≡ words_for f whole
  joined_back even odd =
      let size = length_joined (picture f a t) (picture f a (t + 1)) 1920 in
      is_table (length whole) word_of 0 both (size ∙ sym r.long)
      (λ i h. subst SameAt (omega arith) (same (i / 2) (i % 2) (omega (arith, r.long)) (omega arith)))
    where
      both : List ℕ
      both = joined 1920 (picture f a t) (picture f a (t + 1))

      SameAt : ℕ → Type 0
      SameAt i = get_or both i 0 ≡ word_of i

      by : (j w : ℕ) → j < 1920 → w < 2 → get_or (row_with w (picture f a t) (picture f a (t + 1))) j 0 ≡ word_of (2 * j + w)
      by j zero p q = carried t j (2 * j + 0) p (omega arith) (even j p ∙ ap (λ (i : ℕ). get_or whole i 0) (omega arith))
      by j (suc zero) p q = carried (t + 1) j (2 * j + 1) p (omega arith) (odd j p)
      by j (suc (suc w)) p q = absurd (omega arith)

      same : (j w : ℕ) → j < 1920 → w < 2 → SameAt (2 * j + w)
      same j w p q = sample_joined (picture f a t) (picture f a (t + 1)) 1920 j w p q ∙ by j w p q

-- ---- rows divided

-- what stream t carries of rows: the two images of the first row, then the two of the next
abbrev image : (ℕ → List ℕ) → ℕ → List ℕ
image rows t = divided (t % 2) 1920 (rows (t / 2))

-- samples that are h rows, divided, on the 2h streams of the format
record Carries (f : Format) (h : ℕ) (rows : ℕ → List ℕ) (samples : List ℕ) : Type 0 where
  half : (shape_of f).stream_pairs ≡ h
  made : samples ≡ upto (2 * h) (image rows)
  are : (u : ℕ) → u < h → IsRow f (rows u)

module _ {f : Format} {h : ℕ} {rows : ℕ → List ℕ} {samples : List ℕ} (c : Carries f h rows samples) where
  sized : (t : ℕ) → length (image rows t) ≡ 1920
  sized t = length_divided (rows (t / 2)) (t % 2) 1920

  long : length samples ≡ 1920 * (2 * h)
  long = ap length c.made ∙ length_upto 1920 (image rows) sized (2 * h)

  -- sample j of stream t
  sample_is : (t j : ℕ) → t < 2 * h → j < 1920 → get_or samples (1920 * t + j) 0 ≡ get_or (rows (t / 2)) (2 * j + t % 2) 0
  sample_is t j q p =
      ap (λ (l : List ℕ). get_or l (1920 * t + j) 0) c.made
      ∙ get_d_upto 1920 (image rows) sized (2 * h) t j 0 q p
      ∙ sample_divided (rows (t / 2)) (t % 2) 1920 j p

  -- sample j of image w of row u
  row_is : (u w j : ℕ) → u < h → w < 2 → j < 1920 → get_or samples (1920 * (2 * u + w) + j) 0 ≡ get_or (rows u) (2 * j + w) 0
  row_is u w j q v p =
      let r : (2 * u + w) / 2 ≡ u = omega arith in
      let i : (2 * u + w) % 2 ≡ w = omega arith in
      sample_is (2 * u + w) j (omega arith) p ∙ rw (r, i)

  -- what holds of every sample of every row holds of every sample
  each :
      (P : ℕ → Type 0)
      → ((u : ℕ) → u < h → (k : ℕ) → k < 3840 → P (get_or (rows u) k 0))
      → (i : ℕ)
      → i < length samples
      → P (get_or samples i 0)
  each P holds i b =
      let t = i / 1920 in
      let j = i % 1920 in
      let n : i < 1920 * (2 * h) = rw long at b in
      let e : 1920 * t + j ≡ i = omega arith in
      let s = sample_is t j (omega arith) (omega arith) in
      subst P (sym s ∙ ap (λ (k : ℕ). get_or samples k 0) e) (holds (t / 2) (omega arith) (2 * j + t % 2) (omega arith))

  -- the call that asks for these samples on stream line l + 41 is a good one
  good : (l room : ℕ) → IsFormat f → 1 ≤ l → l ≤ 1080 → Symbols f room → GoodCall f (l + 41) samples room
  good l room known p q symbols =
      let size : length samples ≡ samples_in (shape_of f) = long ∙ ap (λ (k : ℕ). 1920 * (2 * k)) (sym c.half) in
      record {
        format = known;
        samples = samples_told f (length samples) known size;
        symbols = symbols;
        first = omega arith;
        last = omega arith;
        ten = λ e a b. each (λ x. (4 ≤ x) × (x ≤ 1019)) (λ u v. (c.are u v).ten e);
        twelve = λ e a b. each (λ x. (16 ≤ x) × (x ≤ 4079)) (λ u v. (c.are u v).twelve e);
        blanking = λ x. absurd (x (omega arith) (omega arith));
      }

  -- and each row comes back by joining two of its streams
  back :
      (l : ℕ) (content : Content) (u : ℕ)
      → IsFormat f
      → 1 ≤ l
      → l ≤ 1080
      → u < h
      → let words = upto (streams (shape_of f)) (picture f (request (l + 41) content samples)) in
      joined 1920 (stream_in words (2 * u)) (stream_in words (2 * u + 1)) ≡ words_for f (rows u)
  back l content u known p q b =
      let a = request (l + 41) content samples in
      ap₂ (joined 1920) (sampled f a (2 * u) (omega (arith, c.half))) (sampled f a (2 * u + 1) (omega (arith, c.half)))
      ∙ joined_back f a (rows u) (2 * u) known (is_within 42 1121 (l + 41) (omega arith) (omega arith)) (c.are u b)
      (λ j v. simp add-zero at (row_is u 0 j b (omega arith) v))
      (λ j v. row_is u 1 j b (omega arith) v)

-- ---- the formats

-- the image that a stream carries, by half the number of streams
image_of_lem : (f : Format) (h pair t : ℕ) → (shape_of f).stream_pairs ≡ h → image_of f pair t ≡ cond (eqb h 1) (2 * (pair - 1) + t + 1) (t + 1)
unfolding image_of
image_of_lem f h pair t e = ap (λ (k : ℕ). cond (eqb k 1) (2 * (pair - 1) + t + 1) (t + 1)) e

-- a sample of the picture is found in image u, by its line and its sample there
in_image : (u line sample l j : ℕ) → line ≡ line_from u l → sample ≡ sample_from u j → 1 ≤ u → u ≤ 4 → 1 ≤ l → l ≤ 1080 → j ≤ 1919
    → placed_of line sample ≡ given (record { image = u; line = record { 0 = l }; stream = record { 0 = l + 41 }; sample = j })
in_image u line sample l j x y a b c d e = rw (x, y) (found u l j a b c d e)

-- images 1 and 2 of picture line 2l - 1, or 3 and 4 of line 2l
pub images_two :
    (f : Format) (pair l : ℕ)
    → IsFormat f
    → f.number ≤ 2
    → 1 ≤ pair
    → pair ≤ 2
    → 1 ≤ l
    → l ≤ 1080
    → (t j : ℕ)
    → t < 2
    → j ≤ 1919
    → placed_of (2 * l + pair - 2) (2 * j + t)
    ≡ given (record { image = image_of f pair t; line = record { 0 = l }; stream = record { 0 = l + 41 }; sample = j })
unfolding line_from sample_from h w
images_two f pair l known few a b c d t j x y =
    let u = 2 * (pair - 1) + t + 1 in
    rw (image_of_lem f 1 pair t (two_streams f known few))
    (in_image u (2 * l + pair - 2) (2 * j + t) l j (omega arith) (omega arith) (omega arith) (omega arith) c d y)

-- images 1 and 2 of picture line 2l - 1 on streams 0 and 1, and 3 and 4 of line 2l on streams 2 and 3
pub images_four :
    (f : Format) (l : ℕ)
    → f.number ≡ 3
    → 1 ≤ l
    → l ≤ 1080
    → (u t j : ℕ)
    → u < 2
    → t < 2
    → j ≤ 1919
    → placed_of (2 * l + u - 1) (2 * j + t)
    ≡ given (record { image = image_of f 1 (2 * u + t); line = record { 0 = l }; stream = record { 0 = l + 41 }; sample = j })
unfolding line_from sample_from h w
images_four f l three c d u t j x y z =
    let v = 2 * u + t + 1 in
    rw (image_of_lem f 2 1 (2 * u + t) (four_streams f three))
    (in_image v (2 * l + u - 1) (2 * j + t) l j (omega arith) (omega arith) (omega arith) (omega arith) c d z)

-- a row on two streams: the call is good, and the row comes back
module _ (f : Format) (whole : List ℕ) (l : ℕ) (known : IsFormat f) (n : f.number ≤ 2) (p : 1 ≤ l) (q : l ≤ 1080) (r : IsRow f whole) where
  abbrev of_two : List ℕ
  of_two = divided 0 1920 whole ++ divided 1 1920 whole

  carries_two : Carries f 1 (λ _. whole) of_two
  unfolding upto
  carries_two = record { half = two_streams f known n; made = refl; are = λ u b. r }

  pub two_good : (room : ℕ) → Symbols f room → GoodCall f (l + 41) of_two room
  two_good room symbols = good carries_two l room known p q symbols

  pub two_back :
      (content : Content)
      → let words = upto (streams (shape_of f)) (picture f (request (l + 41) content of_two)) in
      joined 1920 (stream_in words 0) (stream_in words 1) ≡ words_for f whole
  two_back content = back carries_two l content 0 known p q (omega arith)

-- two rows on four streams, likewise
module _ (f : Format) (odd even : List ℕ) (l : ℕ) (known : IsFormat f) (n : f.number ≡ 3) (p : 1 ≤ l) (q : l ≤ 1080)
    (r : IsRow f odd) (s : IsRow f even) where
  abbrev of_four : List ℕ
  of_four = divided 0 1920 odd ++ (divided 1 1920 odd ++ (divided 0 1920 even ++ divided 1 1920 even))

  are_rows_lem : (u : ℕ) → u < 2 → IsRow f (row_with u odd even)
  are_rows_lem zero b = r
  are_rows_lem (suc u) b = s

  carries_four : Carries f 2 (λ u. row_with u odd even) of_four
  unfolding upto
  carries_four = record { half = four_streams f n; made = simp append_assoc; are = are_rows_lem }

  pub four_good : (room : ℕ) → Symbols f room → GoodCall f (l + 41) of_four room
  four_good room symbols = good carries_four l room known p q symbols

  pub four_back :
      (content : Content)
      → let words = upto (streams (shape_of f)) (picture f (request (l + 41) content of_four)) in
      (joined 1920 (stream_in words 0) (stream_in words 1) ≡ words_for f odd)
      × (joined 1920 (stream_in words 2) (stream_in words 3) ≡ words_for f even)
  four_back content = (back carries_four l content 0 known p q (omega arith), back carries_four l content 1 known p q (omega arith))
