-- The images that streams carry of the test picture, row by row: what the loop puts for two streams at a time, and which sample stands where.
-- Assumes nothing.
use mathlib.Core.Path.{◌≡◌, refl, sym, ap, ap₂, ◌∙◌}
use mathlib.Core.Bool.{true, false}
use mathlib.Core.List.{List, ◌++◌, append_assoc}
use mathlib.Core.Option.{none, some}
use Prim.Native.Nat.{ℕ, suc, ◌+◌, ◌-◌, ◌*◌, ◌/◌, ◌%◌, ◌≤◌, ◌<◌}
use native.Mathlib.Nat.{add-zero}
use native.Mathlib.Omega.{arith}
use lib.Dec.{eqb}
use lib.ListN.{length, get_or}
use lib.Seq.{sets}
use Rattle.std.specs.Prelude.{Option, Some, None}
use Rattle.ground.specs.Written.{upto}
use Rattle.ground.proofs.Answers.{when_given}
use Rattle.ground.proofs.Cases.{on_test}
use Rattle.ground.proofs.Ranges.{is_within}
use Rattle.ground.proofs.Writing.{sets_append, sets_whole, length_upto, get_d_upto, get_d_table, upto_same}
use Rattle.line.specs.declared.picture.PictureLine.{PictureLine}
use Rattle.line.specs.Picture.{basic_line_of, number_carried}
use Rattle.line.specs.Stream.{is_active}
use Rattle.picture.specs.Division.{h, w, line_from, sample_from}
use Rattle.picture.specs.Place.{picture_line_on}
use Rattle.picture.proofs.Places.{nothing_on, line_on}
use Rattle.dividing.specs.Row.{divided, split_first, split_second}
use Rattle.dividing.proofs.Lengths.{splits}
use Rattle.dividing.proofs.Rows.{length_divided, sample_divided}
use Rattle.span.specs.declared.format.Format.{Format}
use Rattle.span.specs.Format.{shape_of, streams, samples_in}
use Rattle.span.specs.Image.{image_of}
use Rattle.span.proofs.Formats.{small}
use Rattle.test_picture.specs.TestPicture.{code_step, sample_by, row_in_steps, row_at, image_from, image_row, test_samples}

-- a row divided by the library's call, and its two parts put one after the other
module _ (whole first second : List ℕ) {row even odd : List ℕ} (is : row ≡ whole) (long : length whole ≡ 3840) (p : length first ≡ 1920)
    (q : length second ≡ 1920) (one : even ≡ split_first row first second) (other : odd ≡ split_second row first second) where
  first_part : even ≡ divided 0 1920 whole
  first_part =
      one ∙ ap (λ (l : List ℕ). split_first l first second) is ∙ sym (when_given first (divided 0 1920 whole) (splits whole first second long p q))

  second_part : odd ≡ divided 1 1920 whole
  second_part =
      other ∙ ap (λ (l : List ℕ). split_second l first second) is ∙ sym (when_given second (divided 1 1920 whole) (splits whole first second long p q))

  pub both_put :
      (o : List ℕ) {o₁ o₂ : List ℕ} (at : ℕ) → o₁ ≡ sets o at even → o₂ ≡ sets o₁ (at + 1920) odd
      → o₂ ≡ sets o at (divided 0 1920 whole ++ divided 1 1920 whole)
  both_put o at x y =
      y
      ∙ ap (λ (l : List ℕ). sets l (at + 1920) odd) x
      ∙ sets_append o even odd at (at + 1920) (omega (arith, ap length first_part, length_divided whole 0 1920))
      ∙ ap₂ (λ (l m : List ℕ). sets o at (l ++ m)) first_part second_part

-- what stream t carries of line l of the basic images: the even samples of a row, or the odd ones
abbrev pub carried : ℕ → ℕ → ℕ → List ℕ
carried step l t = divided (t % 2) 1920 (row_in_steps step (2 * l - 1 + t / 2))

module _ (step l : ℕ) where
  sized : (t : ℕ) → length (carried step l t) ≡ 1920
  sized t = length_divided (row_in_steps step (2 * l - 1 + t / 2)) (t % 2) 1920

  pub none_carried : (o : List ℕ) → o ≡ sets o 0 (upto (2 * 0) (carried step l))
  unfolding upto
  none_carried o = refl

  -- the images of row i, on streams 2i and 2i + 1
  abbrev pub images : ℕ → List ℕ
  images i = divided 0 1920 (row_in_steps step (2 * l - 1 + i)) ++ divided 1 1920 (row_in_steps step (2 * l - 1 + i))

  two_more : (i : ℕ) → upto (2 * i) (carried step l) ++ images i ≡ upto (2 * (i + 1)) (carried step l)
  unfolding upto
  two_more i =
      let two : 2 * (i + 1) ≡ suc (suc (2 * i)) = omega arith in
      let even : 2 * i % 2 ≡ 0 = omega arith in
      let odd : suc (2 * i) % 2 ≡ 1 = omega arith in
      let first : 2 * i / 2 ≡ i = omega arith in
      let second : suc (2 * i) / 2 ≡ i = omega arith in
      rw (two, even, odd, first, second) (sym (append_assoc (upto (2 * i) (carried step l)) _ _))

  pub row_carried :
      (o : List ℕ) (i : ℕ)
      → sets (sets o 0 (upto (2 * i) (carried step l))) (3840 * i) (images i) ≡ sets o 0 (upto (2 * (i + 1)) (carried step l))
  row_carried o i =
      sets_append o (upto (2 * i) (carried step l)) (images i) 0 (3840 * i)
      (omega (arith, length_upto 1920 (carried step l) sized (2 * i)))
      ∙ ap (sets o 0) (two_more i)

  pub all_carried : (o : List ℕ) (s : ℕ) → length o ≡ 1920 * s → sets o 0 (upto s (carried step l)) ≡ upto s (carried step l)
  all_carried o s e = sets_whole o (upto s (carried step l)) (length_upto 1920 (carried step l) sized s ∙ sym e)

-- a step is one code or more
pub some_step : (f : Format) → 1 ≤ code_step f
some_step f = on_test (eqb f.depth 10) (λ b. simp b (omega arith)) (λ b. simp b (omega arith))

-- the link of the first images carries image t + 1 on stream t, and has four streams at most
image_is : (f : Format) (t : ℕ) → image_of f 1 t ≡ t + 1
unfolding image_of
image_is f t = on_test (eqb (shape_of f).stream_pairs 1) (λ b. simp b (omega arith)) (λ b. simp b)

few_streams : (f : Format) (t : ℕ) → t < streams (shape_of f) → t < 4
few_streams f t h = omega (arith, (small f refl).half)

-- the lines of the picture that an active line carries: the first for images 1 and 2, the second for images 3 and 4
pub line_at : (n : ℕ) → is_active n ≡ true → (t : ℕ) → t < 4 → picture_line_on n (t + 1) ≡ some (2 * (n - 41) - 1 + t / 2)
line_at n active t few =
    let basic : basic_line_of n ≡ some (n - 41) = simp active in
    sym (line_on n (t + 1) (n - 41) basic (omega arith) (omega arith) (omega arith))

-- what the library's call answers for the images of row i: a line on an active line, and nothing on any other
module _ (n i : ℕ) (few : i < 2) (r : Option PictureLine) (e : number_carried r ≡ picture_line_on n (2 * i + 1)) where
  row_there : is_active n ≡ true → number_carried r ≡ some (2 * (n - 41) - 1 + i)
  row_there active =
      let half : 2 * i / 2 ≡ i = omega arith in
      e ∙ line_at n active (2 * i) (omega arith) ∙ ap (λ (k : ℕ). some (2 * (n - 41) - 1 + k)) half

  none_there : is_active n ≡ false → number_carried r ≡ none
  none_there t = let nothing : basic_line_of n ≡ none = simp t in e ∙ nothing_on n (2 * i + 1) nothing

  pub row_active : {line : PictureLine} → r ≡ Some line → is_active n ≡ true
  row_active is =
      on_test (is_active n) (λ t. t)
      (λ t. let z : ◌≡◌ {A = ℕ} 0 1 = cc (sym (ap number_carried is) ∙ none_there t) in absurd (omega arith))

  pub row_line : {line : PictureLine} → r ≡ Some line → line.0 ≡ 2 * (n - 41) - 1 + i
  row_line is = cc (sym (ap number_carried is) ∙ row_there (row_active is))

  pub row_blanking : r ≡ None → is_active n ≡ false
  row_blanking is =
      on_test (is_active n)
      (λ t. let z : ◌≡◌ {A = ℕ} 0 1 = cc (sym (ap number_carried is) ∙ row_there t) in absurd (omega arith))
      (λ t. t)

module _ (f : Format) (n : ℕ) (active : is_active n ≡ true) where
  module _ (t : ℕ) (few : t < streams (shape_of f)) where
    side_is : w (image_of f 1 t) ≡ t % 2
    unfolding w
    side_is = rw (image_is f t) (omega arith)

    there : picture_line_on n (image_of f 1 t) ≡ some (2 * (n - 41) - 1 + t / 2)
    there = ap (picture_line_on n) (image_is f t) ∙ line_at n active t (few_streams f t few)

    row_is : image_row f n t ≡ carried (code_step f) (n - 41) t
    row_is =
        ap (image_from f (image_of f 1 t)) there
        ∙ ap (λ (c : ℕ). divided c 1920 (row_at f (2 * (n - 41) - 1 + t / 2))) side_is

  samples_are : test_samples f n ≡ upto (streams (shape_of f)) (carried (code_step f) (n - 41))
  unfolding test_samples
  samples_are = simp active (upto_same (streams (shape_of f)) (image_row f n) (carried (code_step f) (n - 41)) row_is)

  pub are_carried : upto (streams (shape_of f)) (carried (code_step f) (n - 41)) ≡ test_samples f n
  are_carried = sym samples_are

  pub picture_long : length (test_samples f n) ≡ samples_in (shape_of f)
  picture_long =
      ap length samples_are ∙ length_upto 1920 (carried (code_step f) (n - 41)) (sized (code_step f) (n - 41)) (streams (shape_of f))

  pub sample_at :
      (t j : ℕ) → t < streams (shape_of f) → j < 1920
      → get_or (test_samples f n) (1920 * t + j) 0 ≡ sample_by (code_step f) (2 * (n - 41) - 1 + t / 2) (2 * j + t % 2)
  unfolding row_in_steps
  sample_at t j p q =
      let line = 2 * (n - 41) - 1 + t / 2 in
      let inside : 2 * j + t % 2 < 3840 = omega arith in
      ap (λ (l : List ℕ). get_or l (1920 * t + j) 0) samples_are
      ∙ get_d_upto 1920 (carried (code_step f) (n - 41)) (sized (code_step f) (n - 41)) (streams (shape_of f)) t j 0 p q
      ∙ sample_divided (row_at f line) (t % 2) 1920 j q
      ∙ get_d_table 3840 (sample_by (code_step f) line) (2 * j + t % 2) 0 inside

-- sample j of stream t is that of its image: document 01's line 2l - 1 + h, sample 2j + w
pub sample_is :
    (f : Format) (l : ℕ) → 1 ≤ l → l ≤ 1080 → (t j : ℕ) → t < streams (shape_of f) → j < 1920
    → get_or (test_samples f (l + 41)) (1920 * t + j) 0 ≡ sample_by (code_step f) (line_from (image_of f 1 t) l) (sample_from (image_of f 1 t) j)
unfolding line_from sample_from h w
sample_is f l p q t j few inside =
    let active : is_active (l + 41) ≡ true = is_within 42 1121 (l + 41) (omega arith) (omega arith) in
    let line : 2 * (l + 41 - 41) - 1 + t / 2 ≡ line_from (image_of f 1 t) l = omega (arith, image_is f t) in
    let sample : 2 * j + t % 2 ≡ sample_from (image_of f 1 t) j = omega (arith, image_is f t) in
    sample_at f (l + 41) active t j few inside ∙ ap₂ (sample_by (code_step f)) line sample

-- line l of the basic images, on two streams: the images of picture line 2l - 1; on four: those of lines 2l - 1 and 2l
module _ (f : Format) (l : ℕ) (p : 1 ≤ l) (q : l ≤ 1080) where
  abbrev of : ℕ → List ℕ
  of line = divided 0 1920 (row_at f line) ++ divided 1 1920 (row_at f line)

  on_line : (half : ℕ) → (shape_of f).stream_pairs ≡ half → test_samples f (l + 41) ≡ upto (2 * half) (carried (code_step f) l)
  on_line half e =
      let active : is_active (l + 41) ≡ true = is_within 42 1121 (l + 41) (omega arith) (omega arith) in
      let basic : l + 41 - 41 ≡ l = omega arith in
      sym (are_carried f (l + 41) active) ∙ ap₂ (λ (h k : ℕ). upto (2 * h) (carried (code_step f) k)) e basic

  one_row : upto (2 * 1) (carried (code_step f) l) ≡ of (2 * l - 1)
  unfolding upto
  one_row = sym (two_more (code_step f) l 0) ∙ ap of (add-zero (2 * l - 1))

  pub on_two : (shape_of f).stream_pairs ≡ 1 → test_samples f (l + 41) ≡ of (2 * l - 1)
  on_two e = on_line 1 e ∙ one_row

  pub on_four : (shape_of f).stream_pairs ≡ 2 → test_samples f (l + 41) ≡ of (2 * l - 1) ++ of (2 * l)
  on_four e =
      let even : 2 * l - 1 + 1 ≡ 2 * l = omega arith in
      on_line 2 e ∙ sym (two_more (code_step f) l 1) ∙ ap₂ (λ (a : List ℕ) (n : ℕ). a ++ of n) one_row even
