-- The places of a 4K picture, in the paper's own numbers: every sample has one, it is told from it again, and nothing else has one.
-- Assumes nothing.
use mathlib.Core.Path.{◌≡◌, refl, sym, ap, ◌∙◌}
use mathlib.Core.Bool.{true, false, and-false, ◌&&◌}
use mathlib.Core.List.{[], ◌∷◌}
use mathlib.Core.Option.{none, some}
use Prim.Native.Nat.{ℕ, ◌+◌, ◌-◌, ◌*◌, ◌/◌, ◌≤◌}
use native.Mathlib.Omega.{arith}
use borrow.Author.Tests.{le-leb, leb-true}
use Rattle.ground.specs.Answer.{refused, given, unless}
use Rattle.ground.specs.Range.{within}
use Rattle.ground.proofs.Answers.{given_is}
use Rattle.ground.proofs.Cases.{on_test}
use Rattle.ground.proofs.Ranges.{is_within, not_within, from_low, to_high, outside}
use Rattle.line.specs.Picture.{stream_line_of, basic_line_of}
use Rattle.line.proofs.Travel.{travels, travels_told, carries, carries_nothing}
use Rattle.picture.specs.declared.place.Place.{Place}
use Rattle.picture.specs.Division.{image_at, image_line, image_sample, line_from, sample_from, h, w}
use Rattle.picture.specs.Place.{is_picture_line, is_sample, carried, place_of, placed_of, is_image, picture_line_on}
use Rattle.picture.proofs.Steps.{one_of_four, line_back_lem, step_again}

-- document 01's two places
pub place_of_1_1 :
    placed_of 1 1 ≡ given record { image = 2; line = record { 0 = 1 }; stream = record { 0 = 42 }; sample = 0 }
unfolding within image_at image_line image_sample
place_of_1_1 = refl

pub place_of_2160_3839 :
    placed_of 2160 3839 ≡ given record { image = 4; line = record { 0 = 1080 }; stream = record { 0 = 1121 }; sample = 1919 }
unfolding within image_at image_line image_sample
place_of_2160_3839 = refl

-- a sample of the picture is not refused
pub placed : (line sample : ℕ) → 1 ≤ line → line ≤ 2160 → sample ≤ 3839 → placed_of line sample ≡ given (place_of line sample)
placed line sample p q r =
    let l : is_picture_line line ≡ true = is_within 1 2160 line p q in
    let s : is_sample sample ≡ true = le-leb sample 3839 r in
    simp (l, s)

-- and its place is one of a basic image
pub basic_line : (line : ℕ) → 1 ≤ line → line ≤ 2160 → (1 ≤ image_line line) × (image_line line ≤ 1080)
unfolding image_line
basic_line line p q = (omega arith, omega arith)

pub basic_sample : (sample : ℕ) → sample ≤ 3839 → image_sample sample ≤ 1919
unfolding image_sample
basic_sample sample r = omega arith

-- that is so exactly if it has a line there that travels
pub travels_if : (line n : ℕ) → stream_line_of (image_line line) ≡ some n → (1 ≤ line) × ((line ≤ 2160) × (image_line line + 41 ≡ n))
unfolding image_line
travels_if line n e =
    let (low, (high, is)) = travels_told (image_line line) n e in
    (omega arith, (omega arith, is))

pub outside_if : (line : ℕ) → stream_line_of (image_line line) ≡ none → 1 ≤ line → line ≤ 2160 → ⊥
outside_if line e p q =
    let basic = basic_line line p q in
    let z : ◌≡◌ {A = ℕ} 0 1 = cc (sym e ∙ travels (image_line line) basic.0 basic.1) in
    omega arith

-- whatever else is asked for is refused
pub meets_2 : (line sample : ℕ) → (1 ≤ line → line ≤ 2160 → sample ≤ 3839 → ⊥) → placed_of line sample ≡ refused 2 0
meets_2 line sample x =
    on_test (is_sample sample)
    (λ s.
    let l : is_picture_line line ≡ false = not_within 1 2160 line (λ p q. x p q (leb-true sample 3839 s)) in
    simp l)
    (λ s. rw (s, and-false))

-- line l, sample j of basic image u is asked for where document 01 says that it stands, and found: on stream line l + 41
pub found :
    (u l j : ℕ)
    → 1 ≤ u
    → u ≤ 4
    → 1 ≤ l
    → l ≤ 1080
    → j ≤ 1919
    → placed_of (line_from u l) (sample_from u j)
    ≡ given record { image = u; line = record { 0 = l }; stream = record { 0 = l + 41 }; sample = j }
unfolding line_from sample_from h w
found u l j p q r s t =
    placed (line_from u l) (sample_from u j) (omega arith) (omega arith) (omega arith)
    ∙ ap (λ x. given (carried x)) (step_again u l j p q r)

-- what a place that is given says of the line
module _ (line sample : ℕ) (p : Place) (e : placed_of line sample ≡ given p) where
  pub placed_told : (1 ≤ line) × ((line ≤ 2160) × (place_of line sample ≡ p))
  placed_told =
      let is : place_of line sample ≡ p = given_is (unless 2 (is_picture_line line && is_sample sample) ∷ []) (place_of line sample) p e in
      on_test (is_picture_line line)
      (λ t. (from_low 1 2160 line t, (to_high 1 2160 line t, is)))
      (λ t.
      let z : ◌≡◌ {A = ℕ} 0 1 = cc (sym (meets_2 line sample (λ a b c. outside 1 2160 line t a b)) ∙ e) in
      absurd (omega arith))

  -- its line travels on its stream line
  pub place_travels : stream_line_of p.line.0 ≡ some p.stream.0
  place_travels =
      let (low, (high, is)) = placed_told in
      let basic = basic_line line low high in
      ap (λ (q : Place). stream_line_of q.line.0) (sym is)
      ∙ travels (image_line line) basic.0 basic.1
      ∙ ap (λ (q : Place). some q.stream.0) is

-- ---- the way back

module _ (n u : ℕ) where
  pub nothing_on : basic_line_of n ≡ none → picture_line_on n u ≡ none
  nothing_on e = on_test (is_image u) (λ t. simp (t, e)) (λ t. simp t)

  pub no_line_on : (42 ≤ n → n ≤ 1121 → 1 ≤ u → u ≤ 4 → ⊥) → picture_line_on n u ≡ none
  no_line_on x =
      on_test (is_image u)
      (λ t. nothing_on (carries_nothing n (λ p q. x p q (from_low 1 4 u t) (to_high 1 4 u t))))
      (λ t. simp t)

  pub line_on : (l : ℕ) → basic_line_of n ≡ some l → 1 ≤ u → u ≤ 4 → {line : ℕ} → line ≡ 2 * l - 1 + (u - 1) / 2 → some line ≡ picture_line_on n u
  unfolding line_from h
  line_on l e p q {line} is = simp (is_within 1 4 u p q, e, is)

-- on stream line l + 41
pub line_on_active : (l u : ℕ) → 1 ≤ l → l ≤ 1080 → 1 ≤ u → u ≤ 4 → picture_line_on (l + 41) u ≡ some (2 * l - 1 + h u)
unfolding h
line_on_active l u p q r s = sym (line_on (l + 41) u l (carries l p q) r s refl)

-- from a place
pub line_of_place : (line sample : ℕ) (p : Place) → placed_of line sample ≡ given p → picture_line_on p.stream.0 p.image ≡ some line
unfolding line_from
line_of_place line sample p e =
    let (low, (high, is)) = placed_told line sample p e in
    let basic = basic_line line low high in
    let four = one_of_four line sample in
    ap (λ (q : Place). picture_line_on q.stream.0 q.image) (sym is)
    ∙ line_on_active (image_line line) (image_at line sample) basic.0 basic.1 four.0 four.1
    ∙ ap some (line_back_lem line sample low)
