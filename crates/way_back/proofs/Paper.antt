-- The way back in document 01's own numerals.
-- Assumes nothing.
use mathlib.Core.Path.{◌≡◌, refl, sym, ◌∙◌}
use mathlib.Core.Bool.{true, false}
use mathlib.Core.Logic.{inl, inr, ⊎_elim}
use Prim.Native.Nat.{ℕ, ◌+◌, ◌-◌, ◌*◌, ◌≤◌}
use native.Mathlib.Omega.{arith}
use lib.Dec.{leb}
use borrow.Author.Tests.{leb-true, leb-false}
use Rattle.ground.specs.Inside.Test.{Reflects}
use Rattle.ground.proofs.Cases.{on_test}
use Rattle.ground.proofs.Ranges.{is_within, from_low, to_high}
use Rattle.ground.proofs.Tests.{both_left, both_right}
use Rattle.line.specs.Stream.{is_active}
use Rattle.picture.specs.Division.{line_from, h}
use Rattle.span.specs.declared.format.Format.{Format}
use Rattle.span.specs.Format.{shape_of}
use Rattle.span.specs.Image.{image_of}
use Rattle.span.specs.Numbers.{IsFormat}
use Rattle.span.proofs.Formats.{is_known_lem, unknown, two_streams, four_streams}
use Rattle.way_back.specs.Back.{back_of, brings_line, has_stream, image_line_on}
use Rattle.way_back.specs.Paper.{IsStream, Carried, line, WayBackPaper}
use Rattle.way_back.proofs.Backs.{has_told, unknown_back, is_back}

module _ (f : Format) (known : IsFormat f) where
  abbrev p : ℕ
  p = (shape_of f).stream_pairs

  -- ---- which streams there are
  module _ (link stream : ℕ) where
    pub streams_say : Reflects (has_stream f link stream) (IsStream f link stream)
    streams_say = record { told = told; holds = holds }
      where
        told : has_stream f link stream ≡ true → IsStream f link stream
        told t =
            let x = has_told f link stream t in
            on_test (leb f.number 2)
            (λ e.
            let two = two_streams f known (leb-true f.number 2 e) in
            inl (leb-true f.number 2 e, x.link_from, x.link_to, x.stream_from, omega (arith, two, x.stream_to)))
            (λ e.
            let three : f.number ≡ 3 = omega (arith, leb-false f.number 2 e, known.to) in
            let four = four_streams f three in
            inr (three, x.first (λ z. omega arith), x.stream_from, omega (arith, four, x.stream_to)))

        holds : IsStream f link stream → has_stream f link stream ≡ true
        holds =
            ⊎_elim
            (λ (few, a, b, c, d). let two = two_streams f known few in rw two (rw (is_within 1 2 link a b, is_within 1 2 stream c d) refl))
            (λ (three, one, c, d). let four = four_streams f three in rw four (rw (is_within 1 1 link (omega arith) (omega arith), is_within 1 4 stream c d) refl))

  -- line l of image u
  at_line : (link stream l u m : ℕ) → IsStream f link stream → 1 ≤ l → l ≤ 1080 → image_of f link (stream - 1) ≡ u → line_from u l ≡ m
      → back_of f link stream (l + 41) ≡ line u m
  at_line link stream l u m has a b image e =
      let less : l + 41 - 41 ≡ l = omega arith in
      sym (is_back f link stream (l + 41) (is_known_lem f known) ((streams_say link stream).holds has) (is_within 42 1121 (l + 41) (omega arith) (omega arith)))
      ∙ rw (image, less, e) refl

  image_two : p ≡ 1 → (link t : ℕ) → image_of f link t ≡ 2 * (link - 1) + t + 1
  unfolding image_of
  image_two e link t = rw e

  image_four : p ≡ 2 → (link t : ℕ) → image_of f link t ≡ t + 1
  unfolding image_of
  image_four e link t = rw e

-- the lines of the four images
lines : (l : ℕ) → 1 ≤ l → (line_from 1 l ≡ 2 * l - 1) × (line_from 2 l ≡ 2 * l - 1) × (line_from 3 l ≡ 2 * l) × (line_from 4 l ≡ 2 * l)
unfolding line_from h
lines l a = (omega arith, omega arith, omega arith, omega arith)

pub carried_says : (f : Format) → IsFormat f → (link stream n : ℕ) → Reflects (brings_line f link stream n) (Carried f link stream n)
carried_says f known link stream n = record { told = told; holds = holds }
  where
    told : (brings_line f link stream n) ≡ true → Carried f link stream n
    told t =
        let active = both_right (has_stream f link stream) (is_active n) t in (
          (streams_say f known link stream).told (both_left (has_stream f link stream) (is_active n) t),
          from_low 42 1121 n active,
          to_high 42 1121 n active,
        )

    holds : Carried f link stream n → (brings_line f link stream n) ≡ true
    holds (has, a, b) = rw ((streams_say f known link stream).holds has, is_within 42 1121 n a b) refl

pub way_back_paper : WayBackPaper
way_back_paper = record {
  two = λ f l known few a b.
      let image = image_two f known (two_streams f known few) in
      let m = lines l a in
      let on : (link stream : ℕ) → 1 ≤ link → link ≤ 2 → 1 ≤ stream → stream ≤ 2 → IsStream f link stream = λ link stream c d e g. inl (few, c, d, e, g) in (
        at_line f known 1 1 l 1 (2 * l - 1) (on 1 1 (omega arith) (omega arith) (omega arith) (omega arith)) a b (image 1 0) m.0,
        at_line f known 1 2 l 2 (2 * l - 1) (on 1 2 (omega arith) (omega arith) (omega arith) (omega arith)) a b (image 1 1) m.1,
        at_line f known 2 1 l 3 (2 * l) (on 2 1 (omega arith) (omega arith) (omega arith) (omega arith)) a b (image 2 0) m.2,
        at_line f known 2 2 l 4 (2 * l) (on 2 2 (omega arith) (omega arith) (omega arith) (omega arith)) a b (image 2 1) m.3,
      );
  four = λ f l known three a b.
      let image = image_four f known (four_streams f three) in
      let m = lines l a in
      let on : (stream : ℕ) → 1 ≤ stream → stream ≤ 4 → IsStream f 1 stream = λ stream c d. inr (three, refl, c, d) in (
        at_line f known 1 1 l 1 (2 * l - 1) (on 1 (omega arith) (omega arith)) a b (image 1 0) m.0,
        at_line f known 1 2 l 2 (2 * l - 1) (on 2 (omega arith) (omega arith)) a b (image 1 1) m.1,
        at_line f known 1 3 l 3 (2 * l) (on 3 (omega arith) (omega arith)) a b (image 1 2) m.2,
        at_line f known 1 4 l 4 (2 * l) (on 4 (omega arith) (omega arith)) a b (image 1 3) m.3,
      );
  back_meets1 = λ f link stream n x. sym (unknown_back f link stream n (unknown f x));
  back_meets2 = λ f link stream n known x.
      let t : (brings_line f link stream n) ≡ false =
      on_test (brings_line f link stream n) (λ t. absurd (x ((carried_says f known link stream n).told t))) (λ t. t) in
      rw (is_known_lem f known, t) refl;
  good_is_given = λ f link stream n known good.
      (image_line_on f link stream n, rw (is_known_lem f known, (carried_says f known link stream n).holds good) refl);
}
