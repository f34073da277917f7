-- The way back, case by case.
-- Assumes nothing.
use mathlib.Core.Path.{◌≡◌, refl, sym, ap, ◌∙◌}
use mathlib.Core.Bool.{true, false, and-false, Bool, ◌&&◌}
use mathlib.Core.Option.{none, some}
use Prim.Native.Nat.{ℕ, ◌-◌, ◌*◌, ◌≤◌}
use native.Mathlib.Omega.{arith}
use lib.Dec.{eqb}
use borrow.Author.Tests.{ne_eqb, eqb-true, eqb-false}
use Rattle.ground.specs.Answer.{refused, given}
use Rattle.ground.specs.Range.{within}
use Rattle.ground.proofs.Cases.{on_test}
use Rattle.ground.proofs.Ranges.{is_within, from_low, to_high}
use Rattle.ground.proofs.Tests.{both_left, both_right}
use Rattle.line.specs.declared.picture.PictureLine.{PictureLine}
use Rattle.line.specs.Stream.{is_active}
use Rattle.picture.specs.Division.{line_from}
use Rattle.picture.specs.Place.{picture_line_on}
use Rattle.span.specs.declared.format.Format.{Format}
use Rattle.span.specs.declared.format.Shape.{Shape}
use Rattle.span.specs.Format.{is_known, shape_of, streams}
use Rattle.span.specs.Image.{image_of}
use Rattle.span.proofs.Formats.{small}
use Rattle.way_back.specs.declared.back.ImageLine.{ImageLine}
use Rattle.way_back.specs.Back.{links_by, has_stream, image_line_on, brings_line, back_of}
use Rattle.way_back.specs.Inside.Image.{image_on}

-- ---- the links of a component
pub two_links : (pairs : ℕ) → pairs ≡ 1 → 2 ≡ links_by pairs
two_links pairs e = rw e

pub one_link : (pairs : ℕ) → (pairs ≡ 1 → ⊥) → 1 ≡ links_by pairs
one_link pairs x = rw (ne_eqb pairs 1 x)

-- as the code asks for them
module _ (f : Format) (link stream links : ℕ) (q : Shape) (e : q ≡ shape_of f) (l : links ≡ links_by q.stream_pairs) where
  abbrev own : ℕ
  own = (shape_of f).stream_pairs

  same : q.stream_pairs ≡ own
  same = ap (λ (x : Shape). x.stream_pairs) e

  asked : within 1 links link ≡ within 1 (links_by own) link
  asked = ap (λ (x : ℕ). within 1 x link) (l ∙ ap links_by same)

  pub has_link : within 1 links link ≡ true → within 1 (2 * q.stream_pairs) stream ≡ has_stream f link stream
  has_link t =
      let k : within 1 (links_by own) link ≡ true = sym asked ∙ t in
      ap (λ (x : ℕ). within 1 (2 * x) stream) same ∙ rw k refl

  pub no_link : within 1 links link ≡ false → false ≡ has_stream f link stream
  no_link t = let k : within 1 (links_by own) link ≡ false = sym asked ∙ t in rw k

-- a link and stream that there are
pub record Has (f : Format) (link stream : ℕ) : Type 0 where
  pub link_from : 1 ≤ link
  pub link_to : link ≤ 2
  pub stream_from : 1 ≤ stream
  pub stream_to : stream ≤ 2 * (shape_of f).stream_pairs
  pub pairs : (shape_of f).stream_pairs ≤ 2
  pub first : ((shape_of f).stream_pairs ≡ 1 → ⊥) → link ≡ 1

module _ (f : Format) (link stream : ℕ) where
  abbrev p : ℕ
  p = (shape_of f).stream_pairs

  pub has_told : has_stream f link stream ≡ true → Has f link stream
  has_told t =
      let l = both_left (within 1 (links_by p) link) (within 1 (streams (shape_of f)) stream) t in
      let s = both_right (within 1 (links_by p) link) (within 1 (streams (shape_of f)) stream) t in
      let most = to_high 1 (links_by p) link l in
      record {
        link_from = from_low 1 (links_by p) link l;
        link_to = on_test (eqb p 1)
            (λ e. omega (arith, most, two_links p (eqb-true p 1 e)))
            (λ e. omega (arith, most, one_link p (eqb-false p 1 e)));
        stream_from = from_low 1 (streams (shape_of f)) stream s;
        stream_to = to_high 1 (streams (shape_of f)) stream s;
        pairs = (small f refl).half;
        first = λ x. omega (arith, most, one_link p x, from_low 1 (links_by p) link l);
      }

  -- the one formula for the image
  pub image_is : Has f link stream → image_on link stream ≡ image_of f link (stream - 1)
  unfolding image_of
  image_is h =
      on_test (eqb p 1)
      (λ e. rw e (omega (arith, h.stream_from)))
      (λ e. rw e (omega (arith, h.stream_from, h.first (eqb-false p 1 e))))

  pub one_of_four : Has f link stream → (1 ≤ image_of f link (stream - 1)) × (image_of f link (stream - 1) ≤ 4)
  one_of_four h =
      let i = image_is h in
      on_test (eqb p 1)
      (λ e. let one = eqb-true p 1 e in (omega (arith, i, h.stream_from), omega (arith, i, h.stream_to, h.link_to)))
      (λ e.
      let l = h.first (eqb-false p 1 e) in
      (omega (arith, i, h.stream_from), omega (arith, i, h.stream_to, h.pairs)))

  module _ (n : ℕ) where
    -- ---- the answer
    pub unknown_back : is_known f ≡ false → refused 1 0 ≡ back_of f link stream n
    unknown_back t = rw t

    module _ (known : is_known f ≡ true) where
      brings_line_none : brings_line f link stream n ≡ false → refused 2 0 ≡ back_of f link stream n
      brings_line_none t = rw (known, t)

      pub no_stream : has_stream f link stream ≡ false → refused 2 0 ≡ back_of f link stream n
      no_stream t = brings_line_none (ap (λ (x : Bool). x && is_active n) t)

      pub no_picture : is_active n ≡ false → refused 2 0 ≡ back_of f link stream n
      no_picture t = brings_line_none (ap (λ (x : Bool). has_stream f link stream && x) t ∙ and-false (has_stream f link stream))

      pub is_back : has_stream f link stream ≡ true → is_active n ≡ true → given (image_line_on f link stream n) ≡ back_of f link stream n
      is_back s t =
          let b : brings_line f link stream n ≡ true = ap (λ (x : Bool). x && is_active n) s ∙ t in
          rw (known, b)

-- what the way back of the picture says of the line
module _ (n u : ℕ) (low : 1 ≤ u) (high : u ≤ 4) where
  pub active_on : (line : ℕ) → picture_line_on n u ≡ some line → (is_active n ≡ true) × (line ≡ line_from u (n - 41))
  active_on line e =
      on_test (is_active n)
      (λ t. (t, sym (cc (simp (is_within 1 4 u low high, t) at e))))
      (λ t. let z : ◌≡◌ {A = ℕ} 0 1 = cc (simp (is_within 1 4 u low high, t) at e) in absurd (omega arith))

  pub passive_on : picture_line_on n u ≡ none → is_active n ≡ false
  passive_on e =
      on_test (is_active n)
      (λ t. let z : ◌≡◌ {A = ℕ} 0 1 = cc (simp (is_within 1 4 u low high, t) at e) in absurd (omega arith))
      (λ t. t)

-- what the code has learnt, put together
module _ (f : Format) (link stream n : ℕ) (known : is_known f ≡ true) (has : has_stream f link stream ≡ true) {image : ℕ}
    (is : image ≡ image_on link stream) where
  image_of_lem : image ≡ image_of f link (stream - 1)
  image_of_lem = is ∙ image_is f link stream (has_told f link stream has)

  bounds : (1 ≤ image) × (image ≤ 4)
  bounds = let four = one_of_four f link stream (has_told f link stream has) in (omega (arith, image_of_lem, four.0), omega (arith, image_of_lem, four.1))

  pub line_told : (line : PictureLine) → picture_line_on n image ≡ some line.0 → given (record { image = image; line = line }) ≡ back_of f link stream n
  line_told line e =
      let on = active_on n image bounds.0 bounds.1 line.0 e in
      let same : ◌≡◌ {A = ImageLine} (record { image = image; line = line }) (image_line_on f link stream n) =
      ap (λ (x : ℕ). record { image = image; line = record { 0 = x } }) on.1
      ∙ ap (λ (u : ℕ). record { image = u; line = record { 0 = line_from u (n - 41) } }) image_of_lem in
      ap given same ∙ is_back f link stream n known has on.0

  pub none_told : picture_line_on n image ≡ none → refused 2 0 ≡ back_of f link stream n
  none_told e = no_picture f link stream n known (passive_on n image bounds.0 bounds.1 e)
