-- Place and way back undo each other.
-- Assumes nothing.
use mathlib.Core.Path.{◌≡◌, refl, sym, ap, ◌∙◌}
use mathlib.Core.Bool.{true}
use mathlib.Core.Logic.{inl, inr}
use Prim.Native.Nat.{ℕ, ◌+◌, ◌-◌, ◌/◌, ◌%◌, ◌≤◌}
use native.Mathlib.Omega.{arith}
use lib.Dec.{eqb, leb}
use borrow.Author.Tests.{eqb-true, eqb-false, leb-true, leb-false}
use Rattle.ground.specs.Answer.{given}
use Rattle.ground.proofs.Cases.{on_test}
use Rattle.ground.proofs.Ranges.{from_low, to_high}
use Rattle.line.specs.Stream.{is_active}
use Rattle.picture.specs.declared.place.Place.{Place}
use Rattle.picture.specs.Division.{image_at, line_from, sample_from}
use Rattle.picture.specs.Place.{placed_of}
use Rattle.picture.proofs.Places.{found, placed_told, line_of_place}
use Rattle.picture.proofs.Steps.{one_of_four}
use Rattle.span.specs.declared.format.Format.{Format}
use Rattle.span.specs.Format.{is_known, shape_of}
use Rattle.span.specs.Image.{image_of}
use Rattle.span.specs.Numbers.{IsFormat}
use Rattle.span.proofs.Formats.{is_known_lem}
use Rattle.way_back.specs.declared.back.ImageLine.{ImageLine}
use Rattle.way_back.specs.Back.{has_stream, image_line_on, back_of}
use Rattle.way_back.specs.Inside.Image.{image_on}
use Rattle.way_back.specs.Undone.{Undone}
use Rattle.way_back.proofs.Backs.{Has, has_told, image_is, unknown_back, no_stream, no_picture, is_back, line_told}
use Rattle.way_back.proofs.Backs.{one_of_four as in_four}
use Rattle.way_back.proofs.Paper.{streams_say}

-- what an answer that is given says of the call
record Told (f : Format) (link stream n : ℕ) (x : ImageLine) : Type 0 where
  has : Has f link stream
  low : 42 ≤ n
  high : n ≤ 1121
  is : image_line_on f link stream n ≡ x

told : (f : Format) (link stream n : ℕ) (x : ImageLine) → back_of f link stream n ≡ given x → Told f link stream n x
told f link stream n x e =
    on_test (is_known f)
    (λ known.
    on_test (has_stream f link stream)
    (λ s.
    on_test (is_active n)
    (λ t.
    let same : given (image_line_on f link stream n) ≡ given x = is_back f link stream n known s t ∙ e in
    record { has = has_told f link stream s; low = from_low 42 1121 n t; high = to_high 42 1121 n t; is = cc same })
    (λ t. let z : ◌≡◌ {A = ℕ} 0 1 = cc (no_picture f link stream n known t ∙ e) in absurd (omega arith)))
    (λ s. let z : ◌≡◌ {A = ℕ} 0 1 = cc (no_stream f link stream n known s ∙ e) in absurd (omega arith)))
    (λ t. let z : ◌≡◌ {A = ℕ} 0 1 = cc (unknown_back f link stream n t ∙ e) in absurd (omega arith))

-- ---- from a place

module _ (f : Format) (known : IsFormat f) where
  abbrev p : ℕ
  p = (shape_of f).stream_pairs

  -- the link and the stream of an image
  record On (u : ℕ) : Type 0 where
    link : ℕ
    stream : ℕ
    has : has_stream f link stream ≡ true
    is : u ≡ image_on link stream

  image_on_lem : (u : ℕ) → 1 ≤ u → u ≤ 4 → On u
  image_on_lem u a b =
      on_test (leb f.number 2)
      (λ e.
      let few = leb-true f.number 2 e in
      record {
        link = (u - 1) / 2 + 1;
        stream = (u - 1) % 2 + 1;
        has = (streams_say f known ((u - 1) / 2 + 1) ((u - 1) % 2 + 1)).holds (inl (few, omega arith, omega arith, omega arith, omega arith));
        is = omega arith;
      })
      (λ e.
      let three : f.number ≡ 3 = omega (arith, leb-false f.number 2 e, known.to) in
      record { link = 1; stream = u; has = (streams_say f known 1 u).holds (inr (three, refl, a, b)); is = omega arith })

  back_from : (line sample : ℕ) (q : Place) → placed_of line sample ≡ given q
      → (link : ℕ) × (stream : ℕ) × (back_of f link stream q.stream.0 ≡ given (record { image = q.image; line = record { 0 = line } }))
  back_from line sample q e =
      let is : image_at line sample ≡ q.image = ap (λ (x : Place). x.image) (placed_told line sample q e).1.1 in
      let four = one_of_four line sample in
      let on = image_on_lem q.image (omega (arith, is, four.0)) (omega (arith, is, four.1)) in (
        on.link,
        on.stream,
        sym (line_told f on.link on.stream q.stream.0 (is_known_lem f known) on.has on.is (record { 0 = line }) (line_of_place line sample q e)),
      )

-- ---- from a link and a stream

-- line l of an image is told by the picture's line
line_again : (u l m : ℕ) → 1 ≤ l → 1 ≤ m → line_from u l ≡ line_from u m → l ≡ m
unfolding line_from
line_again u l m a b e = omega arith

only_there : (f : Format) (link stream n link' stream' n' : ℕ) (x : ImageLine) → back_of f link stream n ≡ given x → back_of f link' stream' n' ≡ given x
    → (link ≡ link') × (stream ≡ stream') × (n ≡ n')
only_there f link stream n link' stream' n' x e e' =
    let t = told f link stream n x e in
    let t' = told f link' stream' n' x e' in
    let same : image_line_on f link stream n ≡ image_line_on f link' stream' n' = t.is ∙ sym t'.is in
    let image : image_of f link (stream - 1) ≡ image_of f link' (stream' - 1) = ap (λ (y : ImageLine). y.image) same in
    let line : line_from (image_of f link (stream - 1)) (n - 41) ≡ line_from (image_of f link' (stream' - 1)) (n' - 41) = ap (λ (y : ImageLine). y.line.0) same in
    let on : image_on link stream ≡ image_on link' stream' = image_is f link stream t.has ∙ image ∙ sym (image_is f link' stream' t'.has) in
    let l : n - 41 ≡ n' - 41 =
    line_again (image_of f link' (stream' - 1)) (n - 41) (n' - 41) (omega (arith, t.low)) (omega (arith, t'.low))
    (ap (λ (u : ℕ). line_from u (n - 41)) (sym image) ∙ line) in
    let at : n ≡ n' = omega (arith, t.low, t'.low) in
    on_test (eqb (shape_of f).stream_pairs 1)
    (λ s.
    let one = eqb-true (shape_of f).stream_pairs 1 s in
    let a = t.has.stream_to in
    let b = t'.has.stream_to in (
      omega (arith, t.has.stream_from, t'.has.stream_from, t.has.link_from, t'.has.link_from),
      omega (arith, t.has.stream_from, t'.has.stream_from, t.has.link_from, t'.has.link_from),
      at,
    ))
    (λ s.
    let x = eqb-false (shape_of f).stream_pairs 1 s in
    let a = t.has.first x in
    let b = t'.has.first x in
    (omega arith, omega arith, at))

place_again : (f : Format) (link stream n j : ℕ) (x : ImageLine) → back_of f link stream n ≡ given x → j ≤ 1919
    → placed_of x.line.0 (sample_from x.image j)
    ≡ given (record { image = x.image; line = record { 0 = n - 41 }; stream = record { 0 = n }; sample = j })
place_again f link stream n j x e few =
    let t = told f link stream n x e in
    let u = image_of f link (stream - 1) in
    let four = in_four f link stream t.has in
    let there : n - 41 + 41 ≡ n = omega (arith, t.low) in
    rw (← t.is) (found u (n - 41) j four.0 four.1 (omega (arith, t.low)) (omega (arith, t.high)) few
    ∙ ap (λ (m : ℕ). given (record { image = u; line = record { 0 = n - 41 }; stream = record { 0 = m }; sample = j })) there)

pub undone : Undone
undone = record { back = λ f line sample q known e. back_from f known line sample q e; only_there = only_there; again = place_again }
