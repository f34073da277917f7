-- `picture::place::place_of` meets its contract: that the line of the basic image travels says that the picture has the line.
-- Assumes nothing.
use mathlib.Core.Path.{◌≡◌, sym, ap, ◌∙◌}
use Prim.Native.Nat.{ℕ, ◌+◌}
use native.Mathlib.Omega.{arith}
use Rattle.ground.specs.Answer.{Answer, given}
use Rattle.line.specs.Picture.{stream_line_of, number_on}
use Rattle.picture.specs.declared.division.Quarter.{Quarter}
use Rattle.picture.specs.declared.place.Place.{Place}
use Rattle.picture.specs.Division.{image_line}
use Rattle.picture.proofs.Places.{placed, meets_2, travels_if, outside_if}
use Rattle.picture.proofs.place.place_of.Goals as goal

abbrev on : Quarter → ℕ → Answer Place
on q stream = given record { image = q.image; line = q.line; stream = record { 0 = stream }; sample = q.sample }

-- the stream line of what the step gave
line_of : {q r : Quarter} → q ≡ r → stream_line_of q.line.0 ≡ stream_line_of r.line.0
line_of e = ap (λ (q : Quarter). stream_line_of q.line.0) e

pub returns-in-Some : goal.returns-in-Some
returns-in-Some c =
    let a = c.args in
    let travels = sym c.stream_line_of.ensures ∙ ap number_on c.in-Some.is in
    let told = travels_if a.line.0 _ (sym (line_of c.halve-q.ensures) ∙ travels) in
    ap (on c.halve-q.result) (sym told.1.1)
    ∙ ap (λ (q : Quarter). on q (image_line a.line.0 + 41)) c.halve-q.ensures
    ∙ sym (placed a.line.0 a.sample told.0 told.1.0 (omega arith))

pub returns-in_default : goal.returns-in_default
returns-in_default c =
    let a = c.args in
    let nowhere = sym (line_of c.halve-q.ensures) ∙ sym c.stream_line_of.ensures ∙ ap number_on c.in_default.is in
    sym (meets_2 a.line.0 a.sample (λ p q r. outside_if a.line.0 nowhere p q))
