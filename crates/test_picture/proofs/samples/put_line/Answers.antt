-- `test_picture::samples::put_line` meets its contract: no format has more samples than the arrays.
-- Assumes nothing.
use mathlib.Core.Path.{◌≡◌, refl, sym, ◌∙◌}
use mathlib.Core.List.{List}
use Prim.Native.Nat.{ℕ, ◌≤◌}
use native.Mathlib.Omega.{arith}
use lib.ListN.{length}
use lib.Seq.{length-take-le}
use Rattle.span.specs.declared.format.Format.{Format}
use Rattle.span.specs.Format.{shape_of, samples_in}
use Rattle.span.proofs.Formats.{small}
use Rattle.test_picture.proofs.samples.put_line.Goals as goal

few : (f : Format) (samples : List ℕ) → length samples ≡ samples_in (shape_of f) → length samples ≤ 7680
few f samples e = omega (arith, (small f refl).half)

pub slice_bounds-shown-end : goal.slice_bounds-shown-end
slice_bounds-shown-end c =
    few c.args.f c.args.samples.now c.requires.samples_len

pub slice_bounds-put_chosen-end : goal.slice_bounds-put_chosen-end
slice_bounds-put_chosen-end c =
    sym (length-take-le _ _ (few c.args.f c.args.samples.now c.requires.samples_len))

pub slice_bounds-blanking-end : goal.slice_bounds-blanking-end
slice_bounds-blanking-end c =
    few c.args.f c.args.samples.now c.requires.samples_len

pub slice_bounds-put_chosen-end-2 : goal.slice_bounds-put_chosen-end-2
slice_bounds-put_chosen-end-2 c =
    sym (length-take-le _ _ (few c.args.f c.args.samples.now c.requires.samples_len))

pub put_chosen-requires : goal.put_chosen-requires
put_chosen-requires c =
    let long = c.requires.samples_len in
    let room = few c.args.f c.args.samples.now long in
    record { f_value = c.requires.f_value; shown_len = length-take-le _ _ room ∙ long; blanking_len = length-take-le _ _ room ∙ long; samples_len = long }
