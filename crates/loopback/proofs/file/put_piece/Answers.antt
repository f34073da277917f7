-- `loopback::file::put_piece` meets its contract: the bytes of the first i lines are put.
-- Assumes nothing.
use mathlib.Core.Path.{◌≡◌, refl, sym, ap, ◌∙◌}
use Prim.Native.Nat.{◌+◌, ◌-◌, ◌*◌}
use native.Mathlib.Omega.{arith}
use lib.ListN.{drop, length-take}
use Rattle.ground.proofs.Putting.{put_length}
use Rattle.line.specs.Stream.{is_active}
use Rattle.rig.specs.Frame.{line_of_piece}
use Rattle.loopback.proofs.Bytes.{no_line, active_put, blank_put, piece_put}
use Rattle.loopback.proofs.file.put_piece.Goals as goal
use Rattle.loopback.proofs.file.put_piece.Goals.{then-is_active, else-is_active}

pub loop-i-init : goal.loop-i-init
loop-i-init c =
    let a = c.args in
    (omega arith, refl, omega arith, no_line a.piece a.picture.now a.out.now)

pub loop-i-preserved : goal.loop-i-preserved
loop-i-preserved c =
    let v = c.loop-i in
    let a = c.args in
    let number : c.stream_line.result.0 ≡ line_of_piece a.piece v.i = omega (arith, c.stream_line.ensures) in
    let test = ap is_active (sym number) ∙ sym c.is_active.ensures in
    let i = 7680 * v.i in
    let few = length-take (i + 7680 - i) (drop i a.picture.now) in
    elim c.if-is_active.branch [
      | then-is_active w ↦
          let ends = w.at-is ∙ w.put_words-at.ensures.end in
          let put = active_put a.piece a.picture.now v.i (test ∙ w.if-is_active.true) v.invariant.3 ends (w.out-is ∙ w.put_words-at.ensures.written) in
          (omega arith, put_length put, omega (arith, ends, few, v.invariant.2), put)
      | else-is_active w ↦
          let put = blank_put a.piece a.picture.now v.i (test ∙ w.if-is_active.false) v.invariant.3 w.at-is w.out-is in
          (omega arith, put_length put, omega (arith, w.at-is, v.invariant.2), put)
    ]

pub returns : goal.returns
returns c = let v = c.loop-i in
    let a = c.args in
    let all : v.i ≡ 5 = omega arith in
    let told = piece_put a.piece a.picture.now a.out.now (omega (arith, c.requires.in_bounds)) (rw all at v.invariant.3) in record { counts = told.0; end = told.1.0; written = told.1.1 }
