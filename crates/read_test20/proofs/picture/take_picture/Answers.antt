-- `read_test20::picture::take_picture` meets its contract: the words of the pieces so far have been taken.
-- Assumes nothing.
use mathlib.Core.Path.{refl}
use Prim.Native.Nat.{◌+◌, ◌*◌, ◌≤◌}
use native.Mathlib.Nat.{mul-le-mul_left}
use native.Mathlib.Omega.{arith}
use Rattle.read_test20.proofs.Getting.{got_begin}
use Rattle.read_test20.proofs.Kept.{bytes_in}
use Rattle.read_test20.proofs.picture.take_picture.Goals as goal

pub loop-piece-init : goal.loop-piece-init
loop-piece-init c = (got_begin c.args.pairs c.args.flips c.args.symbols.now c.args.rows.now c.requires.gather_inv, refl)

pub returns-then-not-passes-clause-kept : goal.returns-then-not-passes-clause-kept
returns-then-not-passes-clause-kept c =
    let v = c.loop-piece in
    let few : 120 * v.piece + 120 ≤ 1920 = omega arith in
    let most : 3 * c.args.pairs * (120 * v.piece + 120) ≤ 3 * c.args.pairs * 1920 = mul-le-mul_left (3 * c.args.pairs) few in
    λ all. (c.take_piece-next.ensures.got c.args.rows.now v.invariant.0).clean.kept (bytes_in all (omega arith) (omega (arith, most)))
