-- `loopback::frame::write_frame` meets its contract: the flags of the pieces so far stand where they belong, and the disparity is handed on.
-- Assumes nothing.
use mathlib.Core.Path.{◌≡◌, refl, ap, ◌∙◌}
use Prim.Native.Nat.{◌+◌}
use native.Mathlib.Omega.{arith}
use lib.ListN.{length}
use lib.Seq.{length-sets}
use borrow.Author.Rules.{rules}
use Rattle.ground.specs.Written.{upto}
use Rattle.symbol.specs.declared.disparity.Disparity.{Disparity}
use Rattle.rig.specs.Piece.{heard_in}
use Rattle.rig.specs.Sending.{after_from}
use Rattle.loopback.proofs.Frames.{no_flags, flags_put, all_flags, no_lines, handed_on}
use Rattle.loopback.proofs.frame.write_frame.Goals as goal

pub loop-piece-init : goal.loop-piece-init
loop-piece-init g c =
    (omega arith, c.requires.heard_len, c.requires.picture_len, refl, no_flags c.args.k c.args.heard.now, no_lines _)

pub loop-piece-preserved : goal.loop-piece-preserved
loop-piece-preserved g c =
    let v = c.loop-piece in
    let a = c.args in
    let flags = flags_put a.k a.heard.now v.piece v.d (length v.picture) (omega arith) v.invariant.1 v.invariant.2 v.invariant.4 c.carry.ensures.heard in (
      omega arith,
      ap length flags ∙ length-sets a.heard.now 0 (upto (v.piece + 1) (heard_in a.k)) ∙ c.requires.heard_len,
      search rules,
      search rules,
      flags,
      handed_on v.piece _ v.d v.heard (length v.picture) (omega arith) v.invariant.1 v.invariant.2 v.invariant.5 c.in-Ok.is c.carry.ensures.answer,
    )

pub returns : goal.returns
returns g c =
    let v = c.loop-piece in
    let all : v.piece ≡ 225 = omega arith in
    let fresh = c.before_fresh_signal-d.ensures in (
      rw all at v.invariant.4 ∙ all_flags c.args.k c.args.heard.now c.requires.heard_len,
      rw all at v.invariant.5 ∙ ap (λ (d : Disparity). after_from d 1 1125) fresh,
    )
