-- `finding::next::next_from` meets its contract.
-- Assumes nothing.
use native.Mathlib.Omega.{arith}
use Prim.Native.Nat.{◌+◌, ◌≤◌}
use lib.ListN.{length}
use borrow.Author.Rules.{rules}
use Rattle.recording.proofs.Calling.{ends_inside}
use Rattle.recording.proofs.Readings.{span_whole}
use Rattle.finding.proofs.next.next_from.Goals as goal

pub overflow_add-after : goal.overflow_add-after
overflow_add-after c =
    let e = c.in-Some.ensures.answer in
    let n = c.args.r.span_value in
    let inside = ends_inside c.args.r.format c.args.r.symbols.now c.args.start c.args.r.known e in
    let b : c.in-Some.s.place + c.args.r.span ≤ length c.args.r.symbols.now = omega (arith, n, inside) in
    search rules

pub kept-requires : goal.kept-requires
kept-requires c =
    omega (arith, c.args.r.span_value, (span_whole c.args.r.format c.args.r.known).least)
