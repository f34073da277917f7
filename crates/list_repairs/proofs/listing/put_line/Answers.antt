-- `list_repairs::listing::put_line` meets its contract: one text after the other is the line.
-- Assumes nothing.
use Prim.Native.Nat.{◌+◌, ◌≤◌, ◌<◌}
use lib.ListN.{length}
use native.Mathlib.Omega.{arith}
use borrow.Author.Rules.{rules}
use Rattle.ground.proofs.Putting.{put_length, then}
use Rattle.list_repairs.proofs.Lines.{start_most}
use Rattle.list_repairs.proofs.Pieces.{start_put}
use Rattle.list_repairs.proofs.listing.put_line.Goals as goal

pub put_outcome-requires : goal.put_outcome-requires
put_outcome-requires c =
    let a = c.args in
    let h : a.index < 65536 = search rules in
    let room : a.at + 11 ≤ length a.out.now = omega (arith, c.requires) in
    let f =
    start_put {o = a.out.now} a.index a.w h room (c.put_decimal-a.ensures.end, c.put_decimal-a.ensures.written) (c.put_text-b.ensures.end, c.put_text-b.ensures.written) (c.put_hexadecimal-c.ensures.end, c.put_hexadecimal-c.ensures.written) (c.put_text-d.ensures.end, c.put_text-d.ensures.written) in
    omega (arith, c.requires, f.ends, put_length f, start_most a.index a.w h)

pub returns : goal.returns
returns c =
    let a = c.args in
    let h : a.index < 65536 = search rules in
    let room : a.at + 11 ≤ length a.out.now = omega (arith, c.requires) in
    let f =
    start_put a.index a.w h room (c.put_decimal-a.ensures.end, c.put_decimal-a.ensures.written) (c.put_text-b.ensures.end, c.put_text-b.ensures.written) (c.put_hexadecimal-c.ensures.end, c.put_hexadecimal-c.ensures.written) (c.put_text-d.ensures.end, c.put_text-d.ensures.written) in
    let p = then f (record { written = c.put_outcome.ensures.written; ends = c.put_outcome.ensures.end }) in
    record { end = p.ends; written = p.written }
