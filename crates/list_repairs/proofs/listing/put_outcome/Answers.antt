-- `list_repairs::listing::put_outcome` meets its contract: one text after the other is the outcome.
-- Assumes nothing.
use mathlib.Core.Path.{◌≡◌, sym, ap, ◌∙◌}
use Prim.Native.Nat.{◌+◌, ◌≤◌}
use lib.ListN.{length}
use Rattle.ground.proofs.Putting.{put_as}
use Rattle.word.specs.Repair.{paper_repair, repair_of}
use Rattle.list_repairs.specs.Text.{outcome}
use Rattle.list_repairs.proofs.Lines.{is_short_lem}
use Rattle.list_repairs.proofs.Pieces.{repaired_put}
use Rattle.ground.specs.Answer.{given}
use borrow.Author.Rules.{rules}
use Rattle.list_repairs.proofs.listing.put_outcome.Goals as goal

pub returns-in-Ok : goal.returns-in-Ok
returns-in-Ok c =
    let r = c.repair_timing_word in
    let a = c.args in
    let v = c.in-Ok.r in
    let e : given v ≡ repair_of a.w = sym (ap paper_repair c.in-Ok.is) ∙ r.ensures in
    let room : a.at + 10 ≤ length a.out.now = search rules in
    let p =
    put_as (ap outcome e)
    (repaired_put v (is_short_lem a.w v (sym e)) room (c.put_hexadecimal-a.ensures.end, c.put_hexadecimal-a.ensures.written) (c.put_text-b.ensures.end, c.put_text-b.ensures.written) (c.put_decimal-c.ensures.end, c.put_decimal-c.ensures.written)
    (c.put_text-d.ensures.end, c.put_text-d.ensures.written) (c.put_bit-e.ensures.end, c.put_bit-e.ensures.written) (c.put_text.ensures.end, c.put_text.ensures.written)) in
    record { end = p.ends; written = p.written }
