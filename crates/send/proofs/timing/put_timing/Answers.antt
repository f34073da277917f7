-- `send::timing::put_timing` meets its contract: the replaced bytes, the zeros that are left, and XYZ.
-- Assumes nothing.
use Rattle.std.proofs.Common.{◌-◌, ◌*◌, sym, refl, ap, arith}
use Rattle.symbol.specs.Character.{number_of}
use Rattle.send.specs.Inside.Put.{sync_chars}
use Rattle.send.proofs.Putting.{made, renamed, then, is_offset}
use Rattle.send.proofs.Runs.{zero_stays, run_made}
use Rattle.send.proofs.Sizes.{length_run}
use Rattle.send.proofs.TimingCodes.{timing_is}
use Rattle.send.proofs.timing.put_timing.Goals as goal

pub put_run-requires-clause-keeps_disparity : goal.put_run-requires-clause-keeps_disparity
put_run-requires-clause-keeps_disparity c = zero_stays

pub returns : goal.returns
returns c =
    let a = c.args in
    let p = renamed (ap (sync_chars (number_of a.k) a.content1 a.content2) (sym c.second_word-w.ensures)) (made (c.put_sync-d1.ensures.offset, c.put_sync-d1.ensures.out)) in
    let q = run_made (is_offset p) (3 * a.pairs - 2) zero_stays c.put_run.ensures in
    let l = length_run (3 * a.pairs - 2) 0x000 in
    let r = then p refl (then q (omega (arith, l, c.requires.le_pairs)) (made (c.put_same.ensures.offset, c.put_same.ensures.out))) in
    let e = renamed (timing_is a.pairs (number_of a.k) a.content1 a.content2 a.xyz c.requires.le_pairs c.requires.pairs_bound) r in
    record { offset = e.offset; out = e.out }
