-- `send::parts::put_blanking` meets its contract: the two runs, one after the other.
-- Assumes nothing.
use Rattle.std.proofs.Common.{◌*◌, sym, ap, arith}
use Rattle.send.specs.Inside.Put.{run_chars}
use Rattle.send.proofs.Putting.{renamed, then}
use Rattle.send.proofs.Runs.{keeps_too, fill_stays, run_made}
use Rattle.send.proofs.Sizes.{length_run}
use Rattle.send.proofs.parts.put_blanking.Goals as goal

pub put_long_run-requires-2-clause-keeps_disparity : goal.put_long_run-requires-2-clause-keeps_disparity
put_long_run-requires-2-clause-keeps_disparity c =
    let fill = keeps_too c.fill_word-fill.ensures fill_stays in search fill

pub returns : goal.returns
returns c =
    let shape = c.args.p in
    let word = c.fill_word-fill.ensures in
    let o = c.requires.d_value in
    let p = run_made o (shape.stream_pairs * shape.ancillary) c.requires.keeps_disparity c.put_long_run.ensures in
    let q = renamed (ap (run_chars shape.fill_pairs) (sym word)) (run_made o shape.fill_pairs (keeps_too word fill_stays) c.put_long_run-2.ensures) in
    (then p (omega (arith, length_run (shape.stream_pairs * shape.ancillary) c.args.blank)) q).out
