-- `rig::transmit::send_piece` meets its contract: the lines that are left, put after what is there, give the whole.
-- Assumes nothing.
use mathlib.Core.Path.{◌≡◌, sym, ap, ◌∙◌}
use Prim.Native.Nat.{◌+◌, ◌-◌, ◌*◌, ◌<◌}
use native.Mathlib.Omega.{arith}
use lib.Seq.{sets}
use borrow.Author.Rules.{rules}
use borrow.Rule.Slice.PartMut.{put_mid}
use Rattle.span.specs.Span.{span_symbols}
use Rattle.reception.specs.Link.{link}
use Rattle.reception.proofs.Parts.{part_put}
use Rattle.rig.specs.Sending.{request_on}
use Rattle.rig.proofs.Lines.{length_span, next_line_lem, no_line_more, all_sent, after_step, sent_step}
use Rattle.rig.proofs.transmit.send_piece.Goals as goal

pub loop-k-preserved : goal.loop-k-preserved
loop-k-preserved c =
    let v = c.loop-k in
    let a = c.args in
    let inside : v.k < 5 = omega arith in
    let here = v.invariant.3 inside in
    let span = span_symbols v.d link (request_on v.l.0) in
    let put =
    ap (put_mid (19008 * v.k) (19008 * v.k + 19008 - 19008 * v.k) v.symbols) c.send_line-d.ensures.symbols
    ∙ part_put v.symbols span (19008 * v.k) (19008 * v.k + 19008) (omega (arith, length_span v.d v.l.0)) (omega (arith, v.invariant.2)) in (
      omega arith,
      search rules,
      search rules,
      λ h. c.line_after-l.ensures ∙ next_line_lem v.l.0 (omega (arith, here, c.requires.first_bound)) ∙ omega (arith, here),
      after_step a.first.0 v.k inside v.d v.l.0 here c.send_line-d.ensures.after ∙ v.invariant.4,
      sent_step a.first.0 v.k inside v.d v.l.0 here c.send_line-d.ensures.after v.symbols put ∙ v.invariant.5,
    )

pub returns : goal.returns
returns c =
    let v = c.loop-k in
    let a = c.args in
    let past : v.k ≡ 5 = omega arith in
    let none = no_line_more v.d (a.first.0 + 5) in
    let after = rw past at v.invariant.4 in
    let sent = rw past at v.invariant.5 in record { after = sym none.1 ∙ after; symbols = ap (sets v.symbols (19008 * 5)) (sym none.0) ∙ sent ∙ all_sent a.before a.first.0 a.symbols.now c.requires.symbols_len }
