-- `list_spans::list::put_spans` meets its contract: the lines that are left, put into what is there, give the whole.
-- Assumes nothing.
use mathlib.Core.Path.{sym, ap, ◌∙◌}
use mathlib.Core.List.{◌++◌}
use Prim.Native.Nat.{ℕ}
use native.Mathlib.Omega.{arith}
use borrow.Author.Rules.{rules}
use Rattle.recording.specs.Recording.{delivery_from}
use Rattle.recording.proofs.OneStep.{stepped, ended}
use Rattle.list_spans.specs.Listing.{span_line, lines_of}
use Rattle.list_spans.proofs.Left.{piece_put, nothing_left}
use Rattle.list_spans.proofs.Stepping.{within_limit, line_shorter, first_line, delivered_is, none_is}
use Rattle.list_spans.proofs.list.put_spans.Goals as goal

pub loop-s-smaller : goal.loop-s-smaller
loop-s-smaller c =
    let v = c.loop-s in
    let a = c.args in
    let step =
    stepped a.f c.requires.f_value a.symbols.now (within_limit _ c.requires.symbols_len_bound) v.place v.invariant.1 v.rows (v.invariant.2 ∙ c.requires.rows_len) (delivered_is c.next_span-next.result.answer (sym c.unwrap_or.ensures ∙ c.in-Some.is))
    c.next_span-next.ensures.answer c.next_span-next.ensures.after in
    omega (arith, step.behind, line_shorter a.f c.requires.f_value, step.inside)

pub loop-s-preserved : goal.loop-s-preserved
loop-s-preserved c =
    let v = c.loop-s in
    let a = c.args in
    let step =
    stepped a.f c.requires.f_value a.symbols.now (within_limit _ c.requires.symbols_len_bound) v.place v.invariant.1 v.rows (v.invariant.2 ∙ c.requires.rows_len) (delivered_is c.next_span-next.result.answer (sym c.unwrap_or.ensures ∙ c.in-Some.is))
    c.next_span-next.ensures.answer c.next_span-next.ensures.after in
    let number = c.number_of-number in
    let place = c.in-Some.s.place in
    let more = lines_of (delivery_from a.f a.symbols.now c.next_span-next.result.after) in (
      omega (arith, step.behind, line_shorter a.f c.requires.f_value, v.invariant.0, c.put_line-at.ensures.most),
      step.inside,
      search rules,
      search rules,
      piece_put v.invariant.4 (span_line place number.result) more
          (first_line step ∙ ap (λ (k : ℕ). span_line place k ++ more) (sym number.ensures)) c.put_line-at.ensures.written c.put_line-at.ensures.end,
    )

pub returns-in_default : goal.returns-in_default
returns-in_default c =
    let v = c.loop-s in
    let a = c.args in
    let none =
    ended a.f c.requires.f_value a.symbols.now (within_limit _ c.requires.symbols_len_bound) v.place v.invariant.1 v.rows (v.invariant.2 ∙ c.requires.rows_len) c.next_span-next.result.answer
    (none_is c.next_span-next.result.answer (sym c.unwrap_or.ensures ∙ c.in_default.is)) c.next_span-next.ensures.answer in
    let all = nothing_left v.invariant.4 (ap lines_of none) in
    record { end = all.0; most = omega (arith, v.invariant.0, v.invariant.1, c.requires.symbols_len_bound); written = all.1 }
