-- `reception::receive::receive_all` meets its contract: what is left of the delivery, put into what is there, gives the whole.
-- Assumes nothing.
use mathlib.Core.Path.{sym, ap, ◌∙◌}
use native.Mathlib.Omega.{arith}
use borrow.Author.Rules.{rules}
use Rattle.span.specs.declared.format.Format.{Format}
use Rattle.recording.specs.Recording.{delivery_from}
use Rattle.recording.proofs.OneStep.{stepped, ended}
use Rattle.reception.specs.Receiving.{brings, flag, heard_from, shown_from}
use Rattle.reception.proofs.Links.{within_limit, known, samples, symbols as symbols-of}
use Rattle.reception.proofs.Putting.{put_next, put_ends, delivered_is, none_is}
use Rattle.reception.proofs.receive.receive_all.Goals as goal

pub loop-s-smaller : goal.loop-s-smaller
loop-s-smaller c =
    let v = c.loop-s in
    let a = c.args in
    let step =
    stepped c.link-f.result (known c.link-f.ensures) a.symbols.now (within_limit _ c.requires.symbols_len_bound) v.place v.invariant.0 v.rows
    (v.invariant.1 ∙ sym (samples c.link-f.ensures)) (delivered_is c.next_span-next.result.answer (sym c.unwrap_or.ensures ∙ c.in-Some.is)) c.next_span-next.ensures.answer c.next_span-next.ensures.after in
    omega (arith, step.behind, step.inside, symbols-of c.link-f.ensures)

pub loop-s-preserved : goal.loop-s-preserved
loop-s-preserved c =
    let v = c.loop-s in
    let a = c.args in
    let step =
    stepped c.link-f.result (known c.link-f.ensures) a.symbols.now (within_limit _ c.requires.symbols_len_bound) v.place v.invariant.0 v.rows
    (v.invariant.1 ∙ sym (samples c.link-f.ensures)) (delivered_is c.next_span-next.result.answer (sym c.unwrap_or.ensures ∙ c.in-Some.is)) c.next_span-next.ensures.answer c.next_span-next.ensures.after in
    let words = c.next_span-next.ensures.rows in (
      step.inside,
      search rules,
      search rules,
      search rules,
      put_next 1 flag a.first.0 step v.heard words c.put_span.ensures.heard ∙ v.invariant.4,
      put_next 7680 brings a.first.0 step v.picture words c.put_span.ensures.picture ∙ v.invariant.5,
    )

pub returns-in_default : goal.returns-in_default
returns-in_default c =
    let v = c.loop-s in
    let a = c.args in
    let none =
    ended c.link-f.result (known c.link-f.ensures) a.symbols.now (within_limit _ c.requires.symbols_len_bound) v.place v.invariant.0 v.rows
    (v.invariant.1 ∙ sym (samples c.link-f.ensures)) c.next_span-next.result.answer (none_is c.next_span-next.result.answer (sym c.unwrap_or.ensures ∙ c.in_default.is)) c.next_span-next.ensures.answer in record {
      heard = put_ends 1 flag a.first.0 none v.invariant.4
          ∙ ap (λ (f : Format). heard_from a.first.0 a.heard.now (delivery_from f a.symbols.now 0)) c.link-f.ensures;
      picture = put_ends 7680 brings a.first.0 none v.invariant.5
          ∙ ap (λ (f : Format). shown_from a.first.0 a.picture.now (delivery_from f a.symbols.now 0)) c.link-f.ensures;
    }
