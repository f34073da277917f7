-- `read_test21_26::holds::line_holds` meets its contract.
-- Assumes nothing.
use mathlib.Core.Path.{◌≡◌, sym, ap, ap₂, ◌∙◌}
use Prim.Native.Nat.{◌+◌, ◌*◌, ◌/◌, ◌%◌, ◌≤◌}
use native.Mathlib.Omega.{arith}
use lib.Dec.{eqb}
use Rattle.ground.specs.Search.{is_some}
use Rattle.span.specs.Format.{streams}
use Rattle.span.specs.Layout.{line_start}
use Rattle.window.specs.Words.{word_at}
use Rattle.read_test21_26.proofs.Reading.{here, named_ok, first_word, first_stream, not_first}
use Rattle.read_test21_26.proofs.Tests.{first_22, other_22, else_22}
use Rattle.read_test21_26.proofs.holds.line_holds.Goals as goal

pub returns-then-k-s : goal.returns-then-k-s
returns-then-k-s c =
    let a = c.args in
    let some_streams : 1 ≤ streams a.x.window.shape = omega (arith, c.args.x.window.given.half) in
    let at = c.if-k-s.true in
    c.is_ok.ensures.value ∙ named_ok a.x.next
    ∙ ap is_some c.args.x.line_known
    ∙ sym (first_22 (streams a.x.window.shape) (word_at a.x.window.shape a.x.window.symbols.now) (a.k / streams a.x.window.shape) (a.k % streams a.x.window.shape) (first_word (streams a.x.window.shape) some_streams a.k line_start at) (first_stream (streams a.x.window.shape) some_streams a.k line_start at))

pub returns-then-j-lt-CRCC : goal.returns-then-j-lt-CRCC
returns-then-j-lt-CRCC c =
    let a = c.args in
    let some_streams : 1 ≤ streams a.x.window.shape = omega (arith, c.args.x.window.given.half) in
    let word = here a.x.window.shape a.x.window.symbols.now a.k c.args.x.window.given.half c.word_at-w.ensures.word in
    let zero : streams a.x.window.shape * (a.k / streams a.x.window.shape) ≡ streams a.x.window.shape * (a.k / streams a.x.window.shape) + 0 = omega arith in
    ap₂ eqb word (c.word_at.ensures.word ∙ ap (word_at a.x.window.shape a.x.window.symbols.now) zero)
    ∙ sym (other_22 (streams a.x.window.shape) (word_at a.x.window.shape a.x.window.symbols.now) (a.k / streams a.x.window.shape) (a.k % streams a.x.window.shape) c.if-j-ge-LINE_NUMBER.true c.if-j-lt-CRCC.true
    (not_first (streams a.x.window.shape) some_streams a.k line_start c.if-k-s.false))

pub returns-else-j-lt-CRCC : goal.returns-else-j-lt-CRCC
returns-else-j-lt-CRCC c =
    let a = c.args in
    sym (else_22 (streams a.x.window.shape) (word_at a.x.window.shape a.x.window.symbols.now) (a.k / streams a.x.window.shape) (a.k % streams a.x.window.shape) (λ l. omega arith))

pub returns-else-j-ge-LINE_NUMBER : goal.returns-else-j-ge-LINE_NUMBER
returns-else-j-ge-LINE_NUMBER c =
    let a = c.args in
    sym (else_22 (streams a.x.window.shape) (word_at a.x.window.shape a.x.window.symbols.now) (a.k / streams a.x.window.shape) (a.k % streams a.x.window.shape) (λ l. omega arith))
