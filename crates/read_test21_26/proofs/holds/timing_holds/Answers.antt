-- `read_test21_26::holds::timing_holds` meets its contract.
-- Assumes nothing.
use mathlib.Core.Path.{sym, ap, ◌∙◌}
use mathlib.Core.Bool.{true, false}
use Prim.Native.Nat.{ℕ, ◌-◌, ◌/◌, ◌%◌, ◌≤◌}
use native.Mathlib.Omega.{arith}
use Rattle.span.specs.Format.{streams}
use Rattle.span.specs.Layout.{eav_start}
use Rattle.word.specs.Received.{is_timing}
use Rattle.window.specs.Words.{word_at}
use Rattle.read_test21_26.proofs.Reading.{here_below}
use Rattle.read_test21_26.proofs.Tests.{sav_21, eav_21, else_21}
use Rattle.read_test21_26.proofs.holds.timing_holds.Goals as goal

pub returns-then-j-lt-PICTURE : goal.returns-then-j-lt-PICTURE
returns-then-j-lt-PICTURE c =
    let a = c.args in
    c.is_timing.ensures
    ∙ ap (λ (x : ℕ). is_timing false (a.k / streams a.w.shape) x)
    (here_below a.w.shape a.w.symbols.now a.k c.args.w.given.half c.word_at-word.ensures.word)
    ∙ sym (sav_21 (streams a.w.shape) (word_at a.w.shape a.w.symbols.now) (a.k / streams a.w.shape) (a.k % streams a.w.shape) c.if-j-lt-PICTURE.true)

pub returns-then-j-lt-LINE_NUMBER : goal.returns-then-j-lt-LINE_NUMBER
returns-then-j-lt-LINE_NUMBER c =
    let a = c.args in
    c.is_timing-then-j-lt-LINE_NUMBER.ensures
    ∙ ap (λ (x : ℕ). is_timing true (a.k / streams a.w.shape - eav_start) x)
    (here_below a.w.shape a.w.symbols.now a.k c.args.w.given.half c.word_at-word.ensures.word)
    ∙ sym (eav_21 (streams a.w.shape) (word_at a.w.shape a.w.symbols.now) (a.k / streams a.w.shape) (a.k % streams a.w.shape) c.if-j-ge-EAV.true c.if-j-lt-LINE_NUMBER.true)

pub returns-else-j-lt-LINE_NUMBER : goal.returns-else-j-lt-LINE_NUMBER
returns-else-j-lt-LINE_NUMBER c =
    let a = c.args in
    let far : 4 ≤ a.k / streams a.w.shape = omega arith in
    sym (else_21 (streams a.w.shape) (word_at a.w.shape a.w.symbols.now) (a.k / streams a.w.shape) (a.k % streams a.w.shape) far (λ l. omega arith))

pub returns-else-j-ge-EAV : goal.returns-else-j-ge-EAV
returns-else-j-ge-EAV c =
    let a = c.args in
    let far : 4 ≤ a.k / streams a.w.shape = omega arith in
    sym (else_21 (streams a.w.shape) (word_at a.w.shape a.w.symbols.now) (a.k / streams a.w.shape) (a.k % streams a.w.shape) far (λ l. omega arith))
