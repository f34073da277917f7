-- `read_test21_26::holds::v_holds` meets its contract.
-- Assumes nothing.
use mathlib.Core.Path.{◌≡◌, sym, ap, ap₂, ◌∙◌}
use Prim.Native.Nat.{ℕ, ◌/◌, ◌%◌}
use native.Mathlib.Omega.{arith}
use Rattle.line.specs.Stream.{v_of}
use Rattle.span.specs.Format.{streams}
use Rattle.span.specs.Layout.{eav_xyz}
use Rattle.window.specs.Tests.{same}
use Rattle.word.specs.Received.{v_in}
use Rattle.window.specs.Words.{word_at}
use Rattle.read_test21_26.proofs.Reading.{here_below, next_line_lem, line_read_lem}
use Rattle.read_test21_26.proofs.Tests.{same_is, sav_23, eav_23, else_23}
use Rattle.read_test21_26.proofs.holds.v_holds.Goals as goal

pub returns-then-j-eq-SAV_XYZ : goal.returns-then-j-eq-SAV_XYZ
returns-then-j-eq-SAV_XYZ c =
    let a = c.args in
    let v = c.v_in in
    let word = here_below a.x.window.shape a.x.window.symbols.now a.k c.args.x.window.given.half c.word_at-w.ensures.word in
    let line = line_read_lem (streams a.x.window.shape) (word_at a.x.window.shape a.x.window.symbols.now) a.x.next c.args.x.line_known in
    same_is v.result c.v_before.result
    ∙ ap₂ same (v.ensures ∙ ap (λ (x : ℕ). v_in x) word) (c.v_before.ensures ∙ ap (λ (n : ℕ). v_of n) line)
    ∙ sym (sav_23 (streams a.x.window.shape) (word_at a.x.window.shape a.x.window.symbols.now) (a.k / streams a.x.window.shape) (a.k % streams a.x.window.shape) c.if-j-eq-SAV_XYZ.true)

pub returns-then-j-eq-EAV_XYZ : goal.returns-then-j-eq-EAV_XYZ
returns-then-j-eq-EAV_XYZ c =
    let a = c.args in
    let v = c.v_in-then-j-eq-EAV_XYZ in
    let word = here_below a.x.window.shape a.x.window.symbols.now a.k c.args.x.window.given.half c.word_at-w.ensures.word in
    let line = next_line_lem (streams a.x.window.shape) (word_at a.x.window.shape a.x.window.symbols.now) a.x.next c.args.x.line_known in
    same_is v.result c.v_named.result
    ∙ ap₂ same (v.ensures ∙ ap (λ (x : ℕ). v_in x) word) (c.v_named.ensures ∙ ap (λ (n : ℕ). v_of n) line)
    ∙ sym (eav_23 (streams a.x.window.shape) (word_at a.x.window.shape a.x.window.symbols.now) (a.k / streams a.x.window.shape) (a.k % streams a.x.window.shape) (let at : a.k / streams a.x.window.shape ≡ eav_xyz = omega arith in at))

pub returns : goal.returns
returns c =
    let a = c.args in
    sym (else_23 (streams a.x.window.shape) (word_at a.x.window.shape a.x.window.symbols.now) (a.k / streams a.x.window.shape) (a.k % streams a.x.window.shape) c.if-j-eq-SAV_XYZ.false (λ at. omega arith))
