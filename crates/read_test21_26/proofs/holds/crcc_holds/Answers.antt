-- `read_test21_26::holds::crcc_holds` meets its contract.
-- Assumes nothing.
use mathlib.Core.Path.{◌≡◌, sym, ap, ap₂, ◌∙◌}
use Prim.Native.Nat.{ℕ, ◌/◌, ◌%◌}
use native.Mathlib.Omega.{arith}
use lib.Dec.{eqb}
use Rattle.span.specs.Format.{streams}
use Rattle.crcc.specs.declared.crcc.CrccWords.{CrccWords}
use Rattle.read_test21_26.specs.Inside.Holds.{crcc_received}
use Rattle.read_test21_26.proofs.Reading.{here}
use Rattle.read_test21_26.proofs.Tests.{first_24, second_24, else_24}
use Rattle.read_test21_26.proofs.holds.crcc_holds.Goals as goal

pub returns-then-j-eq-CRCC : goal.returns-then-j-eq-CRCC
returns-then-j-eq-CRCC c =
    let a = c.args in
    let word = here a.w.shape a.w.symbols.now a.k c.args.w.given.half c.word_at-word.ensures.word in
    let sent =
    c.crcc_after-sent.ensures
    ∙ ap (λ (x : ℕ). crcc_received a.w.shape a.w.symbols.now (a.k % streams a.w.shape) x) c.sum_of.ensures in
    ap₂ eqb word (ap (λ (x : CrccWords). x.crcc0) sent)
    ∙ sym (first_24 a.w.shape a.w.symbols.now a.c (a.k / streams a.w.shape) (a.k % streams a.w.shape) c.if-j-eq-CRCC.true)

pub returns-then-j-lt-ANCILLARY : goal.returns-then-j-lt-ANCILLARY
returns-then-j-lt-ANCILLARY c =
    let next : c.args.k / streams c.args.w.shape ≡ 1931 = omega arith in
    let a = c.args in
    let word = here a.w.shape a.w.symbols.now a.k c.args.w.given.half c.word_at-word.ensures.word in
    let sent =
    c.crcc_after-sent.ensures
    ∙ ap (λ (x : ℕ). crcc_received a.w.shape a.w.symbols.now (a.k % streams a.w.shape) x) c.sum_of.ensures in
    ap₂ eqb word (ap (λ (x : CrccWords). x.crcc1) sent)
    ∙ sym (second_24 a.w.shape a.w.symbols.now a.c (a.k / streams a.w.shape) (a.k % streams a.w.shape) next)

pub returns-else-j-lt-ANCILLARY : goal.returns-else-j-lt-ANCILLARY
returns-else-j-lt-ANCILLARY c =
    let a = c.args in
    sym (else_24 a.w.shape a.w.symbols.now a.c (a.k / streams a.w.shape) (a.k % streams a.w.shape) (λ e. omega arith) (λ e. omega arith))

pub returns-else-j-ge-CRCC : goal.returns-else-j-ge-CRCC
returns-else-j-ge-CRCC c =
    let a = c.args in
    sym (else_24 a.w.shape a.w.symbols.now a.c (a.k / streams a.w.shape) (a.k % streams a.w.shape) (λ e. omega arith) (λ e. omega arith))
