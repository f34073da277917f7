-- `read_test21_26::holds::holds` meets its contract: each test by its own function.
-- Assumes nothing.
use mathlib.Core.Path.{ap₂, ◌∙◌}
use Prim.Native.Nat.{ℕ}
use lib.Dec.{eqb}
use Rattle.packing.specs.Sample.{allowed_word}
use Rattle.read_test21_26.specs.Inside.Holds.{holds_of}
use Rattle.read_test21_26.proofs.Reading.{here}
use Rattle.read_test21_26.proofs.holds.holds.Goals as goal

pub returns-in-Timing : goal.returns-in-Timing
unfolding holds_of
returns-in-Timing c = rw c.in-Timing.is c.timing_holds.ensures

pub returns-in-Line : goal.returns-in-Line
unfolding holds_of
returns-in-Line c = rw c.in-Line.is c.line_holds.ensures

pub returns-in-V : goal.returns-in-V
unfolding holds_of
returns-in-V c = rw c.in-V.is c.v_holds.ensures

pub returns-in-Crcc : goal.returns-in-Crcc
unfolding holds_of
returns-in-Crcc c = rw c.in-Crcc.is c.crcc_holds.ensures

pub returns-in-Sample : goal.returns-in-Sample
unfolding holds_of
returns-in-Sample c =
    let a = c.args in
    let word = here a.x.window.shape a.x.window.symbols.now a.k c.args.x.window.given.half c.word_at.ensures.word in
    rw c.in-Sample.is (c.allowed_word.ensures ∙ ap₂ (λ (d x : ℕ). allowed_word d x) c.depth_of.ensures word)

pub returns-in-Fill : goal.returns-in-Fill
unfolding holds_of
returns-in-Fill c =
    let a = c.args in
    let word = here a.x.window.shape a.x.window.symbols.now a.k c.args.x.window.given.half c.word_at-in-Fill.ensures.word in
    rw c.in-Fill.is (ap₂ eqb word c.fill_word.ensures)
