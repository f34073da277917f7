-- `read_test21_26::call::judge_window` meets its contract.
-- Assumes nothing.
use mathlib.Core.Path.{sym, ◌∙◌}
use Rattle.read_test21_26.proofs.InTurn.{some_named}
use Rattle.read_test21_26.proofs.call.judge_window.Goals as goal

pub served-requires : goal.served-requires
served-requires c =
    let a = c.args in some_named a.window.shape a.window.symbols.now a.sums a.window.given.half (sym c.judge_words.ensures ∙ c.in_ok-judge_words.was)
