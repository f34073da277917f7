-- `read_test20::whole::examine` meets its contract.
-- Assumes nothing.
use mathlib.Core.Path.{sym, ◌∙◌}
use Rattle.read_test20.proofs.Passing.{refused_examined}
use Rattle.read_test20.proofs.whole.examine.Goals as goal

pub returns-in_err-v : goal.returns-in_err-v
returns-in_err-v c =
    let a = c.args in
    let told = refused_examined a.f a.symbols.now a.rows.now _ _ c.pass.ensures (sym c.ok.ensures.value ∙ c.in_err-v.was) in
    record { answer = c.from_residual.ensures ∙ told.0; rows = told.1 }
