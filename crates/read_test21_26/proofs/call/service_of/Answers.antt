-- `read_test21_26::call::service_of` meets its contract.
-- Assumes nothing.
use mathlib.Core.Path.{sym, ◌∙◌}
use Rattle.read_test21_26.proofs.Calls.{given}
use Rattle.read_test21_26.proofs.call.service_of.Goals as goal

pub invariant_of-window : goal.invariant_of-window
invariant_of-window c = record { given = given _ (sym c.is_window.ensures ∙ c.if-is_window.true) c.shape_of.ensures c.decoding_table-t.ensures }
