-- `read_test20::place::start_of` meets its contract.
-- Assumes nothing.
use mathlib.Core.Path.{sym}
use native.Mathlib.Omega.{arith}
use Rattle.read_test20.proofs.Runs.{no_symbol, starts_negative, starts_positive}
use Rattle.read_test20.proofs.place.start_of.Goals as goal

pub returns-then-symbols-eq380 : goal.returns-then-symbols-eq380
returns-then-symbols-eq380 c = sym (starts_negative c.args.symbols.now (omega (arith, c.if-symbols-eq380.true)))

pub returns-else-symbols-eq380 : goal.returns-else-symbols-eq380
returns-else-symbols-eq380 c = sym (starts_positive c.args.symbols.now (λ e. omega (arith, c.if-symbols-eq380.false)))

pub returns-else-symbols-gt0 : goal.returns-else-symbols-gt0
returns-else-symbols-gt0 c = sym (starts_positive c.args.symbols.now (λ e. omega (arith, no_symbol c.args.symbols.now (omega arith))))
