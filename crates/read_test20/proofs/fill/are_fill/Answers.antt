-- `read_test20::fill::are_fill` meets its contract.
-- Assumes nothing.
use Rattle.read_test20.proofs.Fills.{all_fill, fill_repeats}
use Rattle.read_test20.proofs.fill.are_fill.Goals as goal

pub returns-then-begins_fill : goal.returns-then-begins_fill
returns-then-begins_fill c =
    let a = c.args in record { sound = λ t. all_fill a.symbols.now a.from a.flips a.to (c.repeats.ensures.sound t) (c.begins_fill.ensures.sound c.if-begins_fill.true); kept = λ b. c.repeats.ensures.kept (fill_repeats a.symbols.now a.from a.flips a.to b) }
