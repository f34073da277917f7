-- `read_test20::see::see_three` meets its contract.
-- Assumes nothing.
use Rattle.read_test20.proofs.Seeing.{three_is}
use Rattle.read_test20.proofs.see.see_three.Goals as goal

pub returns : goal.returns
returns c =
    let a = c.args in
    three_is a.symbols.now a.o a.good a.flips c.see-x.ensures c.see-y.ensures c.see-z.ensures c.unpack-words.ensures
