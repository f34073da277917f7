-- `generate::parameters::counted` meets its contract: all six bytes, and no more symbols than the finder takes.
-- Assumes nothing.
use Prim.Native.Nat.{◌*◌, ◌≤◌}
use native.Mathlib.Nat.{mul-le-mul_left}
use native.Mathlib.Omega.{arith}
use Rattle.generate.proofs.Sizes.{few_symbols}
use Rattle.generate.proofs.parameters.counted.Goals as goal

pub overflow_mul-count : goal.overflow_mul-count
overflow_mul-count c =
    let count = c.word_of-count.result in
    let few = few_symbols _ c.span_lengths-symbols.ensures in
    let most : count * c.span_lengths-symbols.result.symbols ≤ count * 19008 = mul-le-mul_left count few in
    omega arith
