-- `block::bits::turned` meets its contract: std turns sixteen bits round, and the last of them go.
-- Assumes nothing.
use Rattle.std.proofs.Common.{◌≡◌, ◌-◌, ◌/◌, ◌^◌, ap, ◌∙◌, arith}
use Rattle.symbol.specs.Code.{reversed}
use Rattle.block.proofs.Turning.{reversed_below, turned_is}
use Rattle.block.proofs.bits.turned.Goals as goal

pub returns : goal.returns
returns g c =
    let b = g.row.BITS in
    let value : c.reverse_bits.result / 2 ^ (16 - b) ≡ reversed b c.args.block =
    ap (λ n. n / 2 ^ (16 - b)) c.reverse_bits.ensures ∙ turned_is b _ c.args.block c.requires.bits_bound (omega arith) in
    record { value = omega (arith, value); bound = omega (arith, value, reversed_below b c.args.block) }
