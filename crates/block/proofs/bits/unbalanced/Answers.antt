-- `block::bits::unbalanced` meets its contract: std counts the ones.
-- Assumes nothing.
use Rattle.std.proofs.Common.{ℕ, ◌∙◌, eqb, not, ap₂, arith}
use Rattle.ground.proofs.Bits.{ones_low}
use Rattle.block.specs.Inside.Bits.{unbalanced}
use Rattle.block.proofs.Turning.{ones_of}
use Rattle.block.proofs.bits.unbalanced.Goals as goal

pub returns : goal.returns
unfolding unbalanced
returns c = ap₂ (λ (m n : ℕ). not (eqb m n)) (ones_of 6 _ (omega arith) ∙ ones_low 6 c.args.block) c.from.ensures
