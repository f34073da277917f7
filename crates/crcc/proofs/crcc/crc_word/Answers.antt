-- `crcc::crcc::crc_word` meets its contract by the law of the branch-free step.
-- Assumes nothing.
use Rattle.ground.specs.Xor.{◌⊕◌}
use Rattle.crcc.proofs.Crc.{word_step}
use Rattle.crcc.proofs.crcc.crc_word.Goals as goal

pub returns : goal.returns
unfolding ◌⊕◌
returns c = word_step c.args.c c.args.w
