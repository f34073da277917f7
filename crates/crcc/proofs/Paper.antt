-- The error detection code in numerals that long division gives, proved.
-- Assumes nothing.
use mathlib.Core.Path.{refl}
use Rattle.ground.specs.Xor.{◌⊕◌}
use Rattle.word.specs.Word.{guarded}
use Rattle.crcc.specs.Crcc.{crc}
use Rattle.crcc.specs.Paper.{CrccPaper}

pub crcc_paper : CrccPaper
unfolding crc ◌⊕◌ guarded
crcc_paper = record { long_division = refl }
