-- The published tables and equations: each row is what the definitions give.
-- Assumes nothing.
use mathlib.Core.Path.{refl}
use lib.Count.{ones_in}
use Rattle.symbol.specs.declared.disparity.Disparity.TheVariants.{Negative, Positive}
use Rattle.symbol.specs.Blocks.{six_bits}
use Rattle.symbol.specs.Code.{reversed, symbol_of}
use Rattle.symbol.specs.Paper.{SymbolPaper}
use Rattle.symbol.proofs.Equations.{by_equations}

pub symbol_paper : SymbolPaper
unfolding symbol_of reversed six_bits ones_in
symbol_paper = record {
  data_table = refl;
  alternate_table = refl;
  special_table = refl;
  own_bits = elim [ Negative ↦ refl | Positive ↦ refl ];
  three_ones = elim [ Negative ↦ refl | Positive ↦ refl ];
  equations = by_equations;
}
