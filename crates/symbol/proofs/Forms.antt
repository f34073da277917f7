-- Characters with two forms: a span begins with K28.5, its EAV with K29.7, and its last fill word ends in the byte 10 (hex).
-- Assumes nothing.
use mathlib.Core.Path.{refl}
use borrow.Author.Tests.{eqb-false}
use Rattle.symbol.specs.declared.disparity.Disparity.TheVariants.{Negative, Positive}
use Rattle.symbol.specs.declared.special.Special.TheVariants.{K28_5, K29_7}
use Rattle.symbol.specs.Character.{number_of}
use Rattle.symbol.specs.Code.{symbol_of}
use Rattle.symbol.specs.Inside.Code.{TwoForms}

pub two_forms : TwoForms 0x00 × TwoForms 0x01 × TwoForms 0x10 × TwoForms 0xFF × TwoForms (number_of K28_5) × TwoForms (number_of K29_7)
unfolding symbol_of
two_forms = (
  eqb-false (symbol_of Negative 0x00) (symbol_of Positive 0x00) refl,
  eqb-false (symbol_of Negative 0x01) (symbol_of Positive 0x01) refl,
  eqb-false (symbol_of Negative 0x10) (symbol_of Positive 0x10) refl,
  eqb-false (symbol_of Negative 0xFF) (symbol_of Positive 0xFF) refl,
  eqb-false (symbol_of Negative 261) (symbol_of Positive 261) refl,
  eqb-false (symbol_of Negative 266) (symbol_of Positive 266) refl,
)
