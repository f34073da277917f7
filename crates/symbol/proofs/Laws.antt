-- What holds of the 8B/10B code, proved: each field cites the law that says it.
-- Assumes nothing.
use Rattle.symbol.specs.Laws.{SymbolLaws}
use Rattle.symbol.proofs.Distinct.{one_character}
use Rattle.symbol.proofs.Flip.{flip, flip_no_form}
use Rattle.symbol.proofs.Inverse.{decode_encode, encode_decode, illegal_is, illegal_told, data_or_special, opposed_illegal}
use Rattle.symbol.proofs.Ones.{symbol_below, four_to_six, flips_both}
use Rattle.symbol.proofs.Specials.{known, number_one_to_one}

pub symbol_laws : SymbolLaws
symbol_laws = record {
  decode_encode = decode_encode;
  encode_decode = encode_decode;
  illegal_if = illegal_is;
  illegal_only_if = illegal_told;
  one_character = one_character;
  data_or_special = data_or_special;
  ten_bits = symbol_below;
  four_to_six = four_to_six;
  flips_both = flips_both;
  opposed_illegal = opposed_illegal;
  flip = flip;
  flip_no_form = flip_no_form;
  special_numbers = λ k. ((known k).low, (known k).high, (known k).again);
  special_told = number_one_to_one;
}
