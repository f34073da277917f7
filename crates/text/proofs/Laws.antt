-- What holds of numbers as text, proved: each field cites the law that says it.
-- Assumes nothing.
use Rattle.text.specs.Laws.{TextLaws}
use Rattle.text.specs.Number.{places_of}
use Rattle.text.proofs.Numbers.{places_fewest, length_digits, length_decimal_most, length_hexadecimal}

pub text_laws : TextLaws
text_laws = record {
  decimal_holds = places_fewest;
  decimal_long = λ n. length_digits 10 (places_of n) n;
  decimal_most = length_decimal_most;
  hexadecimal_long = length_hexadecimal;
}
