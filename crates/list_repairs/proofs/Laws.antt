-- What holds of the program that lists repairs, proved: each field cites the law that says it.
-- Assumes nothing.
use Rattle.list_repairs.specs.Laws.{ListRepairsLaws}
use Rattle.list_repairs.proofs.Example.{example, example_of_bits}
use Rattle.list_repairs.proofs.Limits.{every_word, odd_byte, no_more, ignored, fits}

pub list_repairs_laws : ListRepairsLaws
list_repairs_laws = record {
  example = example;
  example_of_bits = example_of_bits;
  every_word = every_word;
  odd_byte = odd_byte;
  no_more = no_more;
  ignored = ignored;
  fits = fits;
}
