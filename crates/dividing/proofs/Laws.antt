-- What holds of rows divided and joined, proved: each field cites the law that says it.
-- Assumes nothing.
use Rattle.dividing.specs.Laws.{DividingLaws}
use Rattle.dividing.proofs.OneToOne.{copied_one_to_one}
use Rattle.dividing.proofs.RoundTrip.{join_split, split_join, comes_from, goes_to}

pub dividing_laws : DividingLaws
dividing_laws = record {
  join_split = join_split;
  split_join = split_join;
  comes_from = comes_from;
  goes_to = goes_to;
  copied_told = copied_one_to_one;
}
