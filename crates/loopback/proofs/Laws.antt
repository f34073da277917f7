-- What holds of the frame that is looped back, proved: each field cites the law that says it.
-- Assumes nothing.
use Rattle.loopback.specs.Laws.{LoopbackLaws}
use Rattle.loopback.proofs.Inputs.{brightest, around_the_rings, one_of_a_thousand, loses_lines, keeps_lines}
use Rattle.loopback.proofs.Whole.{heard_is, file_is}

pub loopback_laws : LoopbackLaws
loopback_laws = record {
  brightest = brightest;
  around_the_rings = around_the_rings;
  one_of_athousand = one_of_a_thousand;
  loses_lines = loses_lines;
  keeps_lines = keeps_lines;
  heard_is = heard_is;
  file_is = file_is;
}
