-- What holds of the test generator, proved: each field cites the law that says it.
-- Assumes nothing.
use Rattle.generate.specs.Laws.{GenerateLaws}
use Rattle.generate.proofs.LowFirst.{read_again_lem}
use Rattle.generate.proofs.Outputs.{six_count, six_refuse, signal_long}
use Rattle.generate.proofs.Wants.{meets_1, meets_2, meets_3, too_long, is_given}
use Rattle.generate.proofs.Whole.{pieces, next_piece, none_left}

pub generate_laws : GenerateLaws
generate_laws = record {
  meets1 = meets_1;
  meets2 = meets_2;
  meets3 = meets_3;
  too_long = too_long;
  is_given = is_given;
  six_count = six_count;
  six_refuse = six_refuse;
  read_again = read_again_lem;
  signal_long = signal_long;
  pieces = pieces;
  next_piece = next_piece;
  none_left = none_left;
}
