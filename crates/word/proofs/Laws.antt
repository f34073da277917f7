-- What holds of the words of a stream, proved: each field cites the law that says it.
-- Assumes nothing.
use Rattle.word.specs.Laws.{WordLaws}
use Rattle.word.proofs.Guards.{guard_opposite, guard_kept}
use Rattle.word.proofs.LineNumbers.{line_good, no_line_0, no_line, different, read_sent, meets_7, meets_22}
use Rattle.word.proofs.OneToOne.{repair_one_to_one, numbered_one_to_one, named_one_to_one}
use Rattle.word.proofs.Repairs.{apart}
use Rattle.word.proofs.Timings.{v_told, h_told}
use Rattle.word.proofs.WrongWords.{sent_whole, repair_meets_7, repair_meets_8}

pub word_laws : WordLaws
word_laws = record {
  guard_opposite = guard_opposite;
  guard_kept = guard_kept;
  v_told = v_told;
  h_told = h_told;
  legal_apart = apart;
  sent_whole = sent_whole;
  repair_meets7 = repair_meets_7;
  repair_meets8 = repair_meets_8;
  line_good = line_good;
  no_line0 = no_line_0;
  no_line = no_line;
  different = different;
  read_sent = read_sent;
  read_meets7 = meets_7;
  read_meets22 = meets_22;
  repair_told = repair_one_to_one;
  numbered_told = numbered_one_to_one;
  named_told = named_one_to_one;
}
