-- What holds of the receiving end, proved: each field cites the law that says it.
-- Assumes nothing.
use Rattle.reception.specs.Laws.{ReceptionLaws}
use Rattle.reception.proofs.Items.{says_lines, says_blanking}
use Rattle.reception.proofs.Readiness.{is_ready, not_ready}
use Rattle.reception.proofs.Rooms.{summed_one_to_one, summary_meets_3, summary_meets_4, sums}

pub reception_laws : ReceptionLaws
reception_laws = record {
  receives = λ first symbols heard picture l s h p. is_ready first symbols heard picture (record { line = l; short = s; flags = h; rows = p });
  nothing_else = not_ready;
  says_lines = says_lines;
  says_blanking = says_blanking;
  sums = sums;
  summary_meets3 = summary_meets_3;
  summary_meets4 = summary_meets_4;
  summarised_told = summed_one_to_one;
}
