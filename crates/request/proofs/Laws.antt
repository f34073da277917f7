-- Laws of sending, proved: each field cites the law that says it.
-- Assumes nothing.
use Rattle.request.specs.Laws.{SendLaws}
use Rattle.request.proofs.GoodCalls.{good_is_sent, chosen_is_sent, sent_is_good}
use Rattle.request.proofs.OneToOne.{sent_one_to_one}

pub send_laws : SendLaws
send_laws = record {
  good_is_sent = good_is_sent;
  chosen_is_sent = chosen_is_sent;
  sent_is_good = sent_is_good;
  sent_told = sent_one_to_one;
}
