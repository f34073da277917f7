-- What holds of reading a window, proved: each field cites the law that says it.
-- Assumes nothing.
use lib.ListN.{length}
use Rattle.span.specs.Format.{shape_of}
use Rattle.span.proofs.Lengths.{known_has_streams}
use Rattle.window.specs.Laws.{WindowRefusals, WindowRules, WindowLaws}
use Rattle.span.proofs.Formats.{is_known_lem}
use Rattle.span.proofs.Numbers.{symbols_are}
use Rattle.window.proofs.Accepting.{accepted_told, delivers}
use Rattle.window.proofs.Areas.{judged_21, judged_22, judged_23, judged_24, judged_25, judged_26, nameless, asked_once}
use Rattle.window.proofs.Calls.{judge_meets_1, judge_meets_3, judged, read_as_judged, rows_after_1, rows_after_3, rows_after_4, rows_after_refusal, rows_delivered}
use Rattle.window.proofs.Exact.{encoded_again}
use Rattle.window.proofs.Inverted.{inverted_is_refused}
use Rattle.window.proofs.Nearest.{other_h}
use Rattle.window.proofs.Refusals.{meets_20, meets_21, meets_22, meets_23, meets_24, meets_25, meets_26, numbers}
use Rattle.window.proofs.RoundTrip.{sent_meets}
use Rattle.window.proofs.Rules.{says_21, says_22, says_23, says_24, says_25, says_26}
use Rattle.window.proofs.Scanning.{holds_before, says_20, rule_before}
use Rattle.window.proofs.SentAgain.{sendable_again, sent_again_lem}
use Rattle.window.proofs.Specials.{k28_5_at, only_k28_5, k29_7_at, only_k29_7}

pub window_refusals : WindowRefusals
window_refusals = record {
  judge_meets1 = λ f w x. judge_meets_1 f w x;
  judge_meets3 = λ f w k. judge_meets_3 f w k;
  judged = λ f w k. judged f w k;
  read_as_judged = read_as_judged;
  rows_after1 = λ f w entry x. rows_after_1 f w entry x;
  rows_after3 = λ f w entry k. rows_after_3 f w entry k;
  rows_after4 = λ f w entry k. rows_after_4 f w entry k;
  rows_after_refusal = λ f w entry k long room number place e. rows_after_refusal f w entry k long room e;
  rows_delivered = λ f w entry k long room r e. rows_delivered f w entry k long room e;
  meets20 = meets_20;
  meets21 = meets_21;
  meets22 = meets_22;
  meets23 = meets_23;
  meets24 = meets_24;
  meets25 = meets_25;
  meets26 = meets_26;
  numbers = numbers;
  judged21 = judged_21;
  judged22 = judged_22;
  nameless = nameless;
  asked_once = asked_once;
  judged23 = judged_23;
  judged24 = judged_24;
  judged25 = judged_25;
  judged26 = judged_26;
  other_h = other_h;
}

pub window_rules : WindowRules
window_rules = record {
  scan = λ f w k known. says_20 (shape_of f) (known_has_streams f (is_known_lem f known)) w k;
  scan_before = λ f w i k known. rule_before (shape_of f) (known_has_streams f (is_known_lem f known)) w i k;
  scan_holds = λ f w i k known h r. holds_before (shape_of f) (known_has_streams f (is_known_lem f known)) w k r i h;
  timing = λ f word known. says_21 f (is_known_lem f known) word;
  line_number = λ f word known. says_22 f (is_known_lem f known) word;
  v = λ f word known timings numbers. says_23 f (is_known_lem f known) word numbers timings;
  crcc = λ f word known. says_24 f (is_known_lem f known) word;
  picture = λ f word known. says_25 f (is_known_lem f known) word;
  fill = λ f word known. says_26 f (is_known_lem f known) word;
}

pub window_laws : WindowLaws
window_laws = record {
  delivered = delivers;
  k28_at = λ f w r k e. k28_5_at f w (is_known_lem f k) (accepted_told f w r e);
  only_k28 = λ f w r k e. only_k28_5 f w (is_known_lem f k) (accepted_told f w r e);
  k29_at = λ f w r k e. k29_7_at f w (is_known_lem f k) (accepted_told f w r e);
  only_k29 = λ f w r k e. only_k29_7 f w (is_known_lem f k) (accepted_told f w r e);
  sent_meets = sent_meets;
  inverted_refused = λ f a d i k good h l. inverted_is_refused f a good d i k h l;
  encoded_again = λ f w r k long e. encoded_again f w (is_known_lem f k) (symbols_are f (length w) long) (accepted_told f w r e);
  sent_again =
      λ f w r k long e none_wrong blank-ancillary blank_line. (
        sendable_again f w (is_known_lem f k) r e (symbols_are f (length w) long) none_wrong blank-ancillary blank_line,
        sent_again_lem f w (is_known_lem f k) r e (symbols_are f (length w) long) none_wrong blank-ancillary blank_line,
      );
}
