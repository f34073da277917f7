-- What holds of answers, searches, ranges, tables and bits, proved: each field cites the law that says it.
-- Assumes nothing.
use native.Mathlib.Omega.{arith}
use Rattle.ground.specs.Laws.{GroundLaws}
use Rattle.ground.proofs.Answers.{same_answer, given_is, when_refused, when_given}
use Rattle.ground.proofs.Bits.{inverted_twice, inverted_below}
use Rattle.ground.proofs.Ranges.{is_within, from_low, to_high}
use Rattle.ground.proofs.Searches.{hit, miss, is_hit, is_miss}
use Rattle.ground.proofs.Writing.{length_table, get_d_table}
use Rattle.ground.proofs.Xors.{inverted_⊕}

pub ground_laws : GroundLaws
ground_laws = record {
  same_answer = same_answer;
  given_is = given_is;
  when_refused = when_refused;
  when_given = when_given;
  found_if = λ p n k h t lower. is_hit p n k (record { from = omega arith; below = h; holds = t; least = λ j _ l. lower j l });
  found_only_if =
      λ p n k e.
      let found = hit p n k e in (found.below, found.holds, λ j l. found.least j (omega arith) l);
  none_if = λ p n never. is_miss p n (record { never = λ j _ l. never j l });
  none_only_if = λ p n e j l. (miss p n e).never j (omega arith) l;
  within_if = is_within;
  within_only_if = λ low high n t. (from_low low high n t, to_high low high n t);
  table_long = length_table;
  table_at = get_d_table;
  inverted_is = inverted_⊕;
  inverted_twice = inverted_twice;
  inverted_below = inverted_below;
}
