-- Lines in the papers' own numerals, proved: each field cites the law that says it.
-- Assumes nothing.
use Rattle.line.proofs.Lines.{active, blanking_before, blanking_behind, after_last, before_first}
use Rattle.line.proofs.Travel.{travels, travels_nowhere, carries, carries_nothing}
use native.Mathlib.Omega.{arith}
use borrow.Author.Tests.{lt-ltb}
use Rattle.ground.proofs.Ranges.{is_within, from_low, to_high}
use Rattle.line.specs.Paper.{LinePaper}

pub line_paper : LinePaper
line_paper = record {
  active = active;
  blanking_before = blanking_before;
  blanking_after = blanking_behind;
  after_last = after_last;
  before_first = before_first;
  travels = travels;
  travels_nowhere = travels_nowhere;
  carries = carries;
  carries_nothing = carries_nothing;
  line_if = λ n p q. is_within 1 1125 n p q;
  line_only_if = λ n t. (from_low 1 1125 n t, to_high 1 1125 n t);
  after_is = λ n h. simp (lt-ltb n 1125 (omega arith));
  before_is = λ n p q. simp (is_within 2 1125 n p q);
}
