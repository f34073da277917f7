-- What holds of lines, proved: each field cites the law that says it.
-- Assumes nothing.
use Rattle.line.specs.Laws.{LineLaws}
use Rattle.line.proofs.Lines.{after_is_line, before_is_line, before_after, after_before, line_one_to_one}
use Rattle.line.proofs.Travel.{there_and_back, back_and_there, picture_one_to_one, travels_one_to_one, carries_one_to_one}

pub line_laws : LineLaws
line_laws = record {
  after_is_line = after_is_line;
  before_is_line = before_is_line;
  before_after = before_after;
  after_before = after_before;
  there_and_back = there_and_back;
  back_and_there = back_and_there;
  stream_line_told = line_one_to_one;
  picture_line_told = picture_one_to_one;
  travels_told = travels_one_to_one;
  carries_told = carries_one_to_one;
}
