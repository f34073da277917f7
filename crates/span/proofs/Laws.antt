-- What holds of a span, proved: each field cites the law that says it.
-- Assumes nothing.
use Rattle.span.specs.Laws.{SpanLaws}
use Rattle.span.proofs.FilledOneToOne.{filled_one_to_one}
use Rattle.span.proofs.OneToOne.{lengths_one_to_one}
use Rattle.span.proofs.Samples.{allowed_is, word_is}

pub span_laws : SpanLaws
span_laws = record {
  bounds_agree = allowed_is;
  factor_agrees = word_is;
  lengths_told = lengths_one_to_one;
  filled_told = filled_one_to_one;
}
