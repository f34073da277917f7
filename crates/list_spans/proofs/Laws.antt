-- What holds of the program that lists spans, proved: each field cites the law that says it.
-- Assumes nothing.
use mathlib.Core.Path.{refl}
use Rattle.list_spans.specs.Laws.{ListSpansLaws}
use Rattle.list_spans.proofs.Limits.{every_symbol, odd_byte, no_more, ignored}
use Rattle.list_spans.proofs.Listings.{too_short, unknown}

pub list_spans_laws : ListSpansLaws
list_spans_laws = record {
  short = too_short;
  unknown = λ input enough t. unknown input enough refl t;
  every_symbol = every_symbol;
  odd_byte = odd_byte;
  no_more = no_more;
  ignored = ignored;
}
