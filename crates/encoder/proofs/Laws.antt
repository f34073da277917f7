-- What holds of the encoder's tables, proved: each field cites the law that says it.
-- Assumes nothing.
use Rattle.encoder.specs.Laws.{EncoderLaws}
use Rattle.encoder.proofs.Entries.{symbol_at_lem, after_at, offset_again}

pub encoder_laws : EncoderLaws
encoder_laws = record { symbol_at = symbol_at_lem; after_at = after_at; offset_again = offset_again }
