-- What holds of decoding a symbol, proved: each field cites the law that says it.
-- Assumes nothing.
use Rattle.decoder.specs.Laws.{DecoderLaws}
use Rattle.decoder.proofs.Entries.{entry_at}
use Rattle.decoder.proofs.Answers.{meets_7, meets_20, meaning_told, meaning_meets_7, decoded_one_to_one, meaning_one_to_one}
use Rattle.decoder.proofs.Reading.{legal_is, number_is, after_is}

pub decoder_laws : DecoderLaws
decoder_laws = record {
  decode_meets7 = meets_7;
  decode_meets20 = meets_20;
  meaning_good = meaning_told;
  meaning_meets7 = meaning_meets_7;
  entry_at = entry_at;
  entry_legal = legal_is;
  entry_number = number_is;
  entry_flips = after_is;
  decoded_told = decoded_one_to_one;
  meaning_told = meaning_one_to_one;
}
