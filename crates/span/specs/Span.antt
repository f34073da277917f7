-- A span: the interleaved words, the characters that stand for them, the symbols; and a signal, span after span (document 01, "A span";
-- 004, 7.1, tables 11 and 14).
-- Assumes nothing.
use Rattle.std.specs.Prelude.{ℕ, ◌+◌, ◌*◌, List, [], ◌∷◌, ◌++◌, get_or, drop, replicate}
use Rattle.ground.specs.Written.{upto, table}
use Rattle.symbol.specs.declared.disparity.Disparity.{Disparity}
use Rattle.symbol.specs.declared.special.Special.{Special}
use Rattle.symbol.specs.declared.special.Special.TheVariants.{K28_5, K29_7}
use Rattle.symbol.specs.Character.{number_of}
use Rattle.symbol.specs.Disparity.{fresh}
use Rattle.packing.specs.declared.bytes.ThreeBytes.{ThreeBytes}
use Rattle.packing.specs.Bytes.{bytes_of}
use Rattle.span.specs.declared.format.Format.{Format}
use Rattle.span.specs.Content.{content_of}
use Rattle.span.specs.Encoding.{symbols_from, after_run}
use Rattle.span.specs.Format.{shape_of, streams}
use Rattle.span.specs.Stream.{Request, from_sav, from_eav}

-- word j of each of s streams, stream 1 first
abbrev pub across : ℕ → (ℕ → List ℕ) → ℕ → List ℕ
across s words j = table s (λ t. get_or (words t) j 0)

-- n words of each, word by word
unfoldable pub interleaved : ℕ → ℕ → (ℕ → List ℕ) → List ℕ
interleaved s n words = upto n (across s words)

-- 7.1: the fill word
abbrev pub fill_word : ℕ
fill_word = 0x100

-- the interleaved words from the SAV on: SAV and picture of all streams
unfoldable pub words_from_sav : Format → Request → List ℕ
words_from_sav f a = interleaved (streams (shape_of f)) (4 + 1920) (from_sav f a)

-- those from the EAV on: EAV, line number, CRCC and ancillary area of all streams, and the fill after them
unfoldable pub words_from_eav : Format → Request → List ℕ
words_from_eav f a =
    interleaved (streams (shape_of f)) (4 + 2 + 2 + (shape_of f).ancillary) (from_eav f a)
    ++ replicate (2 * (shape_of f).fill_pairs) fill_word

unfoldable pub span_words : Format → Request → List ℕ
span_words f a = words_from_sav f a ++ words_from_eav f a

-- 7.1.1 and 7.1.2: two words give three bytes (figure 13, which gives the order, is missing from our copy: document 01, "A span")
abbrev pub bytes_listed : ThreeBytes → List ℕ
bytes_listed t = t.first ∷ t.second ∷ t.third ∷ []

unfoldable pub bytes : List ℕ → List ℕ
bytes [] = []
bytes (a ∷ []) = []
bytes (a ∷ b ∷ words) = bytes_listed (bytes_of a b) ++ bytes words

-- 7.1.1 and 7.1.2: of the first four bytes of an interleaved timing code, two become special characters and two content bytes
abbrev pub synchronised : Special → ℕ → ℕ → List ℕ → List ℕ
synchronised k content1 content2 code = number_of k ∷ number_of k ∷ content1 ∷ content2 ∷ drop 4 code

unfoldable pub chars_from_sav : Format → Request → List ℕ
chars_from_sav f a =
    let c = content_of f a.content in synchronised K28_5 c.sav1 c.sav2 (bytes (words_from_sav f a))

unfoldable pub chars_from_eav : Format → Request → List ℕ
chars_from_eav f a =
    let c = content_of f a.content in synchronised K29_7 c.eav1 c.eav2 (bytes (words_from_eav f a))

-- the characters of a span
unfoldable pub span_chars : Format → Request → List ℕ
span_chars f a = chars_from_sav f a ++ chars_from_eav f a

-- its symbols, where the disparity before it is d, and the disparity after it
unfoldable pub span_symbols : Disparity → Format → Request → List ℕ
span_symbols d f a = symbols_from d (span_chars f a)

unfoldable pub span_after : Disparity → Format → Request → Disparity
span_after d f a = after_run d (span_chars f a)

-- spans one after the other, the disparity carried over
unfoldable pub signal_from : Disparity → Format → List Request → List ℕ
signal_from d f [] = []
signal_from d f (a ∷ more) = span_symbols d f a ++ signal_from (span_after d f a) f more

-- a fresh signal
unfoldable pub signal : Format → List Request → List ℕ
signal f spans = signal_from fresh f spans
