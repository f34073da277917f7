-- The tests by their numbers, at one place and over a run of places.
-- Assumes nothing.
use Rattle.std.specs.Prelude.{ℕ, Option as Answered, Some, None, ◌+◌, ◌-◌, Bool, true, not, cond, List, ◌∷◌, ◌++◌, eqb}
use Rattle.std.proofs.Math.Option.{Option, none, some}
use Rattle.ground.specs.Search.{first_from}
use Rattle.span.specs.declared.format.Format.{Format}
use Rattle.span.specs.declared.format.Shape.{Shape}
use Rattle.span.specs.Format.{streams}
use Rattle.span.specs.Span.{fill_word}
use Rattle.span.specs.Layout.{eav_start, line_start, crcc_start, eav_xyz}
use Rattle.crcc.specs.declared.crcc.CrccWords.{CrccWords}
use Rattle.crcc.specs.Crcc.{crc, crcc_words}
use Rattle.packing.specs.Sample.{allowed_word}
use Rattle.crcc.specs.declared.sums.Sums.{Sums}
use Rattle.window.specs.Read.{placed}
use Rattle.window.specs.Tests.{word_of, column, holds21, holds22, holds23}
use Rattle.word.specs.Received.{repaired}
use Rattle.crcc.specs.Inside.Sums.{sum_in}
use Rattle.window.specs.Words.{word_at}
use Rattle.read_test21_26.specs.declared.service.Test.{Test}
use Rattle.read_test21_26.specs.declared.service.Test.TheVariants.{Timing, Line as LineNumber, V, Crcc, Sample, Fill}

-- test 25 or 26 of a word, where it applies
abbrev pub picture25 : Format → ℕ → (ℕ → ℕ) → ℕ → ℕ → Bool
picture25 f s word j t = allowed_word f.depth (word_of s word j t)

abbrev pub fill26 : ℕ → (ℕ → ℕ) → ℕ → ℕ → Bool
fill26 s word j t = eqb (word_of s word j t) fill_word

-- the CRCC words of stream t, whose picture leaves the CRC at c
unfoldable pub crcc_received : Shape → List ℕ → ℕ → ℕ → CrccWords
crcc_received p w t c =
    let s = streams p in
    crcc_words
    (crc c (column s (word_at p w) eav_start 3 t ++ (repaired (word_of s (word_at p w) eav_xyz t) ∷ column s (word_at p w) line_start 2 t)))

-- test 24, given the sums that the pictures of the streams leave; it is test 24 if these are the sums of the window (law `sums_right`)
unfoldable pub holds24_by : Shape → List ℕ → Sums → ℕ → ℕ → Bool
holds24_by p w c j t =
    let word = word_of (streams p) (word_at p w) j t in
    cond (eqb j crcc_start) (eqb word (crcc_received p w t (sum_in c t)).crcc0)
    (cond (eqb j (crcc_start + 1)) (eqb word (crcc_received p w t (sum_in c t)).crcc1) true)

-- what each test asks of a word
unfoldable pub holds_of : Test → Format → Shape → List ℕ → Sums → ℕ → ℕ → Bool
holds_of Timing f p w c = holds21 (streams p) (word_at p w)
holds_of LineNumber f p w c = holds22 (streams p) (word_at p w)
holds_of V f p w c = holds23 (streams p) (word_at p w)
holds_of Crcc f p w c = holds24_by p w c
holds_of Sample f p w c = picture25 f (streams p) (word_at p w)
holds_of Fill f p w c = fill26 (streams p) (word_at p w)

-- at interleaved place k of a window
abbrev pub holds_at : Test → Format → Shape → List ℕ → Sums → ℕ → Bool
holds_at test f p w c = placed (streams p) (holds_of test f p w c)

-- the lowest place from one to another at which a test does not hold, if any
unfoldable pub wrong_in : (ℕ → Bool) → ℕ → ℕ → Option ℕ
wrong_in holds from to = first_from from (to - from) (λ k. not (holds k))

-- it, as it is answered
abbrev pub lowest_of : Option ℕ → Answered ℕ
lowest_of none = None
lowest_of (some k) = Some k
