-- What one stream carries from the SAV of line n up to the next SAV, without fill (document 01, "A span"; 004, 6.1 to 6.8 and table 4).
-- Streams count from 0 here, so the paper's stream 1 is stream 0.
-- Assumes nothing.
use Rattle.std.specs.Prelude.{ℕ, ◌+◌, ◌*◌, true, false, List, [], ◌∷◌, ◌++◌, get_or, replicate}
use Rattle.ground.specs.Written.{table}
use Rattle.line.specs.Stream.{v_of, line_after}
use Rattle.crcc.specs.declared.crcc.CrccWords.{CrccWords}
use Rattle.crcc.specs.Crcc.{crc, crcc_words}
use Rattle.word.specs.LineNumber.{ln0, ln1}
use Rattle.word.specs.Timing.{timing_code}
use Rattle.span.specs.Content.{Content}
use Rattle.span.specs.declared.format.Format.{Format}
use Rattle.span.specs.Format.{shape_of}
use Rattle.span.specs.Sample.{blank_word, sample_word}

-- what a caller asks to be sent: the line, the content bytes, the samples stream by stream
pub record Request : Type 0 where
  pub line : ℕ
  pub content : Content
  pub samples : List ℕ

-- 6.2, table 6: the four words of the SAV, with V of line n
abbrev pub sav : Request → List ℕ
sav a = timing_code (v_of a.line) false

-- 6.1: the 1920 words of stream t
unfoldable pub picture : Format → Request → ℕ → List ℕ
picture f a t = table 1920 (λ j. sample_word f a.line t (get_or a.samples (1920 * t + j) 0))

-- 6.2 and 6.3: the EAV, with V of the next line, and that line's number
abbrev pub eav : Request → List ℕ
eav a = timing_code (v_of (line_after a.line)) true

abbrev pub line_number : Request → List ℕ
line_number a = ln0 (line_after a.line) ∷ ln1 (line_after a.line) ∷ []

-- 6.4: the CRCC covers everything after the SAV up to the last line-number word, so its picture words are those of the line before the
-- numbered one
unfoldable pub register : Format → Request → ℕ → ℕ
unfolding picture ln0 ln1
register f a t = crc 0 (picture f a t ++ (eav a ++ line_number a))

-- table 9: word CRCC0, then word CRCC1
abbrev pub crcc_pair : CrccWords → List ℕ
crcc_pair w = w.crcc0 ∷ w.crcc1 ∷ []

abbrev pub crcc : Format → Request → ℕ → List ℕ
crcc f a t = crcc_pair (crcc_words (register f a t))

-- 6.8: the ancillary area, blanking throughout
unfoldable pub ancillary : Format → ℕ → ℕ → List ℕ
unfolding shape_of
ancillary f n t = replicate (shape_of f).ancillary (blank_word f)

-- the SAV and what follows it up to the EAV
abbrev pub from_sav : Format → Request → ℕ → List ℕ
from_sav f a t = sav a ++ picture f a t

-- the EAV and what follows it up to the next SAV
abbrev pub from_eav : Format → Request → ℕ → List ℕ
from_eav f a t = eav a ++ (line_number a ++ (crcc f a t ++ ancillary f a.line t))
