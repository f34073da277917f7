-- What the program that lists repairs prints (document 01, "Values to hold against it"), as ASCII codes.
-- Assumes nothing.
use Rattle.std.specs.Prelude.{ℕ, List, [], ◌∷◌, ◌++◌, length, Option, Some, None}
use Rattle.ground.specs.Answer.{Answer, refused, given}
use Rattle.ground.specs.Written.{upto}
use Rattle.text.specs.Number.{decimal, hexadecimal}
use Rattle.text.specs.Put.{space, newline}
use Rattle.text.specs.Words.{word_in_bytes, count_of}
use Rattle.word.specs.declared.repair.Repaired.{Repaired}
use Rattle.word.specs.Repair.{repair_of}

-- "refused"
abbrev pub refused_line : List ℕ
refused_line = 114 ∷ 101 ∷ 102 ∷ 117 ∷ 115 ∷ 101 ∷ 100 ∷ newline ∷ []

-- the wrong bit, or "-"
abbrev pub bit_text : Option ℕ → List ℕ
bit_text None = 45 ∷ []
bit_text (Some k) = decimal k

-- the repaired word, the distance and the wrong bit, or "refused"
abbrev pub outcome : Answer Repaired → List ℕ
outcome (given r) = hexadecimal r.word ++ (space ∷ []) ++ decimal r.distance ++ (space ∷ []) ++ bit_text r.bit ++ (newline ∷ [])
outcome (refused number place) = refused_line

-- index, word, and its outcome
abbrev pub repair_line : ℕ → ℕ → List ℕ
repair_line index w = decimal index ++ (space ∷ []) ++ hexadecimal w ++ (space ∷ []) ++ outcome (repair_of w)

-- how many words there are: an odd last byte and everything past 64 KiB, which are 32,768 words, are ignored
abbrev pub word_count : ℕ → ℕ
word_count len = count_of 32768 len

-- the lines of the first n words
abbrev pub repair_lines : List ℕ → ℕ → List ℕ
repair_lines input n = upto n (λ k. repair_line k (word_in_bytes input k))

-- all that is printed
abbrev pub repair_listing : List ℕ → List ℕ
repair_listing input = repair_lines input (word_count (length input))
