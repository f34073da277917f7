-- Two words as three bytes. Figure 13 of 004, which gives the order, is missing from our copy. Until it is read, the order is that
-- of document 01, "A span", and it is in one definition: bytes_of.
-- Assumes nothing.
use Rattle.std.specs.Prelude.{ℕ, ◌+◌, ◌*◌, ◌/◌, ◌%◌, Bool, ◌&&◌, [], ◌∷◌, eqb, Result, Ok, Err}
use Rattle.std.proofs.Math.Option.{get_or}
use Rattle.ground.specs.Answer.{Answer, refused, given, unless, checked}
use Rattle.ground.specs.Search.{first_below}
use Rattle.packing.specs.declared.bytes.ThreeBytes.{ThreeBytes}
use Rattle.packing.specs.declared.bytes.TwoWords.{TwoWords}
use Rattle.packing.specs.declared.bytes.Above4095.{Above4095}
use Rattle.word.specs.Word.{is_word}

-- the low eight bits of a; the low four of b above the high four of a; the high eight of b
unfoldable pub bytes_of : ℕ → ℕ → ThreeBytes
bytes_of a b = record { first = a % 256; second = b % 16 * 16 + a / 256 % 16; third = b / 16 % 256 }

abbrev pub same_bytes : ThreeBytes → ThreeBytes → Bool
same_bytes s t = eqb s.first t.first && (eqb s.second t.second && eqb s.third t.third)

-- a pair of words as one number below 2 ^ 24, so that a search can go through all of them
abbrev pub pair : ℕ → TwoWords
pair n = record { a = n % 4096; b = n / 4096 }

-- the words whose bytes these are: the inverse of bytes_of
unfoldable pub unpacked : ThreeBytes → TwoWords
unpacked t = pair (get_or (first_below 16777216 (λ n. same_bytes (bytes_of (n % 4096) (n / 4096)) t)) 0)

-- the paper's number and values for each answer
abbrev pub paper_packed : Result ThreeBytes Above4095 → Answer ThreeBytes
paper_packed (Ok t) = given t
paper_packed (Err e) = refused 7 0

-- the bytes of two words: 7 if either is above 4095
abbrev pub packed_of : ℕ → ℕ → Answer ThreeBytes
packed_of a b = checked (unless 7 (is_word a && is_word b) ∷ []) (bytes_of a b)
