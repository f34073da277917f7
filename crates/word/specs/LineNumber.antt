-- The line number words (004, 6.3 and table 8).
-- Assumes nothing.
use Rattle.std.specs.Prelude.{ℕ, ◌*◌, ◌/◌, ◌%◌, ◌^◌, Bool, ◌&&◌, [], ◌∷◌, eqb, Result, Ok, Err}
use Rattle.std.proofs.Math.Option.{Option, get_or}
use Rattle.ground.specs.Answer.{Answer, refused, given, unless, checked}
use Rattle.ground.specs.Search.{first_below, is_some}
use Rattle.line.specs.declared.stream.StreamLine.{StreamLine}
use Rattle.line.specs.Stream.{is_line}
use Rattle.word.specs.declared.line_number.LineWords.{LineWords}
use Rattle.word.specs.declared.line_number.NoLine.{NoLine}
use Rattle.word.specs.declared.line_number.NameError.{NameError}
use Rattle.word.specs.declared.line_number.NameError.TheVariants.{Above4095, Nameless}
use Rattle.word.specs.Word.{is_word, guarded}

-- table 8: LN0 has L6 to L0 at b10 to b4; LN1 has L10 to L7 at b7 to b4; b11 is the opposite of b10; reserved bits are 0
unfoldable pub ln0 : ℕ → ℕ
ln0 n = guarded (n % 2 ^ 7 * 2 ^ 4)

unfoldable pub ln1 : ℕ → ℕ
ln1 n = guarded (n / 2 ^ 7 % 2 ^ 4 * 2 ^ 4)

abbrev pub line_words : ℕ → LineWords
line_words n = record { ln0 = ln0 n; ln1 = ln1 n }

-- the paper's number and values for each answer
abbrev pub paper_numbered : Result LineWords NoLine → Answer LineWords
paper_numbered (Ok w) = given w
paper_numbered (Err e) = refused 2 0

-- the words of stream line n; 2 if it is not 1 to 1125
abbrev pub numbered_of : ℕ → Answer LineWords
numbered_of n = checked (unless 2 (is_line n) ∷ []) (line_words n)

-- words a b are, bit for bit, what is sent for line n
abbrev pub are_words_of : ℕ → ℕ → ℕ → Bool
are_words_of a b n = is_line n && (eqb (ln0 n) a && eqb (ln1 n) b)

-- the line that two words name, if there is one
unfoldable pub line_of : ℕ → ℕ → Option ℕ
line_of a b = first_below 1126 (are_words_of a b)

abbrev pub paper_named : Result StreamLine NameError → Answer StreamLine
paper_named (Ok l) = given l
paper_named (Err Above4095) = refused 7 0
paper_named (Err Nameless) = refused 22 0

-- the line that two words name: 7 if either is above 4095, then 22 if there is none
abbrev pub named_of : ℕ → ℕ → Answer StreamLine
named_of a b =
    checked (unless 7 (is_word a && is_word b) ∷ unless 22 (is_some (line_of a b)) ∷ []) (record { 0 = get_or (line_of a b) 0 })
