-- Laws of lines, for a reader of the papers; `proofs/Laws` proves each.
-- Assumes nothing.
use Rattle.std.specs.Prelude.{ℕ, ◌≤◌, ◌≡◌, true}
use Rattle.std.proofs.Math.Option.{some}
use Rattle.ground.specs.Inside.Answer.{Injective}
use Rattle.line.specs.declared.picture.PictureLine.{PictureLine}
use Rattle.line.specs.declared.stream.StreamLine.{StreamLine}
use Rattle.line.specs.Picture.{stream_line_of, basic_line_of, number_on, number_carried}
use Rattle.line.specs.Stream.{is_line, line_after, line_before}

pub record LineLaws : Type 0 where
  -- for any number, the line after it and the line before it are lines of a stream, 1 to 1125: never 0
  pub after_is_line : (n : ℕ) → is_line (line_after n) ≡ true
  pub before_is_line : (n : ℕ) → is_line (line_before n) ≡ true
  -- from a line to the next and back, and to the one before and back
  pub before_after : (n : ℕ) → 1 ≤ n → n ≤ 1125 → line_before (line_after n) ≡ n
  pub after_before : (n : ℕ) → 1 ≤ n → n ≤ 1125 → line_after (line_before n) ≡ n
  -- each comes back as the same line
  pub there_and_back : (l n : ℕ) → stream_line_of l ≡ some n → basic_line_of n ≡ some l
  pub back_and_there : (n l : ℕ) → basic_line_of n ≡ some l → stream_line_of l ≡ some n
  -- a line is determined by its number, so that a contract about the number fixes the line
  pub stream_line_told : Injective (λ (l : StreamLine). l.0)
  pub picture_line_told : Injective (λ (l : PictureLine). l.0)
  -- and an answer by the number in it
  pub travels_told : Injective number_on
  pub carries_told : Injective number_carried
