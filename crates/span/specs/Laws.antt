-- Laws of a span, for a reader of the papers; `proofs/Laws` proves each. Streams count from 0 here, so the paper's stream 1 is stream 0.
-- Assumes nothing.
use Rattle.std.specs.Prelude.{ℕ, ◌*◌, ◌≡◌, true}
use Rattle.ground.specs.Range.{within}
use Rattle.ground.specs.Inside.Answer.{Injective}
use Rattle.span.specs.declared.format.Format.{Format}
use Rattle.span.specs.Blanking.{paper_filled}
use Rattle.span.specs.Length.{paper_lengths}
use Rattle.span.specs.Numbers.{IsFormat}
use Rattle.span.specs.Sample.{allowed, sample_word}
use Rattle.span.specs.Inside.Sample.{bounds_of}

pub record SpanLaws : Type 0 where
  -- the bounds and the factor that the code uses agree with the rule for each sample
  pub bounds_agree :
      (f : Format)
      → IsFormat f
      → (n t x : ℕ)
      → allowed f n t x ≡ within (bounds_of f n).low (bounds_of f n).high x
  pub factor_agrees :
      (f : Format)
      → IsFormat f
      → (n t x : ℕ)
      → allowed f n t x ≡ true
      → sample_word f n t x ≡ x * (bounds_of f n).factor
  -- the paper's number and values tell any two answers apart, so that a contract about them fixes the answer
  pub lengths_told : Injective paper_lengths
  pub filled_told : Injective paper_filled
