-- The line that a window answers: the one before the line that the words of this window name, the same two words in every stream.
-- Assumes nothing.
use mathlib.Core.Path.{◌≡◌, refl, sym, ap₂, ◌∙◌}
use mathlib.Core.Bool.{true}
use mathlib.Core.List.{List}
use Prim.Native.Nat.{ℕ, ◌+◌, ◌≤◌, ◌<◌}
use native.Mathlib.Omega.{arith}
use Rattle.ground.proofs.Ranges.{from_low, to_high}
use Rattle.line.specs.Stream.{line_before}
use Rattle.span.specs.declared.format.Format.{Format}
use Rattle.span.specs.Format.{is_known, shape_of, streams}
use Rattle.span.specs.Layout.{line_start}
use Rattle.span.proofs.Lengths.{known_has_streams}
use Rattle.word.specs.LineNumber.{ln0, ln1}
use Rattle.word.specs.Word.{guarded}
use Rattle.word.proofs.LineNumbers.{number_in, number_again}
use Rattle.window.specs.Read.{delivery_of}
use Rattle.window.specs.Tests.{word_of, next_line, line_read}
use Rattle.window.specs.Words.{word_at}
use Rattle.window.proofs.Accepting.{Accepted}
use Rattle.window.proofs.Meeting.{next_is_line, first_ln0, first_ln1, ln0_told, ln1_told}

module _ (f : Format) (w : List ℕ) (known : is_known f ≡ true) (acc : Accepted f w) where
  abbrev s : ℕ
  s = streams (shape_of f)

  abbrev word : ℕ → ℕ
  word = word_at (shape_of f) w

  -- there is a stream 1
  streamed : 0 < s
  streamed = omega (arith, known_has_streams f known)

  -- stream 1 of this window names a line, and the line before it is answered
  pub line_answered :
      (m : ℕ)
      × (1 ≤ m)
      × (m ≤ 1125)
      × (word_of s word line_start 0 ≡ ln0 m)
      × (word_of s word (line_start + 1) 0 ≡ ln1 m)
      × ((delivery_of f w).line.0 ≡ line_before m)
  unfolding delivery_of line_read
  line_answered =
      let m = next_line s word in
      let line = next_is_line f word acc.words streamed in (
        m,
        from_low 1 1125 m line,
        to_high 1 1125 m line,
        first_ln0 f word acc.words streamed,
        first_ln1 f word acc.words streamed,
        refl,
      )

  -- every other stream has the same two words
  pub all_streams :
      (t : ℕ) → t < s → (word_of s word line_start t ≡ word_of s word line_start 0) × (word_of s word (line_start + 1) t ≡ word_of s word (line_start + 1) 0)
  all_streams t l = (
    ln0_told f word acc.words t l ∙ sym (ln0_told f word acc.words 0 streamed),
    ln1_told f word acc.words t l ∙ sym (ln1_told f word acc.words 0 streamed),
  )

  -- the lost recital: LN0 of line 128 and LN1 of line 127 are no line's words
  pub recital : word_of s word line_start 0 ≡ ln0 128 → word_of s word (line_start + 1) 0 ≡ ln1 127 → ⊥
  unfolding ln0 ln1 guarded
  recital p q =
      let (m, from, to, low, high, _) = line_answered in
      let e : m ≡ 0 = sym (number_again m (omega arith)) ∙ ap₂ number_in (sym low ∙ p) (sym high ∙ q) in
      omega arith
