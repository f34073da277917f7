-- Which samples a stream may carry on a line, and the words sent for them: the part that only loops and proofs use. The rest is in
-- specs/Sample.
-- Assumes nothing.
use Rattle.std.specs.Prelude.{ℕ, cond, eqb}
use Rattle.line.specs.Stream.{is_active}
use Rattle.span.specs.declared.format.Format.{Format}
use Rattle.span.specs.declared.sample.Bounds.{Bounds}
use Rattle.span.specs.Sample.{blank_word}

-- the same for a loop: the lowest and highest sample allowed (law `allowed_is`), and the factor that turns it into a word (law `word_is`)
abbrev pub bounds_of : Format → ℕ → Bounds
bounds_of f n =
    cond (is_active n)
    (cond (eqb f.depth 10) (record { low = 4; high = 1019; factor = 4 }) (record { low = 16; high = 4079; factor = 1 }))
    (record { low = blank_word f; high = blank_word f; factor = 1 })
