-- Which samples a stream may carry on a line, and the words sent for them (document 01, "Words of a stream" and "Sending"; 004, 6.1, 6.8).
-- Assumes nothing.
use Rattle.std.specs.Prelude.{ℕ, Bool, cond, eqb}
use Rattle.line.specs.Stream.{is_active}
use Rattle.packing.specs.Sample.{allowed_at_depth as allowedAt, word_at_depth as word_at}
use Rattle.span.specs.declared.format.Format.{Format}
use Rattle.span.specs.Format.{is_difference}

-- 6.8: the blanking word of a link's streams, which all carry one component (5.1.1 and 5.1.2); it has twelve bits at both depths
abbrev pub blank_word : Format → ℕ
blank_word f = cond (is_difference f) 0x800 0x100

-- whether stream t of line n may carry sample x: on an active line what the depth allows, on a blanking line only the blanking word
abbrev pub allowed : Format → ℕ → ℕ → ℕ → Bool
allowed f n t x = cond (is_active n) (allowedAt f.depth x) (eqb x (blank_word f))

-- the word sent for it: on an active line by the depth, on a blanking line unchanged
abbrev pub sample_word : Format → ℕ → ℕ → ℕ → ℕ
sample_word f n t x = cond (is_active n) (word_at f.depth x) x
