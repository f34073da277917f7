-- A run of steps of one reader, for the law that ties it to runs over a recording.
-- Assumes nothing.
use Rattle.std.specs.Prelude.{ℕ, List}
use Rattle.span.specs.declared.format.Format.{Format}
use Rattle.stepping.specs.declared.reader.Reader.{Reader}
use Rattle.recording.specs.Steps.{Step, run_from}

-- k steps of a reader (law `step_by_step`: each is a step of the reader as the one before left it)
abbrev pub run_of : ℕ → Format → Reader → List ℕ → List Step
run_of k f r rows = run_from k f r.symbols.now r.place rows
