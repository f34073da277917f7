-- What is asked of the test generator: definitions that only loops and proofs use. The rest is in specs/Parameters.
-- Assumes nothing.
use Rattle.std.specs.Prelude.{Result, Ok, Err}
use Rattle.ground.specs.Answer.{Answer, refused, given}
use Rattle.generate.specs.declared.parameters.Parameters.{Parameters}
use Rattle.generate.specs.declared.parameters.WantError.{WantError}
use Rattle.generate.specs.declared.parameters.WantError.TheVariants.{UnknownFormat, NoLine, WrongInput}

-- the paper's number for each answer
abbrev pub paper_wanted : Result Parameters WantError → Answer Parameters
paper_wanted (Ok p) = given p
paper_wanted (Err UnknownFormat) = refused 1 0
paper_wanted (Err NoLine) = refused 2 0
paper_wanted (Err WrongInput) = refused 3 0
