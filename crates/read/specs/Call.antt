-- The paper's number and values for each answer (document 01, its table of refusals).
-- Assumes nothing.
use Rattle.std.specs.Prelude.{Result, Ok, Err}
use Rattle.ground.specs.Answer.{Answer, refused, given}
use Rattle.window.specs.declared.delivery.Delivery.{Delivery}
use Rattle.read_test21_26.specs.Tests.{number_of}
use Rattle.read.specs.declared.answer.ReadError.{ReadError}
use Rattle.read.specs.declared.answer.ReadError.TheVariants.{UnknownFormat, WrongInput, WrongOutput, WrongSymbol, Fails}

abbrev pub paper_read : Result Delivery ReadError → Answer Delivery
paper_read (Ok d) = given d
paper_read (Err UnknownFormat) = refused 1 0
paper_read (Err WrongInput) = refused 3 0
paper_read (Err WrongOutput) = refused 4 0
paper_read (Err (WrongSymbol place)) = refused 20 place
paper_read (Err (Fails x)) = refused (number_of x.test) x.place
