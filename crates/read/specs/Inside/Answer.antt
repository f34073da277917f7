-- Why a span is not read, by why it is not taken, or not judged.
-- Assumes nothing.
use Rattle.read_test20.specs.declared.whole.TakeError.{TakeError}
use Rattle.read_test20.specs.declared.whole.TakeError.TheVariants.{Invalid, NotExamined}
use Rattle.read_test21_26.specs.declared.call.JudgeError.{JudgeError}
use Rattle.read_test21_26.specs.declared.call.JudgeError.TheVariants.{Fails as Wrong, NoWindow}
use Rattle.read.specs.declared.answer.ReadError.{ReadError}
use Rattle.read.specs.declared.answer.ReadError.TheVariants.{WrongInput, WrongSymbol, Fails}

abbrev pub read_taken : TakeError → ReadError
read_taken (Invalid place) = WrongSymbol place
read_taken NotExamined = WrongInput

abbrev pub read_judged : JudgeError → ReadError
read_judged (Wrong x) = Fails x
read_judged NoWindow = WrongInput
