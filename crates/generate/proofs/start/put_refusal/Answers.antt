-- `generate::start::put_refusal` meets its contract: the answer says which text it is.
-- Assumes nothing.
use mathlib.Core.Path.{sym}
use Rattle.generate.proofs.Starts.{refuses, text_1, text_2, text_3}
use Rattle.generate.proofs.start.put_refusal.Goals as goal

pub returns-in-Err-UnknownFormat : goal.returns-in-Err-UnknownFormat
returns-in-Err-UnknownFormat c = let bad = sym (rw c.in-Err-UnknownFormat.field-0-is at c.in-Err-UnknownFormat.ensures) in
    let told = refuses c.args.input.now c.args.out.now _ bad text_1 c.requires c.put_text.ensures.end
    c.put_text.ensures.written in record { counts = told.0; end = told.1.0; written = told.1.1 }

pub returns-in-Err-NoLine : goal.returns-in-Err-NoLine
returns-in-Err-NoLine c = let bad = sym (rw c.in-Err-NoLine.field-0-is at c.in-Err-NoLine.ensures) in
    let told = refuses c.args.input.now c.args.out.now _ bad text_2 c.requires c.put_text-in-Err-NoLine.ensures.end
    c.put_text-in-Err-NoLine.ensures.written in record { counts = told.0; end = told.1.0; written = told.1.1 }

pub returns-in-Err-WrongInput : goal.returns-in-Err-WrongInput
returns-in-Err-WrongInput c = let bad = sym (rw c.in-Err-WrongInput.field-0-is at c.in-Err-WrongInput.ensures) in
    let told = refuses c.args.input.now c.args.out.now _ bad text_3 c.requires c.put_text-in-Err-WrongInput.ensures.end
    c.put_text-in-Err-WrongInput.ensures.written in record { counts = told.0; end = told.1.0; written = told.1.1 }
