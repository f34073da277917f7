-- `read::accept::accept` meets its contract.
-- Assumes nothing.
use mathlib.Core.Path.{sym, ap, ◌∙◌}
use lib.ListN.{length}
use Rattle.window.specs.Read.{picture_of, read_of}
use Rattle.window.proofs.Windows.{read_is}
use Rattle.read.specs.Inside.Accept.{accepted_in, delivered_in}
use Rattle.read.proofs.Accepted.{right, wrong, rows_right, rows_there, rows_any}
use Rattle.read.proofs.accept.accept.Goals as goal

pub accept_words-requires-clause-rows_value : goal.accept_words-requires-clause-rows_value
accept_words-requires-clause-rows_value c =
    let a = c.args in
    let w = a.symbols.now in
    let room = length a.rows.now in
    let told = right a.f w room (sym c.in_ok-v.was ∙ c.examine.ensures.answer) in
    rows_right a.f w room told.whole c.examine.ensures.rows

pub returns : goal.returns
returns c =
    let a = c.args in
    let w = a.symbols.now in
    let room = length a.rows.now in
    let told = right a.f w room (sym c.in_ok-v.was ∙ c.examine.ensures.answer) in
    let read = read_is a.f w told.is room told.enough in record { answer = c.accept_words.ensures ∙ sym (ap delivered_in read); rows = rows_there (read_of a.f w room) (rows_right a.f w room told.whole c.examine.ensures.rows) }

pub returns-in_err-v : goal.returns-in_err-v
returns-in_err-v c =
    let a = c.args in
    let w = a.symbols.now in
    let room = length a.rows.now in
    let refused = wrong a.f w room (sym c.in_err-v.was ∙ c.examine.ensures.answer) in
    record { answer = ap accepted_in c.from_residual.ensures ∙ refused; rows = rows_any (read_of a.f w room) (picture_of a.f w) refused }
