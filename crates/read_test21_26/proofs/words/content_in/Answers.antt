-- `read_test21_26::words::content_in` meets its contract.
-- Assumes nothing.
use Rattle.window.proofs.Symbols.{byte_is}
use Rattle.read_test21_26.proofs.Calls.{content_is}
use Rattle.read_test21_26.proofs.words.content_in.Goals as goal

pub returns : goal.returns
returns c =
    let table = c.args.w.given.table in
    content_is c.args.w.shape c.args.w.symbols.now (byte_is _ table c.byte_of.ensures) (byte_is _ table c.byte_of-2.ensures)
    (byte_is _ table c.byte_of-3.ensures) (byte_is _ table c.byte_of-4.ensures)
