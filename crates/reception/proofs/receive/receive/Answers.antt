-- `reception::receive::receive` meets its contract: what is received into cleared memory, where there is room for it.
-- Assumes nothing.
use Rattle.std.proofs.Common.{◌≡◌, sym, ◌∙◌, length, replicate, rules}
use Rattle.reception.proofs.Readiness.{made}
use Rattle.reception.proofs.receive.receive.Goals as goal

pub returns-then-is_ready : goal.returns-then-is_ready
returns-then-is_ready c =
    let a = c.args in
    let clear : c.fill.new.self ≡ replicate (length a.heard.now) 0 = search rules in
    let dark : c.fill-then-is_ready.new.self ≡ replicate (length a.picture.now) 0 = search rules in
    let told = made a.first.0 a.symbols.now a.heard.now a.picture.now (sym c.is_ready.ensures ∙ c.if-is_ready.true) clear dark c.receive_all.ensures.heard c.receive_all.ensures.picture in
    record { done = told.0; heard = told.1.0; picture = told.1.1 }
