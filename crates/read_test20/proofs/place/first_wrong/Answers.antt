-- `read_test20::place::first_wrong` meets its contract: test 20 holds at every symbol before i, and the bit is that of the disparity there.
-- Assumes nothing.
use mathlib.Core.Path.{◌≡◌, sym, ap, ◌∙◌}
use mathlib.Core.List.{List}
use Prim.Native.Nat.{ℕ}
use native.Mathlib.Omega.{arith}
use lib.ListN.{length}
use Rattle.decoder.specs.Inside.Decoder.{decoding_table, entry_in}
use Rattle.window.specs.Scan.{symbol_at}
use Rattle.read_test20.proofs.Window.{on, stops, ends}
use Rattle.read_test20.proofs.place.first_wrong.Goals as goal

pub loop-i-preserved : goal.loop-i-preserved
loop-i-preserved c =
    let a = c.args in
    let v = c.loop-i in
    let e = c.entry-e in
    let is : e.result ≡ entry_in decoding_table (symbol_at a.symbols.now v.i) = e.ensures ∙ ap (λ (t : List ℕ). entry_in t (symbol_at a.symbols.now v.i)) c.requires.t_value in
    rw c.after_by-m.ensures
    (on a.p a.symbols.now v.invariant is c.loop-i-test.true
    (sym c.holds.ensures ∙ c.if-not-holds.false))

pub returns-then-not-holds : goal.returns-then-not-holds
returns-then-not-holds c =
    let a = c.args in
    let v = c.loop-i in
    let e = c.entry-e in
    let is : e.result ≡ entry_in decoding_table (symbol_at a.symbols.now v.i) = e.ensures ∙ ap (λ (t : List ℕ). entry_in t (symbol_at a.symbols.now v.i)) c.requires.t_value in
    stops a.p a.symbols.now v.invariant is c.loop-i-test.true (sym c.holds.ensures ∙ c.if-not-holds.true)

pub returns : goal.returns
returns c =
    let a = c.args in
    let r = c.loop-i.invariant in
    let end : length a.symbols.now ≡ c.loop-i.i = omega (arith, c.loop-i-test.false, r.within) in
    end ∙ ends a.p a.symbols.now r (omega (arith, c.loop-i-test.false))
