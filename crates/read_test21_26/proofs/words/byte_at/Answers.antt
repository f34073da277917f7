-- `read_test21_26::words::byte_at` meets its contract.
-- Assumes nothing.
use mathlib.Core.Path.{◌≡◌, sym, ap, ◌∙◌}
use Prim.Native.Nat.{◌+◌, ◌-◌, ◌*◌, ◌≤◌, ◌<◌}
use native.Mathlib.Omega.{arith}
use Rattle.span.specs.Format.{eav_at}
use Rattle.span.specs.Inside.Layout.{eav_symbol}
use Rattle.window.specs.Words.{byte_at}
use Rattle.window.proofs.Bytes.{byte_sav, byte_eav, byte_else}
use Rattle.window.proofs.Symbols.{byte_is}
use Rattle.read_test21_26.proofs.words.byte_at.Goals as goal

pub returns-then-i-lt4 : goal.returns-then-i-lt4
returns-then-i-lt4 c =
    let a = c.args in
    c.fixed_byte.ensures ∙ sym (byte_sav a.w.shape a.w.symbols.now a.i c.if-i-lt4.true)

pub returns-then-i-eav : goal.returns-then-i-eav
returns-then-i-eav c =
    let a = c.args in
    let h : 4 ≤ a.i = omega arith in
    byte_is _ c.args.w.given.table c.byte_of.ensures
    ∙ sym (byte_else a.w.shape a.w.symbols.now a.i h (λ l. omega arith))

pub returns-then-i-eav-2 : goal.returns-then-i-eav-2
returns-then-i-eav-2 c =
    let a = c.args in
    let i = a.i - eav_symbol * a.w.shape.stream_pairs in
    let h : i < 4 = omega arith in
    let back : eav_at a.w.shape + i ≡ a.i = omega arith in
    c.fixed_byte-then-i-eav-2.ensures
    ∙ sym (byte_eav a.w.shape a.w.symbols.now c.args.w.given.half i h)
    ∙ ap (byte_at a.w.shape a.w.symbols.now) back

pub returns : goal.returns
returns c =
    let a = c.args in
    let h : 4 ≤ a.i = omega arith in
    byte_is _ c.args.w.given.table c.byte_of-2.ensures
    ∙ sym (byte_else a.w.shape a.w.symbols.now a.i h (λ l. omega arith))
