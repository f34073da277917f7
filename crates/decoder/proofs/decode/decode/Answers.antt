-- `decoder::decode::decode` meets its contract: the symbol's entry says what decoding answers.
-- Assumes nothing.
use mathlib.Core.Path.{◌∙◌, ap}
use Prim.Native.Nat.{◌<◌}
use native.Mathlib.Omega.{arith}
use Rattle.decoder.specs.Inside.Decoder.{decoded_by}
use Rattle.decoder.proofs.Reading.{decode_entry}
use Rattle.decoder.proofs.decode.decode.Goals as goal

pub returns : goal.returns
returns c =
    let a = c.args in
    let h : a.s < 1024 = omega arith in
    c.decode_by.ensures ∙ ap (decoded_by a.d) c.entry_of.ensures ∙ decode_entry a.d a.s h
