-- `decoder::meaning::meaning_of` meets its contract: the symbol's entry says what it means.
-- Assumes nothing.
use mathlib.Core.Path.{◌∙◌, ap}
use Prim.Native.Nat.{◌<◌}
use native.Mathlib.Omega.{arith}
use Rattle.ground.specs.Answer.{given}
use Rattle.decoder.specs.Inside.Decoder.{meaning_by}
use Rattle.decoder.proofs.Reading.{meaning_entry}
use Rattle.decoder.proofs.meaning.meaning_of.Goals as goal

pub returns : goal.returns
returns c =
    let a = c.args in
    let h : a.s < 1024 = omega arith in
    ap given c.meaning_by.ensures ∙ ap meaning_by c.entry_of.ensures ∙ meaning_entry a.s h
