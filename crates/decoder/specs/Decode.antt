-- What the single decoder answers (document 01, "Receiving and finding", refusals 7 and 20).
-- Assumes nothing.
use Rattle.std.specs.Prelude.{ℕ, [], ◌∷◌, ltb, Result, Ok, Err}
use Rattle.std.proofs.Math.Option.{get_or}
use Rattle.ground.specs.Answer.{Answer, refused, given, unless, checked}
use Rattle.ground.specs.Search.{is_some}
use Rattle.symbol.specs.declared.disparity.Disparity.{Disparity}
use Rattle.decoder.specs.declared.decode.Decoded.{Decoded}
use Rattle.decoder.specs.declared.decode.DecodeError.{DecodeError}
use Rattle.decoder.specs.declared.decode.DecodeError.TheVariants.{Above1023, Illegal}
use Rattle.symbol.specs.Character.{character_of}
use Rattle.symbol.specs.Code.{char_of, after_of}

-- the paper's number and values for each answer
abbrev pub paper_decoded : Result Decoded DecodeError → Answer Decoded
paper_decoded (Ok r) = given r
paper_decoded (Err Above1023) = refused 7 0
paper_decoded (Err Illegal) = refused 20 0

-- symbol s, where the disparity before it is d: 7 above 1023, 20 if no character has it at d
abbrev pub decode_of : Disparity → ℕ → Answer Decoded
decode_of d s =
    let c = get_or (char_of d s) 0 in
    checked (unless 7 (ltb s 1024) ∷ unless 20 (is_some (char_of d s)) ∷ [])
    (record { character = character_of c; after = after_of d c })
