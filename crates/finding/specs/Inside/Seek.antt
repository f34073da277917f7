-- What is read at a place.
-- Assumes nothing.
use Rattle.std.specs.Prelude.{ℕ, List, take, drop}
use Rattle.std.proofs.Math.Option.{Option}
use Rattle.span.specs.declared.format.Format.{Format}
use Rattle.span.specs.Format.{shape_of, symbols_in}
use Rattle.delivery.specs.Delivery.{Found, found_at}
use Rattle.recording.specs.Recording.{Reading, reading}

-- what is read at place q
abbrev pub read_at : Format → List ℕ → ℕ → Option (Found Reading)
read_at f r q = found_at q (reading f (take (symbols_in (shape_of f)) (drop q r)))
