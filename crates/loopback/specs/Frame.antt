-- The frame: what comes of all its pieces, sent one after another.
-- Assumes nothing.
use Rattle.std.specs.Prelude.{◌≡◌, List, ℕ, Result, Ok, Err}
use Rattle.ground.specs.Written.{upto}
use Rattle.symbol.specs.declared.disparity.Disparity.{Disparity}
use Rattle.symbol.specs.Disparity.{fresh}
use Rattle.rig.specs.declared.knock.Knock.{Knock}
use Rattle.rig.specs.Piece.{heard_in}
use Rattle.rig.specs.Sending.{after_from}

-- which of its lines were heard: flags from line 1 on, piece after piece
abbrev pub heard_of : Knock → List ℕ
heard_of k = upto 225 (heard_in k)

-- the disparity after it: fresh at first, and handed from line to line (the pieces are one signal: law `sent_on`, crate rig)
abbrev pub after_frame : Disparity
after_frame = after_from fresh 1 1125

-- what the flags and the answer say if all of it was written
abbrev pub FrameTold : {E : Type 0} → Knock → Result Disparity E → List ℕ → Type 0
FrameTold k (Ok after) heard = (heard ≡ heard_of k) × (after ≡ after_frame)
FrameTold k (Err why) heard = Unit
