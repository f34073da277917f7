-- What holds of the answers of the way back, for a reader of the papers; `proofs/Laws` proves each.
-- Assumes nothing.
use Rattle.ground.specs.Inside.Answer.{Injective}
use Rattle.way_back.specs.Back.{paper_back}

pub record WayBackLaws : Type 0 where
  -- the paper's number and values tell any two answers apart, so that a promise about them fixes the answer
  pub back_told : Injective paper_back
