-- Laws of the calls that read; `proofs/Laws` proves each.
-- Assumes nothing.
use Rattle.ground.specs.Inside.Answer.{Injective}
use Rattle.read.specs.Call.{paper_read}

pub record ReadLaws : Type 0 where
  -- the paper's number and values tell any two answers apart, so that a contract about them fixes the answer
  pub read_told : Injective paper_read
