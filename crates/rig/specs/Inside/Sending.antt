-- What the rig sends: definitions that only loops and proofs use. The rest is in specs/Sending.
-- Assumes nothing.
use Rattle.std.specs.Prelude.{ℕ, zero, suc, List, [], ◌∷◌}
use Rattle.symbol.specs.declared.disparity.Disparity.{Disparity}
use Rattle.span.specs.Span.{signal_from}
use Rattle.span.specs.Stream.{Request}
use Rattle.reception.specs.Link.{link}
use Rattle.rig.specs.Sending.{request_on}

-- the requests on m lines from line n on
unfoldable pub requests_from : ℕ → ℕ → List Request
requests_from n zero = []
requests_from n (suc m) = request_on n ∷ requests_from (suc n) m

-- their symbols, from disparity d before them
abbrev pub sent_from : Disparity → ℕ → ℕ → List ℕ
sent_from d n m = signal_from d link (requests_from n m)
