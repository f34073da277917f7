-- What the rig sends: the test picture, stream line after stream line, the disparity handed on.
-- Assumes nothing.
use Rattle.std.specs.Prelude.{ℕ, zero, suc, None}
use Rattle.symbol.specs.declared.disparity.Disparity.{Disparity}
use Rattle.span.specs.Span.{span_after}
use Rattle.span.specs.Stream.{Request}
use Rattle.request.specs.Send.{request}
use Rattle.test_picture.specs.TestPicture.{test_samples}
use Rattle.reception.specs.Link.{link}

-- what is requested on line n: its samples of the test picture, and no content bytes
abbrev pub request_on : ℕ → Request
request_on n = request n None (test_samples link n)

-- the disparity after m lines from line n on
unfoldable pub after_from : Disparity → ℕ → ℕ → Disparity
after_from d n zero = d
after_from d n (suc m) = after_from (span_after d link (request_on n)) (suc n) m
