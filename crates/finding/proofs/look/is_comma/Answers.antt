-- `finding::look::is_comma` meets its contract: the two forms are those of the code.
-- Assumes nothing.
use mathlib.Core.Path.{refl}
use Rattle.symbol.specs.Code.{symbol_of}
use Rattle.recording.specs.Inside.Look.{is_comma}
use Rattle.finding.proofs.look.is_comma.Goals as goal

pub returns : goal.returns
unfolding is_comma symbol_of
returns c = refl
