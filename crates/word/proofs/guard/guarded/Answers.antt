-- `word::guard::guarded` meets its contract, which is its code.
-- Assumes nothing.
use mathlib.Core.Path.{refl}
use Rattle.word.specs.Word.{guarded}
use Rattle.word.proofs.guard.guarded.Goals as goal

pub returns : goal.returns
unfolding guarded
returns c = refl
