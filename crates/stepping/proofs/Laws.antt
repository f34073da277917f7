-- Laws of the stepping reader, proved.
-- Assumes nothing.
use mathlib.Core.Path.{refl}
use Rattle.recording.specs.Steps.{run_from}
use Rattle.stepping.specs.Laws.{SteppingLaws}

pub stepping_laws : SteppingLaws
unfolding run_from
stepping_laws = record { step_by_step = λ f r rows k. refl }
