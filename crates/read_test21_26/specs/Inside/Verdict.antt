-- The verdict of a list of tests.
-- Assumes nothing.
use Rattle.std.specs.Prelude.{ℕ, cond, eqb, Result, Ok, Err, ◌*◌, Bool, true, false, List, [], ◌∷◌}
use Rattle.std.proofs.Math.Option.{Option, none, some}
use Rattle.ground.specs.Answer.{Row}
use Rattle.span.specs.declared.format.Shape.{Shape}
use Rattle.span.specs.Format.{streams, pairs_in}
use Rattle.crcc.specs.declared.sums.Sums.{Sums}
use Rattle.window.specs.Read.{lowest, placed}
use Rattle.window.specs.Tests.{holds21, holds22, holds23}
use Rattle.window.specs.Words.{word_at}
use Rattle.read_test21_26.specs.declared.service.Fault.{Fault}
use Rattle.read_test21_26.specs.declared.service.Test.{Test}
use Rattle.read_test21_26.specs.Inside.Holds.{holds24_by}
use Rattle.read_test21_26.specs.declared.service.Test.TheVariants.{Timing, Line, V, Crcc, Sample, Fill}

-- the test with a number from 21 to 26
abbrev pub test_of : ℕ → Test
test_of n =
    cond (eqb n 21) Timing (cond (eqb n 22) Line (cond (eqb n 23) V (cond (eqb n 24) Crcc (cond (eqb n 25) Sample Fill))))

-- that all hold, or the first that does not
abbrev pub Verdict : Type 0
Verdict = Result (Unit {0}) Fault

abbrev pub verdict_of : Test → Option ℕ → Verdict → Verdict
verdict_of test none rest = rest
verdict_of test (some k) rest = Err (record { test = test; place = k })

abbrev pub is_failed : Verdict → Bool
is_failed (Ok done) = false
is_failed (Err x) = true

-- the first row that does not hold
abbrev pub first_row : List Row → Verdict
first_row [] = Ok tt
first_row (r ∷ rs) = verdict_of (test_of r.number) r.fails (first_row rs)

-- tests 21 to 24, given the sums that the pictures of the streams leave
abbrev pub service_tests : Shape → List ℕ → Sums → List Row
service_tests p w c =
    let s = streams p in
    let n = 2 * pairs_in p in
    lowest 21 n (placed s (holds21 s (word_at p w)))
    ∷ lowest 22 n (placed s (holds22 s (word_at p w)))
    ∷ lowest 23 n (placed s (holds23 s (word_at p w)))
    ∷ lowest 24 n (placed s (holds24_by p w c))
    ∷ []
