-- What the calls answer.
-- Assumes nothing.
use Rattle.std.specs.Prelude.{ℕ, Option as Answered, Result, Ok, Err, ◌+◌, ◌*◌, Bool, cond, ◌&&◌, List, eqb, length}
use Rattle.std.proofs.Math.Option.{Option}
use Rattle.span.specs.declared.format.Format.{Format}
use Rattle.span.specs.declared.format.Shape.{Shape}
use Rattle.span.specs.Format.{is_known, shape_of, streams, symbols_in}
use Rattle.span.specs.Layout.{picture_start, eav_start, ancillary_start}
use Rattle.crcc.specs.declared.sums.Sums.{Sums}
use Rattle.window.specs.Read.{placed, content_in, repairs_of}
use Rattle.window.specs.Tests.{line_read, repair_count, repairs_at}
use Rattle.window.specs.Words.{word_at}
use Rattle.read_test21_26.specs.declared.call.JudgeError.{JudgeError}
use Rattle.read_test21_26.specs.declared.call.JudgeError.TheVariants.{Fails, NoWindow}
use Rattle.read_test21_26.specs.declared.call.NoWindow.{NoWindow as NotWindow}
use Rattle.read_test21_26.specs.declared.call.Service.{Service}
use Rattle.read_test21_26.specs.declared.service.Test.{Test}
use Rattle.read_test21_26.specs.declared.service.Test.TheVariants.{Timing, Line, V, Crcc, Sample, Fill}
use Rattle.read_test21_26.specs.Inside.Holds.{picture25, fill26, wrong_in, lowest_of}
use Rattle.read_test21_26.specs.Inside.Verdict.{Verdict, first_row, service_tests}

abbrev pub is_window : Format → ℕ → Bool
is_window f symbols = is_known f && eqb symbols (symbols_in (shape_of f))

-- the line, the content bytes and the wrong bits
abbrev pub service_of : Shape → List ℕ → Service
service_of p w =
    record {
      line = record { 0 = line_read (streams p) (word_at p w) };
      content = content_in p w;
      repairs = repairs_of (repair_count (streams p) (word_at p w)) (repairs_at (streams p) (word_at p w));
    }

-- these if all tests hold, and else the one that does not
abbrev pub judged_by : Verdict → Service → Result Service JudgeError
judged_by (Ok done) service = Ok service
judged_by (Err x) service = Err (Fails x)

abbrev pub judged_of : Shape → List ℕ → Sums → Result Service JudgeError
judged_of p w c = judged_by (first_row (service_tests p w c)) (service_of p w)

abbrev pub service_if : Format → List ℕ → Sums → Result Service JudgeError
service_if f w c = cond (is_window f (length w)) (judged_of (shape_of f) w c) (Err NoWindow)

-- the lowest place of test 25 among the picture words, and of test 26 among the fill, if there is one
unfoldable pub wrong25 : Format → List ℕ → Option ℕ
wrong25 f w =
    let s = streams (shape_of f) in
    wrong_in (placed s (picture25 f s (word_at (shape_of f) w))) (picture_start * s) (eav_start * s)

unfoldable pub wrong26 : Format → List ℕ → Option ℕ
wrong26 f w =
    let s = streams (shape_of f) in
    let from = s * (ancillary_start + (shape_of f).ancillary) in
    wrong_in (placed s (fill26 s (word_at (shape_of f) w))) from (from + 2 * (shape_of f).fill_pairs)

-- of test 25, and of test 26 where any other is asked for
abbrev pub place_of : Test → Format → List ℕ → Option ℕ
place_of Sample f w = wrong25 f w
place_of Timing f w = wrong26 f w
place_of Line f w = wrong26 f w
place_of V f w = wrong26 f w
place_of Crcc f w = wrong26 f w
place_of Fill f w = wrong26 f w

abbrev pub lowest_if : Test → Format → List ℕ → Result (Answered ℕ) NotWindow
lowest_if test f w = cond (is_window f (length w)) (Ok (lowest_of (place_of test f w))) (Err (record {}))
