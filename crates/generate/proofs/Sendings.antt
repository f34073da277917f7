-- The next span, as the library's calls put it: the samples of the test picture, their symbols, and the disparity after them.
-- Assumes nothing.
use mathlib.Core.Path.{◌≡◌, sym, ap, ◌∙◌}
use mathlib.Core.Bool.{true}
use mathlib.Core.List.{List}
use Prim.Native.Nat.{ℕ}
use lib.ListN.{length}
use Rattle.ground.specs.Answer.{given}
use Rattle.ground.proofs.Answers.{when_given}
use Rattle.line.specs.Stream.{is_line}
use Rattle.symbol.specs.declared.disparity.Disparity.{Disparity}
use Rattle.std.specs.Prelude.{None, Result, Ok}
use Rattle.std.specs.Result.{result_unwrap_or}
use Rattle.span.specs.declared.format.Format.{Format}
use Rattle.span.specs.Format.{is_known, shape_of, samples_in, symbols_in}
use Rattle.span.specs.Span.{span_symbols, span_after}
use Rattle.request.specs.declared.sent.SendError.{SendError}
use Rattle.request.specs.Send.{request, paper_sent, send_of, sent_buffer}
use Rattle.request.proofs.OneToOne.{sent_one_to_one}
use Rattle.test_picture.specs.Putting.{samples_put}
use Rattle.test_picture.specs.TestPicture.{test_samples}
use Rattle.test_picture.proofs.Puttings.{puts_samples}
use Rattle.test_picture.proofs.Sendings.{is_sent}
use Rattle.generate.specs.Generated.{span_on}

module _ (d : Disparity) (f : Format) (n : ℕ) (known : is_known f ≡ true) (line : is_line n ≡ true) where
  module _ (entry : List ℕ) (long : length entry ≡ samples_in (shape_of f)) {samples : List ℕ} (put : samples ≡ samples_put f n entry) where
    are_samples : samples ≡ test_samples f n
    are_samples = put ∙ sym (when_given entry (test_samples f n) (puts_samples f n entry known line long))

    same_call : request n None samples ≡ span_on f n
    same_call = ap (request n None) are_samples

    module _ (before : List ℕ) (room : length before ≡ symbols_in (shape_of f)) where
      sent : send_of d f (span_on f n) (length before) ≡ given (span_after d f (span_on f n))
      sent = ap (send_of d f (span_on f n)) room ∙ is_sent f n d None known line

      pub are_symbols : {symbols : List ℕ} → symbols ≡ sent_buffer d f (request n None samples) before → symbols ≡ span_symbols d f (span_on f n)
      are_symbols e =
          e ∙ ap (λ a. sent_buffer d f a before) same_call ∙ sym (when_given before (span_symbols d f (span_on f n)) sent)

      pub is_after :
          (answer : Result Disparity SendError) → paper_sent answer ≡ send_of d f (request n None samples) (length before)
          → result_unwrap_or answer d ≡ span_after d f (span_on f n)
      is_after answer e =
          let after = span_after d f (span_on f n) in
          let is : answer ≡ Ok after = sent_one_to_one answer (Ok after) (e ∙ ap (λ a. send_of d f a (length before)) same_call ∙ sent) in
          ap (λ (r : Result Disparity SendError). result_unwrap_or r d) is
