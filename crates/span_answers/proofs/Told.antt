-- An answer to C tells what the library answered: no two answers cross as the same.
-- Assumes nothing.
use mathlib.Core.Path.{◌≡◌, refl, ap}
use Rattle.ground.specs.Answer.{Answer, given}
use Rattle.ground.specs.Inside.Answer.{Injective}
use Rattle.symbol.specs.declared.disparity.Disparity.{Disparity}
use Rattle.span.specs.declared.length.SpanLengths.{SpanLengths}
use Rattle.std.specs.Prelude.{ℕ, List, [], ◌∷◌, Result, Ok, Err}
use Rattle.span.specs.declared.format.UnknownFormat.{UnknownFormat}
use Rattle.span.specs.Length.{paper_lengths}
use Rattle.span.proofs.OneToOne.{lengths_one_to_one}
use Rattle.request.specs.declared.sent.SendError.{SendError}
use Rattle.request.specs.declared.sent.SendError.TheVariants as Send
use Rattle.request.specs.Send.{paper_sent}
use Rattle.request.proofs.OneToOne.{sent_one_to_one}
use Rattle.window.specs.declared.delivery.Delivery.{Delivery}
use Rattle.read.specs.declared.answer.ReadError.{ReadError}
use Rattle.read.specs.declared.answer.ReadError.TheVariants as Read
use Rattle.read_test21_26.specs.declared.service.Fault.{Fault}
use Rattle.read_test21_26.specs.declared.service.Test.{Test}
use Rattle.read_test21_26.specs.declared.service.Test.TheVariants.{Timing, Line, V, Crcc, Sample, Fill}
use Rattle.read.specs.Call.{paper_read}
use Rattle.read.proofs.OneToOne.{read_one_to_one}
use Rattle.span_answers.specs.declared.spans.Values.{Values}
use Rattle.span_answers.specs.declared.spans.LengthsAnswer.{LengthsAnswer}
use Rattle.span_answers.specs.declared.spans.SendAnswer.{SendAnswer}
use Rattle.span_answers.specs.declared.spans.ReadAnswer.{ReadAnswer}
use Rattle.boundary.specs.Numbers.{disparity_from}
use Rattle.span_answers.specs.Spans.{bit_counts_of, values_of, lengths_answer_of, send_answer_of, read_answer_of}
use Rattle.boundary.proofs.Told.{through, answer_by, disparity_told}

lengths_back : LengthsAnswer → Answer SpanLengths
lengths_back l = answer_by l.number 0 (record { samples = l.samples; symbols = l.symbols })

pub lengths_told : Injective (λ (r : Result SpanLengths UnknownFormat). lengths_answer_of (paper_lengths r))
unfolding lengths_back
lengths_told = through lengths_answer_of lengths_back back lengths_one_to_one
  where
    back : (r : Result SpanLengths UnknownFormat) → lengths_back (lengths_answer_of (paper_lengths r)) ≡ paper_lengths r
    back (Ok l) = refl
    back (Err e) = refl

send_back : SendAnswer → Answer Disparity
send_back s = answer_by s.number s.place (disparity_from s.positive_after)

pub send_told : Injective (λ (r : Result Disparity SendError). send_answer_of (paper_sent r))
unfolding send_back
send_told = through send_answer_of send_back back sent_one_to_one
  where
    back : (r : Result Disparity SendError) → send_back (send_answer_of (paper_sent r)) ≡ paper_sent r
    back (Ok d) = ap given (disparity_told d)
    back (Err Send.UnknownFormat) = refl
    back (Err Send.NoLine) = refl
    back (Err Send.WrongInput) = refl
    back (Err Send.WrongOutput) = refl
    back (Err (Send.NotAllowed place)) = refl

-- each bit's count stands in its place, whatever the list
pub bits_in_order : (c : List ℕ) → bit_counts_of c ≡ c
bits_in_order [] = refl
bits_in_order (a ∷ []) = refl
bits_in_order (a ∷ b ∷ c) = refl

pub values_back : Values → Delivery
values_back v =
    record {
      line = record { 0 = v.line.number };
      content = v.content;
      before = disparity_from v.positive_before;
      after = disparity_from v.positive_after;
      repairs = record { count = v.repairs; of_bit = v.repairs_of_bit };
    }

pub values_back_lem : (d : Delivery) → values_back (values_of d) ≡ d
unfolding values_back
values_back_lem d = rw (disparity_told d.before, disparity_told d.after, bits_in_order d.repairs.of_bit)

read_back : ReadAnswer → Answer Delivery
read_back r = answer_by r.number r.place (values_back r.delivery)

pub read_told : Injective (λ (r : Result Delivery ReadError). read_answer_of (paper_read r))
unfolding read_back
read_told = through read_answer_of read_back back read_one_to_one
  where
    of_test : (x : Fault) → read_back (read_answer_of (paper_read (Err (Read.Fails x)))) ≡ paper_read (Err (Read.Fails x))
    of_test x = go x.test refl
      where
        go : (t : Test) → x.test ≡ t → read_back (read_answer_of (paper_read (Err (Read.Fails x)))) ≡ paper_read (Err (Read.Fails x))
        go Timing e = rw e refl
        go Line e = rw e refl
        go V e = rw e refl
        go Crcc e = rw e refl
        go Sample e = rw e refl
        go Fill e = rw e refl

    back : (r : Result Delivery ReadError) → read_back (read_answer_of (paper_read r)) ≡ paper_read r
    back (Ok d) = ap given (values_back_lem d)
    back (Err Read.UnknownFormat) = refl
    back (Err Read.WrongInput) = refl
    back (Err Read.WrongOutput) = refl
    back (Err (Read.WrongSymbol place)) = refl
    back (Err (Read.Fails x)) = of_test x
