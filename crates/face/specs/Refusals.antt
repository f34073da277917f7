-- Which number is which refusal, by the names that the answers have in the library (document 01, "Refusal numbers, in the order tried").
-- Assumes nothing.
use Rattle.std.specs.Prelude.{ℕ, ◌≡◌, List, [], ◌∷◌, Err}
use Rattle.ground.specs.Answer.{Answer}
use Rattle.decoder.specs.declared.decode.DecodeError.TheVariants as Decode
use Rattle.decoder.specs.Decode.{paper_decoded}
use Rattle.word.specs.declared.line_number.NameError.TheVariants as Name
use Rattle.word.specs.LineNumber.{paper_numbered, paper_named}
use Rattle.word.specs.declared.repair.RepairError.TheVariants as Repair
use Rattle.word.specs.Repair.{paper_repair}
use Rattle.crcc.specs.Crcc.{paper_crcc}
use Rattle.picture.specs.Place.{paper_placed}
use Rattle.way_back.specs.declared.back.BackError.TheVariants as Back
use Rattle.way_back.specs.Back.{paper_back}
use Rattle.dividing.specs.declared.row.CopyError.TheVariants as Copy
use Rattle.dividing.specs.Row.{paper_copied}
use Rattle.span.specs.Length.{paper_lengths}
use Rattle.span.specs.declared.blanking.FillError.TheVariants as Fill
use Rattle.span.specs.Blanking.{paper_filled}
use Rattle.request.specs.declared.sent.SendError.TheVariants as Send
use Rattle.request.specs.Send.{paper_sent}
use Rattle.read_test21_26.specs.declared.service.Test.TheVariants as Test
use Rattle.read.specs.declared.answer.ReadError.TheVariants as Read
use Rattle.read.specs.Call.{paper_read}
use Rattle.recording.specs.declared.answer.FindError.TheVariants as Find
use Rattle.recording.specs.declared.answer.NextError.TheVariants as Next
use Rattle.recording.specs.Call.{paper_found, paper_next}
use Rattle.boundary.specs.Numbers.{number_in}

-- the numbers of some answers
abbrev pub numbers_of : {A : Type 0} → List (Answer A) → List ℕ
numbers_of [] = []
numbers_of (r ∷ more) = number_in r ∷ numbers_of more

pub record RefusalNumbers : Type 0 where
  pub decoded : numbers_of (paper_decoded (Err Decode.Above1023) ∷ paper_decoded (Err Decode.Illegal) ∷ []) ≡ 7 ∷ 20 ∷ []
  pub line_words : numbers_of (paper_numbered (Err record {}) ∷ []) ≡ 2 ∷ []
  pub read_line_words : numbers_of (paper_named (Err Name.Above4095) ∷ paper_named (Err Name.Nameless) ∷ []) ≡ 7 ∷ 22 ∷ []
  pub repaired : numbers_of (paper_repair (Err Repair.Above4095) ∷ paper_repair (Err Repair.BeyondRepair) ∷ []) ≡ 7 ∷ 8 ∷ []
  pub crcc : numbers_of (paper_crcc (Err record {}) ∷ []) ≡ 7 ∷ []
  pub placed : numbers_of (paper_placed (Err record {}) ∷ []) ≡ 2 ∷ []
  pub back : numbers_of (paper_back (Err Back.UnknownFormat) ∷ paper_back (Err Back.NoLine) ∷ []) ≡ 1 ∷ 2 ∷ []
  pub copied : numbers_of (paper_copied (Err Copy.WrongInput) ∷ paper_copied (Err Copy.WrongOutput) ∷ []) ≡ 3 ∷ 4 ∷ []
  pub lengths : numbers_of (paper_lengths (Err record {}) ∷ []) ≡ 1 ∷ []
  pub filled : numbers_of (paper_filled (Err Fill.UnknownFormat) ∷ paper_filled (Err Fill.WrongOutput) ∷ []) ≡ 1 ∷ 4 ∷ []
  pub sent :
      numbers_of
      (paper_sent (Err Send.UnknownFormat)
      ∷ paper_sent (Err Send.NoLine)
      ∷ paper_sent (Err Send.WrongInput)
      ∷ paper_sent (Err Send.WrongOutput)
      ∷ paper_sent (Err (Send.NotAllowed 0))
      ∷ [])
      ≡ 1 ∷ 2 ∷ 3 ∷ 4 ∷ 6 ∷ []
  pub read :
      numbers_of
      (paper_read (Err Read.UnknownFormat)
      ∷ paper_read (Err Read.WrongInput)
      ∷ paper_read (Err Read.WrongOutput)
      ∷ paper_read (Err (Read.WrongSymbol 0))
      ∷ paper_read (Err (Read.Fails (record { test = Test.Timing; place = 0 })))
      ∷ paper_read (Err (Read.Fails (record { test = Test.Line; place = 0 })))
      ∷ paper_read (Err (Read.Fails (record { test = Test.V; place = 0 })))
      ∷ paper_read (Err (Read.Fails (record { test = Test.Crcc; place = 0 })))
      ∷ paper_read (Err (Read.Fails (record { test = Test.Sample; place = 0 })))
      ∷ paper_read (Err (Read.Fails (record { test = Test.Fill; place = 0 })))
      ∷ [])
      ≡ 1 ∷ 3 ∷ 4 ∷ 20 ∷ 21 ∷ 22 ∷ 23 ∷ 24 ∷ 25 ∷ 26 ∷ []
  pub found : numbers_of (paper_found (Err Find.UnknownFormat) ∷ paper_found (Err Find.WrongInput) ∷ paper_found (Err Find.WrongStart) ∷ []) ≡ 1 ∷ 3 ∷ 5 ∷ []
  pub next :
      numbers_of
      (paper_next (Err Next.UnknownFormat) ∷ paper_next (Err Next.WrongInput) ∷ paper_next (Err Next.WrongOutput) ∷ paper_next (Err Next.WrongStart) ∷ [])
      ≡ 1 ∷ 3 ∷ 4 ∷ 5 ∷ []
