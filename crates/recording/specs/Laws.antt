-- What holds of finding spans in a recording, for a reader of the papers; `proofs/Laws` proves each. Demands 1 and 3 (crate demands) say
-- which calls are refused, and what is found and delivered.
-- Assumes nothing.
use Rattle.std.specs.Prelude.{◌≡◌, true, List, ℕ, take, drop}
use Rattle.ground.specs.Inside.Answer.{Injective}
use Rattle.span.specs.declared.format.Format.{Format}
use Rattle.span.specs.Format.{is_known, shape_of, symbols_in}
use Rattle.recording.specs.Call.{paper_found, paper_next}
use Rattle.recording.specs.Recording.{accepts}
use Rattle.recording.specs.Inside.Look.{MayBegin}

pub record RecordingLaws : Type 0 where
  -- a span that is read has K28.5 at its first two symbols and at no other, so the search passes over none
  pub accepted_begins :
      (f : Format)
      → is_known f ≡ true
      → (r : List ℕ) (q : ℕ)
      → accepts f (take (symbols_in (shape_of f)) (drop q r)) ≡ true
      → MayBegin (symbols_in (shape_of f)) r q
  -- the paper's number and values tell any two answers of a call apart, so that a promise about them fixes the answer
  pub found_told : Injective paper_found
  pub next_told : Injective paper_next
