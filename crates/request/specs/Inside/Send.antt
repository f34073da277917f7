-- Sending a span: definitions that only loops and proofs use. The rest is in specs/Send.
-- Assumes nothing.
use Rattle.std.specs.Prelude.{ℕ, ◌<◌, ◌≡◌, true, false, length}
use Rattle.span.specs.declared.format.Format.{Format}
use Rattle.span.specs.Format.{is_known, shape_of, samples_in}
use Rattle.span.specs.Stream.{Request}
use Rattle.request.specs.Send.{forbidden}

-- what may be sent, the symbol buffer apart
pub record Accepted (f : Format) (a : Request) : Type 0 where
  pub known : is_known f ≡ true
  pub samples : length a.samples ≡ samples_in (shape_of f)
  pub allowed : (i : ℕ) → i < length a.samples → forbidden f a i ≡ false
