-- Laws of sending, in document 01's own numbers; `proofs/Laws` proves each.
-- Assumes nothing.
use Rattle.std.specs.Prelude.{ℕ, ◌≤◌, ◌<◌, ◌≡◌, List, length, get_or}
use Rattle.ground.specs.Answer.{given}
use Rattle.ground.specs.Inside.Answer.{Injective}
use Rattle.symbol.specs.declared.disparity.Disparity.{Disparity}
use Rattle.picture.specs.Choice.{row_on}
use Rattle.span.specs.Content.{Content}
use Rattle.span.specs.declared.format.Format.{Format}
use Rattle.span.specs.Blanking.{blank_row}
use Rattle.span.specs.Numbers.{IsFormat, Symbols, Samples, Blank}
use Rattle.span.specs.Span.{span_after}
use Rattle.span.specs.Stream.{Request}
use Rattle.request.specs.Send.{request, paper_sent, send_of}

-- a call that document 01 does not refuse: format, line, samples, and the room for symbols
pub record GoodCall (f : Format) (n : ℕ) (xs : List ℕ) (room : ℕ) : Type 0 where
  pub format : IsFormat f
  pub samples : Samples f (length xs)
  pub symbols : Symbols f room
  pub first : 1 ≤ n
  pub last : n ≤ 1125
  pub ten : f.depth ≡ 10 → 42 ≤ n → n ≤ 1121 → (i : ℕ) → i < length xs → (4 ≤ get_or xs i 0) × (get_or xs i 0 ≤ 1019)
  pub twelve : f.depth ≡ 12 → 42 ≤ n → n ≤ 1121 → (i : ℕ) → i < length xs → (16 ≤ get_or xs i 0) × (get_or xs i 0 ≤ 4079)
  pub blanking : (42 ≤ n → n ≤ 1121 → ⊥) → (i : ℕ) → i < length xs → Blank f (get_or xs i 0)

-- what is asked for on line n with the row that the choice gives of a picture row and a blanking row
abbrev pub chosen_request : Format → Content → List ℕ → ℕ → Request
chosen_request f content picture n = request n content (row_on n picture (blank_row f))

pub record SendLaws : Type 0 where
  -- a good call is sent, and its answer is the disparity after the span
  pub good_is_sent :
      (d : Disparity) (f : Format) (a : Request) (room : ℕ)
      → GoodCall f a.line a.samples room
      → send_of d f a room ≡ given (span_after d f a)
  -- so is the row that document 01's choice gives, on any line 1 to 1125: a picture row that may be sent on an active line, or a blanking row
  pub chosen_is_sent :
      (d : Disparity) (f : Format) (content : Content) (picture : List ℕ) (room active n : ℕ)
      → 42 ≤ active
      → active ≤ 1121
      → GoodCall f active picture room
      → 1 ≤ n
      → n ≤ 1125
      → send_of d f (chosen_request f content picture n) room ≡ given (span_after d f (chosen_request f content picture n))
  -- and what is sent was a good call
  pub sent_is_good :
      (d : Disparity) (f : Format) (a : Request) (room : ℕ) (after : Disparity)
      → send_of d f a room ≡ given after
      → GoodCall f a.line a.samples room
  -- the paper's number and values tell any two answers apart, so that a contract about them fixes the answer
  pub sent_told : Injective paper_sent
