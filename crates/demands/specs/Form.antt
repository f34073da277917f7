-- The forms in which the demands are stated: the rows of the table of refusals for a call, the lent memory, a span that was sent.
-- Assumes nothing.
use Rattle.std.specs.Prelude.{ℕ, ◌+◌, ◌*◌, ◌≤◌, ◌<◌, ◌≡◌, cond, List, [], ◌∷◌, eqb, length, get_or, set, replicate}
use Rattle.std.proofs.Math.Option.{Option, none, some}
use Rattle.ground.specs.Answer.{Answer, refused, given}
use Rattle.ground.specs.Bit.{inverted}
use Rattle.ground.specs.Written.{upto, table}
use Rattle.symbol.specs.declared.disparity.Disparity.{Disparity}
use Rattle.span.specs.declared.format.Format.{Format}
use Rattle.span.specs.Content.{content_of}
use Rattle.span.specs.Format.{shape_of, streams}
use Rattle.span.specs.Numbers.{Samples, Blank}
use Rattle.span.specs.Span.{span_symbols, span_after}
use Rattle.span.specs.Stream.{Request, picture}
use Rattle.window.specs.Encoded.{AreContent}
use Rattle.delivery.specs.Delivery.{Found}
use Rattle.recording.specs.declared.answer.Spanned.{Spanned}
use Rattle.recording.specs.Recording.{Reading}
use Rattle.recording.specs.Steps.{Step, run_from}
use Rattle.request.specs.Send.{send_of}
use Rattle.window.specs.Read.{no_repairs}

-- ---- document 01's own numbers

-- x may be sent on stream line n
pub record MaySend (f : Format) (n x : ℕ) : Type 0 where
  pub ten : f.depth ≡ 10 → 42 ≤ n → n ≤ 1121 → (4 ≤ x) × (x ≤ 1019)
  pub twelve : f.depth ≡ 12 → 42 ≤ n → n ≤ 1121 → (16 ≤ x) × (x ≤ 4079)
  pub blanking : (42 ≤ n → n ≤ 1121 → ⊥) → Blank f x

-- ---- refusals

-- a rule of the table of refusals for a call: its number, what a good call meets, and which place is answered for one that does not
pub record Refusal : Type 1 where
  pub number : ℕ
  pub good : Type 0
  pub place : ℕ → Type 0

-- a rule without a place
abbrev pub rule : ℕ → Type 0 → Refusal
rule number good = record { number = number; good = good; place = λ k. k ≡ 0 }

-- a rule for each of n places: the first at which it does not hold is answered
abbrev pub rule_at : ℕ → ℕ → (ℕ → Type 0) → Refusal
rule_at number n Holds =
    record {
      number = number;
      good = (k : ℕ) → k < n → Holds k;
      place = λ k. (k < n) × (Holds k → ⊥) × ((j : ℕ) → j < k → Holds j);
    }

-- the rows in the order tried: a call that breaks a rule, and none before it, is answered that rule's number and place; one that breaks
-- none is not refused (its contract says what it answers)
abbrev pub Tried : {A : Type 0} → Answer A → List Refusal → Type 0
Tried {A} r [] = (a : A) × (r ≡ given a)
Tried {A} r (x ∷ xs) =
    ((x.good → ⊥) → (k : ℕ) × x.place k × (r ≡ refused x.number k)) × (x.good → Tried {A = A} r xs)

-- ---- lent memory

-- as it was if the call is refused, else what the call makes
pub record Lent {A B : Type 0} (r : Answer A) (entry makes exit : B) : Type 0 where
  pub untouched : (number place : ℕ) → r ≡ refused number place → exit ≡ entry
  pub made : (a : A) → r ≡ given a → exit ≡ makes

-- the rows of the reader: a refusal below 20 leaves them as they were, one from 20 on leaves zeros
pub record Rows {A : Type 0} (r : Answer A) (entry makes exit : List ℕ) : Type 0 where
  pub untouched : (number place : ℕ) → r ≡ refused number place → number < 20 → exit ≡ entry
  pub zeros : (number place : ℕ) → r ≡ refused number place → 20 ≤ number → exit ≡ replicate (length entry) 0
  pub made : (a : A) → r ≡ given a → exit ≡ makes

-- ---- spans that were sent

-- a call of the sender: the disparity before, and what is asked for
pub record Sending : Type 0 where
  pub before : Disparity
  pub asked : Request

-- it was not refused, with some room for symbols. Content bytes are bytes.
pub record WasSent (f : Format) (x : Sending) : Type 0 where
  pub room : ℕ
  pub after : Disparity
  pub sent : send_of x.before f x.asked room ≡ given after
  pub content : AreContent (content_of f x.asked.content)

-- the symbols that it put there
abbrev pub sent_symbols : Format → Sending → List ℕ
sent_symbols f x = span_symbols x.before f x.asked

-- the same with bit k of symbol i inverted
abbrev pub with_wrong_bit : Format → Sending → ℕ → ℕ → List ℕ
with_wrong_bit f x i k = set (sent_symbols f x) i (inverted k (get_or (sent_symbols f x) i 0))

-- what is to be read from it: its line, its content bytes, both disparities, nothing repaired, and its picture words stream by stream
abbrev pub reading_of : Format → Sending → Reading
reading_of f x =
    record {
      values =
          record {
            line = record { 0 = x.asked.line };
            content = content_of f x.asked.content;
            before = x.before;
            after = span_after x.before f x.asked;
            repairs = no_repairs;
          };
      words = upto (streams (shape_of f)) (picture f x.asked);
    }

-- ---- delivery by the calls: step by step with next span, from a place on, with rows that were lent; k steps at most
abbrev pub span_found : Option Spanned → List ℕ → List (Found Reading) → List (Found Reading)
span_found none words more = []
span_found (some s) words more = record { place = s.place; reading = record { values = s.delivery; words = words } } ∷ more

abbrev pub onward : Answer (Option Spanned) → List ℕ → List (Found Reading) → List (Found Reading)
onward (refused number place) words more = []
onward (given o) words more = span_found o words more

-- the spans of a run of steps, up to the first that gives none
abbrev pub spans_of : List Step → List (Found Reading)
spans_of [] = []
spans_of (s ∷ more) = onward s.answer s.rows (spans_of more)

abbrev pub steps_from : ℕ → Format → List ℕ → ℕ → List ℕ → List (Found Reading)
steps_from k f r p rows = spans_of (run_from k f r p rows)

-- a recording is delivered from place p on as a list: with rows of the right length and as many steps as it has symbols from there on, or
-- more, the calls give that list
abbrev pub DeliveredFrom : Format → List ℕ → ℕ → List (Found Reading) → Type 0
DeliveredFrom f r p list =
    (rows : List ℕ) → Samples f (length rows) → (k : ℕ) → length r ≤ p + k → steps_from k f r p rows ≡ list

-- the whole of it
abbrev pub Delivered : Format → List ℕ → List (Found Reading) → Type 0
Delivered f r list = DeliveredFrom f r 0 list

-- ---- the picture

-- the words of a row of samples: at depth 10 shifted by two
abbrev pub words_for : Format → List ℕ → List ℕ
words_for f row = table (length row) (λ i. cond (eqb f.depth 10) (4 * get_or row i 0) (get_or row i 0))
