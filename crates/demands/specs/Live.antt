-- A link that never ends, taken in pieces: each piece is joined to what was kept of those before, the spans are taken out of it with next
-- span until it answers none, and what comes before the place that this answers is given up. What the pieces give is what everything that
-- arrived would give at once, for every way of cutting it. `proofs/Live` proves each.
-- Assumes nothing.
use Rattle.std.specs.Prelude.{ℕ, suc, ◌+◌, ◌*◌, ◌≤◌, ◌<◌, ◌≡◌, false, List, [], ◌∷◌, ◌++◌, length, take, drop}
use Rattle.std.proofs.Math.Option.{none}
use Rattle.ground.specs.Answer.{given}
use Rattle.span.specs.declared.format.Format.{Format}
use Rattle.span.specs.Format.{shape_of, symbols_in}
use Rattle.span.specs.Numbers.{IsFormat, Samples}
use Rattle.delivery.specs.Delivery.{Found, moved_by, concatenated, placed_from, Each}
use Rattle.recording.specs.Call.{next_of, after_next}
use Rattle.recording.specs.Recording.{limit, Reading, accepts, delivery_from}
use Rattle.recording.specs.Steps.{Rest, rest_by}
use Rattle.demands.specs.Form.{Sending, WasSent, sent_symbols, with_wrong_bit, reading_of, steps_from, Delivered}

-- all that arrived
abbrev pub arrived : List (List ℕ) → List ℕ
arrived pieces = concatenated (λ (piece : List ℕ). piece) pieces

-- what the steps through some symbols leave; one step more than there are symbols, so that the last answers none
abbrev pub after_piece : Format → List ℕ → List ℕ → Rest
after_piece f r rows = rest_by (suc (length r)) f r 0 rows

-- piece by piece: `kept` is what was kept so far, and `at` the place of its first symbol among all that arrived
unfoldable pub live_from : Format → List ℕ → ℕ → List ℕ → List (List ℕ) → List (Found Reading)
live_from f rows at kept [] = []
live_from f rows at kept (piece ∷ more) =
    moved_by at (steps_from (suc (length (kept ++ piece))) f (kept ++ piece) 0 rows)
    ++ live_from f (after_piece f (kept ++ piece) rows).rows (at + (after_piece f (kept ++ piece) rows).place)
    (drop (after_piece f (kept ++ piece) rows).place (kept ++ piece)) more

-- a piece that is within the finder's limit with what may be kept before it, which is less than a span
abbrev pub PieceFits : Format → List ℕ → Type 0
PieceFits f piece = length piece + symbols_in (shape_of f) ≤ limit + 1

-- a list is what a live link gives, with rows of the right length, however what arrived is cut into pieces that fit
abbrev pub LiveGives : Format → List ℕ → List (Found Reading) → Type 0
LiveGives f r list =
    (rows : List ℕ) → Samples f (length rows) → (pieces : List (List ℕ)) → Each (PieceFits f) pieces → arrived pieces ≡ r
    → live_from f rows 0 [] pieces ≡ list

pub record Live : Type 0 where
  -- no span begins from the start on before the place that none answers, whatever arrives later; and fewer symbols than a span has are kept
  pub not_before :
      (f : Format) (r later : List ℕ) (start : ℕ) (entry : List ℕ)
      → next_of f r start (length entry) ≡ given none
      → (j : ℕ)
      → start ≤ j
      → j < after_next f r start (length entry)
      → accepts f (take (symbols_in (shape_of f)) (drop j (r ++ later))) ≡ false
  pub few_kept :
      (f : Format) (r : List ℕ) (start : ℕ) (entry : List ℕ)
      → next_of f r start (length entry) ≡ given none
      → (after_next f r start (length entry) ≤ length r) × (length r < after_next f r start (length entry) + symbols_in (shape_of f))
  -- piece by piece, and all at once: the same spans at the same places with the same rows, damaged signals too
  pub pieces : (f : Format) (r : List ℕ) → IsFormat f → LiveGives f r (delivery_from f r 0)
  pub same_calls :
      (f : Format) (rows : List ℕ) (pieces : List (List ℕ))
      → IsFormat f
      → Samples f (length rows)
      → Each (PieceFits f) pieces
      → length (arrived pieces) ≤ limit
      → Delivered f (arrived pieces) (live_from f rows 0 [] pieces)
  -- so a sent span is delivered however long the link has run and whatever arrives around it,
  pub anywhere :
      (f : Format) (x : Sending) (before after : List ℕ)
      → WasSent f x
      → LiveGives f (before ++ (sent_symbols f x ++ after))
      (delivery_from f before 0
      ++ (record { place = length before; reading = reading_of f x }
      ∷ moved_by (length before + symbols_in (shape_of f)) (delivery_from f after 0)))
  -- and of sent spans alone with one bit inverted exactly the others are
  pub one_inverted :
      (f : Format) (xs ys : List Sending) (x : Sending) (i k : ℕ)
      → Each (WasSent f) xs
      → WasSent f x
      → Each (WasSent f) ys
      → i < symbols_in (shape_of f)
      → k < 10
      → let n = symbols_in (shape_of f) in
      LiveGives f (concatenated (sent_symbols f) xs ++ (with_wrong_bit f x i k ++ concatenated (sent_symbols f) ys))
      (placed_from n (reading_of f) 0 xs ++ placed_from n (reading_of f) (n * length xs + n) ys)
