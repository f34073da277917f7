-- A step gives the first line that is left, which is shorter than the span that it is of.
-- Assumes nothing.
use mathlib.Core.Path.{◌≡◌, sym, ap, ◌∙◌}
use mathlib.Core.Bool.{true}
use mathlib.Core.List.{List, ◌++◌}
use Prim.Native.Nat.{ℕ, ◌≤◌}
use native.Mathlib.Omega.{arith}
use Rattle.std.specs.Prelude.{Option, Some, None, Result, Ok, Err}
use Rattle.std.specs.Result.{result_unwrap_or}
use Rattle.std.proofs.lemmas.Option.{none-some}
use Rattle.span.specs.declared.format.Format.{Format}
use Rattle.span.specs.Format.{is_known, shape_of, symbols_in}
use Rattle.span.proofs.Lengths.{known_has_streams}
use Rattle.recording.specs.declared.answer.NextError.{NextError}
use Rattle.recording.specs.declared.answer.Spanned.{Spanned}
use Rattle.recording.specs.Recording.{limit, delivery_from}
use Rattle.recording.proofs.OneStep.{Stepped}
use Rattle.list_spans.specs.Listing.{line_of_span, lines_of}

-- a recording of so many symbols is short enough for the call
pub within_limit : (k : ℕ) → k ≤ 32767 → k ≤ limit
unfolding limit
within_limit k h = omega arith

pub line_shorter : (f : Format) → is_known f ≡ true → 27 ≤ symbols_in (shape_of f)
line_shorter f known = omega (arith, known_has_streams f known)

pub first_line : {f : Format} {r : List ℕ} {start : ℕ} {rows : List ℕ} {s : Spanned} {after : ℕ} → Stepped f r start rows s after
    → lines_of (delivery_from f r start) ≡ line_of_span s ++ lines_of (delivery_from f r after)
first_line {f} {r} {start} {rows} {s} {after} step =
    ap lines_of step.delivers ∙ ap (λ (t : Spanned). line_of_span t ++ lines_of (delivery_from f r after)) (sym step.is)

-- what a call delivers, where a refusal counts as nothing delivered
pub delivered_is : (r : Result (Option Spanned) NextError) {s : Spanned} → result_unwrap_or r None ≡ Some s → r ≡ Ok (Some s)
delivered_is (Ok found) e = ap Ok e
delivered_is (Err why) {s} e = absurd (none-some s e)

pub none_is : (r : Result (Option Spanned) NextError) → result_unwrap_or r None ≡ None → (s : Spanned) → r ≡ Ok (Some s) → ⊥
none_is r e s is = none-some s (sym e ∙ ap (λ (q : Result (Option Spanned) NextError). result_unwrap_or q None) is)
