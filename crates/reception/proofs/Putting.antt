-- What is delivered, put step by step: what is left, put into what is there, gives the whole.
-- Assumes nothing.
use mathlib.Core.Path.{◌≡◌, sym, ap, ap₂, ◌∙◌}
use mathlib.Core.List.{List, []}
use Prim.Native.Nat.{ℕ}
use Rattle.std.specs.Prelude.{Option, Some, None, Result, Ok, Err}
use Rattle.std.specs.Result.{result_unwrap_or}
use Rattle.std.proofs.lemmas.Option.{none-some}
use Rattle.span.specs.declared.format.Format.{Format}
use Rattle.window.specs.declared.delivery.Delivery.{Delivery}
use Rattle.delivery.specs.Delivery.{Found}
use Rattle.recording.specs.declared.answer.NextError.{NextError}
use Rattle.recording.specs.declared.answer.Spanned.{Spanned}
use Rattle.recording.specs.Call.{rows_next}
use Rattle.recording.specs.Recording.{Reading, delivery_from}
use Rattle.recording.proofs.OneStep.{Stepped}
use Rattle.reception.specs.Receiving.{put_one, put_all}

module _ (size : ℕ) (what : Reading → List ℕ) (first : ℕ) where
  -- one span, and then the others
  pub put_next : {f : Format} {r : List ℕ} {start : ℕ} {rows : List ℕ} {s : Spanned} {after : ℕ} → Stepped f r start rows s after
      → (buffer : List ℕ) {rows' buffer' : List ℕ} → rows' ≡ rows_next f r start rows
      → buffer' ≡ put_one size what first buffer (record { values = s.delivery; words = rows' })
      → put_all size what first buffer' (delivery_from f r after) ≡ put_all size what first buffer (delivery_from f r start)
  unfolding put_all
  put_next {f} {r} {start} {rows} {s} {after} step buffer {rows'} {buffer'} words put =
      let values-are : s.delivery ≡ step.first.reading.values = ap (λ (t : Spanned). t.delivery) step.is in
      let words_are : rows' ≡ step.first.reading.words = words ∙ step.words in
      let read : record { values = s.delivery; words = rows' } ≡ step.first.reading =
      ap₂ (λ (d : Delivery) (w : List ℕ). record { values = d; words = w }) values-are words_are in
      ap (λ (b : List ℕ). put_all size what first b (delivery_from f r after)) (put ∙ ap (put_one size what first buffer) read)
      ∙ ap (put_all size what first buffer) (sym step.delivers)

  -- none any more
  pub put_ends : {buffer whole : List ℕ} {left : List (Found Reading)} → left ≡ [] → put_all size what first buffer left ≡ whole → buffer ≡ whole
  unfolding put_all
  put_ends {buffer} {whole} {left} e is = sym (ap (put_all size what first buffer) e) ∙ is

-- what a call delivers, where a refusal counts as nothing delivered
pub delivered_is : (r : Result (Option Spanned) NextError) {s : Spanned} → result_unwrap_or r None ≡ Some s → r ≡ Ok (Some s)
delivered_is (Ok found) e = ap Ok e
delivered_is (Err why) {s} e = absurd (none-some s e)

pub none_is : (r : Result (Option Spanned) NextError) → result_unwrap_or r None ≡ None → (s : Spanned) → r ≡ Ok (Some s) → ⊥
none_is r e s is = none-some s (sym e ∙ ap (λ (q : Result (Option Spanned) NextError). result_unwrap_or q None) is)
