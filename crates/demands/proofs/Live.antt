-- A link taken in pieces gives what everything that arrived would give at once.
-- Assumes nothing.
use mathlib.Core.Path.{◌≡◌, refl, sym, ap, ◌∙◌}
use mathlib.Core.Bool.{true}
use mathlib.Core.List.{List, [], ◌∷◌, ◌++◌, append_assoc}
use mathlib.Core.Option.{none}
use Prim.Native.Nat.{ℕ, suc, ◌+◌, ◌-◌, ◌≤◌, ◌<◌}
use native.Mathlib.Omega.{arith}
use lib.ListN.{length, drop, length-drop, length-append}
use borrow.Author.Tests.{eqb-true}
use Rattle.ground.specs.Answer.{given}
use Rattle.span.specs.declared.format.Format.{Format}
use Rattle.span.specs.Format.{is_known, shape_of, samples_in, symbols_in}
use Rattle.delivery.specs.Delivery.{Found, find_by as find_by, deliver_by as deliver_by, moved_by, concatenated, Each}
use Rattle.delivery.specs.Kept.{kept_from}
use Rattle.delivery.specs.Inside.Ending.{end_after}
use Rattle.delivery.specs.Inside.Marked.{Whole}
use Rattle.delivery.proofs.Cutting.{none_of_few}
use Rattle.delivery.proofs.Keeping.{kept_bounds, none_before, goes, piece}
use Rattle.delivery.proofs.Steps.{moved_both, moved_twice, unmoved, few}
use Rattle.recording.specs.Call.{next_of, after_next}
use Rattle.recording.specs.Recording.{limit, Reading, reading, delivery_from}
use Rattle.recording.specs.Steps.{rest_by, last_rows}
use Rattle.recording.proofs.Calling.{none_found}
use Rattle.recording.proofs.Readings.{span_whole}
use Rattle.recording.proofs.Steps.{end_stays, steps_leave, last_long}
use Rattle.demands.specs.Form.{sent_symbols, steps_from}
use Rattle.demands.specs.Live.{arrived, after_piece, live_from, PieceFits, LiveGives, Live}
use Rattle.demands.proofs.Delivering.{steps_are, anywhere, one_inverted, known_asked, start_asked, next_asked}
use Rattle.demands.proofs.Refusing.{known_says, samples_say}
use Rattle.demands.proofs.Sendings.{sendable}

module _ (f : Format) (known : is_known f ≡ true) where
  abbrev n : ℕ
  n = symbols_in (shape_of f)

  whole : Whole n (reading f)
  whole = span_whole f known

  -- the place that is kept after some symbols
  abbrev kept_of : List ℕ → ℕ
  kept_of r = kept_from n (length r) (end_after n 0 (delivery_from f r 0))

  module _ (r : List ℕ) where
    kept_inside : (kept_of r ≤ length r) × (length r < kept_of r + n)
    kept_inside =
        let end = (goes n (reading f) whole r [] 0 (omega arith)).end in
        let b = kept_bounds n (length r) (end_after n 0 (delivery_from f r 0)) whole.least end in
        (b.1, b.2)

    module _ (short : length r ≤ limit) (rows : List ℕ) (room : length rows ≡ samples_in (shape_of f)) where
      given_all : steps_from (suc (length r)) f r 0 rows ≡ delivery_from f r 0
      given_all = steps_are f known r short (suc (length r)) 0 rows room (omega arith) (omega arith)

      left_all : after_piece f r rows ≡ record { place = kept_of r; rows = last_rows rows (delivery_from f r 0) }
      left_all =
          let ds = delivery_from f r 0 in
          let k = length r - length ds in
          let count : suc (length r) ≡ length ds + suc k = omega (arith, few n (reading f) r 0) in
          ap (λ (m : ℕ). rest_by m f r 0 rows) count ∙ steps_leave f known r short 0 rows room (omega arith) k

  live_is : (pieces : List (List ℕ)) (at : ℕ) (kept rows : List ℕ) → length rows ≡ samples_in (shape_of f) → length kept < n → Each (PieceFits f) pieces
      → live_from f rows at kept pieces ≡ moved_by at (delivery_from f (kept ++ arrived pieces) 0)
  unfolding live_from concatenated moved_by deliver_by
  live_is [] at kept rows room small each =
      let few-all : length (kept ++ []) < n = omega (arith, length-append kept []) in
      rw (none_of_few n (reading f) whole 0 0 (kept ++ []) few-all)
  live_is (p ∷ more) at kept rows room small (fits, each) =
      let r = kept ++ p in
      let short : length r ≤ limit = omega (arith, length-append kept p) in
      let left = left_all r short rows room in
      let inside = kept_inside r in
      let k = kept_of r in
      let rest = live_is more (at + k) (drop k r) (last_rows rows (delivery_from f r 0)) (last_long f known r short 0 rows room)
      (omega (arith, length-drop k r, inside.0, inside.1)) each in
      rw (given_all r short rows room, left) (ap (λ (l : List (Found Reading)). moved_by at (delivery_from f r 0) ++ l) rest
      ∙ ap (λ (l : List (Found Reading)). moved_by at (delivery_from f r 0) ++ l) (sym (moved_twice at k (delivery_from f (drop k r ++ arrived more) 0)))
      ∙ sym (moved_both at (delivery_from f r 0) (moved_by k (delivery_from f (drop k r ++ arrived more) 0)))
      ∙ ap (moved_by at) (sym (piece n (reading f) whole r (arrived more)))
      ∙ ap (λ (l : List ℕ). moved_by at (delivery_from f l 0)) (append_assoc kept p (arrived more)))

  -- what everything that arrived gives at once, pieces of it give
  gives : (r : List ℕ) (list : List (Found Reading)) → delivery_from f r 0 ≡ list → LiveGives f r list
  gives r list e rows room pieces each all =
      let long : length rows ≡ samples_in (shape_of f) = eqb-true _ _ ((samples_say f ((known_says f).told known) (length rows)).holds room) in
      live_is pieces 0 [] rows long (omega (arith, whole.least)) each
      ∙ unmoved (delivery_from f (arrived pieces) 0)
      ∙ ap (λ (l : List ℕ). delivery_from f l 0) all
      ∙ e

  -- where none was found
  module _ (r : List ℕ) (start : ℕ) (entry : List ℕ) (e : next_of f r start (length entry) ≡ given none) where
    kept_place : after_next f r start (length entry) ≡ kept_from n (length r) start
    kept_place = (end_stays f r start entry e).1

    nowhere : find_by n (reading f) r start ≡ none
    nowhere = none_found f r start known (sym (next_asked f r start entry none e))

    inside : start ≤ length r
    inside = start_asked f r start entry none e

pub live : Live
live = record {
  not_before = λ f r later start entry e j from below.
      let known = known_asked f r start entry none e in
      none_before (symbols_in (shape_of f)) (reading f) (span_whole f known) r later start (inside f known r start entry e)
      (nowhere f known r start entry e) j from (omega (arith, kept_place f known r start entry e));
  few_kept = λ f r start entry e.
      let known = known_asked f r start entry none e in
      let n = symbols_in (shape_of f) in
      let at = kept_place f known r start entry e in
      let b = kept_bounds n (length r) start (span_whole f known).least (inside f known r start entry e) in
      (omega (arith, at, b.1), omega (arith, at, b.2));
  pieces = λ f r known. gives f ((known_says f).holds known) r (delivery_from f r 0) refl;
  same_calls = λ f rows pieces known room each short rows' room' k enough.
      let is = (known_says f).holds known in
      steps_are f is (arrived pieces) short k 0 rows' (eqb-true _ _ ((samples_say f known (length rows')).holds room')) (omega arith) enough
      ∙ sym (gives f is (arrived pieces) (delivery_from f (arrived pieces) 0) refl rows room pieces each refl);
  anywhere = λ f x before behind sent.
      let known = (sendable f x sent).known in
      gives f known (before ++ (sent_symbols f x ++ behind)) _ (anywhere f known x sent before behind);
  one_inverted = λ f xs ys x i k before sent behind h l.
      let known = (sendable f x sent).known in
      gives f known _ _ (one_inverted f known xs ys x i k before sent behind h l);
}
