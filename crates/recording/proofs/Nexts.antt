-- What the next span is, if there is one.
-- Assumes nothing.
use mathlib.Core.Path.{◌≡◌, refl, ap, ◌∙◌}
use mathlib.Core.Bool.{true}
use mathlib.Core.List.{List}
use mathlib.Core.Option.{Option, none, some}
use Prim.Native.Nat.{ℕ, ◌+◌, ◌≤◌}
use native.Mathlib.Omega.{arith}
use lib.ListN.{length, take, drop}
use Rattle.span.specs.declared.format.Format.{Format}
use Rattle.span.specs.Format.{is_known, shape_of, samples_in, symbols_in}
use Rattle.window.proofs.Windows.{length_picture}
use Rattle.delivery.specs.Delivery.{Found, window_at, read_from, next_by as next_by}
use Rattle.delivery.specs.Inside.Marked.{Whole}
use Rattle.delivery.proofs.Finding.{told, stands_whole, found_told}
use Rattle.recording.specs.Recording.{Reading, reading, find_from, next_from}
use Rattle.recording.proofs.Readings.{reading_told, span_whole}

module _ (f : Format) (known : is_known f ≡ true) (r : List ℕ) (p : ℕ) where
  abbrev n : ℕ
  n = symbols_in (shape_of f)

  pub record IsNext (e : Found Reading) : Type 0 where
    pub inside : e.place + n ≤ length r
    pub behind : p ≤ e.place
    pub room : length e.reading.words ≡ samples_in (shape_of f)
    pub read : reading f (take n (drop e.place r)) ≡ some e.reading

  pub next_is : (e : Found Reading) → next_from f r p ≡ some e → IsNext e
  unfolding next_by
  next_is e x = go (find_from f r p) refl x
    where
      whole : Whole n (reading f)
      whole = span_whole f known

      go : (o : Option ℕ) → find_from f r p ≡ o → read_from n (reading f) r (find_from f r p) ≡ some e → IsNext e
      go none q x = let z : ◌≡◌ {A = ℕ} 0 1 = cc (rw q at x) in absurd (omega arith)
      go (some k) q x =
          let at = found_told n (reading f) whole r p k q in
          let (a, is) = told (reading f (window_at n (reading f) r k)) at.1 in
          let same : some (record { place = k; reading = a }) ≡ some e = rw (q, is) at x in
          let e-is : record { place = k; reading = a } ≡ e = cc same in
          let w = reading_told f (take n (drop k r)) a is in
          let size : length a.words ≡ samples_in (shape_of f) =
          ap length w.words ∙ length_picture f (take n (drop k r)) (record { known = known; long = w.long }) in
          rw (← e-is) (record { inside = stands_whole n (reading f) whole r k at.1; behind = at.0; room = size; read = is })
