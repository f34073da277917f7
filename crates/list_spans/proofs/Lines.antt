-- The line of a span, put piece by piece.
-- Assumes nothing.
use mathlib.Core.Path.{◌≡◌}
use mathlib.Core.List.{List, [], ◌∷◌}
use Prim.Native.Nat.{ℕ, ◌+◌, ◌^◌, ◌≤◌, ◌<◌}
use native.Mathlib.Omega.{arith}
use lib.ListN.{length}
use lib.Seq.{sets}
use Rattle.ground.proofs.Putting.{Put, then, put_length}
use Rattle.text.specs.Number.{decimal}
use Rattle.text.specs.Put.{end_of, put_of}
use Rattle.text.proofs.Numbers.{length_digits, length_decimal_most, places_most_16}
use Rattle.text.proofs.Putting.{put_told}
use Rattle.list_spans.specs.Listing.{span_line}

-- what a call that puts a text promises
abbrev pub Puts : List ℕ → List ℕ → ℕ → ℕ → List ℕ → Type 0
Puts before after at end text = (end ≡ end_of (length before) at text) × (after ≡ put_of before at text)

-- place, space, line number and newline, one after the other: at most 20 digits, 1, 5 and 1
module _ (place number : ℕ) (small : place < 2 ^ 64) (smaller : number < 65536) (o : List ℕ) (at : ℕ) (room : at + 27 ≤ length o) where
  pub line_put : (p q t : List ℕ) {u : List ℕ} (a b c : ℕ) {end : ℕ}
      → Puts o p at a (decimal place)
      → Puts p q a b (32 ∷ [])
      → Puts q t b c (decimal number)
      → Puts t u c end (10 ∷ [])
      → (end ≡ at + length (span_line place number)) × ((end ≤ at + 27) × (u ≡ sets o at (span_line place number)))
  line_put p q t {u} a b c {end} f g h k =
      let most = length_decimal_most place small in
      let least : length (decimal number) ≤ 5 = rw length_digits (places_most_16 number smaller) in
      let one : Put o p at a (decimal place) = put_told (decimal place) (omega arith) f.0 f.1 in
      let two : Put p q a b (32 ∷ []) = put_told (32 ∷ []) (omega (arith, put_length one)) g.0 g.1 in
      let three : Put q t b c (decimal number) = put_told (decimal number) (omega (arith, put_length one, put_length two)) h.0 h.1 in
      let four : Put t u c end (10 ∷ []) =
      put_told (10 ∷ []) (omega (arith, put_length one, put_length two, put_length three)) k.0 k.1 in
      let whole = then one (then two (then three four)) in
      (whole.ends, (omega (arith, one.ends, two.ends, three.ends, four.ends), whole.written))
