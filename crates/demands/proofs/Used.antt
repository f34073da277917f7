-- Forms of the demands, used up: rows that are zero after a refusal, what stands in a window that is read, rows that are divided.
-- Assumes nothing.
use mathlib.Core.Path.{◌≡◌, sym, ap, ◌∙◌}
use mathlib.Core.List.{List}
use mathlib.Core.Logic.{⊎_elim}
use Prim.Native.Nat.{ℕ, ◌+◌, ◌*◌, ◌/◌, ◌≤◌, ◌<◌}
use native.Mathlib.Omega.{arith}
use lib.Dec.{eqb}
use lib.ListN.{length, get_or, take, replicate, length-replicate, get_or-replicate}
use lib.Seq.{get_or-take}
use borrow.Author.Tests.{eqb-true, eqb-false}
use Rattle.ground.specs.Answer.{refused, given}
use Rattle.ground.proofs.Cases.{on_test}
use Rattle.symbol.specs.declared.disparity.Disparity.{Disparity}
use Rattle.symbol.specs.declared.disparity.Disparity.TheVariants.{Negative, Positive}
use Rattle.symbol.specs.declared.special.Special.TheVariants.{K28_5}
use Rattle.symbol.specs.Character.{number_of}
use Rattle.symbol.specs.Code.{symbol_of}
use Rattle.dividing.specs.Row.{divided, split_first, split_second}
use Rattle.span.specs.declared.format.Format.{Format}
use Rattle.span.specs.Encoding.{after_run}
use Rattle.span.specs.Format.{shape_of, streams, pairs_in, symbols_in}
use Rattle.span.specs.Numbers.{IsFormat, Symbols, Samples}
use Rattle.span.specs.Paper.{word_of}
use Rattle.span.proofs.Encoding.{symbol_at_lem}
use Rattle.span.proofs.Lengths.{known_has_streams}
use Rattle.window.specs.declared.delivery.Delivery.{Delivery}
use Rattle.window.specs.Encoded.{IsXyz, request_of}
use Rattle.window.specs.Paper.{word_of_window}
use Rattle.window.specs.Read.{picture_of, read_span, read_of, rows_read}
use Rattle.window.specs.Rules.{Rule20}
use Rattle.window.proofs.Placing.{word_of_place, in_span}
use Rattle.demands.proofs.Demands.{demand_1, demand_2}
use Rattle.demands.proofs.Refusing.{known_says, symbols_say}

-- ---- zeros in place of a span

-- 0 is no form of K28.5
no_comma : (d : Disparity) → symbol_of d (number_of K28_5) ≡ 0 → ⊥
unfolding symbol_of
no_comma Negative e = let z : ◌≡◌ {A = ℕ} 0x17C 0 = e in absurd (omega arith)
no_comma Positive e = let z : ◌≡◌ {A = ℕ} 0x283 0 = e in absurd (omega arith)

module _ (f : Format) (n m : ℕ) (known : IsFormat f) (symbols : Symbols f n) (samples : Samples f m) (rows : List ℕ) (size : length rows ≡ m) where
  abbrev zeros : List ℕ
  zeros = replicate n 0

  n_is : n ≡ symbols_in (shape_of f)
  n_is = eqb-true n (symbols_in (shape_of f)) ((symbols_say f known n).holds symbols)

  some_symbols : 1 ≤ n
  some_symbols = omega (arith, n_is, known_has_streams f ((known_says f).holds known))

  -- they do not begin with one
  not_first : Rule20 (streams (shape_of f)) zeros 0 → ⊥
  unfolding after_run
  not_first r =
      let one : 0 < length r.chars = omega (arith, r.long) in
      let zero-there : get_or (take 1 zeros) 0 0 ≡ 0 = get_or-take 1 zeros 0 0 (omega arith) ∙ get_or-replicate n 0 0 0 some_symbols in
      no_comma r.before
      (ap (symbol_of r.before) (sym ((r.kinds 0 (omega arith)).sav (omega arith)))
      ∙ sym (symbol_at_lem r.before r.chars 0 one)
      ∙ sym (ap (λ (l : List ℕ). get_or l 0 0) r.symbols)
      ∙ zero-there)

  pub refused_20 : (read_of f (replicate n 0) m ≡ refused 20 0) × (rows_read f (replicate n 0) rows ≡ replicate m 0)
  refused_20 =
      let read = demand_1.read f zeros rows in
      let bad : ((k : ℕ) → k < symbols_in (shape_of f) → Rule20 (streams (shape_of f)) zeros k) → ⊥ =
      λ all. not_first (all 0 (omega (arith, n_is, some_symbols))) in
      let long : length zeros ≡ n = length-replicate n 0 in
      let (k, (b, out, before), e) =
      (((read.0.1 known).1 (rw long symbols)).1 (rw size samples)).0 bad in
      let first : k ≡ 0 =
      on_test (eqb k 0) (eqb-true k 0) (λ t. let other = eqb-false k 0 t in absurd (not_first (before 0 (omega (arith, other))))) in
      let there : read_of f zeros (length rows) ≡ refused 20 0 = e ∙ ap (λ (j : ℕ). refused 20 j) first in
      (rw size at there, read.1.zeros 20 0 there (omega arith) ∙ ap (λ (k : ℕ). replicate k 0) size)

-- ---- what stands in a window that is read
pub crcc_stands : (f : Format) → IsFormat f → (w : List ℕ) (r : Delivery) → read_span f w ≡ given r
    → word_of_window f w 1930 0 ≡ word_of f (request_of f r (picture_of f w)) 1930 0
crcc_stands f known w r e =
    let s = streams (shape_of f) in
    let some : 1 ≤ s = omega (arith, known_has_streams f ((known_says f).holds known)) in
    let place : (s * 1930 + 0) / s ≡ 1930 = word_of_place s some 1930 0 some in
    let inside : s * 1930 + 0 < 2 * pairs_in (shape_of f) = in_span (shape_of f) 1930 0 (omega arith) some in
    let no-xyz : IsXyz ((s * 1930 + 0) / s) → ⊥ = ⊎_elim (λ x. omega (arith, x, place)) (λ x. omega (arith, x, place)) in
    (demand_2.windows.strict f w r known e).same (s * 1930 + 0) inside no-xyz (λ p q. omega (arith, p, place))

-- ---- rows that are divided
pub divides : (whole first second : List ℕ) → length whole ≡ 3840 → length first ≡ 1920 → length second ≡ 1920
    → (split_first whole first second ≡ divided 0 1920 whole) × (split_second whole first second ≡ divided 1 1920 whole)
divides whole first second p q r =
    let split = demand_1.split whole first second in
    let (a, e) = (split.0.1 p).1 (q, r) in
    (split.1.made a e, split.2.made a e)
