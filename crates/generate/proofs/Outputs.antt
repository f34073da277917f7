-- What is written depends on the first six bytes alone, and is as long as its parameters say.
-- Assumes nothing.
use mathlib.Core.Path.{◌≡◌, refl, sym, ap, ap₂, ◌∙◌}
use mathlib.Core.List.{List, [], ◌∷◌}
use Prim.Native.Nat.{ℕ, zero, suc, ◌+◌, ◌*◌, ◌≤◌}
use native.Mathlib.Omega.{arith}
use lib.ListN.{length, take, length-append}
use borrow.Author.Tests.{le-ltb, le-leb}
use Rattle.ground.specs.Answer.{Answer, refused, given, unless, checked}
use Rattle.line.specs.Stream.{is_line, line_after}
use Rattle.symbol.specs.declared.disparity.Disparity.{Disparity}
use Rattle.span.specs.declared.format.Format.{Format}
use Rattle.span.specs.Format.{is_known, shape_of, symbols_in}
use Rattle.span.specs.Span.{signal_from, span_symbols, span_after}
use Rattle.span.proofs.Lengths.{length_of_symbols}
use Rattle.text.specs.Words.{word_in_bytes}
use Rattle.generate.specs.declared.parameters.Parameters.{Parameters}
use Rattle.generate.specs.Generated.{span_on, spans_from, written, generated, refusal_by, refusal}
use Rattle.generate.specs.Parameters.{wanted_format, count_in, is_short, wanted_of}

-- ---- six bytes

-- what is wanted where all six are there
abbrev wanted_by : List ℕ → Answer Parameters
wanted_by l =
    checked (unless 1 (is_known (wanted_format l)) ∷ unless 2 (is_line (word_in_bytes l 1)) ∷ unless 3 (is_short l) ∷ [])
    (record { format = wanted_format l; first = record { 0 = word_in_bytes l 1 }; count = count_in l })

all_there : (l : List ℕ) → 6 ≤ length l → wanted_of l ≡ wanted_by l
all_there l h =
    let four : 4 ≤ length l = omega arith in
    simp (le-ltb (length l) 4 four, le-leb 6 (length l) h)

same_start : (l m : List ℕ) → take 2 l ≡ take 2 m → (a : Answer Parameters) → written l a ≡ written m a
same_start l m e (refused number place) = refl
same_start l m e (given p) = rw e

-- what follows them is ignored
pub six_count : (input : List ℕ) → generated (take 6 input) ≡ generated input
six_count [] = refl
six_count (a ∷ []) = refl
six_count (a ∷ b ∷ []) = refl
six_count (a ∷ b ∷ c ∷ []) = refl
six_count (a ∷ b ∷ c ∷ d ∷ []) = refl
six_count (a ∷ b ∷ c ∷ d ∷ e ∷ []) = refl
six_count (a ∷ b ∷ c ∷ d ∷ e ∷ f ∷ rest) =
    let six = a ∷ b ∷ c ∷ d ∷ e ∷ f ∷ [] in
    let all = a ∷ b ∷ c ∷ d ∷ e ∷ f ∷ rest in
    ap (written six) (all_there six (omega arith) ∙ sym (all_there all (omega arith))) ∙ same_start six all refl (wanted_of all)

pub six_refuse : (input : List ℕ) → refusal (take 6 input) ≡ refusal input
six_refuse [] = refl
six_refuse (a ∷ []) = refl
six_refuse (a ∷ b ∷ []) = refl
six_refuse (a ∷ b ∷ c ∷ []) = refl
six_refuse (a ∷ b ∷ c ∷ d ∷ []) = refl
six_refuse (a ∷ b ∷ c ∷ d ∷ e ∷ []) = refl
six_refuse (a ∷ b ∷ c ∷ d ∷ e ∷ f ∷ rest) =
    ap refusal_by
    (all_there (a ∷ b ∷ c ∷ d ∷ e ∷ f ∷ []) (omega arith) ∙ sym (all_there (a ∷ b ∷ c ∷ d ∷ e ∷ f ∷ rest) (omega arith)))

-- ---- as long

-- so many spans have that many times the symbols of one
pub signal_long :
    (d : Disparity) (f : Format) (n count : ℕ) → 1 ≤ (shape_of f).stream_pairs
    → length (signal_from d f (spans_from f n count)) ≡ count * symbols_in (shape_of f)
unfolding signal_from spans_from
signal_long d f n zero some = omega arith
signal_long d f n (suc count) some =
    let a = span_on f n in
    let more = signal_from (span_after d f a) f (spans_from f (line_after n) count) in
    length-append (span_symbols d f a) more
    ∙ ap₂ (λ (x y : ℕ). x + y) (length_of_symbols f a some d) (signal_long (span_after d f a) f (line_after n) count some)
    ∙ omega arith
