-- Spans one after the other are one run of characters.
-- Assumes nothing.
use mathlib.Core.Path.{◌≡◌, refl, sym, ap, ◌∙◌}
use mathlib.Core.List.{List, [], ◌∷◌, ◌++◌}
use Prim.Native.Nat.{ℕ}
use Rattle.symbol.specs.declared.disparity.Disparity.{Disparity}
use Rattle.symbol.specs.declared.disparity.Disparity.TheVariants.{Negative}
use Rattle.span.specs.declared.format.Format.{Format}
use Rattle.span.specs.Encoding.{symbols_from}
use Rattle.span.specs.Paper.{all_chars}
use Rattle.span.specs.Span.{span_chars, span_symbols, span_after, signal_from, signal}
use Rattle.span.specs.Stream.{Request}
use Rattle.span.proofs.Encoding.{symbols_append}

-- the disparity that a span leaves is handed on
handed_on : (d : Disparity) (f : Format) (spans : List Request) → signal_from d f spans ≡ symbols_from d (all_chars f spans)
unfolding signal_from span_symbols span_after symbols_from
handed_on d f [] = refl
handed_on d f (a ∷ more) =
    ap (λ (l : List ℕ). span_symbols d f a ++ l) (handed_on (span_after d f a) f more)
    ∙ sym (symbols_append d (span_chars f a) (all_chars f more))

-- the first span from negative disparity, each other from what the one before it leaves
pub signal_is : (f : Format) (spans : List Request) → signal f spans ≡ symbols_from Negative (all_chars f spans)
unfolding signal
signal_is f spans = handed_on Negative f spans
