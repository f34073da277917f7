-- No span is longer than those of format 3.
-- Assumes nothing.
use mathlib.Core.Path.{◌≡◌, refl, ap}
use Prim.Native.Nat.{◌≤◌}
use native.Mathlib.Omega.{arith}
use Rattle.span.specs.declared.format.Format.{Format}
use Rattle.span.specs.declared.length.SpanLengths.{SpanLengths}
use Rattle.span.specs.Format.{shape_of, samples_in, symbols_in}
use Rattle.span.proofs.Formats.{small, few_pairs}

module _ (f : Format) {l : SpanLengths} (e : l ≡ record { samples = samples_in (shape_of f); symbols = symbols_in (shape_of f) }) where
  pub samples_are : l.samples ≡ samples_in (shape_of f)
  samples_are = ap (λ (k : SpanLengths). k.samples) e

  pub symbols_are : l.symbols ≡ symbols_in (shape_of f)
  symbols_are = ap (λ (k : SpanLengths). k.symbols) e

  pub few_samples : l.samples ≤ 7680
  few_samples = omega (arith, samples_are, (small f refl).half)

  pub few_symbols : l.symbols ≤ 19008
  few_symbols = omega (arith, symbols_are, few_pairs (small f refl), (small f refl).fill)
