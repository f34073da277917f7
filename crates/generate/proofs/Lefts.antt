-- What is left of a recording, and its parameters, told by their fields.
-- Assumes nothing.
use mathlib.Core.Path.{◌≡◌, ap}
use Prim.Native.Nat.{ℕ, suc, ◌-◌, ◌<◌}
use native.Mathlib.Omega.{arith}
use Rattle.line.specs.declared.stream.StreamLine.{StreamLine}
use Rattle.symbol.specs.declared.disparity.Disparity.{Disparity}
use Rattle.span.specs.declared.format.Format.{Format}
use Rattle.generate.specs.declared.left.Left.{Left}
use Rattle.generate.specs.Pieces.{after_spans, after_left}
use Rattle.generate.specs.Inside.Pieces.{next_left}

line_is : {line : StreamLine} {n : ℕ} → line.0 ≡ n → line ≡ record { 0 = n }
line_is e = ap (λ (m : ℕ). record { 0 = m }) e

module _ {f g : Format} {line : StreamLine} {n count k : ℕ} (p : f ≡ g) (q : line.0 ≡ n) (s : count ≡ k) where
  pub left_is :
      {d e : Disparity} → d ≡ e
      → ◌≡◌ {A = Left}
      (record { format = f; line = line; disparity = d; count = count })
      (record { format = g; line = record { 0 = n }; disparity = e; count = k })
  left_is r = cc (line_is q)

-- the disparity after all that is left: the same after the next span, and that of what is left where no span is
pub after_next_lem : (s : Left) → 0 < s.count → after_left (next_left s) ≡ after_left s
unfolding after_spans
after_next_lem s some =
    let more : suc (s.count - 1) ≡ s.count = omega arith in
    ap (after_spans s.disparity s.format s.line.0) more

pub after_none : (s : Left) → s.count ≡ 0 → after_left s ≡ s.disparity
unfolding after_spans
after_none s e = ap (after_spans s.disparity s.format s.line.0) e
