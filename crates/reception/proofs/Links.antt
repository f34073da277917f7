-- The rig's link: a known format, and the lengths of its spans.
-- Assumes nothing.
use mathlib.Core.Path.{◌≡◌, refl, ap, ◌∙◌}
use mathlib.Core.Bool.{true}
use Prim.Native.Nat.{ℕ, ◌≤◌}
use native.Mathlib.Omega.{arith}
use Rattle.ground.specs.Range.{within}
use Rattle.span.specs.declared.format.Format.{Format}
use Rattle.span.specs.Format.{is_known, shape_of, samples_in, symbols_in}
use Rattle.recording.specs.Recording.{limit}
use Rattle.reception.specs.Link.{link}

pub link_known : is_known link ≡ true
unfolding within
link_known = refl

pub link_samples : samples_in (shape_of link) ≡ 7680
unfolding shape_of
link_samples = refl

pub link_symbols : symbols_in (shape_of link) ≡ 19008
unfolding shape_of
link_symbols = refl

-- a piece is short enough for the calls
pub within_limit : (k : ℕ) → k ≤ 95040 → k ≤ limit
unfolding limit
within_limit k h = omega arith

-- the same of what a call answered
module _ {f : Format} (e : f ≡ link) where
  pub known : is_known f ≡ true
  known = ap is_known e ∙ link_known

  pub samples : samples_in (shape_of f) ≡ 7680
  samples = ap (λ (g : Format). samples_in (shape_of g)) e ∙ link_samples

  pub symbols : symbols_in (shape_of f) ≡ 19008
  symbols = ap (λ (g : Format). symbols_in (shape_of g)) e ∙ link_symbols
