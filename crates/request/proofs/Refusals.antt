-- Which calls are sent, and which are refused, in the order tried.
-- Assumes nothing.
use mathlib.Core.Path.{◌≡◌, ap, fun_ext, ◌∙◌}
use mathlib.Core.Bool.{true, false, not}
use mathlib.Core.Option.{none}
use Prim.Native.Nat.{ℕ, ◌/◌, ◌≤◌, ◌<◌}
use native.Mathlib.Omega.{arith}
use lib.ListN.{length, get_or}
use borrow.Author.Tests.{eq-eqb, ne_eqb}
use Rattle.ground.specs.Answer.{refused, or_else, given}
use Rattle.ground.specs.Search.{first_below}
use Rattle.ground.proofs.Searches.{miss}
use Rattle.line.specs.Stream.{is_line}
use Rattle.symbol.specs.declared.disparity.Disparity.{Disparity}
use Rattle.span.specs.declared.format.Format.{Format}
use Rattle.span.specs.Format.{is_known, shape_of, samples_in, symbols_in}
use Rattle.span.specs.Inside.Sample.{bounds_of}
use Rattle.span.specs.Span.{span_after}
use Rattle.span.specs.Stream.{Request}
use Rattle.span.proofs.Formats.{known_told}
use Rattle.span.proofs.Samples.{allowed_is}
use Rattle.request.specs.Send.{forbidden, first_forbidden, send_of}
use Rattle.request.specs.Inside.Check.{first_outside}
use Rattle.request.specs.Inside.Send.{Accepted}
use Rattle.request.proofs.Checking.{outside_at, found_first, found_none}

module _ (f : Format) (a : Request) where
  abbrev low : ℕ
  low = (bounds_of f a.line).low

  abbrev high : ℕ
  high = (bounds_of f a.line).high

  -- a known format forbids what is outside the bounds
  pub forbidden_is : is_known f ≡ true → (i : ℕ) → forbidden f a i ≡ outside_at low high a.samples i
  forbidden_is known i = ap not (allowed_is f (known_told f known) a.line (i / 1920) (get_or a.samples i 0))

  same_search : is_known f ≡ true → first_forbidden f a ≡ first_below (length a.samples) (outside_at low high a.samples)
  unfolding first_forbidden
  same_search known = ap (first_below (length a.samples)) (fun_ext (forbidden_is known))

module _ (d : Disparity) (f : Format) (a : Request) (room : ℕ) where
  pub send_meets_1 : is_known f ≡ false → send_of d f a room ≡ refused 1 0
  send_meets_1 t = simp t

  module _ (known : is_known f ≡ true) where
    pub send_meets_2 : is_line a.line ≡ false → send_of d f a room ≡ refused 2 0
    send_meets_2 t = simp (known, t)

    module _ (line : is_line a.line ≡ true) where
      pub send_meets_3 : (length a.samples ≡ samples_in (shape_of f) → ⊥) → send_of d f a room ≡ refused 3 0
      send_meets_3 x = simp (known, line, ne_eqb (length a.samples) (samples_in (shape_of f)) x)

      module _ (samples : length a.samples ≡ samples_in (shape_of f)) where
        pub send_meets_4 : (room ≡ symbols_in (shape_of f) → ⊥) → send_of d f a room ≡ refused 4 0
        send_meets_4 x =
            simp (known, line, eq-eqb (length a.samples) (samples_in (shape_of f)) samples, ne_eqb room (symbols_in (shape_of f)) x)

        module _ (symbols : room ≡ symbols_in (shape_of f)) where
          -- the samples are left to tell
          by_samples : send_of d f a room ≡ or_else (first_forbidden f a) 6 (given (span_after d f a))
          by_samples =
              simp
              (known, line, eq-eqb (length a.samples) (samples_in (shape_of f)) samples, eq-eqb room (symbols_in (shape_of f)) symbols)

          module _ (w : ℕ) (is : w ≡ first_outside (bounds_of f a.line).low (bounds_of f a.line).high a.samples) where
            pub send_meets_6 : w < length a.samples → send_of d f a room ≡ refused 6 w
            send_meets_6 h = by_samples ∙ simp (same_search f a known ∙ found_first _ _ _ w is h)

            nowhere : length a.samples ≤ w → first_forbidden f a ≡ none
            nowhere h = same_search f a known ∙ found_none _ _ _ w is h

            pub sends : length a.samples ≤ w → send_of d f a room ≡ given (span_after d f a)
            sends h = by_samples ∙ simp (nowhere h)

            pub is_good : length a.samples ≤ w → Accepted f a
            unfolding first_forbidden
            is_good h = record {
              known = known;
              samples = samples;
              allowed = λ i l. (miss (forbidden f a) (length a.samples) (nowhere h)).never i (omega arith) l;
            }
