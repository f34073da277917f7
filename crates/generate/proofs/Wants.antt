-- What is asked for, and what is refused, in the order tried.
-- Assumes nothing.
use mathlib.Core.Path.{◌≡◌, refl, sym, ap, ◌∙◌}
use mathlib.Core.Bool.{Bool, true, false}
use mathlib.Core.List.{List}
use Prim.Native.Nat.{ℕ, ◌*◌, ◌≤◌, ◌<◌}
use native.Mathlib.Omega.{arith}
use lib.ListN.{length}
use borrow.Author.Tests.{lt-ltb, le-leb, lt-leb}
use Rattle.ground.specs.Answer.{refused, given}
use Rattle.ground.proofs.Ranges.{is_below}
use Rattle.line.specs.Stream.{is_line}
use Rattle.span.specs.declared.format.Format.{Format}
use Rattle.span.specs.Format.{is_known, shape_of, symbols_in}
use Rattle.recording.specs.Recording.{limit}
use Rattle.generate.specs.Parameters.{wanted_format, first_line_in, count_in, parameters_in, wanted_of}

module _ (input : List ℕ) where
  abbrev pub many : ℕ
  many = count_in input * symbols_in (shape_of (wanted_format input))

  pub no_line : length input < 4 → is_line (first_line_in input) ≡ false
  no_line h = simp (lt-ltb (length input) 4 h) (is_below 1 1125 0 (omega arith))

  -- what the tests told
  pub known_is : {f : Format} {test is : Bool} → f ≡ wanted_format input → test ≡ is_known f → test ≡ is → is_known (wanted_format input) ≡ is
  known_is e p q = sym (ap is_known e) ∙ sym p ∙ q

  pub meets_1 : is_known (wanted_format input) ≡ false → wanted_of input ≡ refused 1 0
  meets_1 t = simp t

  module _ (known : is_known (wanted_format input) ≡ true) where
    pub meets_2 : is_line (first_line_in input) ≡ false → wanted_of input ≡ refused 2 0
    meets_2 t = rw known (rw t refl)

    module _ (line : is_line (first_line_in input) ≡ true) where
      pub meets_3 : length input < 6 → wanted_of input ≡ refused 3 0
      meets_3 h = rw known (rw line (rw (lt-leb 6 (length input) h) refl))

      module _ (whole : 6 ≤ length input) where
        pub too_long : limit < many → wanted_of input ≡ refused 3 0
        too_long h = rw known (rw line (rw (le-leb 6 (length input) whole, lt-leb many limit h) refl))

        pub is_given : many ≤ limit → wanted_of input ≡ given (parameters_in input)
        is_given h = rw known (rw line (rw (le-leb 6 (length input) whole, le-leb many limit h) refl))
