-- What a loop over a window is given.
-- Assumes nothing.
use mathlib.Core.Path.{◌≡◌}
use mathlib.Core.Bool.{true}
use mathlib.Core.List.{List}
use Prim.Native.Nat.{ℕ}
use lib.ListN.{length}
use Rattle.decoder.specs.Inside.Decoder.{decoding_table}
use Rattle.span.specs.declared.format.Format.{Format}
use Rattle.span.specs.declared.format.Shape.{Shape}
use Rattle.span.specs.Format.{shape_of}
use Rattle.span.specs.Inside.Fit.{ready}
use Rattle.span.proofs.Formats.{small}
use Rattle.span.proofs.Lengths.{known_has_streams}
use Rattle.span.proofs.Readiness.{known_then, symbols_then}
use Rattle.window.specs.Inside.Given.{Given}

pub given_then : {p : Shape} {t : List ℕ} (f : Format) (w : List ℕ) (rows : ℕ)
    → ready f (length w) rows ≡ true → t ≡ decoding_table → p ≡ shape_of f → Given p t w
given_then {p} f w rows r d e =
    record {
      table = d;
      half = rw e (known_has_streams f (known_then f (length w) rows r));
      small = small f e;
      long = rw e (symbols_then f (length w) rows r);
    }
