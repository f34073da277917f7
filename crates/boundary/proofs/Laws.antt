-- What holds of numbers that cross, proved.
-- Assumes nothing.
use mathlib.Core.Path.{refl, ap}
use Rattle.symbol.specs.Disparity.{is_positive}
use Rattle.boundary.specs.Laws.{BoundaryLaws}

pub boundary_laws : BoundaryLaws
boundary_laws = record {
  true_is_positive = refl;
  false_is_negative = refl;
  back = λ d. record { if_negative = λ e. ap is_positive e; if_positive = λ e. ap is_positive e };
  format_number = λ f. refl;
  format_depth = λ f. refl;
  format_component = λ f. refl;
  format_structure = λ f. refl;
  format_size = λ f. refl;
  stream_line = λ l. refl;
  picture_line = λ l. refl;
  named = λ content. refl;
  none_named = λ content. refl;
  refused_number = λ A number place. refl;
  given_zero = λ a. refl;
}
