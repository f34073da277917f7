-- An answer to C that is right for the case that the library's answer is known to be.
-- Assumes nothing.
use mathlib.Core.Path.{◌≡◌, ◌∙◌, sym, ap}

pub by_case : {A B : Type 0} (f : A → B) {r t : A} {x : B} → x ≡ f t → r ≡ t → x ≡ f r
by_case f e q = e ∙ sym (ap f q)
