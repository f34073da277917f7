-- Splitting on a test, with what it says in each case.
-- Assumes nothing.
use mathlib.Core.Path.{◌≡◌, refl}
use mathlib.Core.Bool.{Bool, true, false}

pub on_test {ℓ} : {C : Type ℓ} (t : Bool) → (t ≡ true → C) → (t ≡ false → C) → C
on_test true f g = f refl
on_test false f g = g refl
