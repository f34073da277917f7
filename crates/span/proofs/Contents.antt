-- Which content bytes are sent (document 01, "Sending"): those that a call names, as named; zeros where it names none.
-- Assumes nothing.
use mathlib.Core.Path.{◌≡◌, refl}
use Rattle.std.specs.Prelude.{None as NoneNamed, Some as Named}
use Rattle.span.specs.declared.content.ContentBytes.{ContentBytes}
use Rattle.span.specs.declared.format.Format.{Format}
use Rattle.span.specs.Content.{content_of}

pub named_as_given : (f : Format) (c : ContentBytes) → content_of f (Named c) ≡ c
named_as_given f c = refl

pub none_named_zeros : (f : Format) → content_of f NoneNamed ≡ record { sav1 = 0; sav2 = 0; eav1 = 0; eav2 = 0 }
none_named_zeros f = refl
