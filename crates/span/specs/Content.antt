-- The content bytes of a span (document 01, "Sending"; 004, 7.1.1).
-- Assumes nothing.
use Rattle.std.specs.Prelude.{Option, Some as Named, None as NoneNamed}
use Rattle.span.specs.declared.content.ContentBytes.{ContentBytes}
use Rattle.span.specs.declared.format.Format.{Format}

-- what a caller asks for: bytes that are named, or none
abbrev pub Content : Type 0
Content = Option ContentBytes

-- the bytes that the caller names; zeros if none are named
abbrev pub content_of : Format → Content → ContentBytes
content_of f NoneNamed = record { sav1 = 0; sav2 = 0; eav1 = 0; eav2 = 0 }
content_of f (Named c) = c
