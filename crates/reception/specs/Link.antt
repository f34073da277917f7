-- The link of the rig.
-- Assumes nothing.
use Rattle.span.specs.declared.format.Format.{Format}
use Rattle.span.specs.Format.{plain_format}

-- format 3, 50 Hz: images 1 to 4 on four streams (document 01, "A span"); at 12 bits, of G', 4:4:4, 4K
abbrev pub link : Format
link = plain_format 3 12
