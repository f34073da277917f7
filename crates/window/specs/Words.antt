-- The words of a window: bytes from its symbols, the replaced bytes of the timing codes at their fixed values, three bytes to two words
-- (document 01, "A span"; 004, 7.1.1 and 7.1.2).
-- Assumes nothing.
use Rattle.std.specs.Prelude.{ℕ, ◌+◌, ◌-◌, ◌*◌, ◌/◌, ◌%◌, false, cond, List, eqb, ltb, get_or}
use Rattle.ground.specs.Range.{within}
use Rattle.span.specs.declared.format.Shape.{Shape}
use Rattle.span.specs.Format.{streams, eav_at}
use Rattle.span.specs.Span.{interleaved, bytes}
use Rattle.packing.specs.declared.bytes.TwoWords.{TwoWords}
use Rattle.packing.specs.Bytes.{unpacked}
use Rattle.word.specs.Timing.{timing_code}
use Rattle.window.specs.Scan.{byte_of, symbol_at}

-- byte i of the interleaved timing code of s streams: its first four are replaced when it is sent, so they are known. They are the same
-- in SAV and EAV, whatever V and H: words 0 and 1 and the low eight bits of word 2 (law `fixed_bytes`).
unfoldable pub fixed_byte : ℕ → ℕ → ℕ
fixed_byte s i = get_or (bytes (interleaved s 4 (λ _. timing_code false false))) i 0

-- byte i of a window: the four replaced bytes of SAV and EAV at their fixed values, else the byte that the symbol stands for
unfoldable pub byte_at : Shape → List ℕ → ℕ → ℕ
byte_at p w i =
    cond (ltb i 4) (fixed_byte (streams p) i)
    (cond (within (eav_at p) (eav_at p + 3) i) (fixed_byte (streams p) (i - eav_at p)) (byte_of (symbol_at w i)))

-- pair q of its words
unfoldable pub pair_at : Shape → List ℕ → ℕ → TwoWords
pair_at p w q =
    unpacked (record { first = byte_at p w (3 * q); second = byte_at p w (3 * q + 1); third = byte_at p w (3 * q + 2) })

-- interleaved word k
unfoldable pub word_at : Shape → List ℕ → ℕ → ℕ
word_at p w k = cond (eqb (k % 2) 0) (pair_at p w (k / 2)).a (pair_at p w (k / 2)).b
