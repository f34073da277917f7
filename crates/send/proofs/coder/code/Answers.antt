-- `send::coder::code` meets its contract: the entries of the tables at the offset of the disparity.
-- Assumes nothing.
-- the entries, where the tables are the encoder's and the offset is one
use Rattle.std.proofs.Common.{◌≡◌, ℕ, ◌+◌, ◌<◌, List, get_or, ◌∙◌, ap₂, arith, rules}
use lib.Bits.{bit_xor}
use Rattle.encoder.specs.Inside.Tables.{offset_of, of_offset, symbol_table}
use Rattle.encoder.specs.Inside.Tables.{flip_table}
use Rattle.encoder.proofs.Entries.{symbol_at_lem, after_at}
use Rattle.send.specs.declared.coder.Coded.{Coded}
use Rattle.send.specs.Inside.Put.{coded}
use Rattle.send.proofs.coder.code.Goals as goal

entries : (symbols flips : List ℕ) (d c : ℕ) → symbols ≡ symbol_table → flips ≡ flip_table → d ≡ offset_of (of_offset d) → c < 268
    → ◌≡◌ {A = Coded} (record { symbol = get_or symbols (d + c) 0; offset = bit_xor d (get_or flips c 0) }) (coded (of_offset d) c)
entries symbols flips d c s t o h =
    ap₂ (λ (x y : ℕ). record { symbol = x; offset = y })
    (ap₂ (λ (l : List ℕ) (k : ℕ). get_or l (k + c) 0) s o ∙ symbol_at_lem (of_offset d) c h)
    (ap₂ (λ (l : List ℕ) (k : ℕ). bit_xor k (get_or l c 0)) t o ∙ after_at (of_offset d) c h)

pub returns : goal.returns
returns c =
    let a = c.args in
    entries a.tables.symbols.now a.tables.flips.now a.d a.c a.tables.symbols_value a.tables.flips_value (search rules) (omega arith)
