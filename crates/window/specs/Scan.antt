-- The symbols of a window, one after the other, at the running disparity (document 01, "A span", "Receiving and finding", refusal 20).
-- Assumes nothing.
use Rattle.std.specs.Prelude.{ℕ, zero, suc, ◌+◌, ◌%◌, Bool, cond, ◌&&◌, List, eqb, ltb, get_or}
use Rattle.std.proofs.Math.Option
use Rattle.ground.specs.Range.{within}
use Rattle.ground.specs.Search.{is_some}
use Rattle.symbol.specs.declared.disparity.Disparity.{Disparity}
use Rattle.symbol.specs.declared.disparity.Disparity.TheVariants.{Negative, Positive}
use Rattle.symbol.specs.declared.special.Special.TheVariants.{K28_5, K29_7}
use Rattle.symbol.specs.Character.{number_of}
use Rattle.symbol.specs.Code.{symbol_of, char_of, after_of}
use Rattle.decoder.specs.Meaning.{meant_by}
use Rattle.span.specs.declared.format.Shape.{Shape}
use Rattle.span.specs.Format.{eav_at}

-- the character that a symbol stands for, at whichever disparity it is legal (if at both, it is the same: law `one_meaning`); 0 if none
unfoldable pub meant : ℕ → ℕ
meant s = Option.get_or (meant_by s) 0

-- the byte that it stands for (whether it stands for one is test 20)
abbrev pub byte_of : ℕ → ℕ
byte_of s = meant s % 256

-- symbol i of a window
abbrev pub symbol_at : List ℕ → ℕ → ℕ
symbol_at w i = get_or w i 0

-- the disparity before a window: the one whose K28.5 is symbol 0. Where symbol 0 is neither form, test 20 does not hold at 0.
unfoldable pub start_of : List ℕ → Disparity
start_of w = cond (eqb (symbol_at w 0) (symbol_of Negative (number_of K28_5))) Negative Positive

-- the running disparity before symbol i
unfoldable pub running_at : List ℕ → ℕ → Disparity
running_at w zero = start_of w
running_at w (suc i) = after_of (running_at w i) (meant (symbol_at w i))

-- character c is of the kind expected at symbol i of a span: K28.5 at the first two, K29.7 at the first two of the EAV, else a byte
unfoldable pub fits : Shape → ℕ → ℕ → Bool
fits p i c =
    cond (ltb i 2) (eqb c (number_of K28_5))
    (cond (within (eav_at p) (eav_at p + 1) i) (eqb c (number_of K29_7)) (ltb c 256))

-- 20: symbol i is legal at the running disparity, and of the kind expected there
unfoldable pub holds20 : Shape → List ℕ → ℕ → Bool
holds20 p w i = is_some (char_of (running_at w i) (symbol_at w i)) && fits p i (meant (symbol_at w i))
