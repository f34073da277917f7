-- The paper's own values: each is what the definitions give.
-- Assumes nothing.
use mathlib.Core.Path.{◌≡◌, refl}
use mathlib.Core.List.{map}
use Rattle.ground.specs.Bit.{bit_in}
use Rattle.ground.specs.Range.{within}
use Rattle.ground.specs.Search.{first_below, first_from}
use Rattle.ground.specs.Xor.{◌⊕◌}
use Rattle.symbol.specs.Code.{symbol_of}
use Rattle.word.specs.LineNumber.{ln0, ln1}
use Rattle.word.specs.Repair.{distance, differs_at, bit_of, nearest}
use Rattle.word.specs.Timing.{timing}
use Rattle.word.specs.Values.{Value, values}
use Rattle.word.specs.Word.{guarded}

pub agree : map (λ (v : Value). v.gives) values ≡ map (λ (v : Value). v.says) values
unfolding timing distance differs_at bit_of bit_in nearest first_below first_from ◌⊕◌ within ln0 ln1 guarded symbol_of
agree = refl
