use Rattle.std.proofs.Common.{◌≡◌, ℕ, sym, ap, ◌∙◌}
use Rattle.symbol.specs.Code.{after_of}
use Rattle.symbol.specs.declared.disparity.Disparity.{Disparity}
use Rattle.encoder.specs.Inside.Tables.{offset_of, of_offset}
use Rattle.encoder.proofs.Entries.{offset_again}
use Rattle.send.specs.declared.coder.Coded.{Coded}
use Rattle.send.specs.declared.coder.Three.{Three}
use Rattle.send.specs.Inside.Put.{coded, three_of}
use Rattle.send.proofs.coder.code_three.Goals as goal

-- `send::coder::code_three` meets its contract: three characters, each at the offset that the one before it leaves.
-- Assumes nothing.
-- the offset after a character is one, and stands for the disparity after it
module _ (x : Coded) (e : Disparity) (b : ℕ) (p : x ≡ coded e b) where
  told : of_offset x.offset ≡ after_of e b
  told = ap (λ (y : Coded). of_offset y.offset) p ∙ offset_again (after_of e b)

  is_one : x.offset ≡ offset_of (of_offset x.offset)
  is_one = ap (λ (y : Coded). y.offset) p ∙ ap offset_of (sym told)

-- three characters in turn
in_turn : (e : Disparity) (i j k : ℕ) {x y z : Coded} → x ≡ coded e i → y ≡ coded (of_offset x.offset) j
    → z ≡ coded (of_offset y.offset) k
    → ◌≡◌ {A = Three} (record { first = x.symbol; second = y.symbol; third = z.symbol; offset = z.offset }) (three_of e i j k)
unfolding three_of
in_turn e i j k {x} {y} {z} p r s =
    let d1 = told x e i p in
    let d2 = told y (of_offset x.offset) j r ∙ ap (λ (d : Disparity). after_of d j) d1 in
    rw (p, r, s, d2, d1)

pub code-second-requires-clause-d_value : goal.code-second-requires-clause-d_value
code-second-requires-clause-d_value c = is_one _ _ _ c.code-first.ensures

pub code-third-requires-clause-d_value : goal.code-third-requires-clause-d_value
code-third-requires-clause-d_value c = is_one _ _ _ c.code-second.ensures

pub returns : goal.returns
returns c =
    let a = c.args in
    in_turn (of_offset a.d) a.x a.y a.z c.code-first.ensures c.code-second.ensures c.code-third.ensures
