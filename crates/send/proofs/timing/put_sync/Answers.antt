-- `send::timing::put_sync` meets its contract: three characters, and three more.
-- Assumes nothing.
use Rattle.std.proofs.Common.{[], ◌∷◌, ℕ, sym, refl, ap₂}
use Rattle.packing.specs.declared.bytes.ThreeBytes.{ThreeBytes}
use Rattle.send.proofs.Putting.{made, renamed, then}
use Rattle.send.proofs.timing.put_sync.Goals as goal

pub returns : goal.returns
returns c =
    let a = c.args in
    let q = ap₂ (λ (k : ℕ) (b : ThreeBytes). k ∷ k ∷ a.content1 ∷ a.content2 ∷ b.second ∷ b.third ∷ []) (sym c.number-c.ensures) (sym c.bytes_of-t.ensures) in
    let p = renamed q (then (made (c.put_three-d1.ensures.offset, c.put_three-d1.ensures.out)) refl (made (c.put_three.ensures.offset, c.put_three.ensures.out))) in
    record { offset = p.offset; out = p.out }
