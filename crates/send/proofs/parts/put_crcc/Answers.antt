-- `send::parts::put_crcc` meets its contract: CRCC0 of each stream, then CRCC1 of each.
-- Assumes nothing.
use Rattle.std.proofs.Common.{slice_index, [], ◌∷◌, ℕ, ◌+◌, sym, ap}
use Rattle.crcc.specs.declared.crcc.CrccWords.{CrccWords}
use Rattle.crcc.specs.Inside.Sums.{sum_in}
use Rattle.send.specs.Inside.Put.{crcc_after, crcc_chars}
use Rattle.send.proofs.Putting.{made, renamed, then, length_group, same_four}
use Rattle.send.proofs.parts.put_crcc.Goals as goal

pub returns : goal.returns
unfolding crcc_chars
returns c =
    let a = c.args in
    let x = c.crcc_after-a.result in
    let y = c.crcc_after-b.result in
    let z = c.crcc_after-c.result in
    let v = c.crcc_after-e.result in
    let ex = c.crcc_after-a.ensures in
    let ey = c.crcc_after-b.ensures in
    let ez = c.crcc_after-c.ensures in
    let ev = c.crcc_after-e.ensures in
    let p = renamed
    (same_four a.pairs c.requires.pairs_bound (λ t. (crcc_after (sum_in a.sums t) a.xyz a.n).crcc0) (slice_index (x.crcc0 ∷ y.crcc0 ∷ z.crcc0 ∷ v.crcc0 ∷ []))
    (ap (λ (q : CrccWords). q.crcc0) (sym ex)) (ap (λ (q : CrccWords). q.crcc0) (sym ey)) (ap (λ (q : CrccWords). q.crcc0) (sym ez)) (ap (λ (q : CrccWords). q.crcc0) (sym ev)))
    (made (c.put_four-d1.ensures.offset, c.put_four-d1.ensures.out)) in
    let q = renamed
    (same_four a.pairs c.requires.pairs_bound (λ t. (crcc_after (sum_in a.sums t) a.xyz a.n).crcc1) (slice_index (x.crcc1 ∷ y.crcc1 ∷ z.crcc1 ∷ v.crcc1 ∷ []))
    (ap (λ (q : CrccWords). q.crcc1) (sym ex)) (ap (λ (q : CrccWords). q.crcc1) (sym ey)) (ap (λ (q : CrccWords). q.crcc1) (sym ez)) (ap (λ (q : CrccWords). q.crcc1) (sym ev)))
    (made (c.put_four.ensures.offset, c.put_four.ensures.out)) in
    let r = then p (ap (λ (n : ℕ). a.at + n) (sym (length_group a.pairs (λ t. (crcc_after (sum_in a.sums t) a.xyz a.n).crcc0)))) q in
    record { offset = r.offset; out = r.out }
