-- `send::parts::crcc_after` meets its contract: six steps more, and the two words.
-- Assumes nothing.
use Rattle.std.proofs.Common.{ℕ, ap, ◌∙◌}
use Rattle.crcc.specs.Crcc.{crc, crc_word, crcc_words}
use Rattle.send.proofs.parts.crcc_after.Goals as goal

pub returns : goal.returns
unfolding crc
returns c =
    let a = c.args in
    c.crcc_words.ensures
    ∙ ap crcc_words
    (c.crc_word.ensures
    ∙ ap (λ (x : ℕ). crc_word x a.n.ln1)
    (c.crc_word-c5.ensures
    ∙ ap (λ (x : ℕ). crc_word x a.n.ln0)
    (c.crc_word-c4.ensures
    ∙ ap (λ (x : ℕ). crc_word x a.xyz)
    (c.crc_word-c3.ensures
    ∙ ap (λ (x : ℕ). crc_word x 0x000) (c.crc_word-c2.ensures ∙ ap (λ (x : ℕ). crc_word x 0x000) c.crc_word-c1.ensures)))))
