-- `send::picture_words::put_picture` meets its contract: rows of such a length have sums, and both are what the two calls answer.
-- Assumes nothing.
use Rattle.std.proofs.Common.{◌≡◌, ℕ, ◌*◌, ◌≤◌, List, length, Option, Some, None, IsSome, sym, ◌∙◌, ap₂, rules}
use Rattle.crcc.specs.declared.sums.Sums.{Sums}
use Rattle.row_crc.specs.Inside.Sums.{summed_of}
use Rattle.row_crc.proofs.Rows.{are_sums, no_other}
use Rattle.send.specs.declared.picture_words.Passed.{Passed}
use Rattle.send.proofs.picture_words.put_picture.Goals as goal

has_some : (ws : List ℕ) (pairs : ℕ) → 1 ≤ pairs → pairs ≤ 2 → length ws ≡ 3840 * pairs → (o : Option Sums) → o ≡ summed_of ws → IsSome o
has_some ws pairs some few long None e = no_other ws pairs some few (sym e) long
has_some ws pairs some few long (Some s) e = search rules

pub unwrap-sums-requires : goal.unwrap-sums-requires
unwrap-sums-requires c =
    has_some c.args.words.now c.args.pairs c.requires.le_pairs c.requires.pairs_bound c.requires.words_len c.sums_of_rows.result c.sums_of_rows.ensures

pub returns : goal.returns
returns c =
    let sums = are_sums _ c.args.pairs c.requires.le_pairs c.requires.pairs_bound (sym c.sums_of_rows.ensures ∙ c.unwrap-sums.ensures) c.requires.words_len in
    record { passed = ap₂ {C = Passed} (λ (o : ℕ) (s : Sums). record { offset = o; sums = s }) c.put_streams-offset.ensures.offset sums; out = c.put_streams-offset.ensures.out }
