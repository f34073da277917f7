-- The characters of a timing code of all streams, piece by piece.
-- Assumes nothing.
use Rattle.std.proofs.Common.{◌≡◌, ℕ, zero, suc, ◌-◌, ◌*◌, ◌≤◌, ◌⊎◌, ◌++◌, length, refl, inl, inr, ⊎_elim, arith}
use Rattle.ground.specs.Written.{upto, table}
use Rattle.span.specs.Span.{interleaved, bytes}
use Rattle.send.specs.Inside.Put.{group_chars, sync_chars, second_word, timing_chars, run_chars}

-- two streams or four
either : (pairs : ℕ) → 1 ≤ pairs → pairs ≤ 2 → (pairs ≡ 1) ⊎ (pairs ≡ 2)
either zero p q = absurd (omega arith)
either (suc zero) p q = inl refl
either (suc (suc zero)) p q = inr refl
either (suc (suc (suc n))) p q = absurd (omega arith)

module _ (pairs k content1 content2 xyz : ℕ) where
  -- of FFF, 000 and 000 on each stream four bytes are replaced, and what is left of the second pair stays
  pub timing_is : 1 ≤ pairs → pairs ≤ 2
      → timing_chars pairs k content1 content2 xyz
      ≡ sync_chars k content1 content2 (second_word pairs) ++ (run_chars (3 * pairs - 2) 0x000 ++ group_chars pairs (λ _. xyz))
  unfolding timing_chars group_chars run_chars interleaved bytes upto table
  timing_is p q = ⊎_elim (λ e. rw e) (λ e. rw e) (either pairs p q)

  -- four words of each stream
  pub length_timing : 1 ≤ pairs → pairs ≤ 2 → length (timing_chars pairs k content1 content2 xyz) ≡ 12 * pairs
  unfolding timing_chars interleaved bytes upto table
  length_timing p q = ⊎_elim (λ e. rw e) (λ e. rw e) (either pairs p q)
