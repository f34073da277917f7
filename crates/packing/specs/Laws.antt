-- Laws of packing and of samples, for a reader of the papers; `proofs/Laws` proves each.
-- Assumes nothing.
use Rattle.std.specs.Prelude.{ℕ, ◌*◌, ◌/◌, ◌≤◌, ◌<◌, ◌≡◌, true, ◌⊎◌}
use Rattle.ground.specs.Answer.{refused, given}
use Rattle.ground.specs.Inside.Answer.{Injective}
use Rattle.packing.specs.declared.bytes.ThreeBytes.{ThreeBytes}
use Rattle.packing.specs.Bytes.{bytes_of, unpacked, paper_packed, packed_of}
use Rattle.packing.specs.Sample.{allowed_at_depth, word_at_depth, allowed_word}

pub record PackingLaws : Type 0 where
  -- two words packed and unpacked are the same two words; three bytes unpacked and packed are the same three bytes (document 01, "A span")
  pub unpack_pack : (a b : ℕ) → a < 4096 → b < 4096 → unpacked (bytes_of a b) ≡ record { a = a; b = b }
  pub pack_unpack :
      (t : ThreeBytes) → t.first < 256 → t.second < 256 → t.third < 256 → bytes_of (unpacked t).a (unpacked t).b ≡ t
  -- two words are packed; if either number is above 4095 they are refused with 7
  pub packs : (a b : ℕ) → a ≤ 4095 → b ≤ 4095 → packed_of a b ≡ given (bytes_of a b)
  pub pack_meets7 : (a b : ℕ) → (4095 < a) ⊎ (4095 < b) → packed_of a b ≡ refused 7 0
  -- a sample that may be sent is shifted by two bits at ten bits and is the word itself at twelve (004, 6.1), and the word may be received
  pub sent_ten : (x : ℕ) → allowed_at_depth 10 x ≡ true → (word_at_depth 10 x ≡ x * 4) × (allowed_word 10 (word_at_depth 10 x) ≡ true)
  pub sent_twelve : (x : ℕ) → allowed_at_depth 12 x ≡ true → (word_at_depth 12 x ≡ x) × (allowed_word 12 (word_at_depth 12 x) ≡ true)
  -- and a word that may be received is the word of a sample that may be sent (refusal 25)
  pub received_ten : (x : ℕ) → allowed_word 10 x ≡ true → (allowed_at_depth 10 (x / 4) ≡ true) × (word_at_depth 10 (x / 4) ≡ x)
  pub received_twelve : (x : ℕ) → allowed_word 12 x ≡ true → (allowed_at_depth 12 x ≡ true) × (word_at_depth 12 x ≡ x)
  -- the paper's number and values tell any two answers apart, so that a contract about them fixes the answer
  pub packed_told : Injective paper_packed
