-- Runs of characters put into the symbol buffer one after the other.
-- Assumes nothing.
use Rattle.std.proofs.Common.{◌≡◌, ℕ, zero, suc, ◌+◌, ◌*◌, ◌/◌, ◌%◌, ◌<◌, ◌≤◌, List, [], ◌∷◌, ◌++◌, length, set, sym, refl, ap, ◌∙◌, ap₂, arith}
use lib.Seq.{sets}
use Rattle.ground.proofs.Putting as buffer
use Rattle.ground.proofs.Writing.{sets_whole, length_upto, upto_same}
use Rattle.ground.specs.Written.{upto}
use Rattle.symbol.specs.declared.disparity.Disparity.{Disparity}
use Rattle.encoder.specs.Inside.Tables.{offset_of, of_offset}
use Rattle.encoder.proofs.Entries.{offset_again}
use Rattle.packing.specs.Bytes.{bytes_of}
use Rattle.span.specs.Encoding.{symbols_from, after_run}
use Rattle.span.proofs.Encoding.{symbols_append, after_append, length_symbols}
use Rattle.send.specs.declared.coder.Three.{Three}
use Rattle.send.specs.Inside.Put.{offset_after, put, pair_chars, three_of, group_chars}

-- the disparity that an offset after a run stands for
pub offset_after_is : (d : ℕ) (cs : List ℕ) → of_offset (offset_after d cs) ≡ after_run (of_offset d) cs
unfolding offset_after
offset_after_is d cs = offset_again (after_run (of_offset d) cs)

-- two runs, where the offset between them is the one that the first leaves
pub one_offset : (d e : ℕ) (cs ds : List ℕ) → of_offset e ≡ after_run (of_offset d) cs → offset_after e ds ≡ offset_after d (cs ++ ds)
unfolding offset_after
one_offset d e cs ds t =
    ap (λ (x : Disparity). offset_of (after_run x ds)) t ∙ ap offset_of (sym (after_append (of_offset d) cs ds))

-- a run of characters is a list of symbols put
symbols_put_lem : (d at end : ℕ) (cs before after : List ℕ) → after ≡ put d cs at before → end ≡ at + length cs
    → buffer.Put before after at end (symbols_from (of_offset d) cs)
unfolding put
symbols_put_lem d at end cs before after o q =
    record { written = o; ends = q ∙ ap (λ (n : ℕ). at + n) (sym (length_symbols (of_offset d) cs)) }

one_buffer : (d e at place : ℕ) (cs ds before after : List ℕ) → of_offset e ≡ after_run (of_offset d) cs → after ≡ put d cs at before
    → place ≡ at + length cs → put e ds place after ≡ put d (cs ++ ds) at before
unfolding put
one_buffer d e at place cs ds before after t o q =
    (buffer.then (symbols_put_lem d at place cs before after o q) (symbols_put_lem e place (place + length ds) ds after (put e ds place after) refl refl)).written
    ∙ ap (λ (z : Disparity). sets before at (symbols_from (of_offset d) cs ++ symbols_from z ds)) t
    ∙ ap (sets before at) (sym (symbols_append (of_offset d) cs ds))

-- what a call that puts a run of characters does: the offset after it, and the buffer
pub record PutChars (d : ℕ) (cs : List ℕ) (at : ℕ) (before : List ℕ) (e : ℕ) (after : List ℕ) : Type 0 where
  pub offset : e ≡ offset_after d cs
  pub out : after ≡ put d cs at before

module _ {d at e : ℕ} {cs before after : List ℕ} (p : PutChars d cs at before e after) where
  -- the buffer keeps its length
  pub same_size : length after ≡ length before
  same_size = buffer.put_length (symbols_put_lem d at (at + length cs) cs before after p.out refl)

  pub told : of_offset e ≡ after_run (of_offset d) cs
  told = ap of_offset p.offset ∙ offset_after_is d cs

  -- the offset after a run is one
  pub is_offset : e ≡ offset_of (of_offset e)
  unfolding offset_after
  is_offset = p.offset ∙ ap offset_of (sym told)

  -- a run and the run after it are one
  pub then : {place g : ℕ} {ds end : List ℕ} → place ≡ at + length cs → PutChars e ds place after g end → PutChars d (cs ++ ds) at before g end
  then {place} {g} {ds} {end} q r = record { offset = offsets; out = r.out ∙ buffers }
    where
      offsets : g ≡ offset_after d (cs ++ ds)
      offsets = r.offset ∙ one_offset d e cs ds told

      buffers : put e ds place after ≡ put d (cs ++ ds) at before
      buffers = one_buffer d e at place cs ds before after told p.out q

-- the offset after a run is one
pub one_after : (d e : ℕ) (cs : List ℕ) → e ≡ offset_after d cs → e ≡ offset_of (of_offset e)
unfolding offset_after
one_after d e cs p = p ∙ ap offset_of (sym (ap of_offset p ∙ offset_after_is d cs))

-- a run that fills the buffer is all that stands in it
pub whole : {d e : ℕ} {cs before after : List ℕ} → PutChars d cs 0 before e after → length cs ≡ length before
    → after ≡ symbols_from (of_offset d) cs
unfolding put
whole {d} {cs} {before} p q =
    p.out ∙ sets_whole before (symbols_from (of_offset d) cs) (length_symbols (of_offset d) cs ∙ q)

-- three characters, as the code stores them
pub three_put : (d at : ℕ) (out : List ℕ) (x y z : ℕ) {t : Three} → t ≡ three_of (of_offset d) x y z
    → PutChars d (x ∷ y ∷ z ∷ []) at out t.offset (set (set (set out at t.first) (at + 1) t.second) (at + 2) t.third)
unfolding offset_after put three_of
three_put d at out x y z p =
    let one : at + 1 ≡ suc at = omega arith in
    let two : at + 2 ≡ suc (suc at) = omega arith in
    record { offset = rw p; out = rw (p, one, two) }

-- the two promises of a call as one
pub made : {d at e : ℕ} {cs before after : List ℕ} → (e ≡ offset_after d cs) × (after ≡ put d cs at before) → PutChars d cs at before e after
made p = record { offset = p.0; out = p.1 }

-- of a number whose low twelve bits are m, what stands above the lowest byte; and of that the lowest byte
above_byte : (q m : ℕ) → (q * 4096 + m) / 256 ≡ q * 16 + m / 256
above_byte q m = omega arith

middle_byte : (q r : ℕ) → r < 16 → q % 16 * 16 + r % 16 ≡ (q * 16 + r) % 256
middle_byte q r h = omega arith

top_byte : (k : ℕ) → k < 256 → k % 256 ≡ k
top_byte k h = omega arith

-- two words as one number, the second above the first: its bytes are theirs
pub both_chars : (n : ℕ) → n < 16777216 → pair_chars (n % 4096) (n / 4096) ≡ n % 256 ∷ n / 256 % 256 ∷ n / 65536 ∷ []
unfolding bytes_of
both_chars n h =
    let whole : n / 4096 * 4096 + n % 4096 ≡ n = omega arith in
    let first : n % 4096 % 256 ≡ n % 256 = omega arith in
    let second : n / 4096 % 16 * 16 + n % 4096 / 256 % 16 ≡ n / 256 % 256 =
    middle_byte (n / 4096) (n % 4096 / 256) (omega arith)
    ∙ ap (λ (k : ℕ). k % 256) (sym (above_byte (n / 4096) (n % 4096)) ∙ ap (λ (k : ℕ). k / 256) whole) in
    let top : n / 4096 / 16 ≡ n / 65536 = omega arith in
    let third : n / 4096 / 16 % 256 ≡ n / 65536 = ap (λ (k : ℕ). k % 256) top ∙ top_byte (n / 65536) (omega arith) in
    rw (first, second, third)

-- one word of each stream: a pair of words with two streams, two with four
pub group_of_two : (w : ℕ → ℕ) → group_chars 1 w ≡ pair_chars (w 0) (w 1)
unfolding group_chars upto
group_of_two w = refl

pub group_of_four : (w : ℕ → ℕ) → group_chars 2 w ≡ pair_chars (w 0) (w 1) ++ pair_chars (w 2) (w 3)
unfolding group_chars upto
group_of_four w = refl

pub length_group : (pairs : ℕ) (w : ℕ → ℕ) → length (group_chars pairs w) ≡ 3 * pairs
unfolding group_chars
length_group pairs w = length_upto 3 (λ u. pair_chars (w (2 * u)) (w (2 * u + 1))) (λ m. refl) pairs

-- a run by another name
pub renamed : {d at e : ℕ} {cs ds before after : List ℕ} → ds ≡ cs → PutChars d cs at before e after → PutChars d ds at before e after
renamed {d} {at} {e} {before} {after} q p = rw q p

-- the same word on each stream that is there
pub same_group : (pairs : ℕ) (w v : ℕ → ℕ) → ((t : ℕ) → t < 2 * pairs → w t ≡ v t) → group_chars pairs w ≡ group_chars pairs v
unfolding group_chars
same_group pairs w v e =
    upto_same pairs (λ u. pair_chars (w (2 * u)) (w (2 * u + 1))) (λ u. pair_chars (v (2 * u)) (v (2 * u + 1)))
    (λ u h. ap₂ (λ (a b : ℕ). pair_chars a b) (e (2 * u) (omega arith)) (e (2 * u + 1) (omega arith)))

pub same_four : (pairs : ℕ) → pairs ≤ 2 → (w v : ℕ → ℕ) → w 0 ≡ v 0 → w 1 ≡ v 1 → w 2 ≡ v 2 → w 3 ≡ v 3
    → group_chars pairs w ≡ group_chars pairs v
same_four pairs h w v a b c e = same_group pairs w v (λ t l. each t (omega arith))
  where
    each : (t : ℕ) → t < 4 → w t ≡ v t
    each zero l = a
    each (suc zero) l = b
    each (suc (suc zero)) l = c
    each (suc (suc (suc zero))) l = e
    each (suc (suc (suc (suc t)))) l = absurd (omega arith)
