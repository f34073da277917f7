-- The wrong bits of the streams so far: all of them, and each bit.
-- Assumes nothing.
use mathlib.Core.Path.{◌≡◌, refl, sym, ap, ◌∙◌}
use mathlib.Core.List.{List}
use Prim.Native.Nat.{ℕ, zero, suc, ◌+◌, ◌*◌, ◌%◌, ◌≤◌}
use native.Mathlib.Nat.{mod-eq_of_lt}
use native.Mathlib.Numerals.{add-one}
use native.Mathlib.Omega.{arith}
use Rattle.ground.specs.Bit.{bit_in}
use Rattle.span.specs.declared.format.Shape.{Shape}
use Rattle.span.specs.Format.{streams}
use Rattle.span.specs.Layout.{sav_xyz, eav_xyz}
use Rattle.word.specs.Repair.{differs_at}
use Rattle.word.specs.Received.{wrong_bits, bit_wrong}
use Rattle.ground.proofs.Writing.{get_d_table, table_same}
use Rattle.window.specs.Read.{each_bit, repairs_of}
use Rattle.window.specs.Tests.{sum_of, repair_count, repairs_at}
use Rattle.window.specs.Words.{word_at}
use Rattle.window.proofs.Bytes.{word_below}
use Rattle.window.proofs.Sums.{parts_zero, same_bits, bits_add_up}
use Rattle.read_test21_26.specs.declared.repairs.Xyz.{Xyz}
use Rattle.read_test21_26.specs.Inside.Repairs.{xyz_of, wrong_mask, brought, Room, with_bits}

-- ---- one pair of masks more

module _ {c d : List ℕ} {x y u v : ℕ} where
  pub with_same : c ≡ d → x ≡ u → y ≡ v → with_bits c x y ≡ with_bits d u v
  with_same e p q = rw (e, p, q)

-- ---- sums over the streams

module _ (g : ℕ → ℕ) (p : Shape) (w : List ℕ) where
  pub none_summed : 0 ≡ sum_of 0 (brought g p w)
  unfolding sum_of
  none_summed = refl

  pub one_more : (i : ℕ) → sum_of i (brought g p w) + brought g p w i ≡ sum_of (i + 1) (brought g p w)
  unfolding sum_of
  one_more i = rw (add-one i)

  -- no more than twice as many as there are streams, where one word brings at most one
  sum_most : ((x : ℕ) → g x ≤ 1) → (i : ℕ) → sum_of i (brought g p w) ≤ 2 * i
  unfolding sum_of
  sum_most h zero = omega arith
  sum_most h (suc i) = omega (arith, sum_most h i, h (xyz_of p w i).sav, h (xyz_of p w i).eav)

  -- what is made of XYZ is made of all its bits: it has twelve
  module _ (i : ℕ) {x : Xyz} (e : x ≡ xyz_of p w i) where
    pub of_sav : g (x.sav % 4096) ≡ g (xyz_of p w i).sav
    of_sav = ap g (ap (λ (y : Xyz). y.sav % 4096) e ∙ mod-eq_of_lt (word_below p w (streams p * sav_xyz + i)))

    pub of_eav : g (x.eav % 4096) ≡ g (xyz_of p w i).eav
    of_eav = ap g (ap (λ (y : Xyz). y.eav % 4096) e ∙ mod-eq_of_lt (word_below p w (streams p * eav_xyz + i)))

module _ (p : Shape) (w : List ℕ) where
  pub all_summed : sum_of (streams p) (brought wrong_bits p w) ≡ repair_count (streams p) (word_at p w)
  unfolding repair_count
  all_summed = refl

  -- ---- each bit

  -- the counts after i streams
  abbrev pub counts_of : ℕ → List ℕ
  counts_of i = each_bit (λ b. sum_of i (brought (bit_wrong b) p w))

  pub none_counted : each_bit (λ b. 0) ≡ counts_of 0
  unfolding sum_of
  none_counted = refl

  bit_most : (b x : ℕ) → bit_wrong b x ≤ 1
  unfolding differs_at bit_in
  bit_most b x = omega arith

  pub has_room_lem : (i : ℕ) → i ≤ 4 → Room (counts_of i)
  has_room_lem i h =
      let few : (b : ℕ) → sum_of i (brought (bit_wrong b) p w) ≤ 253 = λ b. omega (arith, sum_most (bit_wrong b) p w (bit_most b) i) in
      record { each = λ b l. omega (arith, get_d_table 12 (λ b. sum_of i (brought (bit_wrong b) p w)) b 0 l, few b) }

  pub one_counted : (i : ℕ) → with_bits (counts_of i) (wrong_mask (xyz_of p w i).sav) (wrong_mask (xyz_of p w i).eav) ≡ counts_of (i + 1)
  unfolding sum_of differs_at
  one_counted i =
      table_same 12 _ _
      (λ b h. ap (λ (n : ℕ). n + (bit_wrong b (xyz_of p w i).sav + bit_wrong b (xyz_of p w i).eav)) (get_d_table 12 (λ b. sum_of i (brought (bit_wrong b) p w)) b 0 h) ∙ one_more (bit_wrong b) p w i)

  pub all_counted : counts_of (streams p) ≡ each_bit (repairs_at (streams p) (word_at p w))
  unfolding repairs_at
  all_counted = refl

  -- where no bit was wrong, none was
  pub none_wrong : repair_count (streams p) (word_at p w) ≡ 0 → each_bit (λ b. 0) ≡ each_bit (repairs_at (streams p) (word_at p w))
  none_wrong e =
      same_bits (λ b. 0) (repairs_at (streams p) (word_at p w))
      (λ b h. sym (parts_zero 12 (repairs_at (streams p) (word_at p w)) (bits_add_up (streams p) (word_at p w) ∙ e) b h))

  -- both together
  pub are_repairs : {n : ℕ} {c : List ℕ} → n ≡ repair_count (streams p) (word_at p w) → c ≡ each_bit (repairs_at (streams p) (word_at p w))
      → record { count = n; of_bit = c } ≡ repairs_of (repair_count (streams p) (word_at p w)) (repairs_at (streams p) (word_at p w))
  are_repairs e q = rw (e, q)
