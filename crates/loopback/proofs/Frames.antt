-- The flags of the frame and its disparity, piece by piece.
-- Assumes nothing.
use mathlib.Core.Path.{◌≡◌, refl, sym, ap, ap₂, ◌∙◌}
use mathlib.Core.List.{List}
use Prim.Native.Nat.{ℕ, ◌+◌, ◌-◌, ◌*◌, ◌<◌}
use native.Mathlib.Omega.{arith}
use lib.ListN.{length, take, drop, length-drop}
use lib.Seq.{sets, length-take-le}
use borrow.Rule.Slice.PartMut.{put_mid}
use Rattle.std.specs.Prelude.{Result, Ok}
use Rattle.ground.specs.Answer.{given, unless_refused}
use Rattle.ground.specs.Written.{upto}
use Rattle.ground.proofs.Answers.{when_given}
use Rattle.ground.proofs.Writing.{sets_whole, sets_upto, length_upto, length_table}
use Rattle.symbol.specs.declared.disparity.Disparity.{Disparity}
use Rattle.rig.specs.declared.knock.Knock.{Knock}
use Rattle.rig.specs.declared.carry.CarryError.{CarryError}
use Rattle.rig.specs.Frame.{line_of_piece}
use Rattle.rig.specs.Piece.{heard_in, paper_carried, carry_of}
use Rattle.rig.specs.Sending.{after_from}
use Rattle.rig.proofs.Carrying.{carries}
use Rattle.rig.proofs.Lines.{no_line_more, after_on}
use Rattle.reception.proofs.Parts.{part_put}
use Rattle.loopback.specs.Frame.{heard_of}

length_heard : (k : Knock) (piece : ℕ) → length (heard_in k piece) ≡ 5
unfolding heard_in
length_heard k piece = length_table 5 _

-- the flags of a piece among all
abbrev flags_of : List ℕ → ℕ → List ℕ
flags_of heard piece = take (5 * piece + 5 - 5 * piece) (drop (5 * piece) heard)

five_flags : (heard : List ℕ) (piece : ℕ) → length heard ≡ 1125 → piece < 225 → length (flags_of heard piece) ≡ 5
five_flags heard piece long there =
    length-take-le (5 * piece + 5 - 5 * piece) (drop (5 * piece) heard) (omega (arith, length-drop (5 * piece) heard)) ∙ omega arith

module _ (k : Knock) (entry : List ℕ) where
  pub no_flags : entry ≡ sets entry 0 (upto 0 (heard_in k))
  unfolding upto
  no_flags = refl

  -- the flags of a piece, which the call puts into its part of all
  pub flags_put : (piece : ℕ) (d : Disparity) (picture : ℕ) {heard part : List ℕ} → piece < 225 → length heard ≡ 1125 → picture ≡ 38400
      → heard ≡ sets entry 0 (upto piece (heard_in k))
      → part ≡ unless_refused (carry_of piece d (length (flags_of heard piece)) picture) (flags_of heard piece) (heard_in k piece)
      → put_mid (5 * piece) (5 * piece + 5 - 5 * piece) heard part ≡ sets entry 0 (upto (piece + 1) (heard_in k))
  flags_put piece d picture {heard} {part} there long room done put =
      let was = flags_of heard piece in
      let five = five_flags heard piece long there in
      let is : part ≡ heard_in k piece =
      put ∙ sym (when_given was (heard_in k piece) (carries piece d (length was) picture there five room)) in
      ap (put_mid (5 * piece) (5 * piece + 5 - 5 * piece) heard) is
      ∙ part_put heard (heard_in k piece) (5 * piece) (5 * piece + 5) (omega (arith, length_heard k piece)) (omega arith)
      ∙ ap (λ (l : List ℕ). sets l (5 * piece) (heard_in k piece)) done
      ∙ sets_upto 5 (heard_in k) (length_heard k) entry 0 (5 * piece) piece (omega arith)

  pub all_flags : length entry ≡ 1125 → sets entry 0 (upto 225 (heard_in k)) ≡ heard_of k
  all_flags long = sets_whole entry (heard_of k) (length_upto 5 (heard_in k) (length_heard k) 225 ∙ sym long)

-- ---- the disparity

pub no_lines : (d : Disparity) → d ≡ after_from d 1 (5 * 0)
no_lines d = sym (no_line_more d 1).1

-- that after a piece is that after all lines so far
pub handed_on : (piece : ℕ) (before d : Disparity) (heard : List ℕ) (picture : ℕ) {r : Result Disparity CarryError} {after : Disparity} → piece < 225 → length heard ≡ 1125
    → picture ≡ 38400 → d ≡ after_from before 1 (5 * piece) → r ≡ Ok after
    → paper_carried r ≡ carry_of piece d (length (flags_of heard piece)) picture
    → after ≡ after_from before 1 (5 * (piece + 1))
handed_on piece before d heard picture {r} {after} there long room so_far is answered =
    let given_is : given after ≡ given (after_from d (line_of_piece piece 0) 5) =
    sym (ap paper_carried is) ∙ answered ∙ carries piece d (length (flags_of heard piece)) picture there (five_flags heard piece long there) room in
    let after_is : after ≡ after_from d (line_of_piece piece 0) 5 = cc given_is in
    let p : line_of_piece piece 0 ≡ 1 + 5 * piece = omega arith in
    let q : 5 * piece + 5 ≡ 5 * (piece + 1) = omega arith in
    after_is
    ∙ ap₂ (λ (e : Disparity) (n : ℕ). after_from e n 5) so_far p
    ∙ sym (after_on before 1 (5 * piece) 5)
    ∙ ap (after_from before 1) q
