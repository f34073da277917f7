-- Texts that are put one after the other.
-- Assumes nothing.
use mathlib.Core.Path.{◌≡◌}
use mathlib.Core.Bool.{true}
use mathlib.Core.List.{List, ◌++◌}
use Prim.Native.Nat.{ℕ, ◌+◌, ◌≤◌}
use native.Mathlib.Omega.{arith}
use lib.ListN.{length}
use borrow.Author.Tests.{le-leb}
use Rattle.ground.proofs.Putting.{Put, then, put_length}
use Rattle.text.specs.Put.{has_room, end_of, put_of}

-- what a call that puts a text promises, where the text has room
pub put_told : {o p : List ℕ} {at end : ℕ} (x : List ℕ) → at + length x ≤ length o → end ≡ end_of (length o) at x → p ≡ put_of o at x
    → Put o p at end x
put_told {o} {p} {at} {end} x h e w =
    let t : has_room (length o) at x ≡ true = le-leb (at + length x) (length o) h in
    record { written = simp t at w; ends = simp t at e }

-- the same after what was put before it
pub then_told : {o p q : List ℕ} {at mid end : ℕ} {x : List ℕ} (y : List ℕ) → Put o p at mid x → at + (length x + length y) ≤ length o
    → end ≡ end_of (length p) mid y → q ≡ put_of p mid y → Put o q at end (x ++ y)
then_told {o} {p} {q} {at} {mid} {end} {x} y f h e w =
    let room : mid + length y ≤ length p = omega (arith, put_length f) in
    then f (put_told y room e w)
