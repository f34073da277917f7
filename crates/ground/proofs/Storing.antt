-- Loops that store one piece, or one entry, after the other.
-- Assumes nothing.
use mathlib.Core.Path.{◌≡◌, refl, sym, ap, ◌∙◌}
use mathlib.Core.List.{List, [], ◌∷◌}
use Prim.Native.Nat.{ℕ, ◌+◌, ◌*◌}
use native.Mathlib.Omega.{arith}
use lib.ListN.{length, set, replicate, length-replicate}
use lib.Seq.{sets}
use Rattle.ground.specs.Written.{upto, table}
use Rattle.ground.proofs.Writing.{sets_upto, sets_whole, length_table}

-- what a list is after the pieces f 0, f 1, and so on, i of them, were stored in it one after the other
unfoldable pub put_pieces : List ℕ → ℕ → (ℕ → List ℕ) → ℕ → List ℕ
put_pieces l at f i = sets l at (upto i f)

pub no_pieces : (l : List ℕ) (at : ℕ) (f : ℕ → List ℕ) → l ≡ put_pieces l at f 0
unfolding put_pieces upto
no_pieces l at f = refl

pub one_piece : (k : ℕ) (l : List ℕ) (at : ℕ) (f : ℕ → List ℕ) → ((i : ℕ) → length (f i) ≡ k) → (i o : ℕ) {m : List ℕ} → m ≡ put_pieces l at f i
    → o ≡ at + k * i → sets m o (f i) ≡ put_pieces l at f (i + 1)
unfolding put_pieces
one_piece k l at f sized i o p q = rw p (sets_upto k f sized l at o i q)

-- the same where each piece is one entry
unfoldable pub stored : List ℕ → ℕ → (ℕ → ℕ) → ℕ → List ℕ
unfolding put_pieces
stored l at f = put_pieces l at (λ k. f k ∷ [])

pub none_stored : (l : List ℕ) (at : ℕ) (f : ℕ → ℕ) → l ≡ stored l at f 0
unfolding stored
none_stored l at f = no_pieces l at (λ k. f k ∷ [])

pub one_more : (l : List ℕ) (at : ℕ) (f : ℕ → ℕ) (i : ℕ) {m : List ℕ} {o v : ℕ} → m ≡ stored l at f i → o ≡ at + i → v ≡ f i
    → set m o v ≡ stored l at f (i + 1)
unfolding stored
one_more l at f i {m} {o} p q r = rw r (one_piece 1 l at (λ k. f k ∷ []) (λ _. refl) i o p (omega arith))

-- all entries of an array that was zero
pub all_stored : (n : ℕ) (f : ℕ → ℕ) (i : ℕ) {m : List ℕ} → m ≡ stored (replicate n 0) 0 f i → i ≡ n → m ≡ table n f
unfolding stored table
all_stored n f i p q =
    p
    ∙ ap (λ (k : ℕ). sets (replicate n 0) 0 (table k f)) q
    ∙ sets_whole (replicate n 0) (table n f) (length_table n f ∙ sym (length-replicate n 0))
