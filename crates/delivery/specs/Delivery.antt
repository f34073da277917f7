-- Finding windows in a recording and delivering them (document 01, "Receiving and finding"), over any reading of windows of n symbols.
-- What reading a span means is defined with spans; nothing here depends on it.
-- Assumes nothing.
use Rattle.std.specs.Prelude.{ℕ, zero, suc, ◌+◌, ◌-◌, Bool, List, [], ◌∷◌, ◌++◌, length, take, drop}
use Rattle.std.proofs.Math.Option.{Option, none, some}
use Rattle.ground.specs.Search.{first_from, is_some}

-- what is delivered: a place in the recording, and what was read there
pub record Found (A : Type 0) : Type 0 where
  pub place : ℕ
  pub reading : A

-- the reading at place q, if there is one
abbrev pub found_at : {A : Type 0} → ℕ → Option A → Option (Found A)
found_at q none = none
found_at q (some a) = some (record { place = q; reading = a })

-- nothing, or what is found and then what follows from it
abbrev pub followed : {A : Type 0} → Option (Found A) → (Found A → List (Found A)) → List (Found A)
followed none more = []
followed (some e) more = e ∷ more e

-- what is found at p, then what comes after it; if nothing is found, what comes from the next place on
abbrev pub either : {A : Type 0} → ℕ → Option A → List (Found A) → List (Found A) → List (Found A)
either p none on after = on
either p (some a) on after = record { place = p; reading = a } ∷ after

module _ {A : Type 0} (n : ℕ) (read : List ℕ → Option A) where
  -- the n symbols from place q on; fewer if the recording ends first
  abbrev pub window_at : List ℕ → ℕ → List ℕ
  window_at r q = take n (drop q r)

  -- the reader would accept the window at q
  abbrev pub accepts_at : List ℕ → ℕ → Bool
  accepts_at r q = is_some (read (window_at r q))

  -- the first place at or after p where it would
  unfoldable pub find_by : List ℕ → ℕ → Option ℕ
  find_by r p = first_from p (length r - p) (accepts_at r)

  -- what is read there
  abbrev pub read_from : List ℕ → Option ℕ → Option (Found A)
  read_from r none = none
  read_from r (some q) = found_at q (read (window_at r q))

  -- the next span: find from p, and read
  unfoldable pub next_by : List ℕ → ℕ → Option (Found A)
  next_by r p = read_from r (find_by r p)

  -- delivery in document 01's words: find from p, read, find again from the end of that span, until there is none or k were found
  unfoldable pub found_from : ℕ → List ℕ → ℕ → List (Found A)
  found_from zero r p = []
  found_from (suc k) r p = followed (next_by r p) (λ e. found_from k r (e.place + n))

  -- the same without a count, symbol by symbol from place p on, where the first `skip` symbols belong to the window found last
  unfoldable pub deliver : ℕ → ℕ → List ℕ → List (Found A)
  deliver p skip [] = []
  deliver p (suc skip) (x ∷ rest) = deliver (suc p) skip rest
  deliver p zero (x ∷ rest) =
      either p (read (take n (x ∷ rest))) (deliver (suc p) zero rest) (deliver (suc p) (n - 1) rest)

  -- delivery from place p on (it is what `found_from` says: law `literally`)
  unfoldable pub deliver_by : List ℕ → ℕ → List (Found A)
  deliver_by r p = deliver p 0 (drop p r)

-- what is delivered from a recording with k more symbols in front
unfoldable pub moved_by : {A : Type 0} → ℕ → List (Found A) → List (Found A)
moved_by k [] = []
moved_by k (e ∷ more) = record { place = k + e.place; reading = e.reading } ∷ moved_by k more

-- ---- windows one after the other: each item of a list has symbols and a reading
module _ {S : Type 0} where
  -- their symbols
  unfoldable pub concatenated : (S → List ℕ) → List S → List ℕ
  concatenated symbols [] = []
  concatenated symbols (x ∷ more) = symbols x ++ concatenated symbols more

  -- their readings, at places n apart, the first at p
  unfoldable pub placed_from : {A : Type 0} → ℕ → (S → A) → ℕ → List S → List (Found A)
  placed_from n reading p [] = []
  placed_from n reading p (x ∷ more) = record { place = p; reading = reading x } ∷ placed_from n reading (p + n) more

  -- P holds for each of them
  abbrev pub Each : (S → Type 0) → List S → Type 0
  Each P [] = Unit
  Each P (x ∷ more) = P x × Each P more
