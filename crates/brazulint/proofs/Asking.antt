-- The same sending, asked in other words.
-- Assumes nothing.
use mathlib.Core.Path.{◌≡◌}
use mathlib.Core.List.{List}
use Prim.Native.Nat.{ℕ}
use Rattle.symbol.specs.declared.disparity.Disparity.{Disparity}
use Rattle.span.specs.Content.{Content}
use Rattle.span.specs.declared.format.Format.{Format}
use Rattle.request.specs.Send.{request, send_of, sent_buffer}

module _ (xs : List ℕ) {d e : Disparity} {f g : Format} {n m : ℕ} {j k : Content} (p : d ≡ e) (q : f ≡ g) (r : n ≡ m) (s : j ≡ k) where
  pub same_answer : (room : ℕ) → send_of d f (request n j xs) room ≡ send_of e g (request m k xs) room
  same_answer room = rw (p, q, r, s)

  pub same_buffer : (symbols : List ℕ) → sent_buffer d f (request n j xs) symbols ≡ sent_buffer e g (request m k xs) symbols
  same_buffer symbols = rw (p, q, r, s)
