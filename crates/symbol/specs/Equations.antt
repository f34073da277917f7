-- A second definition of the code, against which the first is held: the logic equations that its authors published (Widmer and Franaszek, "A
-- DC-balanced, partitioned-block, 8B/10B transmission code", IBM Journal of Research and Development 27, 1983; US patent 4,486,739). It has no
-- table and no rule of `Blocks`, `Disparity` and `Code`; that both are one code is the field `equations` of `Paper`.
-- The names are meant as the authors', whose publication is not among our papers: A to H are the bits of a byte, A the lowest, and K is set in a
-- special character; a, b, c, d, e, i, f, g, h, j are the bits of a symbol in the order in which they are sent. Their product is `&&` here,
-- their sum `||`, and their prime `not`.
-- Assumes nothing.
use Rattle.std.specs.Prelude.{ℕ, ◌+◌, ◌*◌, ◌/◌, ◌%◌, ◌^◌, Bool, true, false, not, ◌&&◌, ◌||◌, List, [], ◌∷◌, eqb}
use Rattle.std.proofs.Math.Bool.{cond}
use Rattle.ground.specs.Bit.{bit}
use Rattle.symbol.specs.declared.disparity.Disparity.{Disparity}
use Rattle.symbol.specs.declared.disparity.Disparity.TheVariants.{Negative, Positive}
use Rattle.symbol.specs.Character.{is_special, x_of, y_of}
use Rattle.symbol.specs.Disparity.{is_positive}

-- one of two is set, and not both; a bit is complemented where the other is set
abbrev differ : Bool → Bool → Bool
differ true x = not x
differ false x = x

abbrev bit_at : ℕ → ℕ → Bool
bit_at k n = eqb (n / 2 ^ k % 2) 1

-- bits as a number, the first the lowest
abbrev number : List Bool → ℕ
number [] = 0
number (x ∷ xs) = bit x + 2 * number xs

module _ (before : Disparity) (char : ℕ) where
  -- The bits of the character Dx.y or Kx.y.
  abbrev A : Bool
  A = bit_at 0 (x_of char)

  abbrev B : Bool
  B = bit_at 1 (x_of char)

  abbrev C : Bool
  C = bit_at 2 (x_of char)

  abbrev D : Bool
  D = bit_at 3 (x_of char)

  abbrev E : Bool
  E = bit_at 4 (x_of char)

  abbrev F : Bool
  F = bit_at 0 (y_of char)

  abbrev G : Bool
  G = bit_at 1 (y_of char)

  abbrev H : Bool
  H = bit_at 2 (y_of char)

  abbrev K : Bool
  K = is_special char

  -- Classes of A, B, C and D: as many ones as the first digit says, as many zeros as the second.
  abbrev L40 : Bool
  L40 = A && B && C && D

  abbrev L04 : Bool
  L04 = not A && not B && not C && not D

  abbrev L22 : Bool
  L22 = (A && B && not C && not D) || (not A && not B && C && D) || (differ A B && differ C D)

  abbrev L13 : Bool
  L13 = (differ A B && not C && not D) || (differ C D && not A && not B)

  abbrev L31 : Bool
  L31 = (differ A B && C && D) || (differ C D && A && B)

  -- The six bits (S6) and the four (S4) are made for one disparity before them, and complemented at the other: for positive (PD-1), or for
  -- negative (ND-1). What is made for neither stands at both as it is.
  abbrev PD-1S6 : Bool
  PD-1S6 = (L13 && D && E) || (not L22 && not L31 && not E)

  abbrev ND-1S6 : Bool
  ND-1S6 = (L31 && not D && not E) || (not L22 && not L13 && E) || K

  abbrev PD-1S4 : Bool
  PD-1S4 = (not F && not G) || (differ F G && K)

  abbrev ND-1S4 : Bool
  ND-1S4 = F && G

  -- As they are made, they have more ones than zeros (PD0), or more zeros than ones (ND0). What is neither has as many.
  abbrev PD0S6 : Bool
  PD0S6 = (not L22 && not L13 && E) || K

  abbrev ND0S6 : Bool
  ND0S6 = PD-1S6

  abbrev PD0S4 : Bool
  PD0S4 = F && G && H

  abbrev ND0S4 : Bool
  ND0S4 = not F && not G

  -- The disparity before the character, which is that after the four bits before it, is positive.
  abbrev PDL4 : Bool
  PDL4 = is_positive before

  abbrev COMPLS6 : Bool
  COMPLS6 = (PD-1S6 && not PDL4) || (ND-1S6 && PDL4)

  -- the disparity is positive after the six bits: by the block as it is sent, or as it was
  abbrev PDL6 : Bool
  PDL6 = (PD0S6 && not COMPLS6) || (ND0S6 && COMPLS6) || (not PD0S6 && not ND0S6 && PDL4)

  abbrev COMPLS4 : Bool
  COMPLS4 = (PD-1S4 && not PDL6) || (ND-1S4 && PDL6)

  -- it is positive after the four bits
  abbrev after_s4 : Bool
  after_s4 = (PD0S4 && not COMPLS4) || (ND0S4 && COMPLS4) || (not PD0S4 && not ND0S4 && PDL6)

  -- a byte x.7 takes the alternate form
  abbrev S : Bool
  S = (PDL6 && L31 && D && not E) || (not PDL6 && L13 && not D && E)

  -- the ten bits, complemented or not
  abbrev a : Bool
  a = differ COMPLS6 A

  abbrev b : Bool
  b = differ COMPLS6 ((B && not L40) || L04)

  abbrev c : Bool
  c = differ COMPLS6 (C || L04 || (L13 && D && E))

  abbrev d : Bool
  d = differ COMPLS6 (D && not L40)

  abbrev e : Bool
  e = differ COMPLS6 ((E && not (L13 && D && E)) || (L13 && not E))

  abbrev i : Bool
  i = differ COMPLS6 ((L22 && not E) || (L22 && K) || (L04 && E) || (L40 && E) || (L13 && not D && E))

  abbrev f : Bool
  f = differ COMPLS4 (F && not (F && G && H && (S || K)))

  abbrev g : Bool
  g = differ COMPLS4 (G || (not F && not G && not H))

  abbrev h : Bool
  h = differ COMPLS4 H

  abbrev j : Bool
  j = differ COMPLS4 ((differ F G && not H) || (F && G && H && (S || K)))

  abbrev sent : List Bool
  sent = a ∷ b ∷ c ∷ d ∷ e ∷ i ∷ f ∷ g ∷ h ∷ j ∷ []

  -- The symbol, and the disparity after it.
  unfoldable pub symbol_by : ℕ
  unfolding x_of y_of
  symbol_by = number sent

  unfoldable pub after_by : Disparity
  unfolding x_of y_of
  after_by = cond after_s4 Positive Negative
