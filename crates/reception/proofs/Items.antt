-- The lines of the summary, put piece by piece.
-- Assumes nothing.
use mathlib.Core.Path.{◌≡◌, refl, sym, ap, ap₂, subst, ◌∙◌}
use mathlib.Core.Bool.{true, false, cond}
use mathlib.Core.List.{List, [], ◌∷◌}
use mathlib.Core.Option.{Option}
use Prim.Native.Nat.{ℕ, ◌+◌, ◌-◌, ◌*◌, ◌≤◌, ◌<◌}
use native.Mathlib.Nat.{zero-add}
use native.Mathlib.Omega.{arith}
use lib.ListN.{length}
use lib.Dec.{eqb}
use lib.Seq.{sets, length-take-le}
use borrow.Author.Tests.{eq-eqb, ne_eqb}
use Rattle.io.specs.Counts.{IsPrefixLen}
use Rattle.ground.proofs.Putting.{Put, then, put_length, put_as}
use Rattle.picture.specs.Division.{h as below}
use Rattle.picture.specs.Place.{picture_line_on}
use Rattle.picture.proofs.Places.{no_line_on, line_on_active}
use Rattle.text.specs.Number.{decimal}
use Rattle.text.specs.Put.{end_of, put_of}
use Rattle.text.proofs.Numbers.{length_digits, places_most_16}
use Rattle.text.proofs.Putting.{put_told}
use Rattle.reception.specs.Summary.{delivered, first_lost, last_lost, item, sent_label, delivered_label, lost_label, first_label, last_label, lines_label, and_label, lines_end, blanking_text, lines_text, carried_by, carried_text, lost_item, which, summary}

-- what a stream line carries, in numerals
pub says_lines : (l : ℕ) → 1 ≤ l → l ≤ 1080 → carried_text (l + 41) ≡ lines_text (2 * l - 1) (2 * l)
unfolding below
says_lines l p q =
    ap₂ carried_by (line_on_active l _ p q (omega arith) (omega arith)) (line_on_active l _ p q (omega arith) (omega arith))
    ∙ ap₂ lines_text (omega arith) (omega arith)

pub says_blanking : (n : ℕ) → (42 ≤ n → n ≤ 1121 → ⊥) → carried_text n ≡ blanking_text
says_blanking n x = ap (λ (o : Option ℕ). carried_by o (picture_line_on n 3)) (no_line_on n 1 (λ p q _ _. x p q))

-- what a call that puts a text promises
abbrev pub Puts : List ℕ → List ℕ → ℕ → ℕ → List ℕ → Type 0
Puts before after at end text = (end ≡ end_of (length before) at text) × (after ≡ put_of before at text)

-- what a call that puts a text within so much room promises
abbrev pub Within : ℕ → List ℕ → List ℕ → ℕ → ℕ → List ℕ → Type 0
Within room before after at end text = (end ≡ at + length text) × ((end ≤ at + room) × (after ≡ sets before at text))

-- a number in its digits: at most 5
few_digits : (n : ℕ) → n < 65536 → length (decimal n) ≤ 5
few_digits n h = rw length_digits (places_most_16 n h)

-- label, number and newline: at most 23 letters, 5 digits and 1
pub item_put : (label : List ℕ) (n : ℕ) (o : List ℕ) (at : ℕ) → length label ≤ 23 → n ≤ 1125 → at + 29 ≤ length o
    → (p q : List ℕ) {u : List ℕ} (a b : ℕ) {end : ℕ}
    → Puts o p at a label
    → Puts p q a b (decimal n)
    → Puts q u b end (10 ∷ [])
    → Within 29 o u at end (item label n)
item_put label n o at short small room p q {u} a b {end} f g h =
    let few = few_digits n (omega arith) in
    let one : Put o p at a label = put_told label (omega arith) f.0 f.1 in
    let two : Put p q a b (decimal n) = put_told (decimal n) (omega (arith, put_length one)) g.0 g.1 in
    let three : Put q u b end (10 ∷ []) = put_told (10 ∷ []) (omega (arith, put_length one, put_length two)) h.0 h.1 in
    let whole = then one (then two three) in
    (whole.ends, (omega (arith, one.ends, two.ends, three.ends), whole.written))

-- such a line, with the number that it is to tell
told : {o p : List ℕ} {at end : ℕ} (label : List ℕ) {n m : ℕ} → n ≡ m → Within 29 o p at end (item label n) → Put o p at end (item label m)
told {o} {p} {at} {end} label e w = put_as (ap (item label) e) (record { written = w.1.1; ends = w.0 })

-- the two picture lines of a stream line, and that it has none
pub lines_put : (a b : ℕ) → a < 65536 → b < 65536 → (o : List ℕ) (at : ℕ) → at + 33 ≤ length o
    → (p q r s : List ℕ) {u : List ℕ} (i j k l : ℕ) {end : ℕ} (a' b' : ℕ) → a' ≡ a → b' ≡ b
    → Puts o p at i lines_label
    → Puts p q i j (decimal a')
    → Puts q r j k and_label
    → Puts r s k l (decimal b')
    → Puts s u l end lines_end
    → Within 33 o u at end (lines_text a b)
lines_put a b few few' o at room p q r s {u} i j k l {end} a' b' first second f g h m n =
    let x = few_digits a few in
    let y = few_digits b few' in
    let g' : Puts p q i j (decimal a) = subst (λ (z : ℕ). Puts p q i j (decimal z)) first g in
    let m' : Puts r s k l (decimal b) = subst (λ (z : ℕ). Puts r s k l (decimal z)) second m in
    let one : Put o p at i lines_label = put_told lines_label (omega arith) f.0 f.1 in
    let two : Put p q i j (decimal a) = put_told (decimal a) (omega (arith, one.ends, put_length one)) g'.0 g'.1 in
    let long : length q ≡ length o = put_length two ∙ put_length one in
    let three : Put q r j k and_label = put_told and_label (omega (arith, one.ends, two.ends, long)) h.0 h.1 in
    let four : Put r s k l (decimal b) =
    put_told (decimal b) (omega (arith, one.ends, two.ends, three.ends, long, put_length three)) m'.0 m'.1 in
    let room' : l + length lines_end ≤ length s =
    omega (arith, one.ends, two.ends, three.ends, four.ends, long, put_length three, put_length four) in
    let five : Put s u l end lines_end = put_told lines_end room' n.0 n.1 in
    let whole = then one (then two (then three (then four five))) in
    (whole.ends, (omega (arith, one.ends, two.ends, three.ends, four.ends, five.ends), whole.written))

-- label, number, and what the line carries: at most 23 letters, 5 digits and 33
pub lost_room : (label : List ℕ) (n : ℕ) (o : List ℕ) (at : ℕ) → length label ≤ 23 → n ≤ 1125 → at + 61 ≤ length o
    → (p q : List ℕ) (a b : ℕ)
    → Puts o p at a label
    → Puts p q a b (decimal n)
    → b + 33 ≤ length q
lost_room label n o at short small room p q a b f g =
    let few = few_digits n (omega arith) in
    let one : Put o p at a label = put_told label (omega arith) f.0 f.1 in
    let two : Put p q a b (decimal n) = put_told (decimal n) (omega (arith, put_length one)) g.0 g.1 in
    omega (arith, one.ends, two.ends, put_length one, put_length two)

pub lost_put : (label : List ℕ) (n : ℕ) (o : List ℕ) (at : ℕ) → length label ≤ 23 → n ≤ 1125 → at + 61 ≤ length o
    → (p q : List ℕ) {u : List ℕ} (a b : ℕ) {end : ℕ} {m : ℕ} → m ≡ n
    → Puts o p at a label
    → Puts p q a b (decimal n)
    → Within 33 q u b end (carried_text m)
    → Within 61 o u at end (lost_item label n)
lost_put label n o at short small room p q {u} a b {end} is f g h =
    let few = few_digits n (omega arith) in
    let one : Put o p at a label = put_told label (omega arith) f.0 f.1 in
    let two : Put p q a b (decimal n) = put_told (decimal n) (omega (arith, put_length one)) g.0 g.1 in
    let three : Put q u b end (carried_text n) = put_as (ap carried_text is) (record { written = h.1.1; ends = h.0 }) in
    let whole = then one (then two three) in
    (whole.ends, (omega (arith, one.ends, two.ends, h.1.0), whole.written))

-- the two lines that tell which were lost
lost_told : {o p : List ℕ} {at end : ℕ} (label : List ℕ) {n m : ℕ} → n ≡ m → Within 61 o p at end (lost_item label n)
    → Put o p at end (lost_item label m)
lost_told label e w = put_as (ap (lost_item label) e) (record { written = w.1.1; ends = w.0 })

pub which_put : (heard o : List ℕ) (at : ℕ) (p : List ℕ) {q : List ℕ} (a n m : ℕ) {end : ℕ} → n ≡ first_lost heard → m ≡ last_lost heard
    → Within 61 o p at a (lost_item first_label n)
    → Within 61 p q a end (lost_item last_label m)
    → Within 122 o q at end (which heard)
which_put heard o at p {q} a n m {end} e f one two =
    let first : Put o p at a (lost_item first_label (first_lost heard)) = lost_told first_label e one in
    let last : Put p q a end (lost_item last_label (last_lost heard)) = lost_told last_label f two in
    let whole : Put o q at end (which heard) = then first last in
    (whole.ends, (omega (arith, one.1.0, two.1.0), whole.written))

-- all lines: three, and then nothing or those two
module _ (heard o : List ℕ) (n lost : ℕ) (many : n ≡ delivered heard) (rest : lost ≡ length heard - n) (room : 256 ≤ length o) (p q u : List ℕ)
    (a b c : ℕ)
    (one : Within 29 o p 0 a (item sent_label (length heard)))
    (two : Within 29 p q a b (item delivered_label n))
    (three : Within 29 q u b c (item lost_label lost)) where
  is_lost_lem : lost ≡ length heard - delivered heard
  is_lost_lem = omega arith

  -- what the contract says of them
  abbrev Said : List ℕ → ℕ → Type 0
  Said after end = IsPrefixLen end after × ((end ≡ length (summary heard)) × (after ≡ sets o 0 (summary heard)))

  said : {after : List ℕ} {end : ℕ} → end ≤ 256 → Put u after c end (cond (eqb (length heard - delivered heard) 0) [] (which heard)) → Said after end
  said {after} {end} few four =
      let first : Put o p 0 a (item sent_label (length heard)) = told sent_label refl one in
      let second : Put p q a b (item delivered_label (delivered heard)) = told delivered_label many two in
      let third : Put q u b c (item lost_label (length heard - delivered heard)) = told lost_label is_lost_lem three in
      let whole : Put o after 0 end (summary heard) = then first (then second (then third four)) in
      let most : end ≤ length after = omega (arith, put_length whole) in
      ((most, sym (length-take-le end after most)), (whole.ends ∙ zero-add (length (summary heard)), whole.written))

  pub none_lost : lost ≡ 0 → Said u c
  none_lost e =
      let t : eqb (length heard - delivered heard) 0 ≡ true = eq-eqb (length heard - delivered heard) 0 (omega (arith, is_lost_lem)) in
      said (omega (arith, one.1.0, two.1.0, three.1.0)) (rw t (record { written = refl; ends = omega arith }))

  pub some_lost : {after : List ℕ} {end : ℕ} → (lost ≡ 0 → ⊥) → Within 122 u after c end (which heard) → Said after end
  some_lost x four =
      let t : eqb (length heard - delivered heard) 0 ≡ false = ne_eqb (length heard - delivered heard) 0 (λ z. x (is_lost_lem ∙ z)) in
      said (omega (arith, one.1.0, two.1.0, three.1.0, four.1.0)) (rw t (record { written = four.1.1; ends = four.0 }))
