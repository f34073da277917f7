-- What a span has that meets none of the refusals 20 to 26, row by row from document 01's table of refusals and in its own numbers, without
-- the reader's tests. The laws of `WindowRules` say that the reader's tests are these rules. Words and streams count from 0, so the paper's
-- stream 1 is stream 0, and `word j t` is word j of stream t from the SAV on.
-- Assumes nothing.
use Rattle.std.specs.Prelude.{ℕ, ◌+◌, ◌*◌, ◌%◌, ◌≤◌, ◌<◌, ◌≡◌, Bool, true, List, [], ◌∷◌, ◌++◌, ◌⊎◌, length, get_or, take}
use Rattle.ground.specs.Written.{table}
use Rattle.symbol.specs.declared.disparity.Disparity.{Disparity}
use Rattle.symbol.specs.declared.special.Special.TheVariants.{K28_5, K29_7}
use Rattle.symbol.specs.Character.{number_of}
use Rattle.word.specs.LineNumber.{ln0, ln1}
use Rattle.word.specs.Repair.{distance}
use Rattle.crcc.specs.Crcc.{crc, crcc_words}
use Rattle.span.specs.declared.format.Format.{Format}
use Rattle.span.specs.Encoding.{symbols_from}
use Rattle.span.specs.Numbers.{Ancillary}

-- ---- the symbols

-- the kind of character c at symbol i of a span of s streams: K28.5 at the first two, K29.7 at the first two of the EAV, else a byte
pub record Kind (s i c : ℕ) : Type 0 where
  pub sav : i < 2 → c ≡ number_of K28_5
  pub eav : 2886 * s ≤ i → i ≤ 2886 * s + 1 → c ≡ number_of K29_7
  pub byte : 2 ≤ i → (2886 * s ≤ i → i ≤ 2886 * s + 1 → ⊥) → c < 256

-- 20, "wrong kind of symbol, none, or illegal at this disparity": up to symbol k there are the symbols of characters of these kinds, one
-- after the other from one of the two disparities
pub record Rule20 (s : ℕ) (w : List ℕ) (k : ℕ) : Type 0 where
  pub before : Disparity
  pub chars : List ℕ
  pub long : length chars ≡ k + 1
  pub kinds : (i : ℕ) → i ≤ k → Kind s i (get_or chars i 0)
  pub symbols : take (k + 1) w ≡ symbols_from before chars

-- ---- the words: each rule at word j of stream t

-- near one of two legal timing words: at distance 0 or 1 ("Repair of XYZ")
abbrev pub Near : ℕ → ℕ → ℕ → Type 0
Near w x y = (distance w x ≤ 1) ⊎ (distance w y ≤ 1)

-- 21, "timing word wrong, beyond repair, or wrong H": FFF 000 000 XYZ, where XYZ is near 800 or AB0 in the SAV (H 0), near 9D0 or B60 in the
-- EAV (H 1)
pub record Rule21 (word : ℕ → ℕ → ℕ) (j t : ℕ) : Type 0 where
  pub sav0 : j ≡ 0 → word 0 t ≡ 0xFFF
  pub sav1 : j ≡ 1 → word 1 t ≡ 0x000
  pub sav2 : j ≡ 2 → word 2 t ≡ 0x000
  pub sav_xyz : j ≡ 3 → Near (word 3 t) 0x800 0xAB0
  pub eav0 : j ≡ 1924 → word 1924 t ≡ 0xFFF
  pub eav1 : j ≡ 1925 → word 1925 t ≡ 0x000
  pub eav2 : j ≡ 1926 → word 1926 t ≡ 0x000
  pub eav_xyz : j ≡ 1927 → Near (word 1927 t) 0x9D0 0xB60

-- the line words of stream 1 are, bit for bit, those sent for line m
pub record Names (word : ℕ → ℕ → ℕ) (m : ℕ) : Type 0 where
  pub first : 1 ≤ m
  pub last : m ≤ 1125
  pub low : word 1928 0 ≡ ln0 m
  pub high : word 1929 0 ≡ ln1 m

-- line m comes after line n: line 1 follows 1125
abbrev pub Follows : ℕ → ℕ → Type 0
Follows n m = ((n ≡ 1125) × (m ≡ 1)) ⊎ ((1 ≤ n) × (n ≤ 1124) × (m ≡ n + 1))

-- 22, "stream 1's line words name no line, or another stream's differ"; where stream 1 names no line, at its LN0
pub record Rule22 (word : ℕ → ℕ → ℕ) (j t : ℕ) : Type 0 where
  pub named : j ≡ 1928 → t ≡ 0 → (m : ℕ) × Names word m
  pub same0 : j ≡ 1928 → word 1928 t ≡ word 1928 0
  pub same1 : j ≡ 1929 → word 1929 t ≡ word 1929 0

-- w is near x if line n is active (42 to 1121), and near y if it is in frame blanking
pub record FitsLine (n w x y : ℕ) : Type 0 where
  pub active : 42 ≤ n → n ≤ 1121 → distance w x ≤ 1
  pub blanking : (42 ≤ n → n ≤ 1121 → ⊥) → distance w y ≤ 1

-- 23, "V does not fit the line": where stream 1 names m, and m comes after n, V of the SAV is that of n and V of the EAV that of m
pub record Rule23 (word : ℕ → ℕ → ℕ) (j t : ℕ) : Type 0 where
  pub sav : (m n : ℕ) → Names word m → Follows n m → j ≡ 3 → FitsLine n (word 3 t) 0x800 0xAB0
  pub eav : (m n : ℕ) → Names word m → Follows n m → j ≡ 1927 → FitsLine m (word 1927 t) 0x9D0 0xB60

-- what the CRCC covers: from the first word after the SAV to the last line-number word, with x for the XYZ of the EAV
abbrev pub covered : (ℕ → ℕ → ℕ) → ℕ → ℕ → List ℕ
covered word t x = table 1923 (λ i. word (4 + i) t) ++ (x ∷ word 1928 t ∷ word 1929 t ∷ [])

-- x is the XYZ of an EAV that is near the word received
pub record IsEav (w x : ℕ) : Type 0 where
  pub legal : (x ≡ 0x9D0) ⊎ (x ≡ 0xB60)
  pub near : distance w x ≤ 1

-- 24, "a CRCC word differs from the one worked out", over repaired words
pub record Rule24 (word : ℕ → ℕ → ℕ) (j t : ℕ) : Type 0 where
  pub crcc0 : (x : ℕ) → IsEav (word 1927 t) x → j ≡ 1930 → word 1930 t ≡ (crcc_words (crc 0 (covered word t x))).crcc0
  pub crcc1 : (x : ℕ) → IsEav (word 1927 t) x → j ≡ 1931 → word 1931 t ≡ (crcc_words (crc 0 (covered word t x))).crcc1

-- 25, "on an active line, a word outside 16 to 4079, or low two bits set at depth 10"; the line is n, before the one that stream 1 names
pub record Rule25 (f : Format) (word : ℕ → ℕ → ℕ) (j t : ℕ) : Type 0 where
  pub range : (m n : ℕ) → Names word m → Follows n m → 42 ≤ n → n ≤ 1121 → 4 ≤ j → j ≤ 1923 → (16 ≤ word j t) × (word j t ≤ 4079)
  pub low :
      f.depth ≡ 10 → (m n : ℕ) → Names word m → Follows n m → 42 ≤ n → n ≤ 1121 → 4 ≤ j → j ≤ 1923 → word j t % 4 ≡ 0

-- 26, "fill word not 100": after the ancillary area
pub record Rule26 (f : Format) (word : ℕ → ℕ → ℕ) (j t : ℕ) : Type 0 where
  pub fill : (a : ℕ) → Ancillary f a → 1932 + a ≤ j → word j t ≡ 0x100
