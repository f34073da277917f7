-- What holds of the frame that is looped back: the knock, the flags and the file; `proofs/Laws` proves each.
-- Assumes nothing.
use Rattle.std.specs.Prelude.{ℕ, ◌+◌, ◌*◌, ◌≤◌, ◌≡◌, true, false, cond, ◌++◌}
use Rattle.std.proofs.Math.Option.{some}
use Rattle.ground.specs.Written.{upto, table}
use Rattle.rig.specs.declared.knock.Knock.{Knock}
use Rattle.picture.specs.Place.{picture_line_on}
use Rattle.rig.specs.Knock.{lost}
use Rattle.test_picture.specs.TestPicture.{test_sample}
use Rattle.loopback.specs.File.{high_first, header, file_of, row_shown}
use Rattle.loopback.specs.Frame.{heard_of}
use Rattle.loopback.specs.Input.{millisecond}

pub record LoopbackLaws : Type 0 where
  -- if too few bytes are given: line 720 of the picture, with the middle of the rings, is on stream line 401; the middle of the knock is
  -- that of its span, before which 400 spans of 19,008 symbols come; and the knock takes one of the thousand milliseconds in which 50
  -- frames go over the link
  pub brightest : (test_sample 720 1280 ≡ 4079) × (picture_line_on 401 3 ≡ some 720)
  pub around_the_rings : 2 * millisecond.place + millisecond.long ≡ (400 + 401) * 19008
  pub one_of_athousand : 1000 * millisecond.long ≡ 50 * (1125 * 19008)
  -- it costs stream lines 373 to 429, all of them lines of the picture, and no other
  pub loses_lines : (n : ℕ) → 373 ≤ n → n ≤ 429 → lost millisecond n ≡ true
  pub keeps_lines : (n : ℕ) → 1 ≤ n → (373 ≤ n → n ≤ 429 → ⊥) → lost millisecond n ≡ false
  -- the flags are those of lines 1 to 1125: 0 for a lost line, else 1
  pub heard_is : (k : Knock) → heard_of k ≡ table 1125 (λ i. cond (lost k (i + 1)) 0 1)
  -- the file is the header and 2,160 rows, each two bytes a word: those of the test picture, black where their line is lost
  pub file_is : (k : Knock) → file_of k ≡ header ++ upto 2160 (λ i. high_first (row_shown k (i + 1)))
