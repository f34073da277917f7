-- What holds of the test picture, for anyone who sends it; `proofs/Laws` proves each.
-- Assumes nothing.
use Rattle.std.specs.Prelude.{ℕ, ◌+◌, ◌-◌, ◌*◌, ◌≤◌, ◌<◌, ◌≡◌, true, false, List, ◌++◌, length, get_or}
use Rattle.ground.specs.Answer.{refused, given}
use Rattle.ground.specs.Inside.Answer.{Injective}
use Rattle.line.specs.Stream.{is_line, is_active}
use Rattle.symbol.specs.declared.disparity.Disparity.{Disparity}
use Rattle.picture.specs.Division.{line_from, sample_from}
use Rattle.dividing.specs.Row.{divided}
use Rattle.span.specs.Content.{Content}
use Rattle.span.specs.declared.format.Format.{Format}
use Rattle.span.specs.Format.{is_known, shape_of, streams, samples_in, symbols_in}
use Rattle.span.specs.Image.{image_of}
use Rattle.span.specs.Span.{span_after}
use Rattle.span.specs.Blanking.{blank_row}
use Rattle.request.specs.Send.{request, send_of}
use Rattle.test_picture.specs.Putting.{paper_put, row_answer}
use Rattle.test_picture.specs.TestPicture.{test_sample, code_step, sample_by, row_at, test_samples}

-- the two images of a picture line
abbrev images : Format → ℕ → List ℕ
images f line = divided 0 1920 (row_at f line) ++ divided 1 1920 (row_at f line)

pub record TestPictureLaws : Type 0 where
  -- the middle of the rings, the end of the first and the beginning of the next, and two corners
  pub values :
      (test_sample 720 1280 ≡ 4079)
      × (test_sample 720 2722 ≡ 18)
      × (test_sample 720 2723 ≡ 4077)
      × (test_sample 1 0 ≡ 3934)
      × (test_sample 2160 3839 ≡ 3495)
  -- it is not the same mirrored: the place of the brightest is another left to right, top to bottom, and turned by half a circle
  pub mirrored :
      (test_sample 720 (3839 - 1280) ≡ 884)
      × (test_sample (2161 - 720) 1280 ≡ 3064)
      × (test_sample (2161 - 720) (3839 - 1280) ≡ 3933)
  -- nor with its images exchanged: samples beside each other, lines beside each other, and both, are not the same
  pub exchanged : (test_sample 1 0 ≡ 3934) × (test_sample 1 1 ≡ 3939) × (test_sample 2 0 ≡ 3937) × (test_sample 2 1 ≡ 3942)
  -- a code is one that a picture may have: 16 to 4079, and at ten bits a quarter of it, 4 to 1019 (document 01, "Words of a stream")
  pub codes : (line sample : ℕ) → (16 ≤ test_sample line sample) × (test_sample line sample ≤ 4079)
  pub row_ten :
      (f : Format) (line i : ℕ) → i < 3840 → f.depth ≡ 10 → (4 ≤ get_or (row_at f line) i 0) × (get_or (row_at f line) i 0 ≤ 1019)
  pub row_twelve :
      (f : Format) (line i : ℕ) → i < 3840 → f.depth ≡ 12 → (16 ≤ get_or (row_at f line) i 0) × (get_or (row_at f line) i 0 ≤ 4079)
  -- a row of 3840 samples is put for lines 1 to 2160; any other line meets 2, and any other length 4
  pub puts_row : (line : ℕ) (row : List ℕ) → 1 ≤ line → line ≤ 2160 → length row ≡ 3840 → row_answer line row ≡ given tt
  pub row_meets2 : (line : ℕ) (row : List ℕ) → (1 ≤ line → line ≤ 2160 → ⊥) → row_answer line row ≡ refused 2 0
  pub row_meets4 : (line : ℕ) (row : List ℕ) → 1 ≤ line → line ≤ 2160 → (length row ≡ 3840 → ⊥) → row_answer line row ≡ refused 4 0
  -- on stream line l + 41 two streams carry the images of picture line 2l - 1, and four those of lines 2l - 1 and 2l
  pub on_two :
      (f : Format) (l : ℕ) → 1 ≤ l → l ≤ 1080 → (shape_of f).stream_pairs ≡ 1 → test_samples f (l + 41) ≡ images f (2 * l - 1)
  pub on_four :
      (f : Format) (l : ℕ)
      → 1 ≤ l
      → l ≤ 1080
      → (shape_of f).stream_pairs ≡ 2
      → test_samples f (l + 41) ≡ images f (2 * l - 1) ++ images f (2 * l)
  -- sample j of stream t is the one that its image has there (document 01, "Dividing a picture"); a blanking line carries blanking
  pub sample_is :
      (f : Format) (l : ℕ)
      → 1 ≤ l
      → l ≤ 1080
      → (t j : ℕ)
      → t < streams (shape_of f)
      → j < 1920
      → get_or (test_samples f (l + 41)) (1920 * t + j) 0
      ≡ sample_by (code_step f) (line_from (image_of f 1 t) l) (sample_from (image_of f 1 t) j)
  pub are_blanking : (f : Format) (n : ℕ) → is_active n ≡ false → test_samples f n ≡ blank_row f
  -- there are as many as a span has, and a call with them is not refused
  pub samples_long : (f : Format) (n : ℕ) → length (test_samples f n) ≡ samples_in (shape_of f)
  pub is_sent :
      (f : Format) (n : ℕ) (d : Disparity) (content : Content)
      → is_known f ≡ true
      → is_line n ≡ true
      → send_of d f (request n content (test_samples f n)) (symbols_in (shape_of f)) ≡ given (span_after d f (request n content (test_samples f n)))
  -- the paper's number tells any two answers apart, so that a promise about it fixes the answer
  pub put_told : Injective paper_put
