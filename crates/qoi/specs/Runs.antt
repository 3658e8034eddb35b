-- Repeats at the front of pixels, and the runs that are written for them.
use Rattle.std.specs.Prelude.{◌≡◌, ◌≢◌, ℕ, ◌/◌, ◌%◌, List, [], ◌∷◌, ◌++◌, drop, replicate, slice_get, Some, zero, suc}
use Rattle.qoi.specs.Qoi.{Chunk, Run, RgbaPixel, run_max}

-- the first `count` pixels are p, and the next one, if there is one, isn't
pub record IsCount (p : RgbaPixel) (pixels : List RgbaPixel) (count : ℕ) : Type 0 where
  pub same : pixels ≡ replicate count p ++ drop count pixels
  pub other : slice_get pixels count ≢ Some p

-- A run of n repeats, or no chunk if there is none. A single repeat is given by the chunk `one`,
-- which may be a run of 1.
abbrev pub last_by : Chunk → ℕ → List Chunk
last_by one zero = []
last_by one (suc zero) = one ∷ []
last_by one (suc (suc n)) = Run (suc (suc n)) ∷ []

-- the chunks of a group of so many repeats: runs of 62, and a run of those that are left; a single
-- one that is left is given by the chunk `one`
unfoldable pub runs_by : Chunk → ℕ → List Chunk
runs_by one n = replicate (n / run_max) (Run run_max) ++ last_by one (n % run_max)
