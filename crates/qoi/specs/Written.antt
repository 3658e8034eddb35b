-- The chunk list that is written for an image.
use Rattle.std.specs.Prelude.{◌≡◌, ◌≢◌, ℕ, ◌<◌, ◌≤◌, List, [], ◌∷◌, if◌then◌else◌}
use Rattle.qoi.specs.Qoi.{Chunk, Place, Diff, Luma, Run, Rgb, Rgba, RgbaPixel, IsPixel, Past, rgba, pixel_eq, previous, seen, hash, IsChunk, AreChunks, run_max, pixel_after, meaning, Each}

-- the fresh pixels: those that differ from the pixel before them
abbrev pub fresh : Past → Past
fresh [] = []
fresh (p ∷ past) = if pixel_eq p (previous past) then fresh past else p ∷ fresh past

-- what is noted at an index position: the last fresh pixel whose position it is, or transparent
-- black if there is none
abbrev pub noted : Past → ℕ → RgbaPixel
noted past i = seen (fresh past) i

-- the order in which the chunks that spell a pixel out are tried; index positions and runs are none
-- of them
abbrev pub rank : Chunk → ℕ
rank (Diff d) = 1
rank (Luma d e) = 2
rank (Rgb r g b) = 3
rank (Rgba r g b a) = 4
rank _ = 0

-- the chunk is the first of Diff, Luma, Rgb and Rgba that gives the pixel
pub record IsFirst (past : Past) (p : RgbaPixel) (c : Chunk) : Type 0 where
  pub spells : 0 < rank c
  pub gives : pixel_after past c ≡ p
  pub first : (d : Chunk) → IsChunk d → 0 < rank d → pixel_after past d ≡ p → rank c ≤ rank d

-- the first of Diff, Luma, Rgb and Rgba that gives a pixel after another, both as bytes
pub record Spells (pixel before : List ℕ) (c : Chunk) : Type 0 where
  pub chunk : IsChunk c
  pub first : (past : Past) → IsPixel (previous past) → previous past ≡ rgba before → IsFirst past (rgba pixel) c

-- how a fresh pixel is given: by its index position if it is noted there, else by the first chunk
-- that spells it out
pub record IsChoice (past : Past) (p : RgbaPixel) (c : Chunk) : Type 0 where
  pub place : noted past (hash p) ≡ p → c ≡ Place (hash p)
  pub spelled : noted past (hash p) ≢ p → IsFirst past p c

-- the chunk gives a fresh pixel, and is one that `Choice` allows for it
pub record GivesFresh (Choice : Past → RgbaPixel → Chunk → Type 0) (past : Past) (c : Chunk) : Type 0 where
  pub is_fresh : pixel_after past c ≢ previous past
  pub is_chosen : Choice past (pixel_after past c) c

-- What may follow the pixels so far: any run (`RunsFollowFull` says which follow others), and any
-- other chunk that gives a fresh pixel by the choice. So repeats are given by runs alone; style Places
-- then changes some (`Styles`).
abbrev pub IsAllowedAfter : (Past → RgbaPixel → Chunk → Type 0) → Past → Chunk → Type 0
IsAllowedAfter Choice past (Run n) = Unit {0}
IsAllowedAfter Choice past c = GivesFresh Choice past c

-- a run directly before a run has length 62
abbrev pub IsFullBefore : Chunk → List Chunk → Type 0
IsFullBefore (Run m) (Run n ∷ cs) = m ≡ run_max
IsFullBefore _ _ = Unit {0}

-- each run of the list that stands directly before a run has length 62
abbrev pub RunsFollowFull : List Chunk → Type 0
RunsFollowFull [] = Unit {0}
RunsFollowFull (c ∷ cs) = IsFullBefore c cs × RunsFollowFull cs

-- a chunk list that means the image, with this choice of a chunk for each fresh pixel
pub record WrittenBy (Choice : Past → RgbaPixel → Chunk → Type 0) (image : List RgbaPixel) (cs : List Chunk) : Type 0 where
  pub chunks : AreChunks cs
  pub means : meaning cs ≡ image
  pub allowed : Each (IsAllowedAfter Choice) [] cs
  pub full : RunsFollowFull cs

-- the chunk list that is written for an image in style Reference
abbrev pub Written : List RgbaPixel → List Chunk → Type 0
Written image cs = WrittenBy IsChoice image cs
