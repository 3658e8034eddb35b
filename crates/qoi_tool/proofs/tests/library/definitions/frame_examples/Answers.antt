-- The law is applied to the two frames, behind which no file stands.
use Rattle.std.proofs.Common.{◌≡◌, [], ◌∷◌, ◌++◌, slice_index, ap, arith, rules}
use Rattle.qoi.specs.declared.chunk.Chunk.TheVariants.{Run, Rgb}
use Rattle.qoi.specs.Qoi.{default_header, file, start}
use Rattle.qoi.specs.Images.{BeginsWithFile, file_image, front_image, front_chunks, chunks_after}
use Rattle.qoi.specs.Tiles.{AreFrames, none, more}
use Rattle.qoi_tool.proofs.tests.library.definitions.frame_examples.Goals as goal

-- a file begins with q
no_file : BeginsWithFile (7 ∷ []) → ⊥
no_file begins = let first : 7 ≡ 0x71 = ap (λ bytes. slice_index bytes 0) begins.split in absurd (omega (arith, first))

-- a black pixel's file, and another pixel's
two : AreFrames (file default_header (Run 1 ∷ []) ++ file default_header (Rgb 11 121 231 ∷ [])) (0 ∷ 23 ∷ []) ((0 ∷ 0 ∷ 0 ∷ []) ∷ (11 ∷ 121 ∷ 231 ∷ []) ∷ [])
unfolding file_image front_image front_chunks chunks_after start
two =
    let black = more [] [] [] default_header (Run 1 ∷ []) none (search rules) in
    more (file default_header (Run 1 ∷ [])) (0 ∷ []) ((0 ∷ 0 ∷ 0 ∷ []) ∷ []) default_header (Rgb 11 121 231 ∷ []) black (search rules)

pub returns : goal.returns
returns c bytes ends found at is frames last =
    let law = c.frames_are_found.ensures in (
      law.same_bytes bytes _ (7 ∷ []) _ ends at _ found two is no_file frames last,
      law.same_offsets bytes _ (7 ∷ []) _ ends at _ found two is no_file frames last,
      law.same_images bytes _ (7 ∷ []) _ ends at _ found two is no_file frames last,
    )
