-- Lists that are written for a few images: each is what `written_list` computes.
use Rattle.std.proofs.Common.{◌≡◌, List, [], ◌∷◌, refl, sym, ◌∙◌, subst, rules}
use Rattle.std.specs.List.{AllByRecursion}
use Rattle.qoi.specs.Styles.{Reference}
use Rattle.qoi.specs.Qoi.{Chunk, Run, Rgb, Rgba, RgbaPixel, IsPixel, pixel, pixel_eq, start, blank, hash}
use Rattle.qoi.specs.Runs.{runs_by}
use Rattle.qoi.specs.Written.{Written}
use Rattle.qoi.specs.WrittenList.{first_chunk, list_after, written_list}
use Rattle.qoi.proofs.encoding.styles.StyleLists.{list_written}

-- the list that is computed is written
computed : (image : List RgbaPixel) (cs : List Chunk) → AllByRecursion IsPixel image → written_list Reference image ≡ cs → Written image cs
computed image cs are is = let w = list_written Reference image are in subst (λ x. Written image x) (sym w.is ∙ is) w.written

-- black, a color, and black, in three channels
pub written_rgb : Written (pixel 0 0 0 255 ∷ pixel 101 102 103 255 ∷ pixel 0 0 0 255 ∷ []) (Run 1 ∷ Rgb 101 102 103 ∷ Rgb 0 0 0 ∷ [])
unfolding start blank hash pixel_eq runs_by first_chunk list_after
written_rgb = computed _ _ (search rules) refl

-- black, a color, and black, in four channels
pub written_rgba : Written (pixel 0 0 0 255 ∷ pixel 101 102 103 104 ∷ pixel 0 0 0 255 ∷ []) (Run 1 ∷ Rgba 101 102 103 104 ∷ Rgba 0 0 0 255 ∷ [])
unfolding start blank hash pixel_eq runs_by first_chunk list_after
written_rgba = computed _ _ (search rules) refl

-- a far color alone is written as an RGB
pub one_rgb : Written (pixel 11 121 231 255 ∷ []) (Rgb 11 121 231 ∷ [])
unfolding start blank hash pixel_eq runs_by first_chunk list_after
one_rgb = computed _ _ (search rules) refl

-- one of another alpha is written as an RGBA
pub one_rgba : Written (pixel 11 121 231 55 ∷ []) (Rgba 11 121 231 55 ∷ [])
unfolding start blank hash pixel_eq runs_by first_chunk list_after
one_rgba = computed _ _ (search rules) refl
