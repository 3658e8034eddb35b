-- What an encoder writes in each style.
use Rattle.std.specs.Prelude.{◌≡◌, ℕ, Bool, true, false, not, ◌==◌, ◌&&◌, if◌then◌else◌, List, [], ◌∷◌, Option, None, Some}
use Rattle.std.specs.List.{list_any}
pub use Rattle.qoi.specs.declared.types.Style.{Style}
pub use Rattle.qoi.specs.declared.types.Style.TheVariants.{Reference, Places, Tight}
use Rattle.qoi.specs.Qoi.{Chunk, Place, Run, RgbaPixel, Past, previous, hash, then_chunk}
use Rattle.qoi.specs.Written.{fresh, IsChoice, WrittenBy}
use Rattle.qoi.specs.Tight.{IsTightChoice}

-- the style of a loop over blocks, by its number: the one that it is told, or Reference
abbrev pub style_in : ℕ → Style → Style
style_in n told = if n == 1 then told else Reference

-- the chunk is a run
abbrev pub is_run : Chunk → Bool
is_run (Run n) = true
is_run _ = false

-- a chunk other than a run comes next, which gives a fresh pixel
abbrev pub fresh_next : List Chunk → Bool
fresh_next [] = false
fresh_next (c ∷ cs) = not (is_run c)

-- one of the pixels is fresh
abbrev pub some_fresh : Past → Bool
some_fresh past = list_any (λ p. true) (fresh past)

-- there is a chunk, and it is this index position
abbrev pub names : Option Chunk → ℕ → Bool
names (Some (Place j)) i = j == i
names _ _ = false

-- A run of n is given by the index position of its pixel if n is 1, a fresh pixel comes next, one
-- stands somewhere before it, and the chunk before it isn't that position.
abbrev pub is_placed : Past → Option Chunk → ℕ → List Chunk → Bool
is_placed past before n cs = n == 1 && fresh_next cs && some_fresh past && not (names before (hash (previous past)))

-- what Places writes for a chunk: the index position for such a run, else the chunk
abbrev pub place_for : Past → Option Chunk → Chunk → List Chunk → Chunk
place_for past before (Run n) cs = if is_placed past before n cs then Place (hash (previous past)) else Run n
place_for past before c cs = c

-- place_for of each chunk of a list, after these pixels and after the chunk before it, if there is
-- one
abbrev pub placed_after : Past → Option Chunk → List Chunk → List Chunk
placed_after past before [] = []
placed_after past before (c ∷ cs) = place_for past before c cs ∷ placed_after (then_chunk past c) (Some c) cs

-- how a style gives each fresh pixel
abbrev pub choice_in : Style → Past → RgbaPixel → Chunk → Type 0
choice_in Tight = IsTightChoice
choice_in _ = IsChoice

-- what a style makes of a list by its choices, after these pixels and after the chunk before it, if
-- there is one
abbrev pub styled : Style → Past → Option Chunk → List Chunk → List Chunk
styled Places past before cs = placed_after past before cs
styled _ past before cs = cs

-- the same of a whole image's list, before which nothing stands
abbrev pub in_style : Style → List Chunk → List Chunk
in_style style cs = styled style [] None cs

-- the chunk list that is written for an image in a style
pub record WrittenIn (style : Style) (image : List RgbaPixel) (cs : List Chunk) : Type 0 where
  pub list : List Chunk
  pub written : WrittenBy (choice_in style) image list
  pub is : cs ≡ in_style style list
