-- Vectors of sixteen bytes: what they have of a block's lanes, from the steps to the chunks' bytes and
-- sizes and the counted repeats. And what a block must meet.
use Rattle.std.specs.Prelude.{◌≡◌, ◌≢◌, ℕ, Bool, List, map, length, suc, ◌+◌, ◌-◌, ◌%◌, ◌==◌, min, [], ◌∷◌, max, if◌then◌else◌, ◌<◌, ◌≤◌, ◌⊎◌, slice_index, not, ◌||◌, IsTrue}
use Rattle.std.specs.Int.Bits.{bit_and, bit_or}
use Rattle.std.specs.List.{AllByRecursion, list_all}
pub use Rattle.qoi.specs.declared.encode.block.steps.Changes.{Changes}
pub use Rattle.qoi.specs.declared.encode.block.spelling.Fits.{Fits}
pub use Rattle.qoi.specs.declared.encode.block.spelling.Spelled.{Spelled}
use Rattle.qoi.specs.Styles.{Style, Places, Tight}
use Rattle.qoi.specs.Qoi.{RgbaPixel, Past, hash, IsPixel}
use Rattle.qoi.specs.inner.block.Lanes.{Lane, mask, step_of, same_alpha, fits_diff, fits_luma, is_rep, first_of, size_of, goes_on, second_of, State, lanes_of, IsLane, fresh_marks, NoAbsentBlank}
use Rattle.qoi.specs.inner.block.Planes.{Planes, AreSixteen, last_pixel}
use Rattle.qoi.specs.inner.block.Positions.{stand_tests}
use Rattle.qoi.specs.inner.Table.{Holds}

-- The numbers are what `f` gives for these lanes, of which there are sixteen.
pub record AreBy (ls : List Lane) (f : Lane → ℕ) (xs : List ℕ) : Type 0 where
  pub long : length ls ≡ 16
  pub are : AllByRecursion IsLane ls
  pub is : xs ≡ map f ls

-- They are 255 in the lanes of which `b` holds, else 0.
abbrev pub AreMasks : List Lane → (Lane → Bool) → List ℕ → Type 0
AreMasks ls b xs = AreBy ls (λ l. mask (b l)) xs

-- the planes of what `f` gives for these lanes
pub record ArePlanesBy (ls : List Lane) (f : Lane → RgbaPixel) (p : Planes) : Type 0 where
  pub r_is : AreBy ls (λ l. (f l).r) p.r
  pub g_is : AreBy ls (λ l. (f l).g) p.g
  pub b_is : AreBy ls (λ l. (f l).b) p.b
  pub a_is : AreBy ls (λ l. (f l).a) p.a

-- what the lanes' pixels fit
pub record AreFits (ls : List Lane) (f : Fits) : Type 0 where
  pub diff_is : AreMasks ls fits_diff f.diff
  pub luma_is : AreMasks ls fits_luma f.luma
  pub same_alpha_is : AreMasks ls same_alpha f.same_alpha

-- the steps of all four channels, and which lanes repeat
pub record AreChanges (ls : List Lane) (x : Changes) : Type 0 where
  pub steps_are : ArePlanesBy ls step_of x.steps
  pub rep_is : AreMasks ls is_rep x.rep

-- In style Places a single repeat before a fresh pixel is the index position, if the chunk before it
-- isn't. `f` is the byte otherwise, and `q` is whether the pixel before the lane stands at its
-- position.
abbrev pub named_in : Style → Bool → Bool → ℕ → ℕ → ℕ → ℕ
named_in Places rep q index n f = min f (bit_or index (255 - bit_and (bit_and (mask rep) (mask (n == 1))) (255 - mask q)))
named_in style rep q index n f = f

-- the first byte of a lane, by whether it is a repeat, the n-th of its group: that of a run
abbrev pub first_in : Style → Bool → Bool → Lane → ℕ → ℕ
first_in style rep q l n = named_in style rep q (hash l.px) n (max (first_of l) (bit_and (mask rep) ((n + 191) % 256)))

-- of each lane, after c repeats
abbrev pub firsts_in : Style → Bool → ℕ → List Lane → List ℕ
firsts_in style q c [] = []
firsts_in style q c (l ∷ ls) =
    let n = if is_rep l then suc c else 0 in
    first_in style (is_rep l) q l n ∷ firsts_in style l.stands n ls

-- sizes: 0 of a repeat before another one, or at the end
abbrev pub sizes : List Lane → List ℕ
sizes [] = []
sizes (l ∷ ls) = (size_of l + bit_and (mask (is_rep l)) (mask (goes_on ls))) % 256 ∷ sizes ls

-- how many repeats end with each lane, with those that came before
abbrev pub counts : ℕ → List Bool → List ℕ
counts c [] = []
counts c (r ∷ rs) = let n = if r then suc c else 0 in n ∷ counts n rs

-- The number is 0 or one of the w members that end at index k, and none of those is greater.
pub record IsMost (xs : List ℕ) (w k m : ℕ) : Type 0 where
  pub above : (j : ℕ) → j ≤ k → k < j + w → slice_index xs j ≤ m
  pub one_of : (m ≡ 0) ⊎ ((j : ℕ) × (j ≤ k) × (m ≡ slice_index xs j))

-- the pixel has another alpha than the one before it, and doesn't stand at its index position
abbrev pub is_rgba : Lane → Bool
is_rgba l = not (same_alpha l || l.stands)

-- so are all of these
abbrev pub AreAllRgba : List Lane → Type 0
AreAllRgba ls = IsTrue (list_all is_rgba ls)

-- A block's pixels after the last one of the state: red of each, which of them stand at their index
-- positions, and these positions.
pub record IsBlock (s : State) (ps : List RgbaPixel) (red stands indices : List ℕ) : Type 0 where
  pub sixteen : AreSixteen ps
  pub last_is : IsPixel s.last
  pub red_is : red ≡ map (λ (p : RgbaPixel). p.r) ps
  pub stands_are : stands ≡ map mask (stand_tests s.held ps)
  pub indices_are : indices ≡ map hash ps

-- Which of a block's pixels repeat, first and second bytes in a style, sizes and counted repeats; and
-- whether an RGBA chunk is known to give each.
pub record HasSpelled (style : Style) (s : State) (ps : List RgbaPixel) (x : Spelled) : Type 0 where
  pub rep_is : x.rep ≡ map (λ l. mask (is_rep l)) (lanes_of s.held s.last ps)
  pub first_is : x.first ≡ firsts_in style s.named s.carry (lanes_of s.held s.last ps)
  pub second_is : x.second ≡ map second_of (lanes_of s.held s.last ps)
  pub size_is : x.size ≡ sizes (lanes_of s.held s.last ps)
  pub count_is : x.count ≡ counts s.carry (map is_rep (lanes_of s.held s.last ps))
  pub rgba_is : IsTrue x.all_rgba → AreAllRgba (lanes_of s.held s.last ps)

-- from whatever the table holds, no fresh pixel is transparent black that isn't at its position
abbrev pub HasNoAbsentBlank : List RgbaPixel → Planes → List RgbaPixel → Type 0
HasNoAbsentBlank table before ps = (held : Past) → Holds table held → NoAbsentBlank held (last_pixel before) ps

-- the steps from the pixels before to these, and which of these repeat
abbrev pub ChangesFrom : Planes → List RgbaPixel → Changes → Type 0
ChangesFrom before ps x = (held : Past) → AreChanges (lanes_of held (last_pixel before) ps) x

-- what a block of pixels must meet, after the block `before`, to be written as one
pub record FitsBlock (style : Style) (table : List RgbaPixel) (before : Planes) (ps : List RgbaPixel) (x : Changes) : Type 0 where
  pub changes : ChangesFrom before ps x
  pub mixed : fresh_marks (last_pixel before) ps ≢ 0
  pub no_blank : style ≡ Tight → HasNoAbsentBlank table before ps
