-- What the last lane counts is what is carried on.
use Rattle.std.proofs.Common.{◌≡◌, ℕ, suc, Bool, true, false, List, [], ◌∷◌, length, map, get_or, if◌then◌else◌, refl, sym, ap, ◌∙◌}
use Rattle.std.proofs.lemmas.Bool.{true≢false}
use Rattle.qoi.specs.Qoi.{RgbaPixel, pixel_eq}
use Rattle.qoi.specs.inner.block.Lanes.{State, lanes_of, is_rep, goes_on, next_by, Lane}
use Rattle.qoi.specs.inner.block.Vectors.{counts}

-- the state after a pixel, before others
abbrev pub next_state : State → RgbaPixel → List RgbaPixel → State
next_state s p ps = next_by (pixel_eq p s.last) (goes_on (lanes_of (p ∷ s.held) p ps)) s p

-- the state after all pixels
abbrev pub end_state : State → List RgbaPixel → State
end_state s [] = s
end_state s (p ∷ ps) = end_state (next_state s p ps) ps

-- what the last of these counts, after c repeats
abbrev last_of : ℕ → List Bool → ℕ
last_of c rs = get_or (c ∷ counts c rs) (length rs) 0

-- before a fresh lane what was counted doesn't matter
anew : (c : ℕ) (ls : List Lane) → goes_on ls ≡ false → last_of c (map is_rep ls) ≡ last_of 0 (map is_rep ls)
anew c [] e = absurd (true≢false e)
anew c (l ∷ ls) e =
    ap (λ b. last_of (if b then suc c else 0) (map is_rep ls)) e ∙ sym (ap (λ b. last_of (if b then 1 else 0) (map is_rep ls)) e)

-- what is counted after a lane is what is carried after it
next_is : (s : State) (p : RgbaPixel) (b m : Bool) (ls : List Lane) → goes_on ls ≡ m → last_of (if b then suc s.carry else 0) (map is_rep ls) ≡ last_of (next_by b m s p).carry (map is_rep ls)
next_is s p true true ls e = refl
next_is s p true false ls e = anew (suc s.carry) ls e
next_is s p false m ls e = refl

-- what is carried after a block
pub last_count : (s : State) (ps : List RgbaPixel) → last_of s.carry (map is_rep (lanes_of s.held s.last ps)) ≡ (end_state s ps).carry
last_count s [] = refl
last_count s (p ∷ ps) =
    let ls = lanes_of (p ∷ s.held) p ps in
    next_is s p (pixel_eq p s.last) (goes_on ls) ls refl ∙ last_count (next_state s p ps) ps
