-- Transparent black among sixteen pixels.
use Rattle.std.proofs.Common.{◌≡◌, ℕ, ◌+◌, ◌-◌, ◌%◌, ◌<◌, Bool, true, false, not, ◌||◌, ◌&&◌, ◌==◌, List, [], ◌∷◌, map, bit_or, if◌then◌else◌, refl, sym, ap, ap₂, ◌∙◌, arith}
use Rattle.std.proofs.lemmas.Bool.{and_parts, true≢false}
use Rattle.qoi.specs.Qoi.{RgbaPixel, Past, pixel_eq, blank, seen, hash}
use Rattle.qoi.specs.inner.block.Lanes.{Lane, IsLane, mask, step_of, lanes_of, is_rep, NoAbsentBlank}
use Rattle.std.specs.List.{list_all}
use Rattle.qoi.proofs.format.SamePixels.{pixel_eq-true, pixel_eq-from, pixel_eq-ne}
use Rattle.qoi.proofs.encoding.lanes.LaneBits.{or_below, one_zero}
use Rattle.qoi.proofs.encoding.lists.NotedPixels.{hash_blank}

-- a pixel is transparent black
abbrev pub is_blank : RgbaPixel → Bool
is_blank p = pixel_eq p blank

-- so is one whose channels are all 0
pub blank_by : (p : RgbaPixel) → mask (bit_or (bit_or (bit_or p.r p.g) p.b) p.a == 0) ≡ mask (is_blank p)
unfolding pixel_eq blank
blank_by p =
    ap mask (one_zero _ ∙ or_below 0 (bit_or (bit_or p.r p.g) p.b) p.a
    ∙ ap₂ ◌&&◌ (or_below 0 (bit_or p.r p.g) p.b ∙ ap₂ ◌&&◌ (or_below 0 p.r p.g ∙ ap₂ ◌&&◌ (sym (one_zero p.r)) (sym (one_zero p.g))) (sym (one_zero p.b))) (sym (one_zero p.a)))

-- a step is 0 if both channels are the same
no_step : (p q : ℕ) → p < 256 → q < 256 → ((p + (256 - q)) % 256 == 0) ≡ (p == q)
no_step p q lp lq = grind arith

-- a lane repeats if all its steps are
pub repeat_lane : (l : Lane) → IsLane l → mask (is_blank (step_of l)) ≡ mask (is_rep l)
unfolding pixel_eq blank
repeat_lane l is =
    let p = is.px_is in
    let q = is.before_is in
    ap mask (ap₂ ◌&&◌ (ap₂ ◌&&◌ (ap₂ ◌&&◌ (no_step l.px.r l.before.r p.r q.r) (no_step l.px.g l.before.g p.g q.g)) (no_step l.px.b l.before.b p.b q.b))
    (no_step l.px.a l.before.a p.a q.a))

-- one of two, of which the second fails
pub or_not : (a b : Bool) → bit_or (mask a) (255 - mask b) ≡ mask (a || not b)
or_not a b = grind arith

-- a lane repeats or isn't transparent black
abbrev pub is_plain : Lane → Bool
is_plain l = is_rep l || not (is_blank l.px)

-- if each does, no fresh pixel is transparent black
pub plain_lanes : (held : Past) (q : RgbaPixel) (ps : List RgbaPixel) → list_all (λ b. b) (map is_plain (lanes_of held q ps)) ≡ true → NoAbsentBlank held q ps
plain_lanes held q [] all = tt
plain_lanes held q (p ∷ ps) all =
    let a = and_parts (pixel_eq p q || not (is_blank p)) (list_all (λ b. b) (map is_plain (lanes_of (p ∷ held) p ps))) all in (
      λ fresh away same. true≢false (sym a.0 ∙ ap₂ ◌||◌ (pixel_eq-ne p q fresh) (ap not (pixel_eq-from p blank same))),
      plain_lanes (p ∷ held) p ps a.1,
    )

-- a pixel is transparent black or doesn't have its index position
abbrev pub is_elsewhere : RgbaPixel → Bool
is_elsewhere p = is_blank p || not (hash p == 0)

-- if each is, transparent black stays at its index position
pub blank_stays : (held : Past) (q : RgbaPixel) (ps : List RgbaPixel) → seen held 0 ≡ blank → list_all (λ b. b) (map is_elsewhere ps) ≡ true → NoAbsentBlank held q ps
blank_stays held q [] there all = tt
blank_stays held q (p ∷ ps) there all =
    let a = and_parts (is_elsewhere p) (list_all (λ b. b) (map is_elsewhere ps)) all in (
      λ fresh away same. away (ap (seen held) (ap hash same ∙ hash_blank) ∙ there ∙ sym same),
      blank_stays (p ∷ held) p ps (put (is_blank p) (hash p == 0) refl refl a.0) a.1,
    )
  where
    put : (b h : Bool) → is_blank p ≡ b → (hash p == 0) ≡ h → (b || not h) ≡ true → (if hash p == 0 then p else seen held 0) ≡ blank
    put b false eb eh t = rw eh there
    put true true eb eh t = rw eh (pixel_eq-true p blank eb)
    put false true eb eh t = absurd (true≢false (sym t))
