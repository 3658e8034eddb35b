-- One lane of the tests, of the first byte, the second one and the size.
use Rattle.std.proofs.Common.{◌≡◌, ℕ, ◌+◌, ◌-◌, ◌*◌, ◌/◌, ◌%◌, ◌^◌, ◌<◌, Bool, true, false, IsTrue, nat_lt, ◌&&◌, ◌==◌, bit_and, bit_or, refl, sym, ap, ap₂, ◌∙◌, arith, slice_index, length}
use Rattle.std.proofs.Math.Bool.{and_assoc}
use Rattle.std.specs.Prelude.{min, if◌then◌else◌}
use Rattle.std.proofs.lemmas.Nat.{and_mask, and_comm, and_le_l, or_comm, or_lt, le_or_l, le_or_r, or_shifted}
use Rattle.std.proofs.lemmas.Nat.Bits.{and_high_mask}
use Rattle.qoi.specs.Qoi.{RgbaPixel, hash, bytes_of}
use Rattle.qoi.proofs.format.SamePixels.{hash_below}
use Rattle.qoi.specs.inner.block.Lanes.{Lane, IsLane, mask, as_diff, as_luma, same_alpha, fits_diff, fits_luma, first_of, second_of, size_of}
use Rattle.qoi.specs.WrittenList.{fits_in_diff, fits_in_luma, diff_of, luma_of, first_chunk}
use Rattle.qoi.proofs.encoding.coder.Spelled.{diff_small, luma_small}
use Rattle.qoi.proofs.encoding.lanes.LaneChunk.{chunk_by}

-- both of two masks
and_masks : (a b : Bool) → bit_and (mask a) (mask b) ≡ mask (a && b)
and_masks a b = grind arith

-- two numbers are small exactly if their `or` is
pub or_below : (k x y : ℕ) → nat_lt (bit_or x y) (2 ^ k) ≡ (nat_lt x (2 ^ k) && nat_lt y (2 ^ k))
or_below k x y = grind (arith, or_lt, le_or_l, le_or_r)

-- the high bits are 0 exactly if the number is small
high_zero_2 : (x : ℕ) → x < 256 → (bit_and x 252 == 0) ≡ nat_lt x 4
high_zero_2 x lt = let high : bit_and x 252 ≡ x / 4 * 4 = and_high_mask 8 2 (omega arith) x lt in grind arith

-- of 4 bits
high_zero_4 : (x : ℕ) → x < 256 → (bit_and x 240 == 0) ≡ nat_lt x 16
high_zero_4 x lt = let high : bit_and x 240 ≡ x / 16 * 16 = and_high_mask 8 4 (omega arith) x lt in grind arith

-- of 6 bits
high_zero_6 : (x : ℕ) → x < 256 → (bit_and x 192 == 0) ≡ nat_lt x 64
high_zero_6 x lt = let high : bit_and x 192 ≡ x / 64 * 64 = and_high_mask 8 6 (omega arith) x lt in grind arith

-- 0 is what is below 1
pub one_zero : (x : ℕ) → (x == 0) ≡ nat_lt x 1
one_zero x = grind arith

-- three tests in another order
turned : (a b c : Bool) → ((a && c) && b) ≡ (a && (b && c))
turned a b c = grind arith

-- the test of a Diff
small_test : (x y z : ℕ) → x < 256 → y < 256 → z < 256 → (bit_and (bit_or (bit_or x y) z) 252 == 0) ≡ (nat_lt x 4 && (nat_lt y 4 && nat_lt z 4))
small_test x y z lx ly lz =
    high_zero_2 (bit_or (bit_or x y) z) (or_lt 8 (bit_or x y) z (or_lt 8 x y lx ly) lz)
    ∙ or_below 2 (bit_or x y) z ∙ ap (λ b. b && nat_lt z 4) (or_below 2 x y) ∙ and_assoc (nat_lt x 4) (nat_lt y 4) (nat_lt z 4)

-- which lanes a Diff gives
pub diff_lane : (l : Lane) → IsLane l
    → bit_and (mask (bit_and (bit_or (bit_or (as_diff l).r (as_diff l).g) (as_diff l).b) 252 == 0)) (mask (same_alpha l)) ≡ mask (fits_diff l)
diff_lane l is = and_masks _ (same_alpha l) ∙ ap (λ b. mask (b && same_alpha l)) (small_test (as_diff l).r (as_diff l).g (as_diff l).b (omega arith) (omega arith) (omega arith))

-- the test of a Luma
wide_test : (x y z : ℕ) → x < 256 → y < 256 → z < 256 → (bit_or (bit_and (bit_or x z) 240) (bit_and y 192) == 0) ≡ (nat_lt x 16 && (nat_lt y 64 && nat_lt z 16))
wide_test x y z lx ly lz =
    one_zero _ ∙ or_below 0 (bit_and (bit_or x z) 240) (bit_and y 192)
    ∙ ap₂ ◌&&◌ (sym (one_zero (bit_and (bit_or x z) 240)) ∙ high_zero_4 (bit_or x z) (or_lt 8 x z lx lz) ∙ or_below 4 x z)
    (sym (one_zero (bit_and y 192)) ∙ high_zero_6 y ly)
    ∙ turned (nat_lt x 16) (nat_lt y 64) (nat_lt z 16)

-- which lanes a Luma gives
pub luma_lane : (l : Lane) → IsLane l
    → bit_and (mask (bit_or (bit_and (bit_or (as_luma l).r (as_luma l).b) 240) (bit_and (as_luma l).g 192) == 0)) (mask (same_alpha l)) ≡ mask (fits_luma l)
luma_lane l is = and_masks _ (same_alpha l) ∙ ap (λ b. mask (b && same_alpha l)) (wide_test (as_luma l).r (as_luma l).g (as_luma l).b (omega arith) (omega arith) (omega arith))

-- nothing is added
or_zero : (x : ℕ) → x < 256 → bit_or x 0 ≡ x
or_zero x l = or_comm x 0 ∙ (let e : bit_or 0 x ≡ 0 * 2 ^ 8 + x = or_shifted 0 8 x l in omega arith)

-- a byte, or 255
pub or_mask : (x : ℕ) (b : Bool) → x < 256 → bit_or x (255 - mask b) ≡ (if b then x else 255)
or_mask x true l = or_zero x l
or_mask x false l = omega (arith, le_or_r x 255, or_lt 8 x 255 l (omega arith))

-- the first byte is the least of those that apply
least : (st d l k : Bool) (h : ℕ) (s w p : RgbaPixel) → h < 64 → (d ≡ true → IsTrue (fits_in_diff s)) → (l ≡ true → IsTrue (fits_in_luma w)) → w.g < 256
    → min (min (min (if l then (w.g + 128) % 256 else 255) ((255 + mask k) % 256)) (if d then slice_index (bytes_of (diff_of s)) 0 % 256 else 255)) (if st then h else 255)
    ≡ slice_index (bytes_of (chunk_by st d l k h s w p)) 0
least true d l k h s w p lh ds ls lg = grind arith
least false true l k h s w p lh ds ls lg = let f = diff_small s (ds refl) in let r = f.0 in let g = f.1 in let b = f.2 in grind arith
least false false true k h s w p lh ds ls lg = let f = (luma_small w (ls refl)).1 in grind arith
least false false false true h s w p lh ds ls lg = refl
least false false false false h s w p lh ds ls lg = refl

-- the first byte of a lane's chunk
pub first_lane : (l : Lane) → IsLane l
    → min (min (min (bit_or (((as_luma l).g + 128) % 256) (255 - mask (fits_luma l))) ((255 + mask (same_alpha l)) % 256)) (bit_or (slice_index (bytes_of (diff_of (as_diff l))) 0 % 256) (255 - mask (fits_diff l))))
    (bit_or (hash l.px) (255 - mask l.stands)) ≡ first_of l
unfolding first_chunk
first_lane l is =
    let h = hash_below l.px in
    ap₂ min (ap₂ min (ap (λ x. min x ((255 + mask (same_alpha l)) % 256)) (or_mask (((as_luma l).g + 128) % 256) (fits_luma l) (omega arith)))
    (or_mask (slice_index (bytes_of (diff_of (as_diff l))) 0 % 256) (fits_diff l) (omega arith))) (or_mask (hash l.px) l.stands (omega arith))
    ∙ least l.stands (fits_diff l) (fits_luma l) (same_alpha l) (hash l.px) (as_diff l) (as_luma l) l.px (omega arith) (λ t. t) (λ t. t) (omega arith)

-- one of two bytes
either : (b : Bool) (x y : ℕ) → x < 256 → y < 256 → bit_or (bit_and (mask b) x) (bit_and (255 - mask b) y) ≡ (if b then x else y)
either true x y lx ly =
    let e : bit_and 255 x ≡ x = and_comm 255 x ∙ and_mask x 8 ∙ omega arith in
    let z : bit_and 0 y ≡ 0 = omega (arith, and_le_l 0 y) in
    (λ i. bit_or (e i) (z i)) ∙ or_zero x lx
either false x y lx ly =
    let e : bit_and 255 y ≡ y = and_comm 255 y ∙ and_mask y 8 ∙ omega arith in
    let z : bit_and 0 x ≡ 0 = omega (arith, and_le_l 0 x) in
    (λ i. bit_or (z i) (e i)) ∙ or_comm 0 y ∙ or_zero y ly

-- the second byte
pub second_lane : (l : Lane) → IsLane l
    → bit_or (bit_and (mask (fits_luma l)) (((as_luma l).r * 2 ^ 4 % 2 ^ 8 + (as_luma l).b) % 256)) (bit_and (255 - mask (fits_luma l)) l.px.r) ≡ second_of l
second_lane l is =
    let i = is.px_is in
    either (fits_luma l) (((as_luma l).r * 2 ^ 4 % 2 ^ 8 + (as_luma l).b) % 256) l.px.r (omega arith) i.r ∙ go (fits_luma l) (λ t. t)
  where
    go : (b : Bool) → (b ≡ true → IsTrue (fits_luma l)) → (if b then ((as_luma l).r * 2 ^ 4 % 2 ^ 8 + (as_luma l).b) % 256 else l.px.r)
        ≡ (if b then slice_index (bytes_of (luma_of (as_luma l))) 1 else l.px.r)
    go true t = let f = luma_small (as_luma l) (t refl) in omega arith
    go false t = refl

-- a chunk's size from the masks
size_cases : (st d l k : Bool) (h : ℕ) (s w p : RgbaPixel) → (IsTrue l → IsTrue k)
    → (min (((4 + mask l) % 256 + mask l) % 256) (bit_or 1 (255 - bit_or (mask st) (mask d)))
    + bit_and (bit_and (255 - mask k) (255 - bit_or (mask st) (mask d))) 1) % 256 ≡ length (bytes_of (chunk_by st d l k h s w p))
size_cases true d l k h s w p lk = grind arith
size_cases false true l k h s w p lk = grind arith
size_cases false false true k h s w p lk = grind arith
size_cases false false false true h s w p lk = refl
size_cases false false false false h s w p lk = refl

-- what a Luma gives keeps alpha
luma_keeps : (a b : Bool) → IsTrue (a && b) → IsTrue b
luma_keeps a b t = grind arith

-- the size
pub size_lane : (l : Lane) → IsLane l
    → (min (((4 + mask (fits_luma l)) % 256 + mask (fits_luma l)) % 256) (bit_or 1 (255 - bit_or (mask l.stands) (mask (fits_diff l))))
    + bit_and (bit_and (255 - mask (same_alpha l)) (255 - bit_or (mask l.stands) (mask (fits_diff l)))) 1) % 256 ≡ size_of l
unfolding first_chunk
size_lane l is = size_cases l.stands (fits_diff l) (fits_luma l) (same_alpha l) (hash l.px) (as_diff l) (as_luma l) l.px (luma_keeps _ (same_alpha l))
