-- One lane's index position, and vectors of other lanes.
use Rattle.std.proofs.Common.{◌≡◌, ℕ, ◌+◌, ◌%◌, ◌≤◌, bit_and, List, [], ◌∷◌, ◌++◌, length, length-drop, map, take, drop, slice_index, refl, sym, ap, ◌∙◌, arith}
use Rattle.std.proofs.lemmas.List.{length-append, drop-append-le}
use Rattle.std.proofs.lemmas.Nat.{and_mask}
use Rattle.std.proofs.lemmas.Simd.{pick_l-range_with_len}
use Rattle.std.proofs.Math.Seq.{take-append-add}
use Rattle.qoi.specs.Qoi.{RgbaPixel, Past, hash}
use Rattle.qoi.specs.inner.block.Lanes.{Lane, IsLane, lanes_of}
use Rattle.std.specs.List.{range_with_len}
use lib.Lanes.{pick_l}

-- the index position by sums of bytes
pub place_lane : (l : Lane) → IsLane l → (let r = l.px.r in let g = l.px.g in let b = l.px.b in let a = l.px.a in
    let s = (((r + g) % 256 + b) % 256 + a) % 256 in let t = ((a + a) % 256 + b) % 256 in
    let u = (((t + t) % 256 + g) % 256 + s) % 256 in
    bit_and (((u + u) % 256 + s) % 256) 63) ≡ hash l.px
unfolding hash
place_lane l is = and_mask _ 6 ∙ omega arith

-- sixteen lanes of two vectors, from the n-th on
pub lanes_from : (n : ℕ) (xs ys : List ℕ) → n ≤ 16 → length xs ≡ 16 → length ys ≡ 16 → pick_l 0 (xs ++ ys) (range_with_len n 16) ≡ drop n xs ++ take n ys
lanes_from n xs ys few e f =
    let rest : length (drop n xs) + n ≡ 16 = omega (arith, length-drop n xs) in
    pick_l-range_with_len 0 (xs ++ ys) n 16 (omega (arith, length-append xs ys))
    ∙ ap (take 16) (drop-append-le n xs ys (omega (arith, e)))
    ∙ (λ i. take (sym rest i) (drop n xs ++ ys))
    ∙ take-append-add (drop n xs) ys n

-- a vector's lanes, one further on
pub one_later : (xs ys : List ℕ) → length xs ≡ 16 → length ys ≡ 16 → pick_l 0 (xs ++ ys) (range_with_len 15 16) ≡ slice_index xs 15 ∷ take 15 ys
one_later (x0 ∷ x1 ∷ x2 ∷ x3 ∷ x4 ∷ x5 ∷ x6 ∷ x7 ∷ x8 ∷ x9 ∷ x10 ∷ x11 ∷ x12 ∷ x13 ∷ x14 ∷ x15 ∷ []) ys e f = lanes_from 15 (x0 ∷ x1 ∷ x2 ∷ x3 ∷ x4 ∷ x5 ∷ x6 ∷ x7 ∷ x8 ∷ x9 ∷ x10 ∷ x11 ∷ x12 ∷ x13 ∷ x14 ∷ x15 ∷ []) ys (omega arith) e f
one_later xs ys e f = absurd (omega arith)

-- what stands before the lanes of pixels is the pixel before them, and then they
pub befores : (f : RgbaPixel → ℕ) (held : Past) (q : RgbaPixel) (ps : List RgbaPixel) → map (λ (l : Lane). f l.before) (lanes_of held q ps) ≡ take (length ps) (f q ∷ map f ps)
befores f held q [] = refl
befores f held q (p ∷ ps) = ap (λ z. f q ∷ z) (befores f (p ∷ held) p ps)

-- the lanes' own pixels
pub themselves : (f : RgbaPixel → ℕ) (held : Past) (q : RgbaPixel) (ps : List RgbaPixel) → map (λ (l : Lane). f l.px) (lanes_of held q ps) ≡ map f ps
themselves f held q [] = refl
themselves f held q (p ∷ ps) = ap (λ z. f p ∷ z) (themselves f (p ∷ held) p ps)
