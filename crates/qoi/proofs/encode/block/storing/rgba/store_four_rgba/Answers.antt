-- Sixteen bytes are put, of which fifteen count, and eight, of which five do.
use Rattle.std.proofs.Common.{ℕ, ◌+◌, ◌-◌, List, ◌++◌, take, drop, refl, ap, ◌∙◌, arith, append_assoc, ◌≡◌, [], ◌∷◌, replicate, map}
use borrow.Rule.Slice.PartMut.{put_mid}
use lib.Lanes.{put_chunk, number_l, digits_l, pick_l}
use Rattle.qoi.specs.inner.Packed.{pixel_of_word}
use Rattle.qoi.specs.inner.block.Storing.{rgba_bytes}
use Rattle.qoi.specs.inner.block.Planes.{AreFour}
use Rattle.qoi.proofs.format.LaneBytes.{bytes_put}
use Rattle.qoi.proofs.encoding.blocks.PackedBlock.{four_numbers}
use Rattle.qoi.proofs.encoding.lanes.WordPlanes.{bytes_of_words}
use Rattle.qoi.proofs.encode.block.storing.rgba.store_four_rgba.Goals as goal

-- the bytes of four numbers
abbrev bytes_in : List ℕ → List ℕ
bytes_in xs = digits_l 256 16 (number_l 4294967296 xs)

-- of four pixels' bytes those of the first three, each after a tag
abbrev three : List ℕ → List ℕ
three v = pick_l 0 (v ++ replicate 16 255) (16 ∷ 0 ∷ 1 ∷ 2 ∷ 3 ∷ 16 ∷ 4 ∷ 5 ∷ 6 ∷ 7 ∷ 16 ∷ 8 ∷ 9 ∷ 10 ∷ 11 ∷ 16 ∷ [])

-- and those of the last one
abbrev last : List ℕ → List ℕ
last v = pick_l 0 (v ++ replicate 16 255) (16 ∷ 12 ∷ 13 ∷ 14 ∷ 15 ∷ 16 ∷ 16 ∷ 16 ∷ [])

-- they are the RGBA chunks of the pixels
four_full : (xs : List ℕ) → AreFour xs → take 15 (three (bytes_in xs)) ++ take 5 (last (bytes_in xs)) ≡ rgba_bytes (map pixel_of_word xs)
four_full (a ∷ b ∷ c ∷ d ∷ []) f =
    let n = four_numbers (a ∷ b ∷ c ∷ d ∷ []) f in
    let e = (λ i. bytes_in (n.words_are i)) ∙ bytes_of_words (pixel_of_word a) (pixel_of_word b) (pixel_of_word c) (pixel_of_word d) n.are.0 n.are.1.0 n.are.1.1.0 n.are.1.1.1.0 in
    λ i. take 15 (three (e i)) ++ take 5 (last (e i))
four_full xs f = absurd (let l = f.0 in omega arith)

-- bytes after n bytes are put from `at` on
abbrev put : ℕ → ℕ → List ℕ → List ℕ → List ℕ
put n at out bytes = put_mid at (at + n - at) out (put_chunk 0 (take (at + n - at) (drop at out)) bytes)

pub returns-clause-written : goal.returns-clause-written
returns-clause-written c =
    let v = bytes_in c.args.four in
    let at = c.args.at in
    let old = c.args.out.now in
    let one = put 16 at old (three v) in
    let front = take at old in
    ap (λ n. take n (put 8 (at + 15) one (last v))) (omega arith)
    ∙ bytes_put 8 (at + 15) 5 one (last v) (omega (arith, c.requires.room)) refl (omega arith)
    ∙ ap (λ z. z ++ take 5 (last v)) (bytes_put 16 at 15 old (three v) (omega (arith, c.requires.room)) refl (omega arith))
    ∙ append_assoc front (take 15 (three v)) (take 5 (last v))
    ∙ ap (λ z. front ++ z) (four_full c.args.four c.requires.packed)
