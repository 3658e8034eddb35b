-- A block's chunks, of which each is stored from a number.
use Rattle.std.proofs.Common.{◌≡◌, ℕ, zero, suc, ◌+◌, ◌*◌, ◌%◌, ◌<◌, ◌≤◌, if◌then◌else◌, Bool, true, false, List, [], ◌∷◌, ◌++◌, length, map, take, drop, replicate, slice_index, append_assoc, append-nil, bit_and, refl, sym, ap, ◌∙◌, arith, IsTrue}
use Rattle.std.specs.Prelude.{min, max}
use Rattle.std.specs.List.{AllByRecursion}
use Rattle.std.proofs.lemmas.Nat.{and_le_r}
use lib.Lanes.{sum_l, zip2}
use Rattle.qoi.specs.Qoi.{RgbaPixel, IsPixel, pixel, bytes_of}
use Rattle.qoi.specs.inner.block.Vectors.{sizes}
use Rattle.qoi.specs.inner.block.Lanes.{Lane, mask, fits_luma, second_of, size_of, as_luma, is_rep, goes_on}
use Rattle.qoi.specs.inner.Packed.{word}
use Rattle.qoi.specs.inner.block.Planes.{Words, AreBlockWords, ArePlanes}
use Rattle.qoi.specs.inner.block.Storing.{four_chunks, sixteen_chunks, chunk_of}
use Rattle.qoi.proofs.encoding.blocks.LaneBytes.{chunk_of as lane_chunk, chunks_of}
use Rattle.qoi.proofs.encoding.lanes.LaneChunk.{parts_of}
use Rattle.qoi.specs.WrittenList.{luma_of}
use Rattle.qoi.proofs.encoding.coder.Spelled.{luma_small}
use Rattle.qoi.proofs.encoding.lanes.WordPlanes.{word_bytes}

-- a chunk whose first four bytes are those of a word
chunk_is : (p : RgbaPixel) (a size : ℕ) → IsPixel p → chunk_of size (word p) a ≡ take size (p.r ∷ p.g ∷ p.b ∷ p.a ∷ a ∷ [])
chunk_is p a size i = ap (λ ds. take size (ds ++ a ∷ [])) (word_bytes p i)

-- each lane's chunk as a pixel: first and second byte, green and blue
abbrev pub chunk_pixels : List Lane → List ℕ → List RgbaPixel
chunk_pixels [] fs = []
chunk_pixels (l ∷ ls) [] = []
chunk_pixels (l ∷ ls) (f ∷ fs) = pixel f (second_of l) l.px.g l.px.b ∷ chunk_pixels ls fs

-- there are as many as lanes
pub pixels_long : (ls : List Lane) (fs : List ℕ) → length fs ≡ length ls → length (chunk_pixels ls fs) ≡ length ls
pixels_long [] fs e = refl
pixels_long (l ∷ ls) [] e = absurd (omega arith)
pixels_long (l ∷ ls) (f ∷ fs) e = ap (λ n. suc n) (pixels_long ls fs (omega arith))

-- their planes
pub chunk_planes : (ls : List Lane) (fs : List ℕ) → length fs ≡ length ls
    → ArePlanes (chunk_pixels ls fs) (record { r = fs; g = map second_of ls; b = map (λ l. l.px.g) ls; a = map (λ l. l.px.b) ls })
chunk_planes [] [] e = record { r_is = refl; g_is = refl; b_is = refl; a_is = refl }
chunk_planes (l ∷ ls) (f ∷ fs) e =
    let rest = chunk_planes ls fs (omega arith) in
    record { r_is = ap (λ z. f ∷ z) rest.r_is; g_is = ap (λ z. second_of l ∷ z) rest.g_is; b_is = ap (λ z. l.px.g ∷ z) rest.b_is; a_is = ap (λ z. l.px.b ∷ z) rest.a_is }
chunk_planes ls fs e = absurd (omega arith)

-- a second byte is one
pub second_small : (l : Lane) → IsPixel l.px → second_of l < 256
second_small l i = go (fits_luma l) (λ t. t)
  where
    go : (b : Bool) → (b ≡ true → IsTrue (fits_luma l)) → (if b then slice_index (bytes_of (luma_of (as_luma l))) 1 else l.px.r) < 256
    go true t = omega (arith, luma_small (as_luma l) (t refl))
    go false t = i.r

-- a first byte, or that of a run
pub over_small : (f m x : ℕ) → f < 256 → max f (bit_and m (x % 256)) < 256
over_small f m x l = omega (arith, and_le_r m (x % 256))

-- there are as many sizes as lanes
pub sizes_long : (ls : List Lane) → length (sizes ls) ≡ length ls
sizes_long [] = refl
sizes_long (l ∷ ls) = ap (λ n. suc n) (sizes_long ls)

-- a size is at most 5, less one for a repeat that goes on
one_few : (n : ℕ) (r g : Bool) → 0 < n → n ≤ 5 → (n + bit_and (mask r) (mask g)) % 256 ≤ 5
one_few n r g some few = grind arith

-- each of them
pub sizes_few : (ls : List Lane) (k : ℕ) → slice_index (sizes ls) k ≤ 5
sizes_few [] k = omega arith
sizes_few (l ∷ ls) zero = one_few (size_of l) (is_rep l) (goes_on ls) (parts_of l).some (parts_of l).few
sizes_few (l ∷ ls) (suc k) = sizes_few ls k

-- the first of few
pub take_few : (n m : ℕ) (ss : List ℕ) → ((k : ℕ) → slice_index ss k ≤ m) → (k : ℕ) → slice_index (take n ss) k ≤ m
take_few (suc n) m (s ∷ ss) few zero = few 0
take_few (suc n) m (s ∷ ss) few (suc k) = take_few n m ss (λ j. few (suc j)) k
take_few n m ss few k = omega arith

-- the others
pub drop_few : (n m : ℕ) (ss : List ℕ) → ((k : ℕ) → slice_index ss k ≤ m) → (k : ℕ) → slice_index (drop n ss) k ≤ m
drop_few zero m ss few k = few k
drop_few (suc n) m [] few k = omega arith
drop_few (suc n) m (s ∷ ss) few k = drop_few n m ss (λ j. few (suc j)) k

-- the sum of the first n
pub first_few : (n : ℕ) (ss : List ℕ) → ((k : ℕ) → slice_index ss k ≤ 5) → sum_l (take n ss) ≤ 5 * n
first_few (suc n) (s ∷ ss) few = omega (arith, few 0, first_few n ss (λ k. few (suc k)))
first_few n ss few = omega arith

-- the lesser of each size and a number that none is more than
pub lesser_few : (n m : ℕ) (ss : List ℕ) → length ss ≡ n → ((k : ℕ) → slice_index ss k ≤ m) → zip2 min ss (replicate n m) ≡ ss
lesser_few zero m [] long few = refl
lesser_few (suc n) m (s ∷ ss) long few =
    let same : min s m ≡ s = omega (arith, few 0) in
    λ i. same i ∷ lesser_few n m ss (omega arith) (λ k. few (suc k)) i
lesser_few n m ss long few = absurd (omega arith)

-- it is at most that number, whatever the sizes are
pub lesser_most : (n m : ℕ) (ss : List ℕ) (k : ℕ) → slice_index (zip2 min ss (replicate n m)) k ≤ m
lesser_most n m [] k = omega arith
lesser_most zero m (s ∷ ss) k = omega arith
lesser_most (suc n) m (s ∷ ss) zero = omega arith
lesser_most (suc n) m (s ∷ ss) (suc k) = lesser_most n m ss k

-- four parts and what follows
regroup : (a b c d e : List ℕ) → (a ++ (b ++ (c ++ d))) ++ e ≡ a ++ (b ++ (c ++ (d ++ e)))
regroup a b c d e = append_assoc a (b ++ (c ++ d)) e ∙ ap (λ z. a ++ z) (append_assoc b (c ++ d) e ∙ ap (λ z. b ++ z) (append_assoc c d e))

-- four lanes' chunks, and those that follow
four_parts : (k l m n : Lane) (e f g h s t u v : ℕ) (ls : List Lane) (fs ss : List ℕ)
    → AllByRecursion IsPixel (chunk_pixels (k ∷ l ∷ m ∷ n ∷ ls) (e ∷ f ∷ g ∷ h ∷ fs))
    → four_chunks (s ∷ t ∷ u ∷ v ∷ []) (map word (chunk_pixels (k ∷ l ∷ m ∷ n ∷ []) (e ∷ f ∷ g ∷ h ∷ []))) (map (λ (l : Lane). l.px.a) (k ∷ l ∷ m ∷ n ∷ [])) 0 ++ chunks_of ls fs ss
    ≡ chunks_of (k ∷ l ∷ m ∷ n ∷ ls) (e ∷ f ∷ g ∷ h ∷ fs) (s ∷ t ∷ u ∷ v ∷ ss)
four_parts k l m n e f g h s t u v ls fs ss i =
    (λ j. (chunk_is _ k.px.a s i.0 j ++ (chunk_is _ l.px.a t i.1.0 j ++ (chunk_is _ m.px.a u i.1.1.0 j ++ chunk_is _ n.px.a v i.1.1.1.0 j))) ++ chunks_of ls fs ss)
    ∙ regroup (lane_chunk k e s) (lane_chunk l f t) (lane_chunk m g u) (lane_chunk n h v) (chunks_of ls fs ss)

-- all sixteen
pub sixteen_parts : (ls : List Lane) (fs ss bs : List ℕ) (words : Words) → length ls ≡ 16 → length fs ≡ 16 → length ss ≡ 16
    → bs ≡ map (λ l. l.px.a) ls → AllByRecursion IsPixel (chunk_pixels ls fs) → AreBlockWords (chunk_pixels ls fs) words
    → sixteen_chunks ss words bs ≡ chunks_of ls fs ss
sixteen_parts (l0 ∷ l1 ∷ l2 ∷ l3 ∷ l4 ∷ l5 ∷ l6 ∷ l7 ∷ l8 ∷ l9 ∷ l10 ∷ l11 ∷ l12 ∷ l13 ∷ l14 ∷ l15 ∷ []) (f0 ∷ f1 ∷ f2 ∷ f3 ∷ f4 ∷ f5 ∷ f6 ∷ f7 ∷ f8 ∷ f9 ∷ f10 ∷ f11 ∷ f12 ∷ f13 ∷ f14 ∷ f15 ∷ []) (s0 ∷ s1 ∷ s2 ∷ s3 ∷ s4 ∷ s5 ∷ s6 ∷ s7 ∷ s8 ∷ s9 ∷ s10 ∷ s11 ∷ s12 ∷ s13 ∷ s14 ∷ s15 ∷ []) bs words ll lf ls ea i are =
    let all : List ℕ = s0 ∷ s1 ∷ s2 ∷ s3 ∷ s4 ∷ s5 ∷ s6 ∷ s7 ∷ s8 ∷ s9 ∷ s10 ∷ s11 ∷ s12 ∷ s13 ∷ s14 ∷ s15 ∷ [] in
    let bytes : List ℕ = map (λ (l : Lane). l.px.a) (l0 ∷ l1 ∷ l2 ∷ l3 ∷ l4 ∷ l5 ∷ l6 ∷ l7 ∷ l8 ∷ l9 ∷ l10 ∷ l11 ∷ l12 ∷ l13 ∷ l14 ∷ l15 ∷ []) in
    let c0 = four_chunks all (map word (chunk_pixels (l0 ∷ l1 ∷ l2 ∷ l3 ∷ []) (f0 ∷ f1 ∷ f2 ∷ f3 ∷ []))) bytes 0 in
    let c1 = four_chunks all (map word (chunk_pixels (l4 ∷ l5 ∷ l6 ∷ l7 ∷ []) (f4 ∷ f5 ∷ f6 ∷ f7 ∷ []))) bytes 4 in
    let c2 = four_chunks all (map word (chunk_pixels (l8 ∷ l9 ∷ l10 ∷ l11 ∷ []) (f8 ∷ f9 ∷ f10 ∷ f11 ∷ []))) bytes 8 in
    let c3 = four_chunks all (map word (chunk_pixels (l12 ∷ l13 ∷ l14 ∷ l15 ∷ []) (f12 ∷ f13 ∷ f14 ∷ f15 ∷ []))) bytes 12 in
    let rest3 = four_parts l12 l13 l14 l15 f12 f13 f14 f15 s12 s13 s14 s15 [] [] [] i.1.1.1.1.1.1.1.1.1.1.1.1 in
    let rest2 = four_parts l8 l9 l10 l11 f8 f9 f10 f11 s8 s9 s10 s11 (l12 ∷ l13 ∷ l14 ∷ l15 ∷ []) (f12 ∷ f13 ∷ f14 ∷ f15 ∷ []) (s12 ∷ s13 ∷ s14 ∷ s15 ∷ []) i.1.1.1.1.1.1.1.1 in
    let rest1 = four_parts l4 l5 l6 l7 f4 f5 f6 f7 s4 s5 s6 s7 (l8 ∷ l9 ∷ l10 ∷ l11 ∷ l12 ∷ l13 ∷ l14 ∷ l15 ∷ []) (f8 ∷ f9 ∷ f10 ∷ f11 ∷ f12 ∷ f13 ∷ f14 ∷ f15 ∷ []) (s8 ∷ s9 ∷ s10 ∷ s11 ∷ s12 ∷ s13 ∷ s14 ∷ s15 ∷ []) i.1.1.1.1 in
    let rest0 = four_parts l0 l1 l2 l3 f0 f1 f2 f3 s0 s1 s2 s3 (l4 ∷ l5 ∷ l6 ∷ l7 ∷ l8 ∷ l9 ∷ l10 ∷ l11 ∷ l12 ∷ l13 ∷ l14 ∷ l15 ∷ []) (f4 ∷ f5 ∷ f6 ∷ f7 ∷ f8 ∷ f9 ∷ f10 ∷ f11 ∷ f12 ∷ f13 ∷ f14 ∷ f15 ∷ []) (s4 ∷ s5 ∷ s6 ∷ s7 ∷ s8 ∷ s9 ∷ s10 ∷ s11 ∷ s12 ∷ s13 ∷ s14 ∷ s15 ∷ []) i in
    (λ j. four_chunks all (are.one_are.words_are j) (ea j) 0 ++ (four_chunks all (are.two_are.words_are j) (ea j) 4
    ++ (four_chunks all (are.three_are.words_are j) (ea j) 8 ++ four_chunks all (are.four_are.words_are j) (ea j) 12)))
    ∙ ap (λ z. c0 ++ (c1 ++ (c2 ++ z))) (sym (append-nil c3) ∙ rest3)
    ∙ ap (λ z. c0 ++ (c1 ++ z)) rest2 ∙ ap (λ z. c0 ++ z) rest1 ∙ rest0
sixteen_parts ls fs ss bs words ll lf ls2 ea i are = absurd (omega arith)
