-- Sixteen chunks, in either way.
use Rattle.std.proofs.Common.{◌≡◌, ◌≢◌, ◌+◌, ◌<◌, ℕ, List, ◌++◌, length, map, slice_index, take, arith, sym, ap, ◌∙◌, subst, zero, suc, ◌%◌, Bool, true, [], ◌∷◌, bit_and, ◌≤◌}
use Rattle.std.specs.List.{AllByRecursion}
use Rattle.qoi.specs.Styles.{Style}
use Rattle.qoi.specs.Qoi.{RgbaPixel, IsPixel, run_max, Past}
use Rattle.qoi.specs.inner.block.Lanes.{Lane, State, lanes_of, block_bytes, mask, size_of, lane_of, goes_on, is_rep}
use Rattle.qoi.specs.inner.block.Storing.{HaveCodes, sixteen_chunks}
use Rattle.qoi.specs.inner.block.Planes.{Words, Planes, AreSixteen, ArePlanes, AreBlockWords, block_pixels}
use Rattle.qoi.specs.inner.block.Vectors.{Spelled, HasSpelled, sizes}
use Rattle.qoi.proofs.encoding.blocks.RgbaBlock.{rgba_lanes, rgba_written}
use Rattle.qoi.proofs.encoding.blocks.PackedBlock.{block_sixteen}
use Rattle.qoi.proofs.encoding.blocks.LaneBytes.{chunks_of, repeat_byte}
use Rattle.qoi.proofs.encoding.lanes.LaneTests.{themselves}
use Rattle.qoi.proofs.encoding.blocks.SpelledBlock.{lanes_long, lanes_are}
use Rattle.qoi.proofs.encoding.stores.StoredBlock.{chunk_pixels, pixels_long, chunk_planes, sizes_long, sixteen_parts}
use Rattle.qoi.proofs.encoding.blocks.StyledBytes.{firsts_long, pixels_in, out_in}
use Rattle.qoi.proofs.encoding.lanes.LaneChunk.{parts_of}
use Rattle.qoi.proofs.encode.block.storing.store_sixteen.Goals as goal

-- a size that has a code
abbrev HasCode : ℕ → Type 0
HasCode n = (n ≤ 4) × (n ≢ 3)

-- a lane's size, with the one of a repeat that goes on taken away, if it isn't 5
laid_coded : (n : ℕ) (r g : Bool) → n ≤ 5 → n ≢ 3 → (r ≡ true → n ≡ 1) → (n + bit_and (mask r) (mask g)) % 256 ≢ 5 → HasCode ((n + bit_and (mask r) (mask g)) % 256)
laid_coded n r g few not_three one not_five = (grind arith, λ e. grind arith)

-- each size that isn't 5 has a code
sizes_coded : (held : Past) (q : RgbaPixel) (ps : List RgbaPixel) → AllByRecursion IsPixel ps → (k : ℕ)
    → slice_index (sizes (lanes_of held q ps)) k ≢ 5 → HasCode (slice_index (sizes (lanes_of held q ps)) k)
sizes_coded held q [] are k n = (omega arith, λ e. omega arith)
sizes_coded held q (p ∷ ps) are zero n =
    let l = lane_of held q p in
    let parts = parts_of l in
    laid_coded (size_of l) (is_rep l) (goes_on (lanes_of (p ∷ held) p ps)) parts.few parts.not_three (λ e. (repeat_byte l are.0 e).0) n
sizes_coded held q (p ∷ ps) are (suc k) n = sizes_coded (p ∷ held) p ps are.1 k n

-- sixteen chunks of what is spelled out are the block's
block_is : (style : Style) (s : State) (ps : List RgbaPixel) (x : Spelled) (p : Planes) (words : Words) → AreSixteen ps → IsPixel s.last → ArePlanes ps p → HasSpelled style s ps x → s.carry + 16 < run_max
    → ((qs : List RgbaPixel) → AreSixteen qs → ArePlanes qs (record { r = x.first; g = x.second; b = p.g; a = p.b }) → AreBlockWords qs words)
    → sixteen_chunks x.size words p.a ≡ block_bytes style s ps
block_is style s ps x p words sixteen last planes spelled carry made =
    let ls : List Lane = lanes_of s.held s.last ps in
    let fs : List ℕ = x.first in
    let long : length ls ≡ 16 = lanes_long s.held s.last ps ∙ sixteen.long in
    let long_first : length fs ≡ 16 = ap length spelled.first_is ∙ firsts_long style s.named s.carry ls ∙ long in
    let long_size : length x.size ≡ 16 = ap length spelled.size_is ∙ sizes_long ls ∙ long in
    let same : length fs ≡ length ls = long_first ∙ sym long in
    let own : (f : RgbaPixel → ℕ) (xs : List ℕ) → xs ≡ map f ps → xs ≡ map (λ (l : Lane). f l.px) ls = λ f xs is. is ∙ sym (themselves f s.held s.last ps) in
    let pixels : AllByRecursion IsPixel (chunk_pixels ls fs) = subst (λ z. AllByRecursion IsPixel (chunk_pixels ls z)) (sym spelled.first_is)
    (pixels_in style s.named s.carry ls (lanes_are s.held s.last ps last sixteen.are)) in
    let chunks = chunk_planes ls fs same in
    let words_are = made (chunk_pixels ls fs) (record { long = pixels_long ls fs same ∙ long; are = pixels }) (record {
      r_is = chunks.r_is;
      g_is = spelled.second_is ∙ chunks.g_is;
      b_is = own (λ q. q.g) p.g planes.g_is ∙ chunks.b_is;
      a_is = own (λ q. q.b) p.b planes.b_is ∙ chunks.a_is;
    }) in
    sixteen_parts ls fs x.size p.a words long long_first long_size (own (λ q. q.a) p.a planes.a_is) pixels words_are
    ∙ (λ i. chunks_of ls (spelled.first_is i) (spelled.size_is i)) ∙ out_in style s ps sixteen.are (omega (arith, sixteen.long, carry))

-- its sizes have codes if none is 5
have_codes : (style : Style) (s : State) (ps : List RgbaPixel) (x : Spelled) → AreSixteen ps → HasSpelled style s ps x → ((k : ℕ) → slice_index x.size k ≢ 5) → HaveCodes x.size
have_codes style s ps x sixteen spelled none = λ k.
    let is = ap (λ z. slice_index z k) spelled.size_is in
    subst HasCode (sym is) (sizes_coded s.held s.last ps sixteen.are k (λ e. none k (is ∙ e)))

pub returns-then-x-clause-written : goal.returns-then-x-clause-written
returns-then-x-clause-written g c = λ style s last spelled carry few.
    let words = c.args.block.words in
    let sixteen = block_sixteen words c.args.block.packed in
    c.store_rgba.ensures.written
    ∙ ap (λ z. take c.args.at c.args.out.now ++ z) (sym (rgba_written style s (block_pixels words)
    (rgba_lanes _ (lanes_are s.held s.last (block_pixels words) last sixteen.are) (spelled.rgba_is c.if-x.true))))

pub returns-then-have_four_at_most-clause-written : goal.returns-then-have_four_at_most-clause-written
returns-then-have_four_at_most-clause-written g c = λ style s last spelled carry few.
    let block = c.args.block in
    let ps = block_pixels block.words in
    let sixteen = block_sixteen block.words block.packed in
    c.store_shuffled.ensures.written block.planes.a (have_codes style s ps c.args.x sixteen spelled (c.have_four_at_most.ensures c.if-have_four_at_most.true few))
    ∙ ap (λ z. take c.args.at c.args.out.now ++ z) (block_is style s ps c.args.x block.planes c.join_lanes-chunks.result sixteen last block.planes_are spelled carry c.join_lanes-chunks.ensures)

pub returns-else-have_four_at_most-clause-written : goal.returns-else-have_four_at_most-clause-written
returns-else-have_four_at_most-clause-written g c = λ style s last spelled carry few.
    let block = c.args.block in
    let ps = block_pixels block.words in
    let sixteen = block_sixteen block.words block.packed in
    c.store_each.ensures.written (λ k. omega (arith, few k, c.requires.channels))
    ∙ ap (λ z. take c.args.at c.args.out.now ++ z) (block_is style s ps c.args.x block.planes c.join_lanes-chunks.result sixteen last block.planes_are spelled carry c.join_lanes-chunks.ensures)
