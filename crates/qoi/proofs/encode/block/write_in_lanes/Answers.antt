-- The repeats before the block, if a fresh pixel follows them, and the block's chunks.
use Rattle.std.proofs.Common.{◌≡◌, ◌≢◌, [], inl, inr, Some, ℕ, ◌+◌, ◌-◌, ◌≤◌, List, ◌++◌, map, ◌<◌, length, take, slice_index, arith, refl, sym, ap, ◌∙◌, subst, append_assoc, length-append, drop, zero, suc, ◌%◌, Bool, true, ◌∷◌, bit_and}
use Rattle.std.proofs.lemmas.List.{take-take, drop-drop}
use Rattle.std.specs.List.{slice_get}
use Rattle.std.proofs.lemmas.Bool.{eq-eqb}
use Rattle.qoi.specs.Qoi.{RgbaPixel, IsPixel, hash, Past}
use Rattle.qoi.specs.Raw.{IsChannels, AreOpaque}
use Rattle.qoi.specs.Styles.{Places, names, style_in}
use Rattle.qoi.specs.inner.block.Lanes.{State, group_bytes, lanes_of, mask, step_of, same_alpha, size_of, lane_of, is_rep, goes_on}
use Rattle.qoi.specs.inner.block.Vectors.{sizes}
use Rattle.qoi.specs.inner.Coder.{put_in}
use Rattle.qoi.specs.inner.block.Planes.{block_pixels, last_pixel}
use Rattle.qoi.specs.inner.block.Positions.{stand_tests}
use Rattle.qoi.proofs.encoding.blocks.BlockStep.{ready, block_step}
use Rattle.qoi.proofs.encoding.blocks.BlockWritten.{Carrying}
use Rattle.qoi.proofs.encoding.coder.CoderLink.{first_more}
use Rattle.qoi.proofs.encoding.blocks.PackedBlock.{block_sixteen, block_words}
use Rattle.qoi.proofs.encoding.stores.StoredBlock.{sizes_few}
use Rattle.qoi.proofs.format.SamePixels.{hash_below}
use Rattle.qoi.proofs.encoding.lanes.LaneChunk.{parts_of}
use Rattle.qoi.proofs.encode.block.write_in_lanes.Goals as goal

-- index positions are below 64
hashes_below : (ps : List RgbaPixel) (k : ℕ) → slice_index (map hash ps) k < 64
hashes_below [] k = omega arith
hashes_below (p ∷ ps) zero = hash_below p
hashes_below (p ∷ ps) (suc k) = hashes_below ps k

-- a chunk that keeps alpha has at most four bytes
keep_size : (n : ℕ) (r g : Bool) → 0 < n → n ≤ 4 → (n + bit_and (mask r) (mask g)) % 256 ≤ 4
keep_size n r g some few = grind arith

-- each of them
sizes_opaque : (held : Past) (q : RgbaPixel) (ps : List RgbaPixel) → q.a ≡ 255 → AreOpaque ps → (k : ℕ) → slice_index (sizes (lanes_of held q ps)) k ≤ 4
sizes_opaque held q [] e opaque k = omega arith
sizes_opaque held q (p ∷ ps) e opaque zero =
    let l = lane_of held q p in
    let same : same_alpha l ≡ true = eq-eqb (step_of l).a 0 (let a = opaque.0 in omega arith) in
    keep_size (size_of l) (is_rep l) (goes_on (lanes_of (p ∷ held) p ps)) (parts_of l).some ((parts_of l).short same)
sizes_opaque held q (p ∷ ps) e opaque (suc k) = sizes_opaque (p ∷ held) p ps opaque.0 opaque.1 k

-- they stay when a byte before them is stored
end_stays : (room at : ℕ) (out new v : List ℕ) → at + 16 < room → drop (at + 1) new ≡ drop (at + 1) out
    → drop (room - 16) out ≡ v → drop (room - 16) new ≡ v
end_stays room at out new v few later is =
    let more = (room - 16) - (at + 1) in
    let sum : room - 16 ≡ (at + 1) + more = omega arith in
    ap (λ n. drop n new) sum ∙ sym (drop-drop more (at + 1) new) ∙ ap (drop more) later ∙ drop-drop more (at + 1) out ∙ ap (λ n. drop n out) (sym sum) ∙ is

-- a chunk has at most as many bytes as a pixel has channels, and one more
sizes_in : (n : ℕ) (s : State) (q : RgbaPixel) (ps : List RgbaPixel) (xs : List ℕ) → IsChannels n → (n ≡ 3 → AreOpaque ps) → (n ≡ 3 → q.a ≡ 255)
    → xs ≡ sizes (lanes_of s.held q ps) → (k : ℕ) → slice_index xs k ≤ n + 1
sizes_in n s q ps xs (inl three) opaque last e k = omega (arith, sizes_opaque s.held q ps (last three) (opaque three) k, ap (λ z. slice_index z k) e)
sizes_in n s q ps xs (inr four) opaque last e k = omega (arith, sizes_few (lanes_of s.held q ps) k, ap (λ z. slice_index z k) e)

pub read_indices-read-requires-clause-stored : goal.read_indices-read-requires-clause-stored
read_indices-read-requires-clause-stored g c = λ no.
    end_stays g.row.ROOM c.args.piece.piece.end c.store_indices.new.out c.store_run.new.out c.index_positions-indices.result
    (omega (arith, c.args.piece.not_full)) c.store_run.ensures.later (c.store_indices.ensures.lanes no)

pub put_block-stands-requires-clause-below : goal.put_block-stands-requires-clause-below
put_block-stands-requires-clause-below g c = λ k lt.
    let w = c.args.block.words in
    let at = c.index_positions-indices.ensures (block_pixels w) (block_sixteen w c.args.block.packed) c.args.block.planes_are in
    omega (arith, hashes_below (block_pixels w) k, ap (λ z. slice_index z k) (c.read_indices-read.ensures ∙ at))

pub returns : goal.returns
returns g c = λ unsent n rest more fits b.
    let style = style_in g.row.STYLE c.args.block.told_style in
    let carry = c.args.carry in
    let now = b.between in
    let q = last_pixel carry.before in
    let s : State = record { held = put_in style now.past; last = q; carry = carry.count; named = names now.before (hash q) } in
    let words = c.args.block.words in
    let all : List RgbaPixel = block_pixels words in
    let sixteen = block_sixteen words c.args.block.packed in
    let planes = c.args.block.planes_are in
    let later = rest ++ more in
    let assoc : (all ++ rest) ++ more ≡ all ++ later = append_assoc all rest more in
    let some : all ++ rest ≢ [] = λ none. omega (arith, ap length none, length-append all rest, sixteen.long) in
    let first : slice_get (all ++ later) 0 ≡ slice_get (all ++ rest) 0 = ap (λ x. slice_get x 0) (sym assoc) ∙ first_more (all ++ rest) more some in
    let q_is = b.is.px_is ∙ now.state.last_is in
    let last : IsPixel q = subst IsPixel (sym q_is) now.to_write.before_is in
    let start : Carrying b.last.begun style unsent s (all ++ later) (take c.args.piece.piece.end c.args.piece.piece.bytes.now) = record {
      past = now.past;
      before = now.before;
      to_write = rw (b.is.count_is, ← assoc) now.to_write;
      last_is = sym q_is;
      begun_is = sym now.state.begun_is;
      opens = λ no. (b.is.count_is ∙ (b.goes.opens no).0, λ e. (b.goes.opens no).1 (sym first ∙ e ∙ ap Some b.is.px_is));
      held_is = λ _. refl;
      named_is = refl;
    } in
    let end = c.args.piece.piece.end in
    let low : end ≤ g.row.ROOM - 16 = omega (arith, c.args.piece.not_full) in
    let front : take end c.store_indices.new.out ≡ take end c.args.piece.piece.bytes.now =
    sym (take-take end (g.row.ROOM - 16) c.store_indices.new.out low) ∙ ap (take end) c.store_indices.ensures.front ∙ take-take end (g.row.ROOM - 16) c.args.piece.piece.bytes.now low in
    let at : c.index_positions-indices.result ≡ map hash all = c.index_positions-indices.ensures all sixteen planes in
    let put = c.put_block-stands.ensures s.held all now.state.table_is sixteen (block_words words c.args.block.packed) (c.read_indices-read.ensures ∙ at) in
    let run : 0 < carry.count → take (end + 1) c.store_run.new.out ≡ take end c.store_indices.new.out ++ group_bytes style carry.named q carry.count =
    λ some. rw c.style_in-style.ensures at (c.store_run.ensures.run some) in
    let placed : style ≡ Places → s.named ≡ carry.named = λ is. ap (λ p. names now.before (hash p)) q_is ∙ sym (b.is.named_is ∙ now.state.named_is is) in
    let spelled = c.spell-x.ensures s (fits.changes s.held) refl placed
    (record { sixteen = sixteen; last_is = last; red_is = planes.r_is; stands_are = put.stands_are; indices_are = at }) in
    let x = c.spell-x.result in
    let ready_now = ready style unsent s all later x carry.named end (end + c.from.result) _ c.store_run.new.out c.args.carry.few
    (λ e. omega (arith, b.is.count_is, b.goes.few (sym first ∙ e ∙ ap Some b.is.px_is))) start spelled sixteen placed (c.store_run.ensures.front ∙ front)
    (λ some. run some ∙ ap (λ z. z ++ group_bytes style carry.named q carry.count) front) (ap (λ n. end + n) c.from.ensures) in
    block_step style unsent n s rest more all x c.args.block.planes c.put_block-stands.new.table c.carry.result _ _ sixteen fits.mixed planes ready_now put.holds
    (λ tight. fits.no_blank tight s.held now.state.table_is)
    c.carry.ensures.before c.carry.ensures.count (λ is. c.carry.ensures.named (stand_tests s.held all) (c.style_in-style.ensures ∙ is) put.stands_are)
    (λ t same last_is few. c.store_sixteen-end.ensures.written style t (subst IsPixel (sym last_is) last) same (omega arith)
    (sizes_in g.row.N t t.last all x.size carry.channels c.requires (λ three. ap (λ z. z.a) last_is ∙ carry.opaque three) same.size_is))
