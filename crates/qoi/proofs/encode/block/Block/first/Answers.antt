-- The planes of packed pixels, and the changes from those before.
use Rattle.qoi.specs.inner.block.Planes.{block_pixels}
use Rattle.qoi.proofs.encoding.blocks.PackedBlock.{block_sixteen, block_words}
use Rattle.qoi.proofs.encode.block.Block.first.Goals as goal

pub invariant_of-result : goal.invariant_of-result
invariant_of-result g c =
    let w = c.first_sixteen-words.result in
    let packed = c.make_planes-planes.ensures.packed in
    record {
      packed = packed;
      planes_are = c.make_planes-planes.ensures.planes (block_pixels w) (block_sixteen w packed) (block_words w packed) c.first_sixteen-words.ensures.opaque;
    }

pub returns-clause-changes : goal.returns-clause-changes
returns-clause-changes g c =
    let w = c.first_sixteen-words.result in
    let packed = c.make_planes-planes.ensures.packed in
    let planes = c.make_planes-planes.ensures.planes (block_pixels w) (block_sixteen w packed) (block_words w packed) c.first_sixteen-words.ensures.opaque in
    c.find_changes.ensures (block_pixels w) (block_sixteen w packed) planes
