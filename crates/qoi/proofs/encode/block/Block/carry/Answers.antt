-- If the block is opaque, so is its last pixel.
use Rattle.std.proofs.Common.{arith, ◌≡◌, ℕ, zero, suc, ◌<◌, List, [], ◌∷◌, length, map, slice_index, ap, ◌∙◌}
use Rattle.qoi.specs.Qoi.{RgbaPixel}
use Rattle.qoi.specs.Raw.{AreOpaque}
use Rattle.qoi.specs.inner.block.Planes.{Words, Planes, ArePacked, ArePlanes, block_pixels}
use Rattle.qoi.proofs.encoding.blocks.PackedBlock.{block_sixteen}
use Rattle.qoi.proofs.encode.block.Block.carry.Goals as goal

-- alpha of an opaque pixel among others
opaque_at : (ps : List RgbaPixel) (k : ℕ) → k < length ps → AreOpaque ps → slice_index (map (λ (p : RgbaPixel). p.a) ps) k ≡ 255
opaque_at [] k l o = absurd (omega arith)
opaque_at (p ∷ ps) zero l o = o.0
opaque_at (p ∷ ps) (suc k) l o = opaque_at ps k (omega arith) o.1

-- the last pixel of opaque ones is opaque
last_opaque : (w : Words) (x : Planes) → ArePacked w → ArePlanes (block_pixels w) x → AreOpaque (block_pixels w) → slice_index x.a 15 ≡ 255
last_opaque w x packed planes opaque =
    ap (λ z. slice_index z 15) planes.a_is ∙ opaque_at (block_pixels w) 15 (omega (arith, (block_sixteen w packed).long)) opaque

pub invariant_of-result : goal.invariant_of-result
invariant_of-result g c = record {
  channels = c.requires.channels;
  few = omega arith;
  opaque = λ three. last_opaque c.args.self.words c.args.self.planes c.args.self.packed c.args.self.planes_are (c.requires.opaque three);
}
