-- Four pixels at a time.
use Rattle.std.proofs.Common.{◌∙◌, ◌≡◌, ℕ, zero, suc, List, [], ◌∷◌, length, map, replicate, refl, arith}
use Rattle.qoi.specs.Qoi.{RgbaPixel}
use Rattle.qoi.specs.Raw.{AreOpaque}
use Rattle.qoi.proofs.encoding.lanes.WordPlanes.{sixteen_planes}
use Rattle.qoi.proofs.encode.block.planes.make_planes.Goals as goal

-- their alpha plane is 255 throughout
alphas_opaque : (n : ℕ) (ps : List RgbaPixel) → length ps ≡ n → AreOpaque ps → map (λ (p : RgbaPixel). p.a) ps ≡ replicate n 255
alphas_opaque zero [] long opaque = refl
alphas_opaque (suc n) [] long opaque = absurd (omega arith)
alphas_opaque zero (p ∷ ps) long opaque = absurd (omega arith)
alphas_opaque (suc n) (p ∷ ps) long opaque =
    let rest = alphas_opaque n ps (omega arith) opaque.1 in
    λ i. opaque.0 i ∷ rest i

pub returns-clause-planes : goal.returns-clause-planes
returns-clause-planes g c = λ ps s are opaque.
    let planes = sixteen_planes ps c.by_channel.result c.by_channel-2.result c.by_channel-3.result c.by_channel-4.result s
    (c.by_channel.ensures.channels _ are.one_are) (c.by_channel-2.ensures.channels _ are.two_are) (c.by_channel-3.ensures.channels _ are.three_are)
    (c.by_channel-4.ensures.channels _ are.four_are) in
    let a = c.both_halves-2.ensures.1 ∙ planes.a_is in
    record {
      r_is = c.both_halves.ensures.0 ∙ planes.r_is;
      g_is = c.both_halves.ensures.1 ∙ planes.g_is;
      b_is = c.both_halves-2.ensures.0 ∙ planes.b_is;
      a_is = c.known_alpha.ensures.all (λ three. a ∙ alphas_opaque 16 ps s.long (opaque three)) ∙ a;
    }
