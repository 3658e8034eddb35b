-- Four times four chunks.
use Rattle.std.proofs.Common.{◌≡◌, ◌+◌, List, [], ◌∷◌, ◌++◌, take, refl, sym, ap, ◌∙◌, arith, map}
use Rattle.qoi.specs.inner.Packed.{pixel_of_word}
use Rattle.qoi.specs.Qoi.{RgbaPixel}
use Rattle.qoi.specs.inner.block.Storing.{rgba_bytes}
use Rattle.qoi.proofs.encoding.stores.StoredParts.{four_stored}
use Rattle.qoi.proofs.encode.block.storing.rgba.store_rgba.Goals as goal

-- the chunks of pixels after others
after : (ps qs : List RgbaPixel) → rgba_bytes (ps ++ qs) ≡ rgba_bytes ps ++ rgba_bytes qs
after [] qs = refl
after (p ∷ ps) qs = ap (λ z. 255 ∷ p.r ∷ p.g ∷ p.b ∷ p.a ∷ z) (after ps qs)

pub returns-clause-written : goal.returns-clause-written
returns-clause-written c =
    let at = c.args.at in
    let w = c.args.pixels in
    let one = map pixel_of_word w.one in
    let two = map pixel_of_word w.two in
    let three = map pixel_of_word w.three in
    let four = map pixel_of_word w.four in
    four_stored at (at + 20) (at + 40) (at + 60) (at + 80)
    c.args.out.now c.store_four_rgba.new.out c.store_four_rgba-2.new.out c.store_four_rgba-3.new.out c.store_four_rgba-4.new.out _ _ _ _
    c.store_four_rgba.ensures.written (ap (λ n. take n c.store_four_rgba-2.new.out) (omega arith) ∙ c.store_four_rgba-2.ensures.written)
    (ap (λ n. take n c.store_four_rgba-3.new.out) (omega arith) ∙ c.store_four_rgba-3.ensures.written)
    (ap (λ n. take n c.store_four_rgba-4.new.out) (omega arith) ∙ c.store_four_rgba-4.ensures.written)
    ∙ ap (λ z. take at c.args.out.now ++ z)
    (sym (after one (two ++ (three ++ four)) ∙ ap (λ z. rgba_bytes one ++ z) (after two (three ++ four) ∙ ap (λ z. rgba_bytes two ++ z) (after three four))))
