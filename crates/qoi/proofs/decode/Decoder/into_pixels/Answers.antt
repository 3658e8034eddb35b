-- Nothing was given yet.
use Rattle.std.proofs.Common.{refl, arith, ◌∙◌, [], mul_comm}
use Rattle.qoi.specs.Qoi.{channels_number, pixel_count}
use Rattle.qoi.specs.pieces.PixelReader.{HasGiven, HasRows}
use Rattle.qoi.proofs.decoding.ImageSize.{channels_are}
use Rattle.qoi.proofs.decoding.PixelPieces.{has_given}
use Rattle.qoi.proofs.decode.Decoder.into_pixels.Goals as goal

pub returns-clause-start : goal.returns-clause-start
returns-clause-start g c =
    let d = c.args.self in
    let n = pixel_count d.header in
    let k = channels_number d.channels in
    let size = c.required_buf_len-size.ensures in
    has_given d _ _ _ _ (c.new.ensures.start (channels_number d.header.channels) k n _ (channels_are d.channels k refl) (size.bytes ∙ mul_comm n k)) (c.new.ensures.pixels k n (channels_are d.channels k refl) (size.bytes ∙ mul_comm n k)) refl refl refl (omega (arith, size.bytes, size.some))

pub returns-clause-fresh : goal.returns-clause-fresh
returns-clause-fresh = returns-clause-start

pub returns-clause-rows : goal.returns-clause-rows
unfolding HasRows
returns-clause-rows g c stride = ([], omega arith, returns-clause-start g c)

pub returns-clause-top : goal.returns-clause-top
returns-clause-top g c = returns-clause-rows g c _

pub returns-clause-left : goal.returns-clause-left
unfolding HasGiven
returns-clause-left g c = omega (arith, (returns-clause-start g c).left)
