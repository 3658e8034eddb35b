-- A number of bytes that is a multiple by three or four is that of these channels.
use Rattle.std.proofs.Common.{length, sym, arith}
use Rattle.qoi.specs.declared.types.Channels.TheVariants.{Rgb, Rgba}
use Rattle.qoi.specs.Qoi.{pixel_count}
use Rattle.qoi.proofs.format.HeaderBytes.{found_by}
use Rattle.qoi.proofs.encode.channels_found.Goals as goal

pub returns-then-size-n_pixels : goal.returns-then-size-n_pixels
returns-then-size-n_pixels c =
    let h = c.args.header.now in
    sym (found_by Rgb (length c.args.data.now) (pixel_count h) h.width h.height (omega (arith, c.if-size-n_pixels.true, c.n_pixels-n_pixels.ensures)) (omega (arith, c.requires.0)))

pub returns-then-size-n_pixels-2 : goal.returns-then-size-n_pixels-2
returns-then-size-n_pixels-2 c =
    let h = c.args.header.now in
    sym (found_by Rgba (length c.args.data.now) (pixel_count h) h.width h.height (omega (arith, c.if-size-n_pixels-2.true, c.n_pixels-n_pixels.ensures)) (omega (arith, c.requires.0)))
