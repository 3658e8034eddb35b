-- The lanes that are picked.
use Rattle.qoi.proofs.encoding.lanes.WordPlanes.{halves_are}
use Rattle.qoi.proofs.encode.block.planes.both_halves.Goals as goal

pub returns : goal.returns
returns c = halves_are c.args.v c.args.w c.fits-v.0 c.fits-w.0
