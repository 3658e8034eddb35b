-- Some of the pixels are written: those of one group.
use Rattle.std.proofs.Common.{refl}
use Rattle.qoi.proofs.encoding.coder.CoderLink.{in_style}
use Rattle.qoi.proofs.encoding.piece.ImagePieces.{fills}
use Rattle.qoi.proofs.encode.blocks.write_one_group.Goals as goal

pub returns : goal.returns
returns g c =
    let group = c.write_next_group-rest in
    let coder = c.new-coder.ensures in
    fills c.args.state.now c.args.piece c.args.raw.bytes.now c.args.raw (group.new.piece, group.result.bytes) c.requires.channels refl refl (record {
      opaque = group.new.self.opaque;
      whole = group.result.whole;
      less = group.ensures.less;
      on = λ unsent more b. in_style group.ensures.written coder.style coder.last more b;
    })
