-- What went is a beginning of the file, whatever raw bytes follow.
use Rattle.std.proofs.Common.{inl, inr, ◌++◌, sym, subst, arith, length-append}
use Rattle.qoi.specs.Qoi.{IsValid}
use Rattle.qoi.specs.pieces.PixelWriter.{and_raw, HasTaken, HasFailed}
use Rattle.qoi.proofs.FileOf.{file_of_image, sends_part}
use Rattle.qoi.proofs.decoding.StreamReads.{bytes_append}
use Rattle.qoi.proofs.encoding.piece.ImagePieces.{begins_appended}
use Rattle.qoi.proofs.encode.pixel_writer.PixelWriter.into_writer.Goals as goal

pub returns-clause-sends : goal.returns-clause-sends
unfolding HasTaken
returns-clause-sends g c = λ e before state.
    (let now = g.W.Write.contents c.self.inside.writer in
    elim state [
      | inl taken ↦ λ more size are.
          (let t = subst (HasTaken g.W.Write.contents e before) (sym c.self.view_is) taken in
          let b = t.writes more (omega (arith, size, length-append e.raw more, t.size)) are in
          let file = file_of_image e.style e.header (e.raw ++ more) (subst IsValid t.header_is c.self.invariant.0) size (bytes_append e.raw more t.are are) in
          sends_part (and_raw e more) _ before now file (begins_appended (_, b.went)))
      | inr f ↦ (subst (HasFailed g.W.Write.contents e before) (sym c.self.view_is) f).part
    ])
