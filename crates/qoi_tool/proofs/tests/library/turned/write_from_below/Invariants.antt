-- The writer took i rows, from the last one up.
use Rattle.std.proofs.Common.{◌≡◌, length}
use Rattle.qoi.specs.declared.types.Style.TheVariants.{Reference}
use Rattle.qoi.specs.Images.{file_image}
use Rattle.qoi.specs.pieces.PixelWriter.{HasTaken}
use Rattle.qoi.specs.pieces.RowIndex.{row_size}
use Rattle.qoi_tool.specs.Pictures.{from_below}
use Rattle.qoi_tool.proofs.tests.library.turned.write_from_below.Given as goal

abbrev pub invariant-loop-i : goal.invariant-loop-i
invariant-loop-i g l = record {
  row : length l.row ≡ row_size l.fn.header.channels l.fn.header;
  taken : HasTaken g.W.Write.contents (record { raw = from_below (row_size l.fn.header.channels l.fn.header) l.fn.header.height (file_image l.file) l.i; header = l.fn.header; style = Reference }) (g.W.Write.contents l.fn.out) l.writer;
}
