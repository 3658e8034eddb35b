-- The reader is one of the file's image, at a row, and each row so far has its point.
use Rattle.std.proofs.Common.{◌≡◌, ◌≤◌, ◌<◌, ◌*◌, ◌-◌, ◌+◌, ℕ, length, slice_index_or}
use Rattle.qoi.specs.Qoi.{pixel_count}
use Rattle.qoi.specs.pieces.PixelReader.{unread_bytes}
use Rattle.qoi.specs.pieces.RowIndex.{row_size, PointState, ArePoints, IsPointAt, ReadsFile}
use Rattle.qoi.proofs.decode.pixel_reader.row_index.RowIndex.new.Given as goal

abbrev pub invariant-loop-k : goal.invariant-loop-k
invariant-loop-k l = record {
  reads : ReadsFile l.header.channels l.header l.file l.reader;
  are : ArePoints (pixel_count l.header) l.file l.points.items;
  count : length l.points.items ≡ l.k;
  rows : (k : ℕ) (m : PointState) → k < length l.points.items → IsPointAt l.header (l.apart * (k + 1)) (slice_index_or l.points.items k m);
  left : row_size l.header.channels l.header * (l.header.height - l.apart * l.k) ≤ unread_bytes l.reader;
}
