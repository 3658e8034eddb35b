-- The numbers of the positions so far are those of the pixels.
use Rattle.std.proofs.Common.{◌≡◌, ◌<◌, ℕ, get_or}
use Rattle.std.specs.List.{slice_index}
use Rattle.qoi.specs.Qoi.{blank}
use Rattle.qoi.specs.inner.Hashed.{pixel_of_lanes}
use Rattle.qoi.proofs.decode.pixel_reader.seek_point.table_of.Given as goal

abbrev pub invariant-loop-i : goal.invariant-loop-i
invariant-loop-i l = (k : ℕ) → k < l.i → pixel_of_lanes (slice_index l.table k) ≡ get_or l.pixels k blank
