-- The pixels of the positions so far stand there.
use Rattle.std.proofs.Common.{◌≡◌, ◌<◌, ℕ, length, get_or}
use Rattle.qoi.specs.Qoi.{Past, blank, seen}
use Rattle.qoi.specs.inner.Hashed.{HoldsSeen}
use Rattle.qoi.proofs.decode.pixel_reader.seek_point.pixels_of.Given as goal

abbrev pub invariant-loop-i : goal.invariant-loop-i
invariant-loop-i l = record {
  size : length l.pixels ≡ 64;
  held : (past : Past) → HoldsSeen l.table past → (k : ℕ) → k < l.i → get_or l.pixels k blank ≡ seen past k;
}
