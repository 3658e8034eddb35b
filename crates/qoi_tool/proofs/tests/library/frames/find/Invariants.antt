-- The frames in front of `end` were found.
use Rattle.std.proofs.Common.{ℕ, ◌≤◌, ◌-◌, List, length, take}
use Rattle.qoi.specs.Tiles.{AreFrames}
use Rattle.qoi_tool.proofs.tests.library.frames.find.Given as goal

abbrev pub invariant-loop-offsets : goal.invariant-loop-offsets
invariant-loop-offsets l = record {
  images : List (List ℕ);
  frames : AreFrames (take l.end l.bytes) l.offsets.items images;
  within : l.end ≤ length l.bytes;
}

abbrev pub decreases-loop-offsets : goal.decreases-loop-offsets
decreases-loop-offsets l = length l.bytes - l.end
