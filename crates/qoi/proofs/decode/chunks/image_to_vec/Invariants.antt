-- The vector holds what was decoded so far, and has room ahead.
use Rattle.std.proofs.Common.{◌≡◌, ◌-◌, ◌%◌, ◌+◌, ◌≤◌, vec_len, vec_capacity}
use Rattle.qoi.proofs.decoding.Grown.{Growing}
use Rattle.qoi.proofs.decode.chunks.image_to_vec.Given as goal

abbrev pub invariant-loop-out : goal.invariant-loop-out
invariant-loop-out g l = record {
  whole : vec_len l.out % g.row.N ≡ 0;
  fits : vec_len l.out ≤ l.fn.size;
  room : l.fn.size ≤ vec_capacity l.out;
  within : l.now.at ≤ vec_len l.out;
  filled : vec_len l.out ≤ l.now.at + 256;
  growing : Growing g.row.F g.row.N (g.R.Chunks.ahead l.initial.reader) (g.R.Chunks.ahead l.reader) l.table l.now l.out.items;
}

abbrev pub decreases-loop-out : goal.decreases-loop-out
decreases-loop-out g l = l.fn.size - vec_len l.out
