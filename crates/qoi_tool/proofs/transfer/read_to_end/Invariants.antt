-- What was read stands at the front of the vector.
use Rattle.std.proofs.Common.{◌-◌, ◌^◌, ◌≤◌, take, vec_len}
use Rattle.std.specs.Io.KnownBytes.{Consumes}
use Rattle.qoi_tool.proofs.transfer.read_to_end.Given as goal

abbrev pub invariant-loop-filled : goal.invariant-loop-filled
invariant-loop-filled g l =
    (l.filled ≤ vec_len l.bytes) × Consumes (g.R.Read.remaining l.initial.input) (g.R.Read.remaining l.input) (take l.filled l.bytes.items)

abbrev pub decreases-loop-filled : goal.decreases-loop-filled
decreases-loop-filled g l = 2 ^ 64 - l.filled
