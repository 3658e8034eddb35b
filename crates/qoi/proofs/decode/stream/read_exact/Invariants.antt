-- What was taken stands at the front of the buffer, and all in it are bytes.
use Rattle.std.proofs.Common.{◌+◌, ◌-◌, ◌*◌, ◌≤◌, length, take, min}
use Rattle.std.specs.Io.KnownBytes.{Consumes}
use Rattle.qoi.specs.Qoi.{AreBytes}
use Rattle.qoi.proofs.decode.stream.read_exact.Given as goal

abbrev pub invariant-loop-filled : goal.invariant-loop-filled
invariant-loop-filled g l =
    (l.filled ≤ length l.buf) × Consumes (g.R.Read.remaining l.fn.reader) (g.R.Read.remaining l.reader) (take l.filled l.buf) × AreBytes l.buf

abbrev pub decreases-loop-filled : goal.decreases-loop-filled
decreases-loop-filled g l = 2 * (length l.buf - l.filled) + min 1 l.count
