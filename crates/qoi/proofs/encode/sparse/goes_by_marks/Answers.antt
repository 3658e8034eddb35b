-- Fewer bytes are fewer pixels.
use Rattle.std.proofs.Common.{◌*◌, ◌<◌, ◌≡◌, length, arith}
use Rattle.std.proofs.lemmas.Bool.{ltb-true}
use Rattle.qoi.specs.inner.Coder.{pixels_in}
use Rattle.qoi.proofs.encoding.coder.PixelsIn.{byte_count}
use Rattle.qoi.proofs.format.WholePixels.{by_channels}
use Rattle.qoi.proofs.encode.sparse.goes_by_marks.Goals as goal

pub returns-then-joins-clause-later : goal.returns-then-joins-clause-later
returns-then-joins-clause-later g c = λ yes.
    let raw = c.args.pixels.rest in
    let other = c.args.pixels.whole in
    let few = ltb-true (length raw.bytes.now) (length other.bytes.now) yes in
    by_channels (λ n. length raw.bytes.now ≡ n * length (pixels_in raw) → length other.bytes.now ≡ n * length (pixels_in other) → length (pixels_in raw) < length (pixels_in other))
    raw.channels (λ d e. omega (arith, d, e, few)) (λ d e. omega (arith, d, e, few))
    (byte_count g.row.N raw.bytes.now raw.channels raw.whole) (byte_count g.row.N other.bytes.now other.channels other.whole)
