-- So many pixels have so many bytes.
use Rattle.std.proofs.Common.{◌≡◌, length, drop, sym, ap, ◌∙◌, arith}
use Rattle.std.proofs.lemmas.List.{length-drop}
use Rattle.qoi.specs.inner.Coder.{pixels_in}
use Rattle.qoi.specs.Raw.{pixels_of}
use Rattle.qoi.proofs.encoding.lists.GroupRuns.{pixels_drop}
use Rattle.qoi.proofs.encoding.coder.PixelsIn.{bytes_within}
use Rattle.qoi.proofs.encode.pixels.Pixels.skip.Goals as goal

pub returns : goal.returns
returns g c =
    let raw = c.args.self in
    let k = c.args.count in
    let inside = bytes_within g.row.N k raw.bytes.now raw.channels raw.whole c.requires in
    let rest : pixels_of g.row.N c.skip.result.now ≡ drop k (pixels_in raw) = ap (pixels_of g.row.N) c.skip.ensures ∙ sym (pixels_drop g.row.N k raw.bytes.now raw.channels inside) in
    record { rest = rest; size = omega (arith, ap length rest, length-drop k (pixels_in raw), c.requires) }
