-- `header_of` says of the fourteen bytes at the front what it says of all bytes.
use Rattle.std.proofs.Common.{◌≡◌, ◌-◌, Ok, ◌++◌, length, take, drop, sym, ap, ◌∙◌, take-append-drop, length-drop}
use Rattle.qoi.proofs.format.WholePixels.{take_whole}
use Rattle.qoi.specs.Qoi.{header_of}
use Rattle.qoi.proofs.format.HeaderBytes.{header_front}
use Rattle.qoi.proofs.decode.reader.BytesReader.decode_header.Goals as goal

pub returns : goal.returns
returns c =
    let bytes = c.self.inside.0.now in
    let read : header_of bytes ≡ Ok c.in_ok-header.header = sym c.decode.ensures.read ∙ c.in_ok-header.was in
    let front = header_front bytes c.in_ok-header.header read in
    let rest : take (length bytes - 14) (drop 14 bytes) ≡ drop 14 bytes = take_whole (length bytes - 14) (drop 14 bytes) (length-drop 14 bytes) in (
      take 14 bytes,
      sym c.self.view_is ∙ sym (take-append-drop 14 bytes)
          ∙ ap (λ z. take 14 bytes ++ z) (sym rest),
      front.0,
      front.1,
      c.in_ok-header.ensures.own.0,
      c.in_ok-header.ensures.own.1,
    )
