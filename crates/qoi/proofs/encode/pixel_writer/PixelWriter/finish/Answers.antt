-- The rest was refused.
use Rattle.std.proofs.Common.{◌≡◌, ◌-◌, length, inl, inr, sym, ap, ◌∙◌, subst, arith}
use Rattle.std.specs.Io.KnownBytes.{Appends}
use Rattle.qoi.specs.Encoded.{image_file}
use Rattle.qoi.specs.Qoi.{InvalidImageLength, Header}
use Rattle.qoi.specs.Raw.{image_byte_count}
use Rattle.qoi.specs.pieces.PixelWriter.{WriterState, HasTaken}
use Rattle.qoi.proofs.decoding.Refusals.{handed_on}
use Rattle.qoi.proofs.encode.pixel_writer.PixelWriter.finish.Goals as goal

pub returns-in_err-send_rest-clause-refused : goal.returns-in_err-send_rest-clause-refused
unfolding HasTaken
returns-in_err-send_rest-clause-refused g c = λ e before t.
    let error = c.in_err-send_rest.field-0.0 in
    let left = c.args.self.left in
    handed_on _ _ _ c.from_residual.ensures.1 (elim c.in_err-send_rest.ensures.missing [
      | inl fault ↦ inl (fault, omega (arith, t.size, (c.in_err-send_rest.ensures.part e before t fault).0))
      | inr few ↦ inr (
        subst (λ (h : Header). error ≡ InvalidImageLength (image_byte_count h - left) h.width h.height) t.header_is few.0
            ∙ ap (λ n. InvalidImageLength n e.header.width e.header.height)
            (let came : image_byte_count e.header - left ≡ length e.raw = omega (arith, t.size) in came),
        omega (arith, t.size, few.1),
      )
    ])

pub returns-clause-some : goal.returns-clause-some
unfolding HasTaken
returns-clause-some g c = λ e before t.
    let sends = (c.in_ok-send_rest.ensures.sent e before t).1 in
    record {
      raw = e.raw;
      valid = sends.file.is_file.valid;
      size = sends.file.is_file.size;
      are = t.are;
      sent = subst (λ (p : WriterState _). Appends before (g.W.Write.contents p.writer) (image_file e.style e.header e.raw)) (sym c.pixels.view_is)
          (subst (Appends before _) sends.is sends.sent);
    }
