-- All bytes that are left are the rest of the image.
use Rattle.std.proofs.Common.{[], ◌++◌, Some, arith, refl, subst}
use Rattle.std.proofs.lemmas.Result.{on_ok_weaker}
use Rattle.qoi.specs.Images.{front_image}
use Rattle.qoi.specs.pieces.Copying.{Copies, Takes}
use Rattle.qoi.proofs.Copied.{decoded_all, rest_is}
use Rattle.qoi.proofs.decode.pixel_reader.PixelReader.copy_to.Goals as goal

pub returns-clause-copies : goal.returns-clause-copies
returns-clause-copies g c =
    subst (λ n. Copies g.R.Reader.in_memory g.R.Reader.ahead g.W.Write.contents n c.args.self.now c.copy_bytes.new.self c.args.writer.now c.copy_bytes.new.writer c.copy_bytes.result)
    c.left-left.ensures.left c.copy_bytes.ensures

pub returns-clause-decoded : goal.returns-clause-decoded
returns-clause-decoded g c d start given h =
    on_ok_weaker c.copy_bytes.result
    (λ x. (x.more, decoded_all d start _ (given ++ x.more) c.copy_bytes.new.self (x.given d start given h) (omega (arith, x.left, c.left-left.ensures.left))))
    c.copy_bytes.ensures.copied

pub returns-clause-rest : goal.returns-clause-rest
returns-clause-rest g c d bytes given h more image =
    on_ok_weaker c.copy_bytes.result
    (λ x. subst (λ z. Takes g.W.Write.contents z c.args.writer.now c.copy_bytes.new.writer)
    (rest_is d _ bytes given x.more more c.copy_bytes.new.self (x.given d (Some bytes) given h) (omega (arith, x.left, c.left-left.ensures.left)) image) x.taken)
    c.copy_bytes.ensures.copied

pub returns-clause-image : goal.returns-clause-image
returns-clause-image g c d bytes e before h t =
    on_ok_weaker c.copy_bytes.result (λ k. k e before t) (returns-clause-rest g c d bytes [] h (front_image d.channels d.header bytes) refl)

pub returns-clause-copied : goal.returns-clause-copied
returns-clause-copied g c =
    on_ok_weaker c.copy_bytes.result
    (λ x. (
      x.more,
      x.taken,
      (λ d bytes h. rest_is d _ bytes [] x.more (front_image d.channels d.header bytes) c.copy_bytes.new.self (x.given d (Some bytes) [] h)
          (omega (arith, x.left, c.left-left.ensures.left)) refl),
      x.given,
    ))
    c.copy_bytes.ensures.copied
