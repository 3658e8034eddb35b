-- The pieces go one after the other, until one is refused.
use Rattle.std.proofs.Common.{◌≡◌, ◌+◌, ◌<◌, ◌++◌, length, min, Some, arith, refl, subst}
use Rattle.std.specs.Io.KnownBytes.{Appends}
use Rattle.qoi.specs.pieces.Copying.{CopiesRaw}
use Rattle.qoi.specs.pieces.PixelReader.{unread_bytes}
use Rattle.qoi.proofs.Copied.{decoded_all, done, raw_copies_more, raw_copies_none, rest_is}
use Rattle.qoi.proofs.decoding.Refusals.{handed_as}
use Rattle.qoi.proofs.decode.pixel_reader.PixelReader.copy_raw_to.Goals as goal

pub loop-buf-init : goal.loop-buf-init
loop-buf-init g c = record { n = 0; copies = raw_copies_none }

pub loop-buf-preserved : goal.loop-buf-preserved
loop-buf-preserved g c =
    let i = c.loop-buf.invariant in
    let size = min (length c.loop-buf.buf) (unread_bytes c.loop-buf.self) in
    let some : 0 < size = omega arith in
    record { n = i.n + size; copies = raw_copies_more _ i.copies some (omega (arith, some)) refl c.in_ok-copy_raw_piece.ensures }

pub returns-in_err-copy_raw_piece-clause-copies : goal.returns-in_err-copy_raw_piece-clause-copies
returns-in_err-copy_raw_piece-clause-copies g c =
    let i = c.loop-buf.invariant in
    let some : 0 < min (length c.loop-buf.buf) (unread_bytes c.loop-buf.self) = omega arith in
    rw (handed_as _ c.from_residual.ensures.1 refl) (raw_copies_more _ i.copies some (omega (arith, some, i.copies.copied.left)) tt c.in_err-copy_raw_piece.ensures)

pub returns-clause-copies : goal.returns-clause-copies
returns-clause-copies g c =
    let i = c.loop-buf.invariant in
    subst (λ n. CopiesRaw g.R.Reader.in_memory g.R.Reader.ahead g.W.Write.contents n c.args.self.now c.loop-buf.self c.args.out.now c.loop-buf.out done)
    (omega (arith, i.copies.copied.left, c.left.ensures.left, c.loop-buf-test.false)) i.copies

pub returns-clause-decoded : goal.returns-clause-decoded
returns-clause-decoded g c d start given h =
    let x = c.loop-buf.invariant.copies.copied in
    (x.more, decoded_all d start _ (given ++ x.more) c.loop-buf.self (x.given d start given h) (omega (arith, c.left.ensures.left, c.loop-buf-test.false)))

pub returns-clause-rest : goal.returns-clause-rest
returns-clause-rest g c d bytes given h more image =
    let x = c.loop-buf.invariant.copies.copied in
    let none : unread_bytes c.loop-buf.self ≡ 0 = omega (arith, c.left.ensures.left, c.loop-buf-test.false) in
    subst (Appends (g.W.Write.contents c.args.out.now) (g.W.Write.contents c.loop-buf.out))
    (rest_is d _ bytes given x.more more c.loop-buf.self (x.given d (Some bytes) given h) none image) x.written
