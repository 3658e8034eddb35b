-- What was written is the one file of the image.
use Rattle.std.proofs.Common.{rules, arith}
use Rattle.qoi.proofs.encoding.piece.BufferFilled.{image_put}
use Rattle.qoi.proofs.encode.Encoder.encode_to_buf.Goals as goal

pub returns-clause-encoded : goal.returns-clause-encoded
returns-clause-encoded c =
    image_put c.args.self.now c.new-writer.result c.write_image.new.writer _ _ c.write_image.result c.new-writer.ensures.written c.new-writer.ensures.left
    (omega (arith, c.if-buf-required.false, c.required_buf_len-required.ensures)) (λ same. search rules) c.write_image.ensures

pub returns-then-self-lt-LEAST_BLOCK-clause-encoded : goal.returns-then-self-lt-LEAST_BLOCK-clause-encoded
returns-then-self-lt-LEAST_BLOCK-clause-encoded c =
    image_put c.args.self.now c.new-writer.result c.encode_in_one_piece.new.writer _ _ c.encode_in_one_piece.result c.new-writer.ensures.written c.new-writer.ensures.left
    (omega (arith, c.if-buf-required.false, c.required_buf_len-required.ensures)) (λ same. search rules) c.encode_in_one_piece.ensures

pub returns-then-required-le-TINY_FILE-clause-encoded : goal.returns-then-required-le-TINY_FILE-clause-encoded
returns-then-required-le-TINY_FILE-clause-encoded c =
    image_put c.args.self.now c.new-writer.result c.encode_in_one_piece-then-required-le-TINY_FILE.new.writer _ _ c.encode_in_one_piece-then-required-le-TINY_FILE.result c.new-writer.ensures.written c.new-writer.ensures.left
    (omega (arith, c.if-buf-required.false, c.required_buf_len-required.ensures)) (λ same. search rules) c.encode_in_one_piece-then-required-le-TINY_FILE.ensures
