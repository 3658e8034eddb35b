-- Bytes that are read as a header are its own.
use Rattle.std.proofs.Common.{rules, ◌≡◌, arith}
use Rattle.qoi.specs.Qoi.{header_of}
use Rattle.qoi.proofs.format.HeaderBytes.{own_header}
use Rattle.qoi.proofs.header.Header.decode.Goals as goal

pub returns-clause-own : goal.returns-clause-own
returns-clause-own c =
    let read : c.try_new.result ≡ header_of c.args.bytes.now = search rules in
    own_header c.args.bytes.now c.try_new.result (λ i. omega (arith, c.type_inv.bytes i)) read
