-- The header's bytes are the front of all.
use Rattle.std.proofs.Common.{List, ℕ, Some, refl, subst}
use Rattle.qoi.specs.Decoding.{TakesHeader}
use Rattle.qoi.specs.DecoderState.{DecoderState}
use Rattle.qoi.proofs.decoding.Promised.{has_header}
use Rattle.qoi.proofs.decode.Decoder+Bytes.new.Goals as goal

pub returns-clause-accepted : goal.returns-clause-accepted
returns-clause-accepted c =
    let left = c.decode_header.new.self in
    let h = c.in_ok-header.header in
    let d : DecoderState (List ℕ) = record { reader = left; header = h; channels = h.channels } in
    has_header d (Some c.args.data.now) (Some left)
    (subst (λ (z : List ℕ). TakesHeader (Some z) (Some left) h) c.new-reader.ensures c.in_ok-header.ensures) refl
