-- What came is written or held.
use Rattle.std.proofs.Common.{rules, refl, sym, ◌∙◌, arith, append-nil}
use Rattle.std.proofs.KnownBytes.{Appends-trans}
use Rattle.qoi.specs.inner.Coder.{kept_bytes}
use Rattle.qoi.proofs.encoding.piece.BytesUnsent.{then_on, then_breaks, stands, sent_on, sent_part}
use Rattle.qoi.proofs.encoding.piece.StreamSent.{on_sent_to, off_sent_to}
use Rattle.qoi.proofs.decoding.Refusals.{handed_on}
use Rattle.qoi.proofs.encode.pixel_writer.sending.take_raw.Goals as goal

pub returns-in_err-rest-clause-written : goal.returns-in_err-rest-clause-written
returns-in_err-rest-clause-written g c =
    let r = c.in_err-rest.ensures.written in
    handed_on _ _ _ c.from_residual.ensures.1
    (r.0, then_breaks Appends-trans c.loop-writer.invariant.written (off_sent_to g.W.Write.contents c.new-stream.ensures.value (λ same. search rules) r.1))

pub loop-writer-preserved : goal.loop-writer-preserved
loop-writer-preserved g c =
    let step = c.in_ok-rest.ensures in
    let before = c.loop-writer.invariant in
    record {
      most = omega (arith, step.less, before.most);
      stays = (c.write_held_or_raw.ensures.stays.0 ∙ before.stays.0, c.write_held_or_raw.ensures.stays.1 ∙ before.stays.1);
      written = then_on Appends-trans before.written (on_sent_to g.W.Write.contents c.new-stream.ensures.value (λ same. search rules) step.written);
    }

pub returns-in_err-send_bytes-clause-written : goal.returns-in_err-send_bytes-clause-written
returns-in_err-send_bytes-clause-written g c =
    let r = c.in_err-send_bytes.ensures.refused in
    let some = rw c.front.ensures at r.1 in
    handed_on _ _ _ c.from_residual-in_err-send_bytes.ensures.1 (
      r.0,
      then_breaks Appends-trans c.loop-writer.invariant.written
          (sent_part stands (some.1, record { front = some.0; split = some.2; went = some.3 })),
    )

pub returns-clause-written : goal.returns-clause-written
returns-clause-written g c =
    let kept = kept_bytes c.loop-writer.piece.piece in
    let all = rw c.front.ensures at c.in_ok-send_bytes.ensures.written in
    rw c.push.ensures (then_on Appends-trans c.loop-writer.invariant.written
    (sent_on stands c.loop-writer.invariant.written.opaque refl (record { front = kept; split = sym (append-nil kept); went = all })))
