-- Whole pixels are written: of what is held, or of what came.
use Rattle.std.proofs.Common.{◌≡◌, ◌++◌, length, sym, ap, ◌∙◌, arith, append_assoc, take-append-drop}
use Rattle.qoi.proofs.encoding.piece.BytesUnsent.{goes_within, breaks_within}
use Rattle.std.proofs.lemmas.List.{nil_from_length}
use Rattle.qoi.proofs.decoding.Refusals.{handed_on}
use Rattle.qoi.proofs.encode.pixel_writer.sending.write_held_or_raw.Given.{Over}
use Rattle.qoi.proofs.encode.pixel_writer.sending.write_held_or_raw.Goals.{After-write_pixels, After-write_pixels-2}
use Rattle.qoi.proofs.encode.pixel_writer.sending.write_held_or_raw.Goals as goal

-- none are held, and whole pixels came
came : (g : Over) (c : After-write_pixels g) → c.args.held.now ++ c.args.raw.now ≡ c.split_at.result.0.now ++ c.split_at.result.1.now
came g c =
    let split = c.split_at.ensures in
    ap (λ z. z ++ c.args.raw.now) (nil_from_length c.args.held.now (omega (arith, ap length c.bytes-len.ensures.are, c.if-len-eq0.true)))
    ∙ sym (take-append-drop _ c.args.raw.now) ∙ (λ i. sym split.front i ++ sym split.back i)

-- they are held
held : (g : Over) (c : After-write_pixels-2 g) → c.args.held.now ++ c.args.raw.now ≡ c.bytes.result.now ++ c.split_at-2.result.1.now
held g c =
    let split = c.split_at-2.ensures in
    ap (λ z. c.args.held.now ++ z) (sym (take-append-drop _ c.args.raw.now) ∙ (λ i. sym split.front i ++ sym split.back i))
    ∙ sym (append_assoc c.args.held.now c.split_at-2.result.0.now c.split_at-2.result.1.now)
    ∙ ap (λ z. z ++ c.split_at-2.result.1.now) (sym (c.bytes.ensures.are ∙ c.push-2.ensures))

pub returns-in_err-left-clause-written : goal.returns-in_err-left-clause-written
returns-in_err-left-clause-written g c =
    let r = c.in_err-left.ensures.written.0 in
    handed_on _ _ _ c.from_residual.ensures.1 (r.0, breaks_within c.split_at.result.1.now r.1 (came g (goal.at.returns-in_err-left-clause-written g c).After-write_pixels))

pub returns-then-len-eq0-clause-written : goal.returns-then-len-eq0-clause-written
returns-then-len-eq0-clause-written g c =
    let part = c.split_at.result.1.now in
    let left = c.in_ok-left.left.now in
    goes_within part c.write_pixels.ensures.stays.0 c.in_ok-left.ensures.written.0 (came g (goal.at.returns-then-len-eq0-clause-written g c).After-write_pixels)
    (ap (λ z. z ++ part) (c.push.ensures ∙ ap (λ z. z ++ left) (nil_from_length c.args.held.now (omega (arith, ap length c.bytes-len.ensures.are, c.if-len-eq0.true)))))

pub returns-in_err-left-2-clause-written : goal.returns-in_err-left-2-clause-written
returns-in_err-left-2-clause-written g c =
    let r = c.in_err-left-2.ensures.written.0 in
    handed_on _ _ _ c.from_residual-in_err-left-2.ensures.1 (r.0, breaks_within c.split_at-2.result.1.now r.1 (held g (goal.at.returns-in_err-left-2-clause-written g c).After-write_pixels-2))

pub returns-clause-written : goal.returns-clause-written
returns-clause-written g c =
    let rest = c.split_at-2.result.1.now in
    goes_within rest c.write_pixels-2.ensures.stays.0 c.in_ok-left-2.ensures.written.0 (held g (goal.at.returns-clause-written g c).After-write_pixels-2)
    (ap (λ z. z ++ rest) (c.replace.ensures ∙ c.copy_after-count.ensures.front))
