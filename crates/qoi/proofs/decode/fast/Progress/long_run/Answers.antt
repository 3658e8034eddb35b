-- The copies of the last pixel are written, either way.
use Rattle.std.proofs.Common.{◌≡◌, ◌+◌, ◌-◌, ◌*◌, drop, get_or, arith, refl, sym, ◌∙◌, length-drop}
use Rattle.qoi.specs.inner.Filling.{Progress, HasCopies}
use Rattle.qoi.proofs.decoding.FirstChunk.{decodes_run}
use Rattle.qoi.proofs.decoding.FastSteps.{fast_step}
use Rattle.qoi.proofs.decode.fast.Progress.long_run.Goals.{then-out-self-ge-RUN_ROOM, else-out-self-ge-RUN_ROOM}
use Rattle.qoi.proofs.decode.fast.Progress.long_run.Goals as goal

pub returns-clause-step : goal.returns-clause-step
returns-clause-step g c =
    let ahead = c.requires.ahead in
    let now = c.args.self in
    let bytes = c.args.bytes.now in
    let count = now.next - 191 in
    let often : count + 191 ≡ now.next = omega (arith, c.requires.run) in
    let new : Progress g.row.N g.row.F = record { last = now.last; taken = now.taken + 1; at = now.at + g.row.N * count; next = get_or bytes (now.taken + 1) 0 } in
    let written : HasCopies g.row.F g.row.N now.at count now.last c.args.out.now c.if-out-self-ge-RUN_ROOM.out =
    elim c.if-out-self-ge-RUN_ROOM.branch [ then-out-self-ge-RUN_ROOM w ↦ rw w.out-is w.store_run.ensures | else-out-self-ge-RUN_ROOM w ↦ rw w.out-is w.store_late_run.ensures ] in
    fast_step now new count 1 ahead.three_or_four ahead.whole (omega (arith, ahead.room_is)) (omega (arith, ahead.room_is)) c.if-out-self-ge-RUN_ROOM.auto.out refl (omega arith) c.put.ensures
    written refl (omega (arith, c.type_inv.bytes (now.taken + 1))) refl
    (λ first. decodes_run (drop now.taken bytes) count (omega (arith, ahead.input_is, length-drop now.taken bytes)) (sym first ∙ sym often) (omega (arith, c.requires.run)) (omega (arith, c.requires.run)))
