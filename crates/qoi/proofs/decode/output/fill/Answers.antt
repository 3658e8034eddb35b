-- The copies are written; if there isn't room for all, the buffer becomes full.
use Rattle.std.proofs.Common.{◌≡◌, ℕ, ◌+◌, ◌-◌, ◌*◌, ◌/◌, ◌<◌, ◌≤◌, length, arith, rules}
use Rattle.qoi.specs.Raw.{IsChannels}
use Rattle.qoi.specs.inner.Hashed.{pixel_of_lanes}
use Rattle.qoi.proofs.decoding.FilledBuffer.{filled_copies, filled_end, block_fits, run_fits, copies_fit, copies_end}
use Rattle.qoi.proofs.decode.output.fill.Given.{Over}
use Rattle.qoi.proofs.decode.output.fill.Goals.{Joined-this-ne0, then-this-ne0, else-this-ne0, then-size-le-VECTOR+else-room-ge-VECTOR, else-size-le-VECTOR+else-room-ge-RUN_ROOM}
use Rattle.qoi.proofs.decode.output.fill.Goals as goal

-- a vector holds the pixels
in_vector : (c k size : ℕ) → IsChannels c → size ≡ c * k → size ≤ 16 → k ≤ 16 / c
in_vector c k size is e most = grind (arith, is)

-- how many pixels have so many bytes
pixels_of : (c k size : ℕ) → IsChannels c → size ≡ c * k → size / c ≡ k
pixels_of c k size is e = grind (arith, is)

-- the room that is relied on is there
within : (g : Over) (c : Joined-this-ne0 g) → c.args.from.at + c.if-this-ne0.room ≤ length c.args.out.now
within g c = elim c.if-this-ne0.branch [ then-this-ne0 w ↦ search rules | else-this-ne0 w ↦ search rules ]

pub returns-then-room-ge-VECTOR-clause-filled : goal.returns-then-room-ge-VECTOR-clause-filled
returns-then-room-ge-VECTOR-clause-filled g c n past h =
    let at = c.args.from.at in
    let count = c.args.count in
    let few = in_vector g.row.N count c.args.size c.requires.room.fillable.three_or_four c.requires.size c.if-size-le-VECTOR.true in
    let fits = block_fits g.row.N at count (length c.args.out.now) c.requires.room.fillable.three_or_four few (omega (arith, c.if-room-ge-VECTOR.true, within g (goal.at.returns-then-room-ge-VECTOR-clause-filled g c).Joined-this-ne0)) in
    rw c.requires.size (filled_copies g.row.F g.row.N n c.args.out.now c.store_vector.new.out at count _ past c.requires.room.fillable.three_or_four c.requires.room.inside fits c.store_vector.auto.out (c.store_vector.ensures count few) h)

pub returns-then-room-ge-RUN_ROOM-clause-filled : goal.returns-then-room-ge-RUN_ROOM-clause-filled
returns-then-room-ge-RUN_ROOM-clause-filled g c n past h =
    let at = c.args.from.at in
    let count = c.args.count in
    let fits = run_fits g.row.N at count (length c.args.out.now) c.requires.room.fillable.three_or_four c.requires.some.1 (omega (arith, c.if-room-ge-RUN_ROOM.true, within g (goal.at.returns-then-room-ge-RUN_ROOM-clause-filled g c).Joined-this-ne0)) in
    rw c.requires.size (filled_copies g.row.F g.row.N n c.args.out.now c.store_run.new.out at count _ past c.requires.room.fillable.three_or_four c.requires.room.inside fits c.store_run.auto.out c.store_run.ensures h)

pub returns-clause-filled : goal.returns-clause-filled
returns-clause-filled g c n past h =
    let at = c.args.from.at in
    let size = length c.args.out.now in
    let all = c.min-all.result in
    let is = c.requires.room.fillable.three_or_four in
    let within : at ≤ size = omega (arith, c.requires.room.inside) in
    let quot = pixels_of g.row.N c.args.count c.args.size is c.requires.size in
    let few : c.if-this-ne0.room < 256 = elim c.if-size-le-VECTOR.branch [ then-size-le-VECTOR+else-room-ge-VECTOR w ↦ omega arith | else-size-le-VECTOR+else-room-ge-RUN_ROOM w ↦ omega arith ] in
    let left : c.if-this-ne0.room ≡ size - at = elim c.if-this-ne0.branch [ then-this-ne0 w ↦ absurd (omega (arith, few)) | else-this-ne0 w ↦ omega arith ] in
    let ends = copies_end g.row.N at c.args.count size is c.requires.room.fillable.whole.0 c.requires.room.fillable.whole.1 within in
    filled_end g.row.F g.row.N n c.store_pixels.new.out _ all c.args.count (pixel_of_lanes c.args.from.last) past is (omega (arith, c.min-all.ensures, quot))
    (rw (c.min-all.ensures, quot, left, c.store_pixels.auto.out) ends)
    (filled_copies g.row.F g.row.N n c.args.out.now c.store_pixels.new.out at all _ past is c.requires.room.inside
    (rw (c.min-all.ensures, quot, left) (copies_fit g.row.N at c.args.count size is within)) c.store_pixels.auto.out c.store_pixels.ensures h)
