-- Each read stands after what was filled.
use Rattle.std.proofs.Common.{ℕ, ◌-◌, ◌<◌, List, [], ◌++◌, length, take, arith, subst, length-append, length-take-le}
use Rattle.std.proofs.lemmas.Slice.{take-put_mid_below}
use Rattle.std.specs.Io.KnownBytes.{Consumes}
use Rattle.std.proofs.KnownBytes.{Consumes-nil, Consumes-trans, Consumes-kept}
use borrow.Rule.Slice.PartMut.{put_mid, post_of}
use Rattle.qoi.specs.Qoi.{AreBytes}
use Rattle.qoi.proofs.Results.{on_err}
use Rattle.qoi.proofs.format.LaneBytes.{front_put}
use Rattle.qoi.proofs.decoding.StreamReads.{bytes_take}
use Rattle.qoi.proofs.decode.stream.read_exact.Goals as goal

pub returns-in_err-count-clause-failed : goal.returns-in_err-count-clause-failed
returns-in_err-count-clause-failed g c =
    on_err {P = (x : List ℕ) × Consumes (g.R.Read.remaining c.args.reader.now) (g.R.Read.remaining c.read.new.self) x
    × ((length x < length c.args.buf.now) × AreBytes x)} _
    ([], Consumes-kept _ _ _ _ (Consumes-nil _) c.in_err-count.ensures.bytes, (c.requires, λ i. omega arith))

pub returns-in_err-count-2-clause-failed : goal.returns-in_err-count-2-clause-failed
returns-in_err-count-2-clause-failed g c =
    let buf = c.loop-filled.buf in
    let filled = c.loop-filled.filled in
    let more = c.read-in-loop-filled.new in
    let i = c.loop-filled.invariant in
    let whole : AreBytes (put_mid filled (length buf - filled) buf more.buf) = λ j. omega (arith, c.type_inv.buf j) in
    on_err {P = (x : List ℕ) × Consumes (g.R.Read.remaining c.args.reader.now) (g.R.Read.remaining more.self) x
    × ((length x < length c.args.buf.now) × AreBytes x)} _ (
      take filled buf,
      Consumes-kept _ _ _ _ i.1 c.in_err-count-2.ensures.bytes,
      (
        omega (arith, length-take-le filled buf i.0),
        subst AreBytes (take-put_mid_below filled (length buf - filled) buf more.buf filled (omega arith) i.0) (bytes_take filled _ whole),
      ),
    )

pub loop-filled-preserved : goal.loop-filled-preserved
loop-filled-preserved g c =
    let buf = c.loop-filled.buf in
    let filled = c.loop-filled.filled in
    let more = c.read-in-loop-filled.new.buf in
    let n = c.in_ok-count-2.count in
    let i = c.loop-filled.invariant in
    let bound = c.in_ok-count-2.ensures.bound.0 in
    let rest = post_of filled (length buf - filled) buf in (
      omega (arith, bound, length-take-le filled buf i.0, length-append (take filled buf) (more ++ rest), length-append more rest),
      rw (front_put filled n (length buf - filled) buf more i.0 bound) (Consumes-trans _ _ _ _ _ i.1 c.in_ok-count-2.ensures.bytes.0),
      λ j. omega (arith, c.type_inv.buf j),
    )
