-- What was read stands after what was filled.
use Rattle.std.proofs.Common.{◌≡◌, ℕ, ◌+◌, ◌-◌, ◌≤◌, List, ◌++◌, length, take, arith, sym, ap, ◌∙◌, length-append}
use Rattle.std.proofs.lemmas.List.{take-append-le, length-take-le}
use Rattle.std.proofs.Math.Seq.{take-append-add}
use Rattle.std.proofs.KnownBytes.{Consumes-trans}
use borrow.Rule.Slice.PartMut.{put_mid, post_of}
use Rattle.qoi_tool.proofs.transfer.read_after.Goals as goal

-- the front of a buffer after a read past what was filled
take-read : (filled n k : ℕ) (buf piece : List ℕ) → filled ≤ length buf → n ≤ length piece
    → take (filled + n) (put_mid filled k buf piece) ≡ take filled buf ++ take n piece
take-read filled n k buf piece within fits =
    let size = length-take-le filled buf within in
    ap (λ z. take (z + n) (put_mid filled k buf piece)) (sym size) ∙ take-append-add (take filled buf) (piece ++ post_of filled k buf) n
    ∙ ap (λ z. take filled buf ++ z) (take-append-le n piece (post_of filled k buf) fits)

pub returns-clause-read : goal.returns-clause-read
returns-clause-read g c =
    let buf = c.args.buf.now in
    let piece = c.read.new.buf in
    let rest = post_of c.args.filled (length buf - c.args.filled) buf in
    let bound = c.in_ok-count.ensures.bound.0 in (
      omega (arith, bound, length-take-le c.args.filled buf c.requires, length-append (take c.args.filled buf) (piece ++ rest), length-append piece rest),
      λ start before. rw (take-read c.args.filled c.in_ok-count.count (length buf - c.args.filled) buf piece c.requires bound)
          (Consumes-trans start _ _ _ _ before c.in_ok-count.ensures.bytes.0),
    )
