-- Raw bytes that are read and not handed out, or in part.
use Rattle.std.proofs.Common.{◌≡◌, ◌+◌, ◌<◌, ◌≤◌, ◌*◌, ◌-◌, ℕ, List, [], ◌++◌, length, take, drop, Option, Some, Bool, Result, Ok, Err, IfErr, OnErr, append-nil, append_assoc, length-append, arith, sym, ap, ◌∙◌}
use Rattle.std.proofs.lemmas.List.{drop_all, drop_at, take_at, take_all, length-take, length-drop}
use Rattle.std.proofs.lemmas.Slice.{take-put_mid}
use Rattle.std.proofs.Math.Nat.{mul-suc, zero-add}
use borrow.Rule.Slice.PartMut.{put_mid}
use Rattle.qoi.specs.Qoi.{Error}
use Rattle.qoi.specs.DecoderState.{DecoderState}
use Rattle.qoi.specs.Images.{front_image}
use Rattle.qoi.specs.Rectangles.{row_bytes, rectangle, row_size}
use Rattle.qoi.specs.pieces.PixelReader.{PixelsState, unread_bytes, HasGiven, HasRows, IfGiven, RefusesPiece, StopsAt}
use Rattle.qoi.specs.pieces.Copying.{Gives}
use Rattle.qoi.specs.pieces.Skipping.{StopsWithin, BreaksWithin, GivesRectangle}
use Rattle.qoi.proofs.format.RectangleLaws.{row_more, of_first_rows, rectangle_of_rectangle}
use Rattle.qoi.proofs.Copied.{gives_both, gives_none, refused_sooner, row_same, rows_after, rows_are}

-- bytes were given, and then others were refused
pub stops_behind : {R : Type 0} {in_memory : Bool} {ahead : R → Option (List ℕ)} {n all : ℕ} (more : List ℕ) {p q r : PixelsState R} {error : Error}
    → length more + n ≤ all → Gives ahead more p q → unread_bytes q + length more ≡ unread_bytes p → BreaksWithin in_memory ahead n q r error
    → BreaksWithin in_memory ahead all p r error
stops_behind {in_memory} {ahead} {n} {all} more {p} {q} {r} {error} below gives many stops = record {
  within = record {
    was = stops.within.was;
    more = more ++ stops.within.more;
    given = gives_both ahead more stops.within.more p q stops.within.was gives stops.within.given;
    fewer = omega (arith, stops.within.fewer, below, length-append more stops.within.more);
    before = omega (arith, stops.within.before, many, length-append more stops.within.more);
    spent = stops.within.spent;
    left = stops.within.left;
    kept = stops.within.kept;
  };
  refused = λ d start given h. refused_sooner in_memory d start given more n all (ahead r.reader) error below (stops.refused d start (given ++ more) (gives d start given h));
}

-- a read of so many bytes was refused
pub stops_at_once : {R : Type 0} {in_memory : Bool} {ahead : R → Option (List ℕ)} {n : ℕ} {p q : PixelsState R} → 0 < n → StopsAt in_memory ahead p q
    → StopsWithin in_memory ahead n p q
stops_at_once {ahead} {p} some stops = record {
  was = p;
  more = [];
  given = gives_none ahead p;
  fewer = some;
  before = omega arith;
  spent = stops.spent;
  left = stops.left;
  kept = stops.kept;
}

-- both of a refusal
pub stops_both : {T R : Type 0} (in_memory : Bool) (ahead : R → Option (List ℕ)) (n : ℕ) (p q : PixelsState R) (r : Result T Error)
    → OnErr r (StopsWithin in_memory ahead n p q)
    → IfGiven ahead p (λ d start given. IfErr r (RefusesPiece in_memory d start given n (ahead q.reader))) → IfErr r (BreaksWithin in_memory ahead n p q)
stops_both in_memory ahead n p q (Ok x) within refused = tt
stops_both in_memory ahead n p q (Err e) within refused = record { within = within; refused = refused }

-- bytes between others
pub bytes_between : (before part after : List ℕ) (left size : ℕ) → length before ≡ left → length part ≡ size
    → part ≡ take size (drop left ((before ++ part) ++ after))
bytes_between before part after left size first then =
    sym (ap (λ z. take size (drop left z)) (append_assoc before part after) ∙ ap (take size) (drop_at before (part ++ after) left first) ∙ take_at part after size then)

-- where that part stands there is room for it
pub part_long : (size row : ℕ) (out : List ℕ) → size * row + size ≤ length out → length (take (size * row + size - size * row) (drop (size * row) out)) ≡ size
part_long size row out fits = omega (arith, length-take (size * row + size - size * row) (drop (size * row) out), length-drop (size * row) out, fits)

-- a buffer that was filled has nothing behind
pub all_filled : (out buf : List ℕ) (n : ℕ) → length buf ≤ n → out ++ drop n buf ≡ out
all_filled out buf n fits = ap (λ z. out ++ z) (drop_all n buf fits) ∙ append-nil out

-- the part of one row more is stored behind those of the rows before
pub part_stored : (stride left size row : ℕ) (more piece out part : List ℕ) (k : ℕ) → length more ≡ stride * row → length piece ≡ stride → length part ≡ size
    → size * row ≤ length out → part ≡ take size (drop left piece) → take (size * row) out ≡ rectangle stride 0 left row size more
    → take (size * (row + 1)) (put_mid (size * row) k out part) ≡ rectangle stride 0 left (row + 1) size (more ++ piece)
part_stored stride left size row more piece out part k many long filled fits is before =
    let next : size * (row + 1) ≡ size * row + length part = omega (arith, filled, mul-suc size row) in
    let last : take size (drop left (row_bytes stride (more ++ piece) (0 + row))) ≡ part =
    ap (λ n. take size (drop left (row_bytes stride (more ++ piece) n))) (zero-add row)
    ∙ ap (λ z. take size (drop left (take stride z))) (drop_at more piece (stride * row) many) ∙ ap (λ z. take size (drop left z)) (take_all stride piece (omega (arith, long))) ∙ sym is in
    take-put_mid (size * row) k out part (size * (row + 1)) next fits
    ∙ ap (λ z. z ++ part) (before ∙ sym (of_first_rows stride 0 left row size more piece (omega (arith, many))))
    ∙ ap (λ z. rectangle stride 0 left row size (more ++ piece) ++ z) (sym last)
    ∙ sym (row_more stride 0 left row size (more ++ piece))

-- parts of rows that were given behind k rows are a rectangle of the image
pub rectangle_is : {R : Type 0} (ahead : R → Option (List ℕ)) (d : DecoderState R) (bytes : List ℕ) (stride k n left size : ℕ) (out : List ℕ) (p q : PixelsState R)
    → HasRows d (Some bytes) (ahead p.reader) stride k p → stride ≡ row_size d.channels d.header → left + size ≤ row_size p.channels p.header
    → GivesRectangle ahead left n size p q out → out ≡ rectangle stride k left n size (front_image d.channels d.header bytes)
unfolding HasRows HasGiven
rectangle_is ahead d bytes stride k n left size out p q rows is fits (more, gives, long, parts) =
    let image = front_image d.channels d.header bytes in
    let (all, count, h) = rows_after ahead d (Some bytes) stride k n more p q rows is gives long in
    let same : row_size p.channels p.header ≡ stride = row_same d (Some bytes) (ahead p.reader) rows.0 p rows.2 ∙ sym is in
    let inside : stride * (k + n) ≤ length image = omega (arith, count, ap length h.front, length-take (length all) image) in
    let down : k + 0 ≡ k = omega arith in
    parts ∙ ap (λ m. rectangle m 0 left n size more) same
    ∙ ap (rectangle stride 0 left n size) (rows_are ahead d bytes stride k n more p q rows is gives long)
    ∙ rectangle_of_rectangle stride k 0 n stride 0 left n size image (omega arith) inside (omega (arith, fits, same)) (omega arith)
    ∙ ap (λ m. rectangle stride m (0 + left) n size image) down ∙ ap (λ m. rectangle stride k m n size image) (zero-add left)
