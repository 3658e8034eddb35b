-- Raw bytes that go from a reader to a writer piece by piece.
use Rattle.std.proofs.Common.{◌≡◌, ◌+◌, ◌*◌, ◌<◌, ◌≤◌, ℕ, zero, suc, List, [], ◌++◌, length, take, drop, Option, Some, Bool, Result, Ok, Err, IfErr, OnOk, IsErrOf, inl, inr, append_assoc, append-nil, length-append, arith, refl, sym, ap, ◌∙◌, subst}
use Rattle.std.proofs.lemmas.List.{drop_at, take_all}
use Rattle.std.proofs.lemmas.Result.{IfErr-weaker}
use Rattle.std.specs.Bool.{⊤}
use Rattle.std.proofs.Math.Nat.{mul-add}
use Rattle.std.proofs.KnownBytes.{Appends-nil, Appends-trans, Consumes-trans}
use Rattle.std.specs.Io.KnownBytes.{Appends, Consumes}
use Rattle.qoi.specs.Qoi.{Error, UnexpectedBufferEnd}
use Rattle.qoi.specs.Images.{front_image}
use Rattle.qoi.specs.Rectangles.{rectangle, row_size}
use Rattle.qoi.specs.Decoded.{HasDecoded}
use Rattle.qoi.specs.DecoderState.{DecoderState}
use Rattle.qoi.specs.EncoderState.{EncoderState}
use Rattle.qoi.specs.pieces.PixelReader.{PixelsState, unread_bytes, HasGiven, IfGiven, HasRows, RefusesPiece, StopsAt, IsSpent}
use Rattle.qoi.specs.pieces.PixelWriter.{WriterState, missing_bytes, and_raw, HasTaken, IfTaken, HasFailed}
use Rattle.qoi.specs.pieces.Sizes.{copied_at_once}
use Rattle.qoi.specs.pieces.Copying.{rows_size, Gives, StopsBehind, FailsBehind, BreaksCopy, BreaksRaw, BreaksInput, Copied, Copies, CopiesRaw}
use Rattle.qoi.proofs.Results.{from_both}
use Rattle.qoi.proofs.decoding.PixelPieces.{piece_follows, rows_next}

-- an image that was refused behind some bytes and others was refused behind both
stops_both : {R : Type 0} (in_memory : Bool) (ahead : R → Option (List ℕ)) (d : DecoderState R) (start : Option (List ℕ)) (given more piece : List ℕ) (p : PixelsState R) (error : Error)
    → StopsBehind in_memory ahead d start (given ++ more) piece p error → StopsBehind in_memory ahead d start given (more ++ piece) p error
stops_both in_memory ahead d start given more piece p error r = record {
  was = r.was;
  read = rw (← append_assoc) r.read;
  why = r.why;
  spent = r.spent;
  left = r.left;
  kept = r.kept;
  early = λ held bytes n is fits enough. r.early held bytes n is fits (omega (arith, enough, length-append given more, length-append more piece));
}

-- and so did one whose writer failed
fails_both : {R : Type 0} (ahead : R → Option (List ℕ)) (d : DecoderState R) (start : Option (List ℕ)) (given more next piece : List ℕ) (p : PixelsState R)
    → FailsBehind ahead d start (given ++ more) next piece p → FailsBehind ahead d start given (more ++ next) piece p
fails_both ahead d start given more next piece p f = record {
  was = f.was;
  read = rw (append_assoc more next piece, ← append_assoc given more (next ++ piece)) f.read;
  reader = f.reader;
  spent = f.spent;
  left = f.left;
  short = f.short;
}

-- the first bytes were read, and then the image was refused
pub stops_at : {R : Type 0} {in_memory : Bool} {ahead : R → Option (List ℕ)} {d : DecoderState R} {start : Option (List ℕ)} {given : List ℕ} {was p : PixelsState R} {error : Error} {n : ℕ}
    → n ≤ copied_at_once → HasGiven d start (ahead was.reader) given was → RefusesPiece in_memory d start given n (ahead p.reader) error
    → StopsAt in_memory ahead was p → StopsBehind in_memory ahead d start given [] p error
stops_at {was} short h r s = record {
  was = was;
  read = rw append-nil h;
  why = r.why;
  spent = s.spent;
  left = s.left;
  kept = s.kept;
  early = λ held bytes k is fits enough. r.early held bytes k is fits (omega (arith, enough, short));
}

-- an image that is refused behind some bytes and others is refused behind the first ones
pub refused_sooner : {R : Type 0} (in_memory : Bool) (d : DecoderState R) (start : Option (List ℕ)) (given more : List ℕ) (n m : ℕ) (new : Option (List ℕ)) (error : Error)
    → length more + n ≤ m → RefusesPiece in_memory d start (given ++ more) n new error → RefusesPiece in_memory d start given m new error
refused_sooner in_memory d start given more n m new error fewer r = record {
  why = r.why;
  early = λ held bytes k is fits enough. r.early held bytes k is fits (omega (arith, enough, fewer, length-append given more));
  missing = r.missing;
}

-- what breaks off behind some bytes breaks off
pub breaks_later : {R W : Type 0} (in_memory : Bool) (ahead : R → Option (List ℕ)) (contents : W → Option (List ℕ)) (d : DecoderState R) (start : Option (List ℕ))
    (given : List ℕ) (e : EncoderState) (before : Option (List ℕ)) (more : List ℕ) (p : PixelsState R) (w : WriterState W) (error : Error)
    → BreaksCopy in_memory ahead contents d start (given ++ more) (and_raw e more) before p w error → BreaksCopy in_memory ahead contents d start given e before p w error
breaks_later in_memory ahead contents d start given e before more p w error (piece, inl r) =
    (more ++ piece, inl (stops_both in_memory ahead d start given more piece p error r.0, rw (← append_assoc) r.1))
breaks_later in_memory ahead contents d start given e before more p w error (piece, inr f) =
    (more ++ piece, inr (f.0, rw (← append_assoc) f.1, rw append_assoc at f.2, f.3))

-- the same of raw bytes
pub raw_breaks_later : {R : Type 0} (in_memory : Bool) (ahead : R → Option (List ℕ)) (d : DecoderState R) (start : Option (List ℕ)) (given more : List ℕ)
    (old now new : Option (List ℕ)) (p : PixelsState R) (error : Error) → Appends old now more
    → BreaksRaw in_memory ahead d start (given ++ more) now p new error → BreaksRaw in_memory ahead d start given old p new error
raw_breaks_later in_memory ahead d start given more old now new p error went (piece, inl r) =
    (more ++ piece, inl (stops_both in_memory ahead d start given more piece p error r.0, Appends-trans old now new more piece went r.1))
raw_breaks_later in_memory ahead d start given more old now new p error went (next, inr (io, piece, later, f, then, part)) =
    (more ++ next, inr (io, piece, later, fails_both ahead d start given more next piece p f, Appends-trans old now later more next went then, part))

-- and of raw bytes that come
pub input_breaks_later : {W : Type 0} (contents : W → Option (List ℕ)) (old now new : Option (List ℕ)) (e : EncoderState) (before : Option (List ℕ)) (raw : List ℕ)
    (w : WriterState W) (error : Error) → Consumes old now raw → BreaksInput contents now new (and_raw e raw) before w error → BreaksInput contents old new e before w error
input_breaks_later contents old now new e before raw w error came (io, piece, given, inl t) =
    (io, raw ++ piece, Consumes-trans old now new raw piece came given, inl (rw (← append_assoc) t))
input_breaks_later contents old now new e before raw w error came (io, piece, given, inr f) =
    (io, raw ++ piece, Consumes-trans old now new raw piece came given, inr (rw append_assoc at f.0, f.1))

-- bytes that were given, and then others
pub gives_both : {R : Type 0} (ahead : R → Option (List ℕ)) (more piece : List ℕ) (p q r : PixelsState R)
    → Gives ahead more p q → Gives ahead piece q r → Gives ahead (more ++ piece) p r
gives_both ahead more piece p q r first then = λ d start given h. rw (← append_assoc) (then d start (given ++ more) (first d start given h))

-- none were given
pub gives_none : {R : Type 0} (ahead : R → Option (List ℕ)) (p : PixelsState R) → Gives ahead [] p p
gives_none ahead p = λ d start given h. rw append-nil h

-- a whole piece was given
pub gives_whole : {R : Type 0} (ahead : R → Option (List ℕ)) (n : ℕ) (piece : List ℕ) (p q : PixelsState R)
    → length piece ≤ n → Gives ahead (take n piece) p q → Gives ahead piece p q
gives_whole ahead n piece p q fits gives = subst (λ x. Gives ahead x p q) (take_all n piece fits) gives

-- a piece was read, and a success of the writer took it
pub copied_piece : {R W : Type 0} (ahead : R → Option (List ℕ)) (contents : W → Option (List ℕ)) (n : ℕ) (piece : List ℕ) (p q : PixelsState R) (w v : WriterState W)
    (result : Result ⊤ Error) → length piece ≡ n → Gives ahead piece p q → unread_bytes q + n ≡ unread_bytes p
    → IfTaken contents w (λ e before. OnOk result (HasTaken contents (and_raw e piece) before v))
    → OnOk result (missing_bytes v + length piece ≡ missing_bytes w) → OnOk result (Copied ahead contents n p q w v)
copied_piece ahead contents n piece p q w v (Ok x) size given left taken room =
    record { more = piece; size = size; given = given; taken = taken; left = left; room = omega (arith, room, size) }
copied_piece ahead contents n piece p q w v (Err e) size given left taken room = tt

-- a copy that is done
abbrev pub done : Result ⊤ Error
done = Ok tt

-- no byte was to be copied to a writer that didn't fail
pub copies_none : {R W : Type 0} {in_memory : Bool} {ahead : R → Option (List ℕ)} {contents : W → Option (List ℕ)} {p : PixelsState R} {w : WriterState W}
    → ((e : EncoderState) (before : Option (List ℕ)) → HasFailed contents e before w → ⊥) → Copies in_memory ahead contents 0 p p w w done
copies_none {ahead} {contents} {p} {w} works = record {
  copied = record { more = []; size = refl; given = gives_none ahead p; taken = λ e before t. rw append-nil t; left = omega arith; room = omega arith };
  none = λ _ _ _ _. (refl, refl, refl);
  few = λ less. absurd (omega (arith, less));
  many = λ _ _ _ _ more. absurd (omega (arith, more));
  failed = λ e before f _. absurd (works e before f);
  spent = λ _ _ _ _ some. absurd (omega (arith, some));
  refused = λ _ _ _ _ _ _ _ _ _. tt;
  unchanged = (refl, refl);
}

-- the same to any writer
pub raw_copies_none : {R W : Type 0} {in_memory : Bool} {ahead : R → Option (List ℕ)} {contents : W → Option (List ℕ)} {p : PixelsState R} {w : W}
    → CopiesRaw in_memory ahead contents 0 p p w w done
raw_copies_none {ahead} {contents} {p} {w} = record {
  copied = record { more = []; size = refl; given = gives_none ahead p; written = Appends-nil (contents w); left = omega arith };
  none = λ _. (refl, refl, refl);
  spent = λ some. absurd (omega (arith, some));
  refused = λ _ _ _ _. tt;
  unchanged = (refl, refl);
}

-- what holds of none and of some holds
pub by_none : {A : Type 0} (n : ℕ) → (n ≡ 0 → A) → (0 < n → A) → A
by_none zero none some = none refl
by_none (suc n) none some = some (omega arith)

-- n of k bytes were copied, and then the next m, or these were refused
pub copies_more : {R W : Type 0} {in_memory : Bool} {ahead : R → Option (List ℕ)} {contents : W → Option (List ℕ)} {n : ℕ} (m k : ℕ) {p q r : PixelsState R} {w v u : WriterState W}
    {result : Result ⊤ Error} → Copies in_memory ahead contents n p q w v done → n < k → k ≤ unread_bytes p → k ≤ missing_bytes w → OnOk result (n + m ≡ k)
    → OnOk result (Copied ahead contents m q r v u) → (IsSpent q → IsErrOf result UnexpectedBufferEnd × (r ≡ q) × (u ≡ v))
    → IfGiven ahead q (λ d start given. IfTaken contents v (λ e before. IfErr result (BreaksCopy in_memory ahead contents d start given e before r u)))
    → (r.header ≡ q.header) × (r.channels ≡ q.channels) → Copies in_memory ahead contents k p r w u result
copies_more {in_memory} {ahead} {contents} {n} m k {p} {q} {r} {w} {v} {u} {result} first less fits room all then spent refused unchanged = record {
  copied = from_both result all then (λ _ is x. record {
    more = first.copied.more ++ x.more;
    size = omega (arith, first.copied.size, x.size, is, length-append first.copied.more x.more);
    given = gives_both ahead first.copied.more x.more p q r first.copied.given x.given;
    taken = λ e before t. rw (← append_assoc) (x.taken (and_raw e first.copied.more) before (first.copied.taken e before t));
    left = omega (arith, first.copied.left, x.left, is);
    room = omega (arith, first.copied.room, x.room, is);
  }) (λ _ _ _. tt);
  none = λ _ _ _ is. absurd (omega (arith, is, less));
  few = λ few. absurd (omega (arith, few, fits));
  many = λ _ _ _ _ more. absurd (omega (arith, more, room));
  failed = λ e before f _. absurd (first.failed e before f (omega (arith, less, fits))).0;
  spent = λ e before t _ _ _ was. by_none n
      (λ is. let (ok, same, kept) = first.none e before t is in let now = spent (subst (λ x. IsSpent x) (sym same) was) in (now.0, now.1 ∙ same, now.2 ∙ kept))
      (λ some. let broke = (first.spent e before t (omega (arith, less, room)) some (omega (arith, less, fits)) was).0 in cc);
  refused = λ d start given h e before t _ _. IfErr-weaker result _ _
      (λ error. breaks_later in_memory ahead contents d start given e before first.copied.more r u error)
      (refused d start (given ++ first.copied.more) (first.copied.given d start given h) (and_raw e first.copied.more) before (first.copied.taken e before t));
  unchanged = (unchanged.0 ∙ first.unchanged.0, unchanged.1 ∙ first.unchanged.1);
}

-- the same to any writer
pub raw_copies_more : {R W : Type 0} {in_memory : Bool} {ahead : R → Option (List ℕ)} {contents : W → Option (List ℕ)} {n m : ℕ} (k : ℕ) {p q r : PixelsState R} {w v u : W}
    {result : Result ⊤ Error} → CopiesRaw in_memory ahead contents n p q w v done → 0 < m → 0 < k → OnOk result (n + m ≡ k)
    → CopiesRaw in_memory ahead contents m q r v u result → CopiesRaw in_memory ahead contents k p r w u result
raw_copies_more {in_memory} {ahead} {contents} {n} {m} k {p} {q} {r} {w} {v} {u} {result} first some fits all then = record {
  copied = from_both result all then.copied (λ _ is x. record {
    more = first.copied.more ++ x.more;
    size = omega (arith, first.copied.size, x.size, is, length-append first.copied.more x.more);
    given = gives_both ahead first.copied.more x.more p q r first.copied.given x.given;
    written = Appends-trans (contents w) (contents v) (contents u) first.copied.more x.more first.copied.written x.written;
    left = omega (arith, first.copied.left, x.left, is);
  }) (λ _ _ _. tt);
  none = λ is. absurd (omega (arith, is, fits));
  spent = λ _ was. by_none n
      (λ is. let (ok, same, kept) = first.none is in let now = then.spent some (subst (λ x. IsSpent x) (sym same) was) in (now.0, now.1 ∙ same, now.2 ∙ kept))
      (λ any. let broke = (first.spent any was).0 in cc);
  refused = λ d start given h. IfErr-weaker result _ _
      (λ error. raw_breaks_later in_memory ahead d start given first.copied.more (contents w) (contents v) (contents u) r error first.copied.written)
      (then.refused d start (given ++ first.copied.more) (first.copied.given d start given h));
  unchanged = (then.unchanged.0 ∙ first.unchanged.0, then.unchanged.1 ∙ first.unchanged.1);
}

-- once all was read, the image was decoded
pub decoded_all : {R : Type 0} (d : DecoderState R) (start now : Option (List ℕ)) (given : List ℕ) (p : PixelsState R) → HasGiven d start now given p
    → unread_bytes p ≡ 0 → HasDecoded d start now given
unfolding HasGiven
decoded_all d start now given p h none = h.whole none

-- and what came last is the rest of the image
pub rest_is : {R : Type 0} (d : DecoderState R) (now : Option (List ℕ)) (bytes given rest more : List ℕ) (p : PixelsState R) → HasGiven d (Some bytes) now (given ++ rest) p
    → unread_bytes p ≡ 0 → given ++ more ≡ front_image d.channels d.header bytes → rest ≡ more
unfolding HasGiven
rest_is d now bytes given rest more p h none image =
    sym (drop_at given rest (length given) refl) ∙ ap (drop (length given)) ((h.whole none).image.0 ∙ sym image) ∙ drop_at given more (length given) refl

-- a row of the reader has as many bytes as one of its decoder
pub row_same : {R : Type 0} (d : DecoderState R) (start now : Option (List ℕ)) (given : List ℕ) (p : PixelsState R) → HasGiven d start now given p
    → row_size p.channels p.header ≡ row_size d.channels d.header
unfolding HasGiven
row_same d start now given p h = ap (λ x. row_size x p.header) h.channels ∙ ap (row_size d.channels) h.header

-- behind k rows the bytes of n rows were given
pub rows_after : {R : Type 0} (ahead : R → Option (List ℕ)) (d : DecoderState R) (start : Option (List ℕ)) (stride k n : ℕ) (more : List ℕ) (p q : PixelsState R)
    → HasRows d start (ahead p.reader) stride k p → stride ≡ row_size d.channels d.header → Gives ahead more p q → length more ≡ rows_size p n
    → HasRows d start (ahead q.reader) stride (k + n) q
unfolding HasRows
rows_after ahead d start stride k n more p q (given, before, h) is gives long =
    let many : length more ≡ stride * n = long ∙ ap (λ m. m * n) (row_same d start (ahead p.reader) given p h ∙ sym is) in
    (given ++ more, omega (arith, before, many, length-append given more, mul-add stride k n), gives d start given h)

-- and which ones they are
pub rows_are : {R : Type 0} (ahead : R → Option (List ℕ)) (d : DecoderState R) (bytes : List ℕ) (stride k n : ℕ) (more : List ℕ) (p q : PixelsState R)
    → HasRows d (Some bytes) (ahead p.reader) stride k p → stride ≡ row_size d.channels d.header → Gives ahead more p q → length more ≡ rows_size p n
    → more ≡ rectangle stride k 0 n stride (front_image d.channels d.header bytes)
unfolding HasRows HasGiven
rows_are ahead d bytes stride k n more p q (given, before, h) is gives long =
    let many : length more ≡ stride * n = long ∙ ap (λ m. m * n) (row_same d (Some bytes) (ahead p.reader) given p h ∙ sym is) in
    rows_next (front_image d.channels d.header bytes) given more stride k n (length more)
    (take_all (length more) more (omega arith) ∙ piece_follows d.channels d.header bytes given more (gives d (Some bytes) given h).front) before many many
