-- A mark of a reader, and the reader that goes on from it, also if bytes are appended behind the
-- image.
use Rattle.std.proofs.Common.{◌≡◌, ◌∙◌, ℕ, List, ◌++◌, Some, false, sym, ap, subst, append_assoc, ◌≤◌, ◌-◌, ◌+◌, length, drop, refl, length-append, arith, drop_at}
use Rattle.std.specs.Io.KnownBytes.{Consumes}
use Rattle.qoi.specs.Qoi.{channels_number, chunk_bytes, end_marker, IsValid, header_size}
use Rattle.qoi.specs.DecoderState.{DecoderState}
use Rattle.qoi.specs.pieces.PixelReader.{PixelsState, HasGiven}
use Rattle.qoi.specs.pieces.Unread.{Unread, OwesWholePixels, IsUnread}
use Rattle.qoi.proofs.decoding.PixelPieces.{byte_bounds, has_given}
use Rattle.qoi.specs.Decoded.{HasHeader}
use Rattle.qoi.specs.pieces.Mark.{MarkState, mark_of, reader_at, MarksGiven}

-- what stands at the front is taken
consumes_then : (bytes rest taken more : List ℕ) → Consumes (Some bytes) (Some rest) taken → Consumes (Some (bytes ++ more)) (Some (rest ++ more)) taken
consumes_then bytes rest taken more h = ap (λ z. z ++ more) h ∙ append_assoc taken rest more

-- what is unread stays so
unread_then : {f c n : ℕ} {given : List ℕ} {p : Unread} (bytes rest more : List ℕ) → IsUnread f c n (Some bytes) (Some rest) given p
    → IsUnread f c n (Some (bytes ++ more)) (Some (rest ++ more)) given p
unread_then bytes rest more h = record {
  size = h.size;
  goes_on = λ some.
      let (gone, s, e) = h.goes_on some in (
        gone,
        record { cs = s.cs; chunks = s.chunks; pixels = s.pixels; taken = consumes_then bytes rest (chunk_bytes s.cs) more s.taken; has_seen = s.has_seen },
        e,
      );
  ends = λ none.
      let r = h.ends none in
      record { cs = r.cs; chunks = r.chunks; reaches = r.reaches; taken = consumes_then bytes rest (chunk_bytes r.cs ++ end_marker) more r.taken; out_is = r.out_is };
}

-- so much was given
pub given_then : (d : DecoderState (List ℕ)) (bytes rest given more : List ℕ) (p q : PixelsState (List ℕ)) → IsValid p.header
    → q.header ≡ p.header → q.channels ≡ p.channels → q.unread ≡ p.unread → q.refused ≡ p.refused
    → (p.refused ≡ false → OwesWholePixels (channels_number p.channels) p.unread) → HasGiven d (Some bytes) (Some rest) given p → HasGiven d (Some (bytes ++ more)) (Some (rest ++ more)) given q
unfolding HasGiven
given_then d bytes rest given more p q valid header channels unread refused keeps h =
    let own : IsValid d.header = rw (sym h.header) valid in
    has_given d (Some (bytes ++ more)) (Some (rest ++ more)) given q (rw unread (unread_then bytes rest more h.unread))
    (subst (λ k. OwesWholePixels (channels_number k) q.unread) h.channels (rw unread (keeps h.going))) (header ∙ h.header) (channels ∙ h.channels)
    (refused ∙ h.going) (byte_bounds d.header d.channels own).0

-- the image stands behind the header, and the reader in it
stands_in : (d e : DecoderState (List ℕ)) (file bytes rest given : List ℕ) (p : PixelsState (List ℕ)) → HasHeader e (Some file) (Some bytes) → HasGiven d (Some bytes) (Some rest) given p
    → (front : List ℕ) × (file ≡ front ++ rest) × (length front + length rest ≡ header_size + length bytes)
unfolding HasGiven
stands_in d e file bytes rest given p made h =
    let (header, all, size, read, same, valid) = made.takes in
    let (taken, split, few) = h.within in (
      header ++ taken,
      all ∙ ap (λ z. header ++ z) split ∙ sym (append_assoc header taken rest),
      omega (arith, length-append header taken, size, length-append taken rest, ap length split),
    )

-- what was read of an image before the mark
pub marks_given : (d e : DecoderState (List ℕ)) (file bytes given : List ℕ) (p : PixelsState (List ℕ)) (m : MarkState) → m ≡ mark_of (length file - length p.reader) p
    → HasHeader e (Some file) (Some bytes) → HasGiven d (Some bytes) (Some p.reader) given p → MarksGiven d bytes given m
unfolding MarksGiven
marks_given d e file bytes given p m is made h =
    let (front, all, size) = stands_in d e file bytes p.reader given p made h in
    let at : (length file - length p.reader) + length p.reader ≡ header_size + length bytes = omega (arith, ap length all, length-append front p.reader, size) in
    rw is (p.reader, at, h)

-- the same if bytes are appended
pub marks_then : (d e : DecoderState (List ℕ)) (file bytes given more : List ℕ) (p : PixelsState (List ℕ)) (m : MarkState) → m ≡ mark_of (length file - length p.reader) p
    → IsValid p.header → (p.refused ≡ false → OwesWholePixels (channels_number p.channels) p.unread)
    → HasHeader e (Some file) (Some bytes) → HasGiven d (Some bytes) (Some p.reader) given p → MarksGiven d (bytes ++ more) given m
unfolding MarksGiven
marks_then d e file bytes given more p m is valid keeps made h =
    let (rest, at, h) = marks_given d e file bytes given p (mark_of (length file - length p.reader) p) refl made h in
    rw is (rest ++ more, omega (arith, at, length-append rest more, length-append bytes more), given_then d bytes rest given more _ _ valid refl refl refl refl keeps h)

-- a reader of which it was read goes on behind the mark
pub goes_on_at : (d e : DecoderState (List ℕ)) (file bytes given : List ℕ) (m : MarkState) → HasHeader e (Some file) (Some bytes) → MarksGiven d bytes given m
    → (m.at ≤ length file) × HasGiven d (Some bytes) (Some (drop m.at file)) given (reader_at m (drop m.at file))
unfolding MarksGiven
goes_on_at d e file bytes given m made (rest, at, h) =
    let (front, all, size) = stands_in d e file bytes rest given (reader_at m rest) made h in
    let same : m.at ≡ length front = omega (arith, at, size) in
    let behind : drop m.at file ≡ rest = ap (drop m.at) all ∙ drop_at front rest m.at (sym same) in (
      omega (arith, ap length all, length-append front rest, same),
      rw behind h,
    )
