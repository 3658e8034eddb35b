-- Points in the image of a file, and the readers that go on there.
use Rattle.std.proofs.Common.{◌≡◌, ◌≤◌, ◌<◌, ◌+◌, ◌*◌, ◌/◌, ◌%◌, ◌∙◌, ℕ, List, ◌++◌, length, drop, reverse, replicate, Some, Result, Ok, Err, IfOk, refl, sym, ap, subst, arith, [], append_assoc, length-append, length-drop, length-take}
use Rattle.std.proofs.lemmas.List.{drop_at, drop-drop, drop-append-le}
use Rattle.qoi.specs.Qoi.{Error, Header, Channels, RgbaPixel, previous, channels_number, pixel_count, header_of, header_size, chunk_bytes, then_chunks}
use Rattle.qoi.specs.Raw.{IsChannels, output}
use Rattle.qoi.specs.inner.Hashed.{pixel_of_lanes, HoldsSeen}
use Rattle.qoi.specs.pieces.PixelReader.{PixelsState, unread_bytes, HasGiven}
use Rattle.qoi.specs.pieces.Unread.{kept_raw, IsUnread}
use Rattle.qoi.specs.inner.Filling.{DecoderAfter}
use Rattle.qoi.specs.pieces.RowIndex.{PointState, StandsAt, ReadsFile, IsPointOf, GoesOnAt, file_decoder}
use Rattle.qoi.proofs.format.HeaderBytes.{header_front}
use Rattle.qoi.proofs.format.WholePixels.{whole_pixels, length-output_reverse}
use Rattle.qoi.proofs.decoding.ImageSize.{channels_are}
use Rattle.qoi.proofs.decoding.PieceSteps.{copies, none_kept, kept_long, gone_count}
use Rattle.qoi.proofs.decoding.PixelPieces.{byte_bounds, has_given}

-- a header has its bytes
pub header_fits : (file : List ℕ) (h : Header) → header_of file ≡ Ok h → header_size ≤ length file
header_fits file h is = omega (arith, (header_front file h is).0, length-take header_size file)

-- the copies of a run's pixel
copies_of : (c run last m : ℕ) (p : RgbaPixel) → m ≡ run / c → p ≡ pixel_of_lanes last → replicate m p ≡ copies c run last
copies_of c run last m p many is = ap (λ k. replicate k p) many ∙ ap (replicate (run / c)) is

-- the point behind what a reader keeps is one of the file
pub point_stands : (channels : Channels) (h : Header) (file : List ℕ) (p : PixelsState (List ℕ)) (row : ℕ) (m : PointState) → IsPointOf file row p m → ReadsFile channels h file p
    → StandsAt (pixel_count h) file m
unfolding ReadsFile HasGiven
point_stands channels h file p row m s (is, given, r) =
    let c = channels_number channels in
    let f = channels_number h.channels in
    let is_c = channels_are channels c refl in
    let own : channels_number p.channels ≡ c = ap channels_number r.channels in
    let (gone, stands, so_far) = r.unread.goes_on s.some in
    let run : m.run ≡ p.unread.run / c = s.run ∙ ap (λ k. p.unread.run / k) own in
    let left : m.left ≡ p.unread.unstored / c = s.left ∙ ap (λ k. p.unread.unstored / k) own in
    let whole : p.unread.unstored % c ≡ 0 = ap (λ k. p.unread.unstored % k) (sym own) ∙ s.whole in
    let some : p.unread.unstored ≡ c * m.left = whole_pixels c p.unread.unstored is_c whole ∙ ap (λ k. c * k) (sym left) in
    let size : length (given ++ kept_raw p.unread) + p.unread.unstored ≡ c * pixel_count h =
    omega (arith, r.unread.size, length-append given (kept_raw p.unread), kept_long p.unread s.within) in
    record {
      cs = stands.cs;
      rest = p.reader;
      gone = gone;
      chunks = stands.chunks;
      split = stands.taken;
      at = omega (arith, s.at, header_fits file h is, length-drop header_size file, ap length stands.taken, length-append (chunk_bytes stands.cs) p.reader);
      pixels = stands.pixels ∙ ap (λ z. z ++ gone) (sym (copies_of c p.unread.run p.unread.last m.run m.last run s.last));
      table = s.table (then_chunks [] stands.cs) (subst (HoldsSeen p.unread.table) (sym stands.pixels) stands.has_seen.table_is);
      last = s.last ∙ stands.has_seen.last_is ∙ ap previous (sym stands.pixels);
      left = (gone_count f c (pixel_count h) m.left gone (given ++ kept_raw p.unread) p.unread.unstored is_c so_far size).0 some;
    }

-- the bytes of all pixels are those before the point and behind it
all_bytes : (c gone left n given unstored : ℕ) → IsChannels c → given ≡ c * gone → unstored ≡ left * c → gone + left ≡ n → given + unstored ≡ c * n
all_bytes c gone left n given unstored is g u all = grind (arith, is)

-- fewer pixels have fewer bytes, and some have some
fewer_bytes : (c run left bytes unstored : ℕ) → IsChannels c → bytes ≡ run * c → unstored ≡ left * c → run < left → bytes < unstored
fewer_bytes c run left bytes unstored is a b less = grind (arith, is)

-- the file behind the point is the rest of its chunks
rest_at : (file : List ℕ) (n : ℕ) (m : PointState) (p : StandsAt n file m) → drop m.at file ≡ p.rest
rest_at file n m p =
    ap (λ k. drop k file) p.at ∙ sym (drop-drop (length (chunk_bytes p.cs)) header_size file)
    ∙ ap (drop (length (chunk_bytes p.cs))) p.split ∙ drop_at (chunk_bytes p.cs) p.rest (length (chunk_bytes p.cs)) refl

-- a reader that goes on at a point of the file is one of its image
pub point_resumes : (channels : Channels) (h : Header) (file : List ℕ) (m : PointState) (q : PixelsState (List ℕ)) → GoesOnAt channels h (drop m.at file) m q
    → header_of file ≡ Ok h → StandsAt (pixel_count h) file m → ReadsFile channels h file q
unfolding ReadsFile
point_resumes channels h file m q s is p =
    let c = channels_number channels in
    let f = channels_number h.channels in
    let n = pixel_count h in
    let is_c = channels_are channels c refl in
    let start = Some (drop header_size file) in
    let given = output f c (reverse p.gone) in
    let reader : q.reader ≡ p.rest = s.reader ∙ rest_at file n m p in
    let run : m.run ≡ q.unread.run / c = grind (arith, is_c, s.run) in
    let same : replicate m.run m.last ≡ copies c q.unread.run q.unread.last = copies_of c q.unread.run q.unread.last m.run m.last run (sym s.last) in
    let all : then_chunks [] p.cs ≡ copies c q.unread.run q.unread.last ++ p.gone = p.pixels ∙ ap (λ z. z ++ p.gone) same in
    let after : DecoderAfter start (Some q.reader) q.unread.table q.unread.last (copies c q.unread.run q.unread.last ++ p.gone) = record {
      cs = p.cs;
      chunks = p.chunks;
      pixels = all;
      taken = p.split ∙ ap (λ z. chunk_bytes p.cs ++ z) (sym reader);
      has_seen = record { table_is = subst (HoldsSeen q.unread.table) all (s.table (then_chunks [] p.cs) p.table); last_is = s.last ∙ p.last ∙ ap previous all };
    } in
    let size : length given ≡ c * length p.gone = length-output_reverse f c p.gone is_c in
    let more : q.unread.run < q.unread.unstored = fewer_bytes c m.run m.left q.unread.run q.unread.unstored is_c s.run s.left s.behind in
    let unread : IsUnread f c n start (Some q.reader) given q.unread = record {
      size = omega (arith, all_bytes c (length p.gone) m.left n (length given) q.unread.unstored is_c size s.left p.left, s.none);
      goes_on = λ some. (p.gone, after, none_kept q.unread given (omega (arith, s.none)));
      ends = λ none. absurd (omega (arith, none, more));
    } in
    (is, given, has_given (file_decoder channels h file) start (Some q.reader) given q unread s.pixels s.header s.channels s.going (byte_bounds h channels s.valid).0)

-- the point stands in the file
pub point_within : (h : Header) (file : List ℕ) (m : PointState) → header_of file ≡ Ok h → StandsAt (pixel_count h) file m → (m.at ≤ length file) × (m.left ≤ pixel_count h)
point_within h file m is p = (
  omega (arith, p.at, header_fits file h is, length-drop header_size file, ap length p.split, length-append (chunk_bytes p.cs) p.rest),
  omega (arith, p.left),
)

-- it is one of a longer file, too
pub stands_then : (n : ℕ) (file more : List ℕ) (m : PointState) → header_size ≤ length file → StandsAt n file m → StandsAt n (file ++ more) m
stands_then n file more m long p = record {
  cs = p.cs;
  rest = p.rest ++ more;
  gone = p.gone;
  chunks = p.chunks;
  split = drop-append-le header_size file more long ∙ ap (λ z. z ++ more) p.split ∙ append_assoc (chunk_bytes p.cs) p.rest more;
  at = p.at;
  pixels = p.pixels;
  table = p.table;
  last = p.last;
  left = p.left;
}

-- what is left at a point, in bytes
pub goes_on_left : (channels : Channels) (h : Header) (rest : List ℕ) (m : PointState) (r : Result (PixelsState (List ℕ)) Error) → IfOk r (GoesOnAt channels h rest m)
    → IfOk r (λ p. unread_bytes p ≡ m.left * channels_number channels)
unfolding unread_bytes
goes_on_left channels h rest m (Ok q) s = omega (arith, s.none, s.left)
goes_on_left channels h rest m (Err e) s = tt
