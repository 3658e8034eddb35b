-- An index of the rows of a file's image, and readers of that image.
use Rattle.std.proofs.Common.{◌≡◌, ◌≤◌, ◌<◌, ◌+◌, ◌-◌, ◌*◌, ◌/◌, ◌%◌, ◌∙◌, ℕ, List, [], ◌∷◌, ◌++◌, length, length-append, min, drop, Option, Some, Result, Ok, Err, IfOk, IfErr, OnOk, IsOk, true, inl, inr, refl, sym, ap, subst, append_assoc, take, slice_index_or, false, zero-add, arith}
use Rattle.std.proofs.lemmas.List.{drop-append-le, get_or_append_left, length-take-le, take-append-drop}
use Rattle.std.proofs.lemmas.Result.{on_ok_weaker}
use Rattle.qoi.specs.Decoded.{HasHeader, HasRefusedFile}
use Rattle.qoi.specs.DecoderState.{DecoderState}
use Rattle.qoi.specs.Qoi.{Error, Header, Channels, channels_number, pixel_count, header_of, header_size, meaning, chunk_bytes, end_marker, IsValid, pixels_max}
use Rattle.qoi.specs.Reading.{IsImage, StandsAhead}
use Rattle.qoi.specs.Raw.{IsChannels, output}
use Rattle.qoi.specs.Images.{file_image, front_image, behind_header}
use Rattle.qoi.specs.pieces.Copying.{Gives}
use Rattle.qoi.specs.pieces.PixelReader.{PixelsState, unread_bytes, HasGiven, HasRows, RefusesPiece}
use Rattle.qoi.specs.pieces.Sizes.{decoded_ahead}
use Rattle.qoi.specs.pieces.Unread.{kept_count}
use Rattle.qoi.specs.pieces.RowIndex.{file_decoder, row_size, PointState, undecoded_pixels, points_count, StandsAt, ArePoints, IsPointAt, IsPointOf, HasPoints, ReadsFile, IsRowIndex, IsNearest, IsFileDecoder}
use Rattle.qoi.proofs.format.HeaderBytes.{header_front, header_split}
use Rattle.std.proofs.Math.Nat.{mul_assoc, mul_comm, mul-div-le, div-mul-le_self, lt-mul-div-succ, le-div_iff_mul-le, mul-lt-mul_of_pos_left}
use Rattle.std.proofs.Math.Seq.{get_or-append_seam}
use Rattle.std.proofs.lemmas.Bool.{cases_lt}
use Rattle.std.proofs.lemmas.Nat.{mul-le, mul-lt}
use Rattle.qoi.proofs.format.WholePixels.{by_channels, whole_pixels, length-output}
use Rattle.qoi.proofs.decoding.FrontImage.{image_is, header_is_one}
use Rattle.qoi.proofs.decoding.ImageSize.{channels_are}
use Rattle.qoi.proofs.decoding.Points.{header_fits, stands_then}
use Rattle.qoi.proofs.decoding.Promised.{has_refused_file}

-- the reader of the file's decoder
pub reads_first : (d : DecoderState (List ℕ)) (file : List ℕ) (p : PixelsState (List ℕ)) → IsFileDecoder file d → HasGiven d (Some d.reader) (Some p.reader) [] p
    → ReadsFile d.channels d.header file p
unfolding ReadsFile
reads_first d file p is g = (is.0, [], subst (λ (z : DecoderState (List ℕ)). HasGiven z (Some z.reader) (Some p.reader) [] p) is.1 g)

-- the same of a decoder that was just made
pub reads_start : (h : Header) (d : DecoderState (List ℕ)) (file : List ℕ) (p : PixelsState (List ℕ)) → HasHeader d (Some file) (Some d.reader) → header_of file ≡ Ok h
    → HasGiven d (Some d.reader) (Some p.reader) [] p → ReadsFile h.channels h file p
reads_start h d file p made is g =
    let reader : d.reader ≡ drop header_size file = cc made.after in
    let own : d ≡ file_decoder d.channels d.header file = ap (λ (r : List ℕ). record { reader = r; header = d.header; channels = d.channels }) reader in
    subst (λ (z : Header). ReadsFile z.channels z file p) (header_is_one file d.header h made.header is)
    (subst (λ k. ReadsFile k d.header file p) made.channels (reads_first d file p (made.header, own) g))

-- nothing of the image was read
pub first_left : (d : DecoderState (List ℕ)) (p : PixelsState (List ℕ)) → HasGiven d (Some d.reader) (Some p.reader) [] p
    → unread_bytes p ≡ pixel_count d.header * channels_number d.channels
unfolding HasGiven
first_left d p g = sym (zero-add (unread_bytes p)) ∙ g.left

-- more was read
pub reads_more : {T : Type 0} (channels : Channels) (h : Header) (file : List ℕ) (n : ℕ) (p q : PixelsState (List ℕ)) (r : Result T Error)
    → ReadsFile channels h file p → OnOk r ((more : List ℕ) × Gives Some more p q × (length more ≡ n)) → OnOk r (ReadsFile channels h file q)
unfolding ReadsFile
reads_more channels h file n p q r (is, given, g) = on_ok_weaker r (λ m. (is, given ++ m.0, m.1 (file_decoder channels h file) (Some (drop header_size file)) given g))

-- what is refused of the image is a refusal of the file
pub refused_file : {T : Type 0} (channels : Channels) (h : Header) (file : List ℕ) (p : PixelsState (List ℕ)) (n : ℕ) (new : Option (List ℕ)) (r : Result T Error)
    → ((d : DecoderState (List ℕ)) (start : Option (List ℕ)) (given : List ℕ) → HasGiven d start (Some p.reader) given p → IfErr r (RefusesPiece true d start given n new))
    → ReadsFile channels h file p → IfErr r (HasRefusedFile file)
unfolding ReadsFile
refused_file channels h file p n new (Ok x) refuses reads = tt
refused_file channels h file p n new (Err e) refuses (is, given, g) =
    has_refused_file file e (inr (h, is, (refuses (file_decoder channels h file) (Some (drop header_size file)) given g).why.why.1))

-- an image that stands whole isn't refused
pub never_refused : {T : Type 0} (channels : Channels) (h : Header) (file : List ℕ) (p : PixelsState (List ℕ)) (n : ℕ) (new : Option (List ℕ)) (r : Result T Error)
    → ((d : DecoderState (List ℕ)) (start : Option (List ℕ)) (given : List ℕ) → HasGiven d start (Some p.reader) given p → IfErr r (RefusesPiece true d start given n new))
    → ReadsFile channels h file p → StandsAhead h (drop header_size file) → IsOk r
unfolding ReadsFile StandsAhead
never_refused channels h file p n new (Ok x) refuses reads whole = refl
never_refused channels h file p n new (Err e) refuses (is, given, g) (cs, rest, whole) =
    absurd ((refuses (file_decoder channels h file) (Some (drop header_size file)) given g).why.not_whole refl (drop header_size file) rest cs refl whole)

-- a reader of the file goes on
pub still_going : (channels : Channels) (h : Header) (file : List ℕ) (p : PixelsState (List ℕ)) → ReadsFile channels h file p → p.refused ≡ false
unfolding ReadsFile HasGiven
still_going channels h file p (is, given, r) = r.going

-- an image whose bytes are all read stands whole
pub stands_whole : (channels : Channels) (h : Header) (file : List ℕ) (p : PixelsState (List ℕ)) → ReadsFile channels h file p → unread_bytes p ≡ 0 → StandsAhead h (drop header_size file)
unfolding ReadsFile HasGiven StandsAhead
stands_whole channels h file p (is, given, r) none =
    let (rest, left, image) = (r.whole none).rest (drop header_size file) refl in
    (image.cs, rest, image.whole)

-- a header stays whatever is appended
header_then : (file more : List ℕ) (h : Header) → header_of file ≡ Ok h → header_of (file ++ more) ≡ Ok h
header_then file more h is =
    let (size, front) = header_front file h is in
    let front_of = take header_size file in
    let split : file ++ more ≡ front_of ++ (drop header_size file ++ more) =
    ap (λ z. z ++ more) (sym (take-append-drop header_size file)) ∙ append_assoc front_of (drop header_size file) more in
    (header_split (file ++ more) front_of (drop header_size file ++ more) h split size front).0

-- an index of the file
pub row_index : (h : Header) (every : ℕ) (file : List ℕ) (points : List PointState) → header_of file ≡ Ok h → ArePoints (pixel_count h) file points
    → HasPoints h every points → StandsAhead h (drop header_size file) → IsRowIndex file points
unfolding IsRowIndex
row_index h every file points is are rows whole = record { h = h; every = every; header = is; are = are; rows = rows; whole = whole }

-- and of a longer one
pub row_index_then : (file more : List ℕ) (points : List PointState) → IsRowIndex file points → IsRowIndex (file ++ more) points
unfolding IsRowIndex ArePoints StandsAhead
row_index_then file more points index =
    let long = header_fits file index.h index.header in
    let (cs, rest, whole) = index.whole in
    let split : drop header_size (file ++ more) ≡ chunk_bytes cs ++ (end_marker ++ (rest ++ more)) =
    drop-append-le header_size file more long ∙ rw (whole.has.split, append_assoc, append_assoc) in
    record {
      h = index.h;
      every = index.every;
      rows = index.rows;
      header = header_then file more index.h index.header;
      are = λ k d within. stands_then (pixel_count index.h) file more (slice_index_or points k d) long (index.are k d within);
      whole = (cs, rest ++ more, record { has = record { chunks = whole.has.chunks; stays_below = whole.has.stays_below; split = split }; enough = whole.enough });
    }

-- the image of an index stands whole
pub index_whole : (h : Header) (file : List ℕ) (points : List PointState) → header_of file ≡ Ok h → IsRowIndex file points → StandsAhead h (drop header_size file)
unfolding IsRowIndex
index_whole h file points is index =
    let same : index.h ≡ h = cc (index.header, is) in
    subst (λ (z : Header). StandsAhead z (drop header_size file)) same index.whole

-- what was read, by what is left
pub at_row : (channels : Channels) (h : Header) (file : List ℕ) (k : ℕ) (p : PixelsState (List ℕ)) → ReadsFile channels h file p → k ≤ h.height
    → unread_bytes p ≡ h.width * (h.height - k) * channels_number channels
    → HasRows (file_decoder channels h file) (Some (drop header_size file)) (Some p.reader) (row_size channels h) k p
unfolding ReadsFile HasRows HasGiven
at_row channels h file k p (is, given, r) within left =
    let c = channels_number channels in
    let rest = h.height - k in
    let split : rest + k ≡ h.height = omega (arith, within) in
    let all : length given + unread_bytes p ≡ h.width * (rest + k) * c = r.left ∙ sym (ap (λ z. h.width * z * c) split) in
    (given, omega (arith, left, all), r)

-- the image of an index has as many rows as its header says
pub image_size : (h : Header) (file : List ℕ) (points : List PointState) → header_of file ≡ Ok h → IsRowIndex file points → length (file_image file) ≡ row_size h.channels h * h.height
unfolding StandsAhead file_image
image_size h file points is index =
    let bytes = drop header_size file in
    let n = pixel_count h in
    let f = channels_number h.channels in
    let (cs, rest, whole) = index_whole h file points is index in
    let ps = take n (meaning cs) in
    let image : IsImage h.channels bytes h rest (output f f ps) = record { cs = cs; whole = whole; out_is = refl } in
    ap length (ap (λ r. behind_header (λ h. front_image h.channels h) r bytes) is ∙ sym (image_is h.channels h bytes rest (output f f ps) image)) ∙ length-output f f ps (channels_are h.channels f refl)
    ∙ ap (λ k. f * k) (length-take-le n (meaning cs) whole.enough) ∙ mul_comm f n
    ∙ mul_assoc h.width h.height f ∙ ap (λ k. h.width * k) (mul_comm h.height f) ∙ sym (mul_assoc h.width f h.height)

-- a point that was found in an index
pub point_found : (h : Header) (file : List ℕ) (points view : List PointState) (i : ℕ) (m : PointState) → view ≡ points → header_of file ≡ Ok h → IsRowIndex file view
    → i < length points → m ≡ slice_index_or points i m → StandsAt (pixel_count h) file m
unfolding IsRowIndex ArePoints
point_found h file points view i m same is index within found =
    let own : IsRowIndex file points = subst (IsRowIndex file) same index in
    let header : own.h ≡ h = cc (own.header, is) in
    subst (StandsAt (pixel_count h) file) (sym found) (subst (λ (z : Header). StandsAt (pixel_count z) file (slice_index_or points i m)) header (own.are i m within))

-- of all pixels no fewer are unread than of some
pub enough_left : (a n c : ℕ) (r : Result (PixelsState (List ℕ)) Error) → a ≤ n → IfOk r (λ p. unread_bytes p ≡ n * c) → IfOk r (λ p. a * c ≤ unread_bytes p)
enough_left a n c (Ok p) few all = omega (arith, all, mul-le a c n c few (omega arith))
enough_left a n c (Err e) few all = tt

-- an image has a pixel in a row
some_width : (h : Header) → IsValid h → 0 < h.width
some_width h valid =
    elim (cases_lt 0 h.width) [
      | inl some ↦ some
      | inr none ↦ absurd (omega (arith, valid.0, mul-le h.width h.height 0 h.height none (omega arith)))
    ]

-- A row that has a point lies within the image, and more of it lies below than is decoded ahead.
pub below_point : (h : Header) (every k : ℕ) → IsValid h → 0 < every → k < points_count h every
    → (every * (k + 1) < h.height) × (h.height ≤ pixels_max) × (decoded_ahead < row_size h.channels h * (h.height - every * (k + 1)))
below_point h every k valid some less =
    let c = channels_number h.channels in
    let stride = row_size h.channels h in
    let rows = decoded_ahead / stride in
    let wide : 0 < c = grind (arith, channels_are h.channels c refl) in
    let long : 0 < stride = mul-lt 0 0 h.width c (some_width h valid) wide in
    let within : every * (k + 1) ≤ h.height - (1 + rows) =
    omega (arith, mul-le every (k + 1) every (points_count h every) (omega arith) (omega (arith, less)), mul-div-le (h.height - (1 + rows)) every) in
    let first : 0 < every * (k + 1) = omega (arith, some) in
    (omega (arith, within, first), omega (arith, valid.1, mul-le 1 h.height h.width h.height (some_width h valid) (omega arith)), omega (arith, lt-mul-div-succ decoded_ahead long, mul-le stride (rows + 1) stride (h.height - every * (k + 1)) (omega arith) (omega (arith, within, first))))

-- fewer rows have no more points
pub fewer_points : (h : Header) (every : ℕ) → 0 < every → points_count h every ≤ (h.height - 1) / every
fewer_points h every some =
    let rows = h.height - (1 + decoded_ahead / row_size h.channels h) in
    (le-div_iff_mul-le {k = every} {x = points_count h every} {y = h.height - 1} some).1 (omega (arith, div-mul-le_self rows every))

-- nothing was read above the first row
pub all_left : (h : Header) (every left : ℕ) → left ≡ pixel_count h * channels_number h.channels → row_size h.channels h * (h.height - every * 0) ≤ left
all_left h every left is =
    let stride = row_size h.channels h in
    omega (arith, is, mul-le stride (h.height - every * 0) stride h.height (omega arith) (omega arith))

-- of the bytes from a row on those from a later row on are left
bytes_left : (w c r s now bytes new : ℕ) → w * c * s ≤ now → r ≤ s → bytes ≡ w * r * c → new ≡ min bytes now → new ≡ w * c * r
bytes_left w c r s now bytes new enough fewer is least = omega (arith, enough, is, least, mul-le (w * c) r (w * c) s (omega arith) fewer)

pub row_left : (h : Header) (every k now bytes new : ℕ) → row_size h.channels h * (h.height - every * k) ≤ now → bytes ≡ h.width * (h.height - every * (k + 1)) * channels_number h.channels
    → new ≡ min bytes now → new ≡ row_size h.channels h * (h.height - every * (k + 1))
row_left h every k now bytes new enough is least =
    bytes_left h.width (channels_number h.channels) (h.height - every * (k + 1)) (h.height - every * k) now bytes new enough (omega arith) is least

-- pixels of so many bytes
fewer_pixels : (c w r left kept bytes : ℕ) → IsChannels c → bytes ≡ w * c * r → kept + c * left ≡ bytes → left ≤ w * r
fewer_pixels c w r left kept bytes is all split =
    by_channels (λ k. bytes ≡ w * k * r → kept + k * left ≡ bytes → left ≤ w * r) is (λ a b. omega (arith, a, b)) (λ a b. omega (arith, a, b)) all split

-- the point that is noted where a row starts is that row's
pub point_at : (h : Header) (file : List ℕ) (row : ℕ) (p : PixelsState (List ℕ)) (m : PointState) → IsPointOf file row p m → ReadsFile h.channels h file p
    → unread_bytes p ≡ row_size h.channels h * (h.height - row) → IsPointAt h row m
unfolding ReadsFile HasGiven unread_bytes
point_at h file row p m s (is, given, r) here =
    let c = channels_number h.channels in
    let is_c = channels_are h.channels c refl in
    let own : channels_number p.channels ≡ c = ap channels_number r.channels in
    let whole : p.unread.unstored % c ≡ 0 = ap (λ k. p.unread.unstored % k) (sym own) ∙ s.whole in
    let some : p.unread.unstored ≡ c * m.left =
    whole_pixels c p.unread.unstored is_c whole ∙ ap (λ k. c * k) (ap (λ k. p.unread.unstored / k) (sym own) ∙ sym s.left) in
    record {
      row_is = s.row_is;
      below = fewer_pixels c h.width (h.height - row) m.left (kept_count p.unread) (unread_bytes p) is_c here (omega (arith, some));
      near = omega (arith, some, here, s.few);
    }

-- one point more, of the next row
pub one_row_more : (h : Header) (every : ℕ) (points : List PointState) (m : PointState)
    → ((k : ℕ) (d : PointState) → k < length points → IsPointAt h (every * (k + 1)) (slice_index_or points k d)) → IsPointAt h (every * (length points + 1)) m
    → (k : ℕ) (d : PointState) → k < length (points ++ m ∷ []) → IsPointAt h (every * (k + 1)) (slice_index_or (points ++ m ∷ []) k d)
one_row_more h every points m are is k d within =
    elim (cases_lt k (length points)) [
      | inl less ↦ subst (IsPointAt h (every * (k + 1))) (sym (get_or_append_left points (m ∷ []) d k less)) (are k d less)
      | inr least ↦
          let last : k ≡ length points = omega (arith, least, within, length-append points (m ∷ [])) in
          let at : slice_index_or (points ++ m ∷ []) k d ≡ m = ap (λ n. slice_index_or (points ++ m ∷ []) n d) last ∙ get_or-append_seam points m [] d in
          subst (IsPointAt h (every * (k + 1))) (sym at) (subst (λ n. IsPointAt h (every * (n + 1)) m) (sym last) is)
    ]

-- the rows of an index
index_rows : (h : Header) (file : List ℕ) (points : List PointState) → header_of file ≡ Ok h → IsRowIndex file points → (every : ℕ) × HasPoints h every points
unfolding IsRowIndex
index_rows h file points is index =
    let same : index.h ≡ h = cc (index.header, is) in
    (index.every, subst (λ (z : Header). HasPoints z index.every points) same index.rows)

-- a point whose pixels to come begin above a row, or with it, is not that of a row below
point_above : (h : Header) (every first k : ℕ) (points : List PointState) (m : PointState) → IsValid h → HasPoints h every points → k < length points
    → h.width * (h.height - first) ≤ undecoded_pixels (slice_index_or points k m) → PointState.row (slice_index_or points k m) ≤ first
point_above h every first k points m valid has within serves =
    let at = has.are k m within in
    let row = every * (k + 1) in
    let inside = (below_point h every k valid has.some (omega (arith, within, has.count))).0 in
    elim (cases_lt first row) [
      | inl less ↦ absurd (omega (arith, serves, at.below, mul-lt-mul_of_pos_left {m = h.height - row} {n = h.height - first} (omega (arith, less, inside)) (some_width h valid)))
      | inr above ↦ omega (arith, above, at.row_is)
    ]

-- no point stands below the reader that serves: those behind the one it goes on at don't
pub nearest_found : (channels : Channels) (h : Header) (file : List ℕ) (points : List PointState) (first i : ℕ) (m : PointState) (r : Result (PixelsState (List ℕ)) Error)
    → header_of file ≡ Ok h → IsValid h → IsRowIndex file points → i < length points → m ≡ slice_index_or points i m
    → ((k : ℕ) (d : PointState) → i < k → k < length points → PointState.row (slice_index_or points k d) ≤ first → undecoded_pixels (slice_index_or points k d) < h.width * (h.height - first))
    → IfOk r (λ p. unread_bytes p ≡ undecoded_pixels m * channels_number channels) → IfOk r (IsNearest channels h first points)
nearest_found channels h file points first i m (Err e) is valid index within found tried left = tt
nearest_found channels h file points first i m (Ok p) is valid index within found tried left = λ k d below serves.
    let (every, has) = index_rows h file points is index in
    let c = channels_number channels in
    let at : IsPointAt h (every * (i + 1)) m = subst (IsPointAt h (every * (i + 1))) (sym found) (has.are i m within) in
    let here = has.are k d below in
    elim (cases_lt i k) [
      | inl less ↦ absurd (omega (arith, serves, tried k d less below (point_above h every first k points d valid has below serves)))
      | inr least ↦
          let above : every * (k + 1) ≤ every * (i + 1) = mul-le every (k + 1) every (i + 1) (omega arith) (omega (arith, least)) in
          let rows : h.width * (h.height - every * (i + 1)) ≤ h.width * (h.height - every * (k + 1)) =
          mul-le h.width (h.height - every * (i + 1)) h.width (h.height - every * (k + 1)) (omega arith) (omega (arith, above)) in
          let bytes : m.left * c ≤ h.width * (h.height - every * (k + 1)) * c =
          mul-le m.left c (h.width * (h.height - every * (k + 1))) c (omega (arith, at.below, rows)) (omega arith) in
          subst (λ z. unread_bytes p ≤ row_size channels h * (h.height - z)) (sym here.row_is) (omega (arith, left, bytes))
    ]

-- if no point serves, none does above which the reader stands
pub nearest_none : (channels : Channels) (h : Header) (file : List ℕ) (points : List PointState) (first : ℕ) (p : PixelsState (List ℕ))
    → header_of file ≡ Ok h → IsValid h → IsRowIndex file points
    → ((k : ℕ) (d : PointState) → k < length points → PointState.row (slice_index_or points k d) ≤ first → undecoded_pixels (slice_index_or points k d) < h.width * (h.height - first))
    → IsNearest channels h first points p
nearest_none channels h file points first p is valid index tried k d below serves =
    let (every, has) = index_rows h file points is index in
    absurd (omega (arith, serves, tried k d below (point_above h every first k points d valid has below serves)))
