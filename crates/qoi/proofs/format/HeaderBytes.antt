-- A header's fourteen bytes are read as the header, and no other bytes are; and raw bytes of the right
-- number are accepted with its size: a decoded image can be encoded again.
use Rattle.std.proofs.Common.{◌≡◌, ℕ, ◌*◌, ◌/◌, ◌%◌, ◌<◌, ◌≤◌, ◌⊎◌, inl, inr, List, length, min, arith, refl, sym, ap, ◌∙◌, subst, Ok, Err, ◌^◌, zero, suc, [], ◌∷◌, ◌++◌, take, drop, Bool, true, false, Option, Result, IfOk, slice_index, nat_le, nat_lt, ◌==◌, cond, ◌&&◌, length-append, if◌then◌else◌, append-nil, length-take-le, drop_at}
use Rattle.std.proofs.lemmas.Bool.{eqb-true, cond-true, le-ltb, ltb-false, le-leb, leb-true, and_from, and_parts}
use Rattle.std.proofs.Math.Nat.{mod-add-div', mul_comm, mul-mod_right, mul-div_cancel_left, mul-zero, le-mul_of_pos_right}
use Rattle.qoi.specs.declared.types.Channels.TheVariants.{Rgb, Rgba}
use Rattle.qoi.specs.Qoi.{Error, InvalidImageLength, InvalidMagic, InvalidImageDimensions, UnexpectedBufferEnd, IoError, Channels, Srgb, Linear, Header, ColorSpace, channels_number, channels_of, pixel_count, pixels_max, tried_header, IsValid, magic_number, colorspace_number, colorspace_of, AreBytes, header_bytes, number_at, checked_header, with_channels_read, header_of}
use Rattle.qoi.specs.Raw.{image_byte_count}
use Rattle.std.specs.Result.{result_and, result_map_both}
use Rattle.qoi.specs.Encoded.{image_header, measured_channels}
use Rattle.std.proofs.lemmas.Nat.{from_be_bytes-to_be_bytes_4, be_bytes_4}
use Rattle.std.specs.Int.{w32, to_be_bytes}
use Rattle.std.specs.Io.KnownBytes.{Consumes}
use Rattle.qoi.specs.Decoding.{ReadsHeader}
use Rattle.qoi.proofs.format.PartOfChunk.{byte_and}
use Rattle.qoi.proofs.format.WholePixels.{take_whole}

-- the number of channels is read back
channels_back : (c : Channels) → channels_of (channels_number c) ≡ Ok c
channels_back Rgb = refl
channels_back Rgba = refl

-- the number of a color space is read back
colorspace_back : (s : ColorSpace) → colorspace_of (colorspace_number s) ≡ Ok s
colorspace_back Srgb = refl
colorspace_back Linear = refl

-- a number that reads as channels is theirs
pub channels_from : (n : ℕ) (c : Channels) → channels_of n ≡ Ok c → n ≡ channels_number c
channels_from n c e = grind (arith)

-- a number that reads as a color space is its own
colorspace_from : (n : ℕ) (s : ColorSpace) → colorspace_of n ≡ Ok s → n ≡ colorspace_number s
colorspace_from n s e = grind (arith)

-- fourteen bytes
pub length-head : (h : Header) → length (header_bytes h) ≡ 14
length-head h = refl

-- what bytes that begin with a header say
record SaysHeader (bytes : List ℕ) (h : Header) : Type 0 where
  pub long : 14 ≤ length bytes
  pub channels : channels_of (slice_index bytes 12) ≡ Ok h.channels
  pub colorspace : colorspace_of (slice_index bytes 13) ≡ Ok h.colorspace
  pub magic : number_at bytes 0 ≡ magic_number
  pub width : number_at bytes 4 ≡ h.width
  pub height : number_at bytes 8 ≡ h.height
  pub valid : IsValid h

-- dimensions within bounds are taken
pub tried_valid : (h : Header) → IsValid h → tried_header h.width h.height h.channels h.colorspace ≡ Ok h
tried_valid h v =
    cond-true (nat_le 1 (h.width * h.height) && nat_le (h.width * h.height) pixels_max) _ _
    (and_from _ _ (le-leb 1 (h.width * h.height) v.0) (le-leb (h.width * h.height) pixels_max v.1))

-- bytes that say a header are read as it
header_from_says : (bytes : List ℕ) (h : Header) → SaysHeader bytes h → header_of bytes ≡ Ok h
header_from_says bytes h s =
    rw (le-ltb (length bytes) 14 s.long, s.channels, s.colorspace, s.magic, s.width, s.height) (tried_valid h s.valid)

-- a factor of a product within the bound is below 2 ^ 32
factor_below : (a b : ℕ) → 1 ≤ a * b → a * b ≤ pixels_max → a < 2 ^ 32
factor_below a zero low high = absurd (omega (arith, mul-zero a))
factor_below a (suc b) low high =
    let pos : 0 < suc b = omega arith in
    let h : a ≤ a * suc b = le-mul_of_pos_right a pos in
    omega arith

-- a valid header's bytes say it
says_head : (h : Header) (rest : List ℕ) → IsValid h → SaysHeader (header_bytes h ++ rest) h
says_head h rest v =
    let turned = mul_comm h.width h.height in
    record {
      long = omega (arith, length-append (header_bytes h) rest, length-head h);
      channels = channels_back h.channels;
      colorspace = colorspace_back h.colorspace;
      magic = refl;
      width = from_be_bytes-to_be_bytes_4 h.width (factor_below h.width h.height v.0 v.1);
      height = from_be_bytes-to_be_bytes_4 h.height (factor_below h.height h.width (omega (arith, v.0)) (omega (arith, v.1)));
      valid = v;
    }

-- a valid header's bytes are read as it, whatever follows them
pub header_of-head : (h : Header) (rest : List ℕ) → IsValid h → header_of (header_bytes h ++ rest) ≡ Ok h
header_of-head h rest v = header_from_says (header_bytes h ++ rest) h (says_head h rest v)

-- a test that guards against a refusal has passed
pub guard_true : {A E : Type 0} (b : Bool) (r : Result A E) (refusal : E) (x : A) → cond b r (Err refusal) ≡ Ok x → (b ≡ true) × (r ≡ Ok x)
guard_true true r refusal x e = (refl, e)
guard_true false r refusal x e = absurd cc

-- a test for a refusal has failed
guard_false : {A E : Type 0} (b : Bool) (r : Result A E) (refusal : E) (x : A) → cond b (Err refusal) r ≡ Ok x → (b ≡ false) × (r ≡ Ok x)
guard_false true r refusal x e = absurd cc
guard_false false r refusal x e = (refl, e)

-- a header that is tried has the fields that were given, and is valid
pub tried_says : (width height : ℕ) (c : Channels) (s : ColorSpace) (h : Header) → tried_header width height c s ≡ Ok h
    → (record { width = width; height = height; channels = c; colorspace = s } ≡ h) × IsValid h
tried_says width height c s h e =
    let k : Header = record { width = width; height = height; channels = c; colorspace = s } in
    let g = guard_true (nat_le 1 (pixel_count k) && nat_le (pixel_count k) pixels_max) (Ok k) (InvalidImageDimensions width height) h e in
    let bounds = and_parts (nat_le 1 (pixel_count k)) (nat_le (pixel_count k) pixels_max) g.0 in
    let same : k ≡ h = cc in
    (same, subst IsValid same (leb-true 1 (pixel_count k) bounds.0, leb-true (pixel_count k) pixels_max bounds.1))

-- bytes that are read as a header say it
says_from : (bytes : List ℕ) (h : Header) → header_of bytes ≡ Ok h → SaysHeader bytes h
says_from bytes h e =
    let long = guard_false (nat_lt (length bytes) 14) (with_channels_read bytes (channels_of (slice_index bytes 12))) UnexpectedBufferEnd h e in
    both (channels_of (slice_index bytes 12)) (colorspace_of (slice_index bytes 13)) refl refl (ltb-false (length bytes) 14 long.0) long.1
  where
    both : (r : Result Channels Error) (q : Result ColorSpace Error) → channels_of (slice_index bytes 12) ≡ r → colorspace_of (slice_index bytes 13) ≡ q
        → 14 ≤ length bytes → with_channels_read bytes r ≡ Ok h → SaysHeader bytes h
    both (Err x) q is_c is long k = absurd cc
    both (Ok c) (Err x) is_c is long k = let f : Err x ≡ Ok h = rw is at k in absurd cc
    both (Ok c) (Ok s) is_c is long k =
        let f : checked_header bytes c s ≡ Ok h = rw is at k in
        let g = guard_true (number_at bytes 0 == magic_number) (tried_header (number_at bytes 4) (number_at bytes 8) c s)
        (InvalidMagic (number_at bytes 0)) h f in
        let tried = tried_says (number_at bytes 4) (number_at bytes 8) c s h g.1 in
        record {
          long = long;
          channels = is_c ∙ ap (λ (x : Header). Ok x.channels) tried.0;
          colorspace = is ∙ ap (λ (x : Header). Ok x.colorspace) tried.0;
          magic = eqb-true (number_at bytes 0) magic_number g.0;
          width = ap (λ (x : Header). x.width) tried.0;
          height = ap (λ (x : Header). x.height) tried.0;
          valid = tried.1;
        }

-- four bytes are bytes
four_bytes : (a b c d : ℕ) → a < 256 → b < 256 → c < 256 → d < 256 → AreBytes (a ∷ b ∷ c ∷ d ∷ [])
four_bytes a b c d ha hb hc hd =
    byte_and a (b ∷ c ∷ d ∷ []) ha (byte_and b (c ∷ d ∷ []) hb (byte_and c (d ∷ []) hc (byte_and d [] hd (λ i. omega arith))))

-- bytes that say a header are its own, and then the rest
head_from_says : (bytes : List ℕ) (h : Header) → AreBytes bytes → SaysHeader bytes h → bytes ≡ header_bytes h ++ drop 14 bytes
head_from_says (m0 ∷ m1 ∷ m2 ∷ m3 ∷ w0 ∷ w1 ∷ w2 ∷ w3 ∷ h0 ∷ h1 ∷ h2 ∷ h3 ∷ c ∷ s ∷ rest) h fits says =
    let m : to_be_bytes w32 magic_number ≡ m0 ∷ m1 ∷ m2 ∷ m3 ∷ [] =
    be_bytes_4 (m0 ∷ m1 ∷ m2 ∷ m3 ∷ []) magic_number refl (four_bytes m0 m1 m2 m3 (fits 0) (fits 1) (fits 2) (fits 3)) (sym says.magic) in
    let w : to_be_bytes w32 h.width ≡ w0 ∷ w1 ∷ w2 ∷ w3 ∷ [] =
    be_bytes_4 (w0 ∷ w1 ∷ w2 ∷ w3 ∷ []) h.width refl (four_bytes w0 w1 w2 w3 (fits 4) (fits 5) (fits 6) (fits 7)) (sym says.width) in
    let g : to_be_bytes w32 h.height ≡ h0 ∷ h1 ∷ h2 ∷ h3 ∷ [] =
    be_bytes_4 (h0 ∷ h1 ∷ h2 ∷ h3 ∷ []) h.height refl (four_bytes h0 h1 h2 h3 (fits 8) (fits 9) (fits 10) (fits 11)) (sym says.height) in
    let k : c ≡ channels_number h.channels = channels_from c h.channels says.channels in
    let t : s ≡ colorspace_number h.colorspace = colorspace_from s h.colorspace says.colorspace in
    cc
head_from_says bytes h fits says = let long = says.long in absurd (omega arith)

-- bytes that are read as a header are its own, and then the rest; and the header is valid
pub head_from_header_of : (bytes : List ℕ) (h : Header) → AreBytes bytes → header_of bytes ≡ Ok h → (bytes ≡ header_bytes h ++ drop 14 bytes) × IsValid h
head_from_header_of bytes h fits e =
    let says = says_from bytes h e in
    (head_from_says bytes h fits says, says.valid)

-- the first fourteen of bytes that are read as a header are its own
pub own_header : (bytes : List ℕ) (r : Result Header Error) → AreBytes bytes → r ≡ header_of bytes → IfOk r (λ h. (take 14 bytes ≡ header_bytes h) × IsValid h)
own_header bytes (Ok h) fits e =
    let own = head_from_header_of bytes h fits (sym e) in
    (ap (take 14) own.0, own.1)
own_header bytes (Err x) fits e = tt

-- what was read of a stream if fourteen bytes came
pub stream_header : (old new : Option (List ℕ)) (bytes : List ℕ) (r : Result Header Error) → length bytes ≡ 14 → Consumes old new bytes → r ≡ header_of bytes
    → IfOk r (λ h. (take 14 bytes ≡ header_bytes h) × IsValid h) → ReadsHeader false old new r
stream_header old new bytes (Ok h) size came e own = (bytes, came, size, sym e, sym (take_whole 14 bytes size) ∙ own.0, own.1)
stream_header old new bytes (Err (IoError i)) size came e own = absurd (grind (arith, e))
stream_header old new bytes (Err x) size came e own = (bytes, came, (size, sym e))

-- what bytes are read as depends on the first fourteen
reads_front : (bytes rest : List ℕ) → 14 ≤ length bytes → header_of (take 14 bytes ++ rest) ≡ header_of bytes
reads_front bytes rest long =
    rw (
      le-ltb (length bytes) 14 long,
      le-ltb (length (take 14 bytes ++ rest)) 14 (omega (arith, length-append (take 14 bytes) rest, length-take-le 14 bytes long)),
    ) (same bytes long)
  where
    same : (bytes : List ℕ) → 14 ≤ length bytes → with_channels_read (take 14 bytes ++ rest) (channels_of (slice_index (take 14 bytes ++ rest) 12))
        ≡ with_channels_read bytes (channels_of (slice_index bytes 12))
    same (m0 ∷ m1 ∷ m2 ∷ m3 ∷ w0 ∷ w1 ∷ w2 ∷ w3 ∷ h0 ∷ h1 ∷ h2 ∷ h3 ∷ c ∷ s ∷ more) long = refl
    same bytes long = absurd (omega arith)

-- the fourteen bytes at the front of bytes that are read as a header
pub header_front : (bytes : List ℕ) (h : Header) → header_of bytes ≡ Ok h → (length (take 14 bytes) ≡ 14) × (header_of (take 14 bytes) ≡ Ok h)
header_front bytes h e =
    let long = (says_from bytes h e).long in
    (length-take-le 14 bytes long, ap header_of (sym (append-nil (take 14 bytes))) ∙ reads_front bytes [] long ∙ e)

-- bytes whose front is read as a header, and what follows it
pub header_split : (bytes taken rest : List ℕ) (h : Header) → bytes ≡ taken ++ rest → length taken ≡ 14 → header_of taken ≡ Ok h
    → (header_of bytes ≡ Ok h) × (rest ≡ drop 14 bytes)
header_split bytes taken rest h split size read =
    let same : bytes ≡ take 14 taken ++ rest = split ∙ ap (λ z. z ++ rest) (sym (take_whole 14 taken size)) in
    (ap header_of same ∙ reads_front taken rest (omega arith) ∙ read, sym (ap (drop 14) split ∙ drop_at taken rest 14 size))

-- a number of channels, of which greater ones are given as 255, is found from itself alone
number_from : (n : ℕ) (c : Channels) → channels_of (min n 255) ≡ Ok c → n ≡ channels_number c
number_from n c e = grind arith

-- raw bytes of which channels were found
measured_says : (raw : List ℕ) (width height : ℕ) (c : Channels) → measured_channels raw width height ≡ Ok c → length raw ≡ width * height * channels_number c
measured_says raw width height c e =
    let n = width * height in
    let g = guard_true (length raw % n == 0) _ _ c e in
    let whole = eqb-true (length raw % n) 0 g.0 in
    let times : length raw ≡ length raw / n * n = omega (arith, whole, mod-add-div' (length raw) n) in
    times ∙ ap (λ z. z * n) (number_from (length raw / n) c g.1) ∙ mul_comm (channels_number c) n

-- an image's header in these channels, in sRGB
abbrev in_channels : ℕ → ℕ → Channels → Header
in_channels width height c = record { width = width; height = height; channels = c; colorspace = Srgb }

-- the header of raw bytes that an encoder accepts is valid, and says how many they are
pub accepted_says : (raw : List ℕ) (width height : ℕ) (h : Header) → image_header raw width height ≡ Ok h → IsValid h × (length raw ≡ image_byte_count h)
accepted_says raw width height h e = go (tried_header width height Rgb Srgb) (measured_channels raw width height) refl refl e
  where
    go : (t : Result Header Error) (r : Result Channels Error) → tried_header width height Rgb Srgb ≡ t → measured_channels raw width height ≡ r
        → result_and t (result_map_both (in_channels width height) (λ e. e) r) ≡ Ok h → IsValid h × (length raw ≡ image_byte_count h)
    go (Err x) r t m e = absurd cc
    go (Ok k) (Err x) t m e = absurd cc
    go (Ok k) (Ok c) t m e =
        let tried = tried_says width height Rgb Srgb k t in
        let is : in_channels width height c ≡ h = cc in
        let count : pixel_count k ≡ pixel_count h = ap pixel_count (sym tried.0) ∙ ap pixel_count is in
        (subst (λ n. (1 ≤ n) × (n ≤ pixels_max)) count tried.1, measured_says raw width height c m ∙ ap image_byte_count is)

-- the channels of raw bytes are found from their number
pub found_by : (d : Channels) (m n width height : ℕ) → m ≡ n * channels_number d → 0 < n
    → (if m % n == 0 then channels_of (min (m / n) 255) else Err (InvalidImageLength m width height)) ≡ Ok d
found_by Rgb m n width height size some = rw (size, mul-mod_right n 3, mul-div_cancel_left 3 some) refl
found_by Rgba m n width height size some = rw (size, mul-mod_right n 4, mul-div_cancel_left 4 some) refl

-- raw bytes of a header's image are accepted with its width and height, and get its header, in sRGB
pub encoded_again : (h : Header) (raw : List ℕ) → IsValid h → length raw ≡ image_byte_count h
    → image_header raw h.width h.height ≡ Ok (record h { colorspace = Srgb })
encoded_again h raw valid size =
    let k : Header = record h { channels = Rgb; colorspace = Srgb } in
    let channels : measured_channels raw h.width h.height ≡ Ok h.channels = found_by h.channels (length raw) (pixel_count h) h.width h.height size (omega (arith, valid.0)) in
    rw (tried_valid k valid, channels) refl

-- raw bytes of the right number get the header of their size
pub size_accepted : (raw : List ℕ) (width height : ℕ) (channels : Channels) → 1 ≤ width * height → width * height ≤ pixels_max
    → length raw ≡ width * height * channels_number channels
    → image_header raw width height ≡ Ok (record { width = width; height = height; channels = channels; colorspace = Srgb })
size_accepted raw width height channels some few size =
    encoded_again (record { width = width; height = height; channels = channels; colorspace = Srgb }) raw (some, few) size

-- so they aren't refused
pub size_not_refused : (raw : List ℕ) (width height : ℕ) (e : Error) → 1 ≤ width * height → width * height ≤ pixels_max
    → (length raw ≡ width * height * 3) ⊎ (length raw ≡ width * height * 4) → image_header raw width height ≡ Err e → ⊥
size_not_refused raw width height e some few (inl three) refused = let found = size_accepted raw width height Rgb some few three in cc
size_not_refused raw width height e some few (inr four) refused = let found = size_accepted raw width height Rgba some few four in cc

-- nor are those of a header's image
pub header_not_refused : (h : Header) (raw : List ℕ) (width height : ℕ) (e : Error) → IsValid h → h.width ≡ width → h.height ≡ height
    → length raw ≡ image_byte_count h → image_header raw width height ≡ Err e → ⊥
header_not_refused h raw width height e valid wide high size refused =
    let same : image_header raw width height ≡ image_header raw h.width h.height =
    ap (λ w. image_header raw w height) (sym wide) ∙ ap (image_header raw h.width) (sym high) in
    let found = encoded_again h raw valid size in
    cc
