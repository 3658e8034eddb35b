-- The file of an image: what holds of it.
use Rattle.std.proofs.Common.{◌≡◌, ◌≢◌, ℕ, ◌+◌, ◌*◌, ◌^◌, ◌<◌, ◌≤◌, List, [], ◌∷◌, ◌++◌, length, take, min, ◌-◌, refl, sym, ap, ◌∙◌, subst, arith, rules, append-nil, length-append}
use Rattle.std.proofs.Math.Nat.{mul_comm}
use lib.Seq.{take-append_seam}
use Rattle.std.specs.List.{AllByRecursion}
use Rattle.qoi.specs.Qoi.{Header, Chunk, AreBytes, IsPixel, channels_number, header_bytes, pixel_count, IsValid, RgbaPixel, bytes_of, chunk_bytes, Reaches, meaning, file, file_pixels, end_marker, IsFile}
use Rattle.qoi.specs.Raw.{IsChannels, output, HasChannels, image_byte_count}
use Rattle.qoi.specs.Written.{Written}
use Rattle.qoi.specs.Regular.{Regular}
use Rattle.qoi.specs.Shortest.{floor}
use Rattle.qoi.specs.Styles.{Style, Reference, Places, Tight, WrittenIn}
use Rattle.qoi.specs.Decoding.{DecodesFile}
use Rattle.qoi.specs.WrittenList.{written_list}
use Rattle.qoi.proofs.encoding.coder.CoderSteps.{all_bytes}
use Rattle.qoi.specs.Encoded.{max_file_len, image_header, image_pixels, image_file, Spans, IsNearShortest, IsFileBy, IsAsReference, IsShortIn, IsReadBack, IsFileOf, IsShortest}
use Rattle.std.specs.Prelude.{Option, drop, Ok}
use Rattle.qoi.specs.Writers.{AppendsBeginning}
use Rattle.std.specs.Io.KnownBytes.{Appends}
use Rattle.qoi.specs.Sent.{HasFileLength, MakesFile, PutsFile, SendsFile, SendsPart}
use Rattle.qoi.specs.EncoderState.{EncoderState}
use Rattle.qoi.proofs.format.ChunkPixels.{meaning_are_pixels}
use Rattle.qoi.proofs.format.ChunkSteps.{length-bytes_of}
use Rattle.qoi.proofs.format.WholePixels.{by_channels, take_whole}
use Rattle.qoi.proofs.decoding.Ahead.{stands_after}
use Rattle.qoi.proofs.decoding.FrontImage.{file_image_is, file_rest_is, decodes_file}
use Rattle.qoi.proofs.decoding.ImageSize.{channels_are}
use Rattle.qoi.proofs.decoding.Tiles.{picture_put, tile_put, sent_header, sent_image, sent_kept, sent_known, sent_pictures, sent_stay}
use Rattle.qoi.proofs.format.HeaderBytes.{accepted_says}
use Rattle.qoi.proofs.format.RawPixels.{pixels_of_are, pixels_of_have, length-pixels_of, output-pixels_of}
use Rattle.qoi.proofs.encoding.styles.StyleLists.{list_written, style_chunks, style_means, style_unique, style_reaches, style_fits, style_length, style_exact, style_apart, style_regular, style_upper}
use Rattle.qoi.proofs.shortness.RegularLists.{no_blank_regular}
use Rattle.qoi.proofs.shortness.Lower.{lower, lower0}
use Rattle.qoi.proofs.shortness.SlackSteps.{slack_most, slack_opens}

-- the bytes of a file are the header's, the chunks' and the end marker's
length-file : (h : Header) (cs : List Chunk) → length (file h cs) ≡ 22 + length (chunk_bytes cs)
length-file h cs = omega (arith, length-append (header_bytes h) (chunk_bytes cs ++ end_marker), length-append (chunk_bytes cs) end_marker)

-- the greatest length is exact for a valid header
pub max_is_exact : (h : Header) → IsValid h → max_file_len h ≡ pixel_count h * channels_number h.channels + pixel_count h + 22
max_is_exact h valid =
    let n = pixel_count h in
    by_channels (λ c. min (14 + n * c + n + 8) (2 ^ 64 - 1) ≡ n * c + n + 22) (channels_are h.channels (channels_number h.channels) refl) (omega (arith, valid.1)) (omega (arith, valid.1))

module _ (h : Header) (raw : List ℕ) (valid : IsValid h) (size : length raw ≡ image_byte_count h) where
  abbrev image : List RgbaPixel
  image = image_pixels h raw

  -- how many bytes a pixel has
  abbrev each : ℕ
  each = channels_number h.channels

  channels : IsChannels each
  channels = channels_are h.channels each refl

  image_size : length raw ≡ each * pixel_count h
  image_size = size ∙ mul_comm (pixel_count h) each

  -- as many pixels as the header says
  count : length image ≡ pixel_count h
  count = length-pixels_of each (pixel_count h) raw channels image_size

  has : HasChannels image each
  has = pixels_of_have each raw channels

  -- The file of a list that is written in a style.
  module _ (style : Style) (cs : List Chunk) (w : WrittenIn style (image_pixels h raw) cs) where
    means : meaning cs ≡ image
    means = style_means style image cs w

    -- the list has a byte
    text_long : 0 < length (chunk_bytes cs)
    text_long = some cs (omega (arith, count, ap length means, valid.0))
      where
        some : (cs : List Chunk) → 0 < length (meaning cs) → 0 < length (chunk_bytes cs)
        some [] none = none
        some (c ∷ cs) _ = omega (arith, length-append (bytes_of c) (chunk_bytes cs), length-bytes_of c)

    -- it is that of a file
    is_list : IsFile h cs
    is_list = record { valid = valid; chunks = style_chunks style image cs w; reaches = style_reaches style image (pixel_count h) cs w count }

    -- the image comes back
    back : (rest : List ℕ) → DecodesFile (file h cs ++ rest) h rest raw
    back rest =
        let pixels : file_pixels h cs ≡ image = ap (take (pixel_count h)) means ∙ take_whole (pixel_count h) image count in
        let given : raw ≡ output each each (file_pixels h cs)
        = sym (output-pixels_of each (pixel_count h) raw channels image_size) ∙ ap (output each each) (sym pixels) in
        decodes_file h cs (file h cs ++ rest) rest raw is_list refl given

    -- also if nothing follows
    whole : DecodesFile (file h cs) h [] raw
    whole = subst (λ z. DecodesFile z h [] raw) (append-nil (file h cs)) (back [])

    -- what holds in each style
    file_by : IsFileBy (WrittenIn style) h raw (file h cs)
    file_by = record {
      valid = valid;
      size = size;
      encoded = record { cs = cs; written = w; bytes_are = refl };
      only = λ others e. e.bytes_are ∙ ap (file h) (style_unique style image e.cs cs e.written w);
      fits = omega (arith, style_fits style image each (pixel_count h) cs has count w, length-file h cs, max_is_exact h valid);
      long = omega (arith, text_long, length-file h cs);
      comes_back = back;
      color_space = λ space others e. e.bytes_are ∙ ap (file (record h { colorspace = space })) (style_unique style image e.cs cs e.written w);
      apart = λ others front rest i v. style_apart style image others front rest i v;
    }

    -- what is read of it
    read_by : IsReadBack h raw (file h cs)
    read_by = record {
      header = whole.header;
      image = sym (file_image_is (file h cs) h [] raw whole);
      header_then = λ rest. (back rest).header;
      image_then = λ rest. sym (file_image_is (file h cs ++ rest) h rest raw (back rest));
      rest_then = λ rest. sym (file_rest_is (file h cs ++ rest) h rest raw (back rest));
      stands = stands_after (file h cs) h [] raw whole;
      stands_then = λ rest. stands_after (file h cs ++ rest) h rest raw (back rest);
    }

    -- it is near the shortest
    near : IsNearShortest h raw (file h cs)
    near =
        let most = style_upper style image each cs has w in
        let size_is = length-file h cs in
        let least : (others : List Chunk) → Spans h raw others → Regular others → floor image + 22 ≤ length (file h others)
        = λ others s regular. omega (arith, lower image others s.covers regular, length-file h others) in
        record {
          floor_is_below = λ others s regular. lower image others s.covers regular;
          near_floor = omega arith;
          near_others = λ others s regular. omega (arith, least others s regular);
          four_at_most = λ others s regular. grind (arith, least others s regular, slack_most image each, channels);
          none_shorter = λ other others s regular. omega (arith, least others s regular, slack_opens image each other);
          all_regular = λ no_blank others s. no_blank_regular image others (subst (λ n. Reaches n others) (sym count) s.reaches) s.covers no_blank;
        }

    -- except in style Tight the list is regular, and as long as that of `Written`
    as_reference : style ≢ Tight → Written (image_pixels h raw) w.list → IsAsReference style h raw (file h cs)
    as_reference other written = record {
      regular = λ others v. style_regular style image others other v;
      list = w.list;
      written = written;
      as_long = omega (arith, length-file h cs, style_length style image cs w, length-file h w.list);
    }

  -- how short it is in each style
  short_in : (style : Style) (cs : List Chunk) → WrittenIn style (image_pixels h raw) cs → IsShortIn style h raw (file h cs)
  short_in Reference cs w = as_reference Reference cs w (λ e. absurd (let x = e in cc)) w.written
  short_in Places cs w = as_reference Places cs w (λ e. absurd (let x = e in cc)) w.written
  short_in Tight cs w =
      let size_is = length-file h cs in
      let exact = style_exact image cs w in
      record { floor0_is = omega arith; shortest = λ others s. omega (arith, lower0 image others s.covers, length-file h others) }

  -- the list that is written
  list_is : (style : Style) → AreBytes raw → WrittenIn style (image_pixels h raw) (written_list style (image_pixels h raw))
  list_is style are = list_written style (image_pixels h raw) (pixels_of_are (channels_number h.channels) raw channels (all_bytes raw are))

  -- all of it
  pub file_of : (style : Style) → AreBytes raw → (cs : List Chunk) → WrittenIn style (image_pixels h raw) cs → IsFileOf style h raw (file h cs)
  unfolding image_file
  file_of style are cs w = record {
    is_file = file_by style cs w;
    is_image_file = ap (file h) (style_unique style (image_pixels h raw) cs (written_list style (image_pixels h raw)) w (list_is style are));
    near_shortest = near style cs w;
    shortness = short_in style cs w;
    read_back = read_by style cs w;
  }

-- an image of valid size has a file
pub file_of_image : (style : Style) (h : Header) (raw : List ℕ) → IsValid h → length raw ≡ image_byte_count h → AreBytes raw
    → IsFileOf style h raw (image_file style h raw)
unfolding image_file
file_of_image style h raw valid size are =
    file_of h raw valid size style are (written_list style (image_pixels h raw)) (list_is h raw valid size style are)

-- so has an image that an encoder accepts
pub file_of_accepted : (style : Style) (h : Header) (raw : List ℕ) (width height : ℕ) → AreBytes raw → image_header raw width height ≡ Ok h
    → IsFileOf style h raw (image_file style h raw)
file_of_accepted style h raw width height are e =
    let says = accepted_says raw width height h e in
    file_of_image style h raw says.0 says.1 are

-- the chunks of the file in any style span the image
file_spans : (style : Style) (h : Header) (raw bytes : List ℕ) → (f : IsFileOf style h raw bytes) → Spans h raw f.is_file.encoded.cs
file_spans style h raw bytes f =
    let image = image_pixels h raw in
    let e = f.is_file.encoded in
    record {
      covers = (style_chunks style image e.cs e.written, [], style_means style image e.cs e.written ∙ sym (append-nil image));
      reaches = style_reaches style image (pixel_count h) e.cs e.written (count h raw f.is_file.valid f.is_file.size);
    }

-- in style Tight it is no longer than in any other
pub tight_no_longer : (style : Style) (h : Header) (raw bytes : List ℕ) → IsFileOf style h raw bytes → length (image_file Tight h raw) ≤ length bytes
unfolding image_file
tight_no_longer style h raw bytes f =
    let image = image_pixels h raw in
    let e = f.is_file.encoded in
    let are = subst (AllByRecursion IsPixel) (style_means style image e.cs e.written) (meaning_are_pixels e.cs (style_chunks style image e.cs e.written)) in
    let list = written_list Tight image in
    omega (
      arith,
      style_exact image list (list_written Tight image are),
      lower0 image e.cs (file_spans style h raw bytes f).covers,
      length-file h list,
      length-file h e.cs,
      ap length e.bytes_are,
    )

-- the file is one
one_file : {style : Style} {h : Header} {raw bytes others : List ℕ} → IsFileOf style h raw bytes → IsFileOf style h raw others → bytes ≡ others
one_file {bytes = bytes} f g = g.is_file.only bytes f.is_file.encoded

-- what holds of its length
counts_file : (e : EncoderState) (bytes : List ℕ) (n : ℕ) → IsFileOf e.style e.header e.raw bytes → n ≡ length bytes → HasFileLength e n
counts_file e bytes n f is = record {
  same = λ others g. is ∙ ap length (one_file f g);
  within = rw is (f.is_file.long, f.is_file.fits);
  shortest = shortest;
  no_longer = λ tight other others g. let c = g.is_file.encoded in
      subst (λ z. n ≤ length z) (sym c.bytes_are) ((shortest tight).shortest c.cs (file_spans other e.header e.raw others g));
  as_long = λ places others g. let s = (subst (λ own. IsFileOf own e.header e.raw bytes) places f).shortness in
      is ∙ s.as_long ∙ ap length (g.is_file.only (file e.header s.list)
      (record { cs = s.list; written = record { list = s.list; written = s.written; is = refl }; bytes_are = refl }));
}
  where
    shortest : e.style ≡ Tight → IsShortest e.header e.raw n
    shortest tight = subst (IsShortest e.header e.raw) (sym is) (subst (λ s. IsFileOf s e.header e.raw bytes) tight f).shortness

-- what holds of the file
pub makes_file : (e : EncoderState) (bytes : List ℕ) → IsFileOf e.style e.header e.raw bytes → MakesFile e bytes
makes_file e bytes f = record {
  file = f;
  is = f.is_image_file;
  counts = counts_file e bytes (length bytes) f refl;
  space = λ space others g. f.is_file.color_space space others g.is_file.encoded;
  as_many = λ space others g. ap length (f.is_file.color_space space others g.is_file.encoded) ∙ search rules;
}

-- what holds of a buffer that it was put into
pub puts_file : (e : EncoderState) (bytes old new : List ℕ) (n : ℕ) → IsFileOf e.style e.header e.raw bytes → n ≡ length bytes
    → new ≡ bytes ++ drop n old → n ≤ length old → PutsFile e old new n
puts_file e bytes old new n f is filled room =
    let front : take n new ≡ bytes = ap (take n) filled ∙ ap (λ k. take k (bytes ++ drop n old)) is ∙ take-append_seam bytes (drop n old) in
    record {
      bytes = bytes;
      file = f;
      count = is;
      new_is = filled;
      is = f.is_image_file;
      room = room;
      front = subst (IsFileOf e.style e.header e.raw) (sym front) f;
      counts = counts_file e bytes n f is;
    }

-- what holds of a writer that it was sent to
pub sends_file : (e : EncoderState) (bytes : List ℕ) (old new : Option (List ℕ)) (n : ℕ) → IsFileOf e.style e.header e.raw bytes → n ≡ length bytes
    → Appends old new bytes → SendsFile e old new n
sends_file e bytes old new n f is sent = record {
  bytes = bytes;
  file = f;
  count = is;
  sent = sent;
  is = f.is_image_file;
  counts = counts_file e bytes n f is;
  image = sent_image e.style e.header e.raw bytes old new f sent;
  stay = sent_stay bytes old new sent;
  put = λ before after was is. tile_put e.style e.header e.raw bytes before after f (sent_known bytes old new sent before after was is);
  kept = sent_kept bytes old new sent;
  header = sent_header e.style e.header e.raw bytes old new f sent;
  picture = λ before after was is. picture_put e.style e.header e.raw bytes before after f (sent_known bytes old new sent before after was is);
  pictures = sent_pictures bytes old new sent;
}

-- or a beginning of it
pub sends_part : (e : EncoderState) (bytes : List ℕ) (old new : Option (List ℕ)) → IsFileOf e.style e.header e.raw bytes
    → AppendsBeginning old new bytes → SendsPart e old new
sends_part e bytes old new f sent = record {
  bytes = bytes;
  file = f;
  sent = sent;
  same = λ others g. subst (AppendsBeginning old new) (one_file f g) sent;
}
