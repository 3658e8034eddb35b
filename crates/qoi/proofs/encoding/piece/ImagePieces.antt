-- The file of an image, from one state to the next, and whole pixels of raw bytes.
use Rattle.std.proofs.Common.{◌≡◌, inl, ℕ, ◌+◌, ◌*◌, ◌/◌, ◌%◌, ◌<◌, ◌≤◌, List, [], ◌++◌, length, length-append, append-nil, arith, Option, refl, sym, ap, ◌∙◌, append_assoc, subst, None}
use Rattle.std.proofs.Math.Nat.{mul-mod_left}
use Rattle.qoi.specs.Styles.{Style}
use Rattle.qoi.specs.Qoi.{RgbaPixel, Header, Channels, AreBytes, start, channels_number, pixel_count, header_bytes, chunk_bytes, marker_size, end_marker}
use Rattle.qoi.specs.Raw.{IsChannels, pixels_of, image_byte_count}
use Rattle.std.specs.Borrow.{Bor}
use Rattle.qoi.specs.inner.Coder.{kept_bytes, CoderAfter, CoderBetween, LastPixel, Piece, Pixels, WritesSome, SPARE}
use Rattle.qoi.specs.WrittenList.{written_list}
use Rattle.qoi.specs.Encoded.{image_file}
use Rattle.qoi.specs.Writers.{WroteBeginning, AppendsBeginning}
use Rattle.qoi.specs.inner.Sending.{appended, pixel_size, EndsOpaque, IsNew, IsReady, ImageBetween, CoderGoes, FillsPiece, AreNextPixels, GoesOn, BreaksOff, Ends, OpenPiece, ImageState}
use Rattle.qoi.specs.EncoderState.{EncoderState}
use Rattle.qoi.proofs.format.RawPixels.{pixels_of-append, pixels_of_are}
use Rattle.qoi.proofs.format.WholePixels.{by_channels, whole_pixels}
use Rattle.qoi.proofs.decoding.ImageSize.{channels_are}
use Rattle.qoi.proofs.encoding.coder.PixelsIn.{byte_count}
use Rattle.qoi.proofs.encoding.coder.CoderLink.{coder_sent}
use Rattle.qoi.proofs.encoding.coder.CoderSteps.{all_bytes, coder_starts}
use Rattle.qoi.proofs.encoding.piece.BytesUnsent.{goes_to}
use Rattle.qoi.proofs.encoding.piece.WriterProgress.{Follows, begins, but_all, but_more, but_on}

-- before the first pixel, if the front of the header went and the rest is kept
pub image_starts : {W : Type 0} {wrote : W → List ℕ → W → Type 0} (e : EncoderState) (a b : W) (p : ImageState) (front kept : List ℕ) → AreBytes e.raw
    → IsNew e.header.channels e.style p → header_bytes e.header ≡ front ++ kept → wrote a front b → ImageBetween wrote e a b p kept e.raw
unfolding image_file
image_starts e a b p front kept are new split went =
    let chunks = chunk_bytes (written_list p.style (pixels_of (pixel_size p) e.raw)) in
    let pixels_are = pixels_of_are (pixel_size p) e.raw (channels_are p.channels (pixel_size p) refl) (all_bytes e.raw are) in
    record {
      unsent = kept ++ chunks;
      went = record {
        front = front;
        split = (λ i. split i ++ (chunk_bytes (written_list (sym new.style_is i) (pixels_of (channels_number (sym new.channels_is i)) e.raw)) ++ end_marker))
            ∙ append_assoc front kept (chunks ++ end_marker) ∙ ap (λ z. front ++ z) (sym (append_assoc kept chunks end_marker));
        went = went;
      };
      between = coder_starts p.style (pixels_of (pixel_size p) e.raw) kept p.table p.last pixels_are new.none
          (subst (λ style. CoderAfter style [] None p.table p.last) (sym new.style_is) new.state);
    }

module _ {W : Type 0} {wrote : W → List ℕ → W → Type 0} {e : EncoderState} {a now : W} {p : ImageState} {kept : List ℕ} where
  -- pixels can be written if there is room for the whole file
  pub image_ready : {raw : List ℕ} {free size : ℕ} → ImageBetween wrote e a now p kept raw → AreNextPixels p raw → 2 * SPARE ≤ size
      → length (image_file e.style e.header e.raw) ≤ free → IsReady free size p kept raw
  image_ready b whole large fits = record {
    whole = whole;
    large = large;
    enough = inl (b.unsent, b.between, omega (arith, fits, ap length b.went.split, length-append b.went.front (b.unsent ++ end_marker), length-append b.unsent end_marker));
  }

  -- what is kept is a part of the file, before its end marker
  pub image_kept : {q : ImageState} {raw kept' raw' : List ℕ} → ImageBetween wrote e a now p kept raw → CoderGoes p kept raw q kept' raw'
      → length kept' + marker_size ≤ length (image_file e.style e.header e.raw)
  image_kept {kept' = kept'} b goes =
      let t = coder_sent (goes_to goes b.unsent b.between) kept' [] (sym (append-nil kept')) in
      omega (arith, ap length t.1, length-append kept' t.0, ap length b.went.split, length-append b.went.front (b.unsent ++ end_marker), length-append b.unsent end_marker)

  module _ (both : Follows wrote wrote) where
    -- it went on
    pub image_on : {next : W} {p' : ImageState} {kept' raw raw' : List ℕ} (more : List ℕ) → ImageBetween wrote e a now p kept (raw ++ more)
        → GoesOn wrote now p kept raw next p' kept' raw' → ImageBetween wrote e a next p' kept' (raw' ++ more)
    image_on more b g =
        let u = g.on b.unsent more b.between in
        record { unsent = u.0; went = but_on both b.went (but_more end_marker u.1); between = u.2 }

    -- or broke off
    pub image_off : {next : W} {raw : List ℕ} (more : List ℕ) → ImageBetween wrote e a now p kept (raw ++ more) → BreaksOff wrote now p kept raw next
        → WroteBeginning wrote a (image_file e.style e.header e.raw) next
    image_off more b h =
        let w = begins end_marker refl (h.off b.unsent more b.between) in
        (w.0, but_on both b.went w.1)

  -- or ended, or ended early
  pub image_ends : {next : W} {raw : List ℕ} {later : W → List ℕ → W → Type 0} → Follows wrote later → ImageBetween wrote e a now p kept raw
      → Ends later now p kept raw next → later a (image_file e.style e.header e.raw) next
  image_ends follows b h = but_all follows b.went (h.all b.unsent b.between)

-- so many raw bytes as an image has are whole pixels
pub new_whole : (h : Header) {style : Style} {p : ImageState} {n : ℕ} → IsNew h.channels style p → n ≡ image_byte_count h → n % pixel_size p ≡ 0
new_whole h new is = (λ i. is i % channels_number (new.channels_is i)) ∙ mul-mod_left (pixel_count h) (channels_number h.channels)

-- the pixel before the first one is opaque
pub new_opaque : {k : Channels} {style : Style} {p : ImageState} → IsNew k style p → EndsOpaque p
unfolding start
new_opaque new three = ap (λ x. x.a) new.state.last_is

-- a beginning of bytes was appended
pub begins_appended : {a b : Option (List ℕ)} {bytes : List ℕ} → WroteBeginning appended a bytes b → AppendsBeginning a b bytes
begins_appended some = (some.1.front, some.0, some.1.split, some.1.went)

-- fewer pixels than a block has
pub few_pixels : (n : ℕ) (bytes : List ℕ) → IsChannels n → length bytes % n ≡ 0 → length bytes < 16 * n → length (pixels_of n bytes) < 16
few_pixels n bytes is whole few =
    let p = length (pixels_of n bytes) in
    by_channels (λ m. m * p < 16 * m → p < 16) is (λ a. omega arith) (λ a. omega arith) (omega (arith, byte_count n bytes is whole, few))

-- a block's pixels
pub block_pixels : (n : ℕ) (bytes : List ℕ) → IsChannels n → length bytes % n ≡ 0 → 16 * n ≤ length bytes → 16 ≤ length (pixels_of n bytes)
block_pixels n bytes is whole many =
    let p = length (pixels_of n bytes) in
    by_channels (λ m. 16 * m ≤ m * p → 16 ≤ p) is (λ a. omega arith) (λ a. omega arith) (omega (arith, byte_count n bytes is whole, many))

-- fewer pixels, and fewer bytes
fewer_bytes : (n : ℕ) (xs ys : List ℕ) → IsChannels n → length xs % n ≡ 0 → length ys % n ≡ 0 → length (pixels_of n xs) < length (pixels_of n ys) → length xs < length ys
fewer_bytes n xs ys is whole whole' less =
    let p = length (pixels_of n xs) in
    let q = length (pixels_of n ys) in
    let fewer = by_channels (λ m. p < q → m * p < m * q) is (λ a. omega arith) (λ a. omega arith) less in
    omega (arith, fewer, byte_count n xs is whole, byte_count n ys is whole')

-- whole pixels in front of other raw bytes
pub whole_ahead : (n : ℕ) (xs ys : List ℕ) → IsChannels n → length xs % n ≡ 0 → pixels_of n (xs ++ ys) ≡ pixels_of n xs ++ pixels_of n ys
whole_ahead n xs ys is whole = pixels_of-append n (length xs / n) xs ys is (whole_pixels n (length xs) is whole)

-- some of these pixels are written
pub fills : {N size : ℕ} {style : Style} {table : List RgbaPixel} {last : LastPixel} (p : ImageState) (piece : OpenPiece size) (bytes : List ℕ) (raw : Pixels N) (result : Piece size × Bor (List ℕ))
    → pixel_size p ≡ N → p.style ≡ style → raw.bytes.now ≡ bytes → WritesSome style raw p.table p.last piece.piece result.1.now table last result.0
    → FillsPiece p piece bytes (record p { table = table; last = last }) result
fills {N} {style = style} {table} {last} p piece bytes raw result size is same w =
    let Goes = λ (n : ℕ) (s : Style). (unsent more : List ℕ) → CoderBetween s unsent (pixels_of n (raw.bytes.now ++ more)) p.table p.last (kept_bytes piece.piece)
    → CoderBetween s unsent (pixels_of n (result.1.now ++ more)) table last (kept_bytes result.0) in
    let here : Goes N style = λ unsent more s.
    rw (whole_ahead N result.1.now more raw.channels w.whole) (w.on unsent (pixels_of N more) (rw (whole_ahead N raw.bytes.now more raw.channels raw.whole) at s)) in
    subst (λ d. FillsPiece p piece d (record p { table = table; last = last }) result) same (record {
      stays = (refl, refl);
      goes = record { on = subst (λ n. Goes n p.style) (sym size) (subst (Goes N) (sym is) here) };
      whole = (λ three. w.opaque (sym size ∙ three), ap (λ n. length result.1.now % n) size ∙ w.whole);
      less = fewer_bytes N result.1.now raw.bytes.now raw.channels w.whole raw.whole w.less;
    })
