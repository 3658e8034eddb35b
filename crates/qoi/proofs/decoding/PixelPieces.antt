-- What was given of an image, and rows of it, as a caller sees it: the pieces so far are the beginning
-- of the image ahead.
use Rattle.std.proofs.Common.{◌≡◌, ℕ, ◌+◌, ◌-◌, ◌*◌, ◌<◌, inl, inr, List, [], ◌++◌, length, take, reverse, Option, None, Some, IfSome, arith, refl, sym, ap, ◌∙◌, append_assoc, ◌≤◌, ◌^◌, drop, Bool, true, false, subst, mul_comm, mul-add}
use Rattle.std.proofs.lemmas.List.{drop_at, drop-take, length-append, length-reverse, reverse-append, reverse-reverse, take_all}
use Rattle.std.proofs.lemmas.Bool.{cases_lt}
use Rattle.std.proofs.lemmas.Grind.{flat_map-append}
use Rattle.std.proofs.Math.Seq.{take-append_seam, take-append-add}
use Rattle.qoi.specs.Qoi.{Chunk, Header, Channels, Error, Past, chunk_bytes, then_chunks, meaning, channels_number, pixel_count, IsValid}
use Rattle.qoi.specs.Raw.{IsChannels, pixel_bytes, output, byte_count}
use Rattle.qoi.specs.Images.{front_image}
use Rattle.qoi.specs.DecoderState.{TakesAtMost, DecoderState, output_byte_count}
use Rattle.qoi.specs.pieces.Unread.{Unread, kept_count, kept_raw, IsUnread, bytes_left, OwesWholePixels}
use Rattle.qoi.proofs.format.ChunkSteps.{given as pixels_after, then_chunks_given, then_chunks-append}
use Rattle.qoi.proofs.decoding.Ahead.{image_read}
use Rattle.qoi.proofs.decoding.FrontImage.{image_begins, image_is}
use Rattle.qoi.proofs.decoding.ImageSize.{channels_are}
use Rattle.qoi.proofs.decoding.PieceSteps.{still_goes, none_kept}
use Rattle.qoi.proofs.decoding.TakenBytes.{bytes_within, read_within}
use Rattle.std.proofs.KnownBytes.{Keeps-refl}
use Rattle.qoi.specs.declared.types.Channels.TheVariants.{Rgb, Rgba}
use Rattle.qoi.specs.Decoding.{ReadsImage}
use Rattle.qoi.specs.pieces.PixelReader.{PixelsState, unread_bytes, HasGiven, HasRows, RefusesPixels}
use Rattle.qoi.specs.Rectangles.{rectangle}
use Rattle.qoi.specs.inner.Chunks.{RefusesChunks}
use Rattle.qoi.proofs.format.RectangleLaws.{whole_rows}
use Rattle.qoi.proofs.decoding.Promised.{has_decoded, has_refused}

-- what stands at the front
seam : {A : Type 0} (xs ys zs : List A) → zs ≡ xs ++ ys → xs ≡ take (length xs) zs
seam xs ys zs e = sym (ap (take (length xs)) e ∙ take-append_seam xs ys)

-- for n pixels at most 5n + 8 bytes were taken
pub unread_within : (f c n : ℕ) (start now : Option (List ℕ)) (given : List ℕ) (p : Unread) → IsChannels c → IsUnread f c n start now given p → OwesWholePixels c p
    → TakesAtMost (5 * n + 8) start now
unread_within f c n start now given p is h whole =
    elim (cases_lt 0 p.unstored) [
      | inl some ↦
          let so_far = still_goes p is h whole some in
          let stands = so_far.stands in
          (chunk_bytes stands.cs, stands.taken, omega (arith, bytes_within [] stands.cs stands.chunks, ap length stands.pixels, so_far.fewer))
      | inr none ↦ read_within f c n start now (given ++ kept_raw p) (h.ends (omega (arith, none)))
    ]

-- the image's pixels are those that are gone and others
more_pixels : (n : ℕ) (cs more : List Chunk) (gone : Past) → then_chunks [] cs ≡ gone → length gone < n
    → take n (meaning (cs ++ more)) ≡ reverse gone ++ take (n - length gone) (pixels_after gone more)
more_pixels n cs more gone is few =
    let all : meaning (cs ++ more) ≡ reverse gone ++ pixels_after gone more =
    ap reverse (then_chunks-append [] cs more ∙ ap (λ z. then_chunks z more) is ∙ then_chunks_given gone more)
    ∙ reverse-append (reverse (pixels_after gone more)) gone ∙ ap (λ z. reverse gone ++ z) (reverse-reverse (pixels_after gone more)) in
    let count : n ≡ length (reverse gone) + (n - length gone) = omega (arith, length-reverse gone, few) in
    ap (take n) all ∙ ap (λ k. take k (reverse gone ++ pixels_after gone more)) count ∙ take-append-add (reverse gone) (pixels_after gone more) (n - length gone)

-- the pieces so far are the beginning of the image
pub front_given : (channels : Channels) (h : Header) (start now : Option (List ℕ)) (given : List ℕ) (p : Unread)
    → IsUnread (channels_number h.channels) (channels_number channels) (pixel_count h) start now given p → OwesWholePixels (channels_number channels) p
    → IfSome start (λ bytes. given ≡ take (length given) (front_image channels h bytes))
front_given channels h None now given p s whole = tt
front_given channels h (Some bytes) now given p s whole =
    elim (cases_lt 0 p.unstored) [
      | inl some ↦ going now given p s whole some
      | inr none ↦ let read = image_read channels h bytes now (given ++ kept_raw p) (s.ends (omega (arith, none))) in
          seam given (kept_raw p) _ (sym (image_is channels h bytes read.0 (given ++ kept_raw p) read.2))
    ]
  where
    going : (now : Option (List ℕ)) (given : List ℕ) (p : Unread) → IsUnread (channels_number h.channels) (channels_number channels) (pixel_count h) (Some bytes) now given p
        → OwesWholePixels (channels_number channels) p → 0 < p.unstored → given ≡ take (length given) (front_image channels h bytes)
    going None given p s whole some = let (gone, stands, e) = s.goes_on some in absurd stands.taken
    going (Some left) given p s whole some =
        let f = channels_number h.channels in
        let c = channels_number channels in
        let n = pixel_count h in
        let so_far = still_goes p (channels_are channels c refl) s whole some in
        let gone = so_far.all in
        let stands = so_far.stands in
        let few = so_far.fewer in
        let (more, is) = image_begins channels h stands.cs left stands.chunks (omega (arith, few, ap length stands.pixels)) in
        let others = output f c (take (n - length gone) (pixels_after gone more)) in
        let image : front_image channels h bytes ≡ output f c (reverse gone) ++ others =
        ap (front_image channels h) stands.taken ∙ is ∙ ap (output f c) (more_pixels n stands.cs more gone stands.pixels few)
        ∙ flat_map-append (pixel_bytes f c) (reverse gone) (take (n - length gone) (pixels_after gone more)) in
        seam given (so_far.behind ++ others) _ (image ∙ ap (λ z. z ++ others) (sym so_far.bytes_are) ∙ append_assoc given so_far.behind others)

-- how many bytes an image has
pub byte_bounds : (h : Header) (c : Channels) → IsValid h → (3 ≤ byte_count h (channels_number c)) × (byte_count h (channels_number c) < 2 ^ 64)
byte_bounds h Rgb valid = (omega (arith, valid), omega (arith, valid))
byte_bounds h Rgba valid = (omega (arith, valid), omega (arith, valid))

-- what was given
pub has_given : {R : Type 0} (d : DecoderState R) (start now : Option (List ℕ)) (given : List ℕ) (p : PixelsState R)
    → IsUnread (channels_number d.header.channels) (channels_number d.channels) (pixel_count d.header) start now given p.unread
    → OwesWholePixels (channels_number d.channels) p.unread → p.header ≡ d.header → p.channels ≡ d.channels → p.refused ≡ false → 3 ≤ output_byte_count d → HasGiven d start now given p
unfolding unread_bytes HasGiven
has_given d start now given p h pixels same chosen going some =
    let n = pixel_count d.header in
    let k = channels_number d.channels in
    let all : length given + bytes_left p.unread ≡ output_byte_count d = h.size ∙ mul_comm k n in
    record {
      going = going;
      unread = h;
      header = same;
      channels = chosen;
      left = all;
      within = unread_within (channels_number d.header.channels) k n start now given p.unread (channels_are d.channels k refl) h pixels;
      front = front_given d.channels d.header start now given p.unread h pixels;
      whole = λ none.
          let q = p.unread in
          let empty : kept_count q ≡ 0 = omega (arith, none) in
          has_decoded d start now given (omega (arith, all, none), omega (arith, all, none, some))
          (subst (ReadsImage (channels_number d.header.channels) k n start now) (none_kept q given empty) (h.ends (omega (arith, none))));
    }

-- an image that is refused
pub refuses_pixels : {R : Type 0} (in_memory : Bool) (d : DecoderState R) (start now : Option (List ℕ)) (e : Error)
    → RefusesChunks in_memory (pixel_count d.header) start now e → RefusesPixels in_memory d start now e
refuses_pixels true d start now e why = has_refused true d start start e (Keeps-refl start, why)
refuses_pixels false d start now e why = has_refused false d start now e why

-- three channels don't show how many the file has
pub in_three : {f g n : ℕ} {start now : Option (List ℕ)} {given : List ℕ} {p : Unread} → IsUnread f 3 n start now given p → IsUnread g 3 n start now given p
in_three h = record {
  size = h.size;
  goes_on = λ some. let (gone, stands, e) = h.goes_on some in (gone, stands, e);
  ends = λ none. let r = h.ends none in record { cs = r.cs; chunks = r.chunks; reaches = r.reaches; taken = r.taken; out_is = r.out_is };
}

-- the same of values that are equal
pub unread_of : {start : Option (List ℕ)} {given : List ℕ} {h g : Header} {c k : Channels} {now other : Option (List ℕ)} {p q : Unread} → h ≡ g → c ≡ k → now ≡ other → p ≡ q
    → IsUnread (channels_number g.channels) (channels_number k) (pixel_count g) start other given q
    → IsUnread (channels_number h.channels) (channels_number c) (pixel_count h) start now given p
unread_of header channels ahead unread x = rw (header, channels, ahead, unread) x

-- of the front of an image the piece after the first bytes is the image's
pub piece_follows : (channels : Channels) (h : Header) (bytes given piece : List ℕ) → given ++ piece ≡ take (length (given ++ piece)) (front_image channels h bytes)
    → piece ≡ take (length piece) (drop (length given) (front_image channels h bytes))
piece_follows channels h bytes given piece front =
    sym (drop_at given piece (length given) refl) ∙ ap (drop (length given)) front
    ∙ ap (λ n. drop (length given) (take n (front_image channels h bytes))) (length-append given piece)
    ∙ drop-take (length given) (length piece) (front_image channels h bytes)

-- what fills a buffer of n rows is n rows more
pub rows_more : {R : Type 0} (d : DecoderState R) (start now : Option (List ℕ)) (stride k n size : ℕ) (given rows : List ℕ) (p : PixelsState R)
    → HasGiven d start now (given ++ take size rows) p → length given ≡ stride * k → length rows ≡ stride * n → stride * n ≤ size
    → HasRows d start now stride (k + n) p
unfolding HasRows
rows_more d start now stride k n size given rows p h before long fills = (
  given ++ take size rows,
  omega (arith, before, length-append given (take size rows), ap length (take_all size rows (omega (arith, long, fills))), long, mul-add stride k n),
  h,
)

-- and they are the next ones
pub rows_next : (image given rows : List ℕ) (stride k n size : ℕ) → take size rows ≡ take size (drop (length given) image) → length given ≡ stride * k
    → length rows ≡ stride * n → size ≡ stride * n → rows ≡ rectangle stride k 0 n stride image
rows_next image given rows stride k n size follows before long is =
    sym (take_all size rows (omega (arith, long, is))) ∙ follows ∙ ap (λ m. take m (drop (length given) image)) is
    ∙ ap (λ m. take (stride * n) (drop m image)) before ∙ sym (whole_rows stride k n image)
