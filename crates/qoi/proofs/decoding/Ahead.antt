-- The image that stands ahead of a decoder: a file brings it there, it is decoded, and it isn't
-- refused.
use Rattle.std.proofs.Common.{◌≡◌, ◌+◌, ◌*◌, ◌<◌, arith, slice_index, ℕ, List, ◌++◌, drop, take, Bool, true, false, Option, Some, None, Ok, ap, sym, ◌∙◌, subst, length-take-le}
use Rattle.qoi.specs.Styles.{Style}
use Rattle.qoi.specs.Qoi.{Error, Header, Channels, channels_number, header_bytes, header_of, header_size, IsValid, pixel_count, meaning}
use Rattle.qoi.specs.Raw.{output}
use Rattle.qoi.specs.Decoding.{DecodesFile, ReadsImage, RefusesImage, TakesHeader}
use Rattle.qoi.specs.DecoderState.{DecoderState}
use Rattle.qoi.specs.Encoded.{IsFileOf}
use Rattle.qoi.specs.Reading.{IsDecoderOf, IsImage, StandsAhead}
use Rattle.qoi.specs.Errors.{IsReaderFault}
use Rattle.qoi.proofs.decoding.FrontImage.{decodes_file, file_parts}
use Rattle.qoi.proofs.decoding.StreamVerdicts.{fourth_is_opaque, read_is_whole, whole_is_io_error}
use Rattle.qoi.proofs.decoding.Refusals.{whole_not_refused}
use Rattle.qoi.proofs.format.HeaderBytes.{header_split}

-- an image of which whole bytes are read stands ahead
pub image_stands : {channels : Channels} (h : Header) (bytes rest out : List ℕ) → IsImage channels bytes h rest out → StandsAhead h bytes
unfolding StandsAhead
image_stands h bytes rest out is = (is.cs, rest, is.whole)

-- so it does after the header of a file
pub stands_after : (bytes : List ℕ) (h : Header) (rest raw : List ℕ) → DecodesFile bytes h rest raw → StandsAhead h (drop header_size bytes)
unfolding StandsAhead
stands_after bytes h rest raw f = (f.cs, rest, f.whole)

-- the file of an image, as a file
pub file_ahead : (style : Style) (h : Header) (raw bytes rest all : List ℕ) → IsFileOf style h raw bytes → all ≡ bytes ++ rest → DecodesFile all h rest raw
file_ahead style h raw bytes rest all f split = subst (λ (z : List ℕ). DecodesFile z h rest raw) (sym split) (f.is_file.comes_back rest)

-- a header that was read from a stream of known bytes is theirs, and what follows it is left
pub header_read : (old left : Option (List ℕ)) (bytes : List ℕ) (h : Header) → TakesHeader old left h → old ≡ Some bytes
    → (header_of bytes ≡ Ok h) × (left ≡ Some (drop header_size bytes))
header_read old None bytes h r told = absurd (rw told at r.1)
header_read old (Some rest) bytes h r told = let split = header_split bytes r.0 rest h (rw told at r.1) r.2 r.3 in (split.0, ap Some split.1)

-- and the header's bytes stand at their front
pub header_front : (old left : Option (List ℕ)) (bytes : List ℕ) (h : Header) → TakesHeader old left h → old ≡ Some bytes
    → (bytes ≡ header_bytes h ++ drop header_size bytes) × IsValid h
header_front old None bytes h r told = absurd (rw told at r.1)
header_front old (Some rest) bytes h r told =
    let split : bytes ≡ r.0 ++ rest = rw told at r.1 in
    let after = (header_split bytes r.0 rest h split r.2 r.3).1 in
    (split ∙ ap (λ z. z ++ rest) r.4 ∙ ap (λ z. header_bytes h ++ z) after, r.5)

-- what refuses an image that stands ahead is a fault
pub fault_ahead : (in_memory : Bool) (h : Header) (old new : Option (List ℕ)) (e : Error) (bytes : List ℕ)
    → StandsAhead h bytes → old ≡ Some bytes → RefusesImage in_memory (pixel_count h) old new e → IsReaderFault in_memory e
unfolding StandsAhead
fault_ahead true h old new e bytes (cs, rest, whole) told refused =
    absurd (whole_not_refused (pixel_count h) bytes cs rest e whole (rw told at refused).1)
fault_ahead false h old new e bytes (cs, rest, whole) told refused =
    whole_is_io_error (pixel_count h) bytes cs rest new e whole (rw told at refused)

-- what is read from known bytes is an image at their front, and what follows it is left
pub image_read : (channels : Channels) (h : Header) (bytes : List ℕ) (left : Option (List ℕ)) (out : List ℕ)
    → ReadsImage (channels_number h.channels) (channels_number channels) (pixel_count h) (Some bytes) left out
    → (rest : List ℕ) × (left ≡ Some rest) × IsImage channels bytes h rest out
image_read channels h bytes left out r =
    let w = read_is_whole (channels_number h.channels) (channels_number channels) (pixel_count h) bytes left out r in (
      w.1,
      w.3,
      record { cs = w.0; whole = w.2; out_is = w.4 },
    )

-- what a decoder of these bytes reads, in the file's channels, is the image of a file at their
-- front
pub file_from_image : {R : Type 0} (d : DecoderState R) (bytes ahead : List ℕ) (left : Option (List ℕ)) (out : List ℕ) → IsDecoderOf d bytes ahead
    → (rest : List ℕ) × (left ≡ Some rest) × IsImage d.channels ahead d.header rest out
    → (rest : List ℕ) × (left ≡ Some rest) × DecodesFile bytes d.header rest out
unfolding IsDecoderOf
file_from_image d bytes ahead left out (split, valid, own) (rest, is_left, image) =
    let h = d.header in
    let cs = image.cs in
    let w = image.whole in
    let P : Channels → List ℕ = λ k. output (channels_number h.channels) (channels_number k) (take (pixel_count h) (meaning cs)) in (
      rest,
      is_left,
      decodes_file h cs bytes rest out
          (record { valid = valid; chunks = w.has.chunks; reaches = record { stays_below = w.has.stays_below; enough = w.enough } })
          (split ∙ ap (λ l. header_bytes h ++ l) w.has.split ∙ sym (file_parts h cs rest)) (image.out_is ∙ ap P own),
    )

-- a decoder whose header's bytes stand before what is ahead
pub decoder_of : {R : Type 0} (d : DecoderState R) (bytes ahead : List ℕ) → bytes ≡ header_bytes d.header ++ ahead → IsValid d.header
    → d.channels ≡ d.header.channels → IsDecoderOf d bytes ahead
unfolding IsDecoderOf
decoder_of d bytes ahead split valid own = (split, valid, own)

-- each fourth byte of an image in four channels is 255, if the file has three
pub fourth_of_image : (f c n : ℕ) (old new : Option (List ℕ)) (out : List ℕ) → ReadsImage f c n old new out → f ≡ 3 → c ≡ 4
    → (i : ℕ) → i < n → slice_index out (4 * i + 3) ≡ 255
fourth_of_image f c n old new out r three four i below =
    let pixels = take n (meaning r.cs) in
    ap (λ z. slice_index z (4 * i + 3)) (r.out_is ∙ ap (λ k. output k c pixels) three ∙ ap (λ k. output 3 k pixels) four)
    ∙ fourth_is_opaque pixels i (omega (arith, below, length-take-le n (meaning r.cs) r.reaches.enough))
