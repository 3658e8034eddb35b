-- A header and an image behind it are a file, and conversely.
use Rattle.std.proofs.Common.{◌≡◌, ℕ, List, ◌++◌, length, drop, Some, Ok, refl, sym, ap, ◌∙◌, subst}
use Rattle.qoi.specs.Qoi.{Chunk, Header, file, header_bytes, header_of, header_size, pixel_count, IsFile}
use Rattle.qoi.specs.Verdicts.{IsWhole}
use Rattle.qoi.specs.DecoderState.{DecoderState}
use Rattle.qoi.specs.Decoded.{HasHeader, HasDecoded}
use Rattle.qoi.specs.Images.{front_rest, BeginsWithFile, HasFrontFile}
use Rattle.qoi.specs.Reading.{IsDecoderOf, StandsAhead}
use Rattle.qoi.proofs.decoding.Ahead.{image_stands}
use Rattle.qoi.proofs.decoding.FrontImage.{rest_is, file_rest_is, decodes_file, file_has_header, file_is_whole, file_parts, file_from_whole}
use Rattle.qoi.proofs.decoding.Tiles.{file_in_front}
use Rattle.qoi.proofs.laws.reading.files_are_read.Goals as goal

-- a header that a decoder took and whole bytes behind it are a file, and what follows it
file_behind : (d : DecoderState (List ℕ)) (bytes : List ℕ) (cs : List Chunk) (rest : List ℕ) → HasHeader d (Some bytes) (Some d.reader)
    → IsWhole (pixel_count d.header) d.reader cs rest → IsFile d.header cs × (bytes ≡ file d.header cs ++ rest)
unfolding IsDecoderOf
file_behind d bytes cs rest made whole =
    let h = d.header in
    let (front, valid, own) = made.made in
    let after : d.reader ≡ drop header_size bytes = cc made.after in (
      record { valid = valid; chunks = whole.has.chunks; reaches = record { stays_below = whole.has.stays_below; enough = whole.enough } },
      front ∙ ap (λ l. header_bytes h ++ l) (sym after ∙ whole.has.split) ∙ sym (file_parts h cs rest),
    )

-- bytes whose header a decoder took, and behind which an image stands, begin with a file
begins_with_file : (d : DecoderState (List ℕ)) (bytes : List ℕ) → HasHeader d (Some bytes) (Some d.reader) → StandsAhead d.header d.reader
    → BeginsWithFile bytes
unfolding StandsAhead
begins_with_file d bytes made (cs, rest, whole) =
    let (f, split) = file_behind d bytes cs rest made whole in
    file_in_front bytes d.header rest _ (decodes_file d.header cs bytes rest _ f split refl)

-- what follows an image that stands ahead
rest_of : (h : Header) (bytes rest : List ℕ) (cs : List Chunk) → IsWhole (pixel_count h) bytes cs rest → rest ≡ front_rest h bytes
rest_of h bytes rest cs whole = rest_is h.channels h bytes rest _ (record { cs = cs; whole = whole; out_is = refl })

-- of such bytes the file's header and the number of bytes behind it are known
has_front_file : (d : DecoderState (List ℕ)) (bytes : List ℕ) → HasHeader d (Some bytes) (Some d.reader) → StandsAhead d.header d.reader
    → HasFrontFile d.header (length (front_rest d.header d.reader)) bytes
unfolding StandsAhead HasFrontFile
has_front_file d bytes made (cs, rest, whole) =
    let (f, split) = file_behind d bytes cs rest made whole in (cs, rest, f, split, ap length (rest_of d.header d.reader rest cs whole))

-- so they are if a decoder takes header and image
decoded_front_file : (d : DecoderState (List ℕ)) (bytes rest out : List ℕ) → HasHeader d (Some bytes) (Some d.reader)
    → HasDecoded d (Some d.reader) (Some rest) out → HasFrontFile d.header (length rest) bytes
decoded_front_file d bytes rest out made decoded =
    let left : rest ≡ front_rest d.header d.reader = cc decoded.image.1 in
    let (behind, told, is) = decoded.rest d.reader refl in
    subst (λ z. HasFrontFile d.header (length z) bytes) (sym left) (has_front_file d bytes made (image_stands d.header d.reader behind _ is))

-- and conversely such a file is a header and an image that stands behind it
front_file_ahead : (h : Header) (n : ℕ) (bytes : List ℕ) → HasFrontFile h n bytes
    → (header_of bytes ≡ Ok h) × StandsAhead h (drop header_size bytes) × (length (front_rest h (drop header_size bytes)) ≡ n)
unfolding StandsAhead HasFrontFile
front_file_ahead h n bytes (cs, rest, f, split, size) =
    let whole = file_is_whole h cs bytes rest f split in
    (file_has_header h cs bytes rest f split, (cs, rest, whole), ap length (sym (rest_of h (drop header_size bytes) rest cs whole)) ∙ size)

pub returns : goal.returns
unfolding StandsAhead
returns c = record {
  read = λ h cs bytes rest f e. (file_has_header h cs bytes rest f e, file_is_whole h cs bytes rest f e);
  only = file_from_whole;
  decoded = λ h cs bytes rest f e. decodes_file h cs bytes rest _ f e refl;
  begins = λ h cs rest f.
      let bytes = file h cs ++ rest in
      let decoded = decodes_file h cs bytes rest _ f refl refl in
      (decoded.header, (cs, rest, file_is_whole h cs bytes rest f refl), sym (file_rest_is bytes h rest _ decoded));
  stands = begins_with_file;
  front = has_front_file;
  front_decoded = decoded_front_file;
  ahead = front_file_ahead;
}
