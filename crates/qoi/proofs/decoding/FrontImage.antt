-- A file is read as it was put together, in one way: whole bytes have one image and one rest, which are
-- functions of them.
use Rattle.std.proofs.Common.{◌≡◌, ℕ, List, ◌++◌, drop, Some, refl, ap, sym, ◌∙◌, subst, Ok, append_assoc, zero, suc, ◌+◌, ◌*◌, ◌<◌, ◌≤◌, [], ◌∷◌, length, take, arith}
use Rattle.qoi.specs.Qoi.{Header, Chunk, Channels, Rgb, Rgba, AreBytes, chunk_bytes, channels_number, header_bytes, pixel_count, header_of, IsFile, file, file_pixels, end_marker, header_size, Past, IsChunk, AreChunks, bytes_of, then_chunk, then_chunks, meaning}
use Rattle.qoi.specs.Raw.{output, without_fourth}
use Rattle.qoi.specs.Verdicts.{IsWhole}
use Rattle.qoi.specs.Decoding.{DecodesFile, ReadsImage}
use Rattle.qoi.specs.DecoderState.{DecoderState}
use Rattle.qoi.proofs.format.OneVerdict.{whole_is_one, StayBelowAfter}
use Rattle.qoi.proofs.format.HeaderBytes.{header_of-head, head_from_header_of}
use Rattle.std.proofs.lemmas.Bool.{le-leb, lt-leb}
use Rattle.std.proofs.lemmas.Bool.Decides.{nat_tests}
use Rattle.std.proofs.Math.Seq.{drop-append_seam}
use Rattle.qoi.specs.declared.types.Channels.TheVariants as OfChannels
use Rattle.qoi.specs.Reading.{IsImage}
use Rattle.qoi.specs.Images.{file_image_in, front_chunk, chunks_after, front_chunks, front_image, front_rest, behind_header, file_image, file_rest}
use Rattle.qoi.proofs.decoding.PieceSteps.{longer}
use Rattle.qoi.proofs.decoding.StreamVerdicts.{rgb_is_without_fourth}
use Rattle.qoi.proofs.format.ChunkSteps.{length-meaning, length-then_chunk, times_some}

-- a file and more bytes are header, chunks, end marker and those bytes
pub file_parts : (h : Header) (cs : List Chunk) (rest : List ℕ) → file h cs ++ rest ≡ header_bytes h ++ (chunk_bytes cs ++ (end_marker ++ rest))
file_parts h cs rest =
    append_assoc (header_bytes h) (chunk_bytes cs ++ end_marker) rest ∙ ap (λ l. header_bytes h ++ l) (append_assoc (chunk_bytes cs) end_marker rest)

-- the header of a file is read
pub file_has_header : (h : Header) (cs : List Chunk) (bytes rest : List ℕ) → IsFile h cs → bytes ≡ file h cs ++ rest → header_of bytes ≡ Ok h
file_has_header h cs bytes rest f e =
    ap header_of (e ∙ file_parts h cs rest) ∙ header_of-head h (chunk_bytes cs ++ (end_marker ++ rest)) f.valid

-- what follows the header of a file is whole
pub file_is_whole : (h : Header) (cs : List Chunk) (bytes rest : List ℕ) → IsFile h cs → bytes ≡ file h cs ++ rest
    → IsWhole (pixel_count h) (drop 14 bytes) cs rest
file_is_whole h cs bytes rest f e = record {
  has = record { chunks = f.chunks; stays_below = f.reaches.stays_below; split = ap (λ l. drop 14 l) (e ∙ file_parts h cs rest) };
  enough = f.reaches.enough;
}

-- bytes with a header and whole chunks after it are a file and more bytes
pub file_from_whole : (h : Header) (cs : List Chunk) (bytes rest : List ℕ) → AreBytes bytes → header_of bytes ≡ Ok h
    → IsWhole (pixel_count h) (drop 14 bytes) cs rest → IsFile h cs × (bytes ≡ file h cs ++ rest)
file_from_whole h cs bytes rest fits e w =
    let front = head_from_header_of bytes h fits e in (
      record { valid = front.1; chunks = w.has.chunks; reaches = record { stays_below = w.has.stays_below; enough = w.enough } },
      front.0 ∙ ap (λ l. header_bytes h ++ l) w.has.split ∙ sym (file_parts h cs rest),
    )

-- a header is read in one way only
pub header_is_one : (bytes : List ℕ) (h k : Header) → header_of bytes ≡ Ok h → header_of bytes ≡ Ok k → h ≡ k
header_is_one bytes h k first second = cc

-- no file begins another
pub file_is_one : (h k : Header) (cs ds : List Chunk) (x y : List ℕ) → IsFile h cs → IsFile k ds → file h cs ++ x ≡ file k ds ++ y
    → (h ≡ k) × (cs ≡ ds) × (x ≡ y)
file_is_one h k cs ds x y f g e =
    let first = file_has_header h cs (file h cs ++ x) x f refl in
    let second = file_has_header k ds (file h cs ++ x) y g e in
    let same : h ≡ k = header_is_one (file h cs ++ x) h k first second in
    let whole = file_is_whole h cs (file h cs ++ x) x f refl in
    let other = file_is_whole k ds (file h cs ++ x) y g e in
    let P : Header → Type 0 = λ j. IsWhole (pixel_count j) (drop 14 (file h cs ++ x)) ds y in
    let both = whole_is_one (pixel_count h) (drop 14 (file h cs ++ x)) cs ds x y whole (subst P (sym same) other) in
    (same, both.0, both.1)

-- a file and what follows it are decoded as that file, and as no other
pub decodes_file : (h : Header) (cs : List Chunk) (bytes rest out : List ℕ) → IsFile h cs → bytes ≡ file h cs ++ rest
    → out ≡ output (channels_number h.channels) (channels_number h.channels) (file_pixels h cs) → DecodesFile bytes h rest out
decodes_file h cs bytes rest out f split out_is = record {
  cs = cs;
  is_file = f;
  split = split;
  out_is = out_is;
  only = λ k ds more g e. file_is_one k h ds cs more rest g f (sym e ∙ split);
  header = file_has_header h cs bytes rest f split;
  whole = file_is_whole h cs bytes rest f split;
}

-- what is appended never changes the reading
pub decodes_more : (bytes more : List ℕ) (h : Header) (rest out : List ℕ) → DecodesFile bytes h rest out → DecodesFile (bytes ++ more) h (rest ++ more) out
decodes_more bytes more h rest out f =
    decodes_file h f.cs (bytes ++ more) (rest ++ more) out f.is_file (ap (λ z. z ++ more) f.split ∙ append_assoc (file h f.cs) rest more) f.out_is

-- a header and the image that a decoder reads after it are a file, in the file's own channels
pub decodes_after : (bytes : List ℕ) (d : DecoderState (List ℕ)) (rest out : List ℕ) → AreBytes bytes → header_of bytes ≡ Ok d.header
    → d.channels ≡ d.header.channels → d.reader ≡ drop header_size bytes
    → ReadsImage (channels_number d.header.channels) (channels_number d.channels) (pixel_count d.header) (Some d.reader) (Some rest) out
    → DecodesFile bytes d.header rest out
decodes_after bytes d rest out fits read own after reads =
    let r = rw (own, after) at reads in
    let taken : drop header_size bytes ≡ chunk_bytes r.cs ++ (end_marker ++ rest) = r.taken ∙ append_assoc (chunk_bytes r.cs) end_marker rest in
    let whole : IsWhole (pixel_count d.header) (drop header_size bytes) r.cs rest = record {
      has = record { chunks = r.chunks; stays_below = r.reaches.stays_below; split = taken };
      enough = r.reaches.enough;
    } in
    let front = file_from_whole d.header r.cs bytes rest fits read whole in
    decodes_file d.header r.cs bytes rest out front.0 front.1 r.out_is

-- a chunk's bytes begin with it
front_is : (c : Chunk) (y : List ℕ) → IsChunk c → front_chunk (bytes_of c ++ y) ≡ c
front_is (Rgb r g b) y hc = refl
front_is (Rgba r g b a) y hc = refl
front_is c y hc = grind (arith, nat_tests)

-- a chunk at the front is found there, and then those behind it
first_found : (left n : ℕ) (past : Past) (c : Chunk) (cs : List Chunk) (x : List ℕ) → IsChunk c → length past < n
    → chunks_after (suc left) n past (chunk_bytes (c ∷ cs) ++ x) ≡ c ∷ chunks_after left n (then_chunk past c) (chunk_bytes cs ++ x)
unfolding chunks_after
first_found left n past c cs x is few =
    let bytes = chunk_bytes (c ∷ cs) ++ x in
    let rest = chunk_bytes cs ++ x in
    let split : bytes ≡ bytes_of c ++ rest = append_assoc (bytes_of c) (chunk_bytes cs) x in
    let front : front_chunk bytes ≡ c = ap front_chunk split ∙ front_is c rest is in
    let F : Chunk → List ℕ → List Chunk = λ d z. d ∷ chunks_after left n (then_chunk past d) z in
    rw (lt-leb n (length past) few) (ap (λ d. F d (drop (length (bytes_of d)) bytes)) front ∙ ap (λ z. F c (drop (length (bytes_of c)) z)) split
    ∙ ap (F c) (drop-append_seam (bytes_of c) rest))

-- the chunks that stand at the front are those that are found there
after_is : (left n : ℕ) (past : Past) (cs : List Chunk) (x : List ℕ) → AreChunks cs → StayBelowAfter n past cs
    → n ≤ length (then_chunks past cs) → n ≤ length past + left → chunks_after left n past (chunk_bytes cs ++ x) ≡ cs
unfolding chunks_after
after_is zero n past [] x hc below enough room = refl
after_is zero n past (c ∷ cs) x hc below enough room = let l = below.0 in absurd (omega arith)
after_is (suc left) n past [] x hc below enough room = rw (le-leb n (length past) enough)
after_is (suc left) n past (c ∷ cs) x hc below enough room =
    first_found left n past c cs x hc.0 below.0
    ∙ ap (λ z. c ∷ z) (after_is left n (then_chunk past c) cs x hc.1 below.1 enough (omega (arith, length-then_chunk past c, times_some c hc.0)))

-- chunks at the front that reach no n pixels are the first ones that are found there
after_begins : (left n : ℕ) (past : Past) (cs : List Chunk) (x : List ℕ) → AreChunks cs → length (then_chunks past cs) < n → n ≤ length past + left
    → (more : List Chunk) × (chunks_after left n past (chunk_bytes cs ++ x) ≡ cs ++ more)
after_begins left n past [] x hc short room = (chunks_after left n past x, refl)
after_begins zero n past (c ∷ cs) x hc short room = absurd (omega (arith, longer past (c ∷ cs), short, room))
after_begins (suc left) n past (c ∷ cs) x hc short room =
    let (more, is) = after_begins left n (then_chunk past c) cs x hc.1 short (omega (arith, room, length-then_chunk past c, times_some c hc.0)) in
    (more, first_found left n past c cs x hc.0 (omega (arith, longer past (c ∷ cs), short)) ∙ ap (λ z. c ∷ z) is)

-- so an image's bytes begin with the pixels of chunks at the front
pub image_begins : (channels : Channels) (h : Header) (cs : List Chunk) (left : List ℕ) → AreChunks cs → length (then_chunks [] cs) < pixel_count h
    → (more : List Chunk) × (front_image channels h (chunk_bytes cs ++ left)
    ≡ output (channels_number h.channels) (channels_number channels) (take (pixel_count h) (meaning (cs ++ more))))
unfolding front_image front_chunks
image_begins channels h cs left are short =
    let n = pixel_count h in
    let (more, is) = after_begins n n [] cs left are short (omega arith) in
    (more, ap (λ ds. output (channels_number h.channels) (channels_number channels) (take n (meaning ds))) is)

-- so for whole bytes these are the chunks
front_chunks_are : (h : Header) (bytes : List ℕ) (cs : List Chunk) (rest : List ℕ) → IsWhole (pixel_count h) bytes cs rest
    → front_chunks h bytes ≡ cs
unfolding front_chunks
front_chunks_are h bytes cs rest w =
    let n = pixel_count h in
    ap (chunks_after n n []) w.has.split
    ∙ after_is n n [] cs (end_marker ++ rest) w.has.chunks w.has.stays_below (omega (arith, w.enough, length-meaning cs)) (omega arith)

-- the image at the front of bytes is a function of them
pub image_is : (channels : Channels) (h : Header) (bytes rest out : List ℕ) → IsImage channels bytes h rest out → out ≡ front_image channels h bytes
unfolding front_image
image_is channels h bytes rest out image =
    image.out_is ∙ ap (λ cs. output (channels_number h.channels) (channels_number channels) (take (pixel_count h) (meaning cs)))
    (sym (front_chunks_are h bytes image.cs rest image.whole))

-- and so is what follows it
pub rest_is : (channels : Channels) (h : Header) (bytes rest out : List ℕ) → IsImage channels bytes h rest out → rest ≡ front_rest h bytes
unfolding front_rest
rest_is channels h bytes rest out image =
    let cs = image.cs in
    let back = ap (drop 8) (ap (drop (length (chunk_bytes cs))) image.whole.has.split ∙ drop-append_seam (chunk_bytes cs) (end_marker ++ rest)) in
    sym (ap (λ ds. drop 8 (drop (length (chunk_bytes ds)) bytes)) (front_chunks_are h bytes cs rest image.whole) ∙ back)

-- the image of a file
own_image : (bytes : List ℕ) (h : Header) (rest out : List ℕ) → DecodesFile bytes h rest out → IsImage h.channels (drop header_size bytes) h rest out
own_image bytes h rest out d = record { cs = d.cs; whole = d.whole; out_is = d.out_is }

-- the file at the front of bytes has an image that is a function of them
pub file_image_is : (bytes : List ℕ) (h : Header) (rest out : List ℕ) → DecodesFile bytes h rest out → out ≡ file_image bytes
unfolding file_image
file_image_is bytes h rest out d =
    image_is h.channels h (drop header_size bytes) rest out (own_image bytes h rest out d) ∙ ap (λ r. behind_header (λ h. front_image h.channels h) r (drop header_size bytes)) (sym d.header)

-- and so is what follows it
pub file_rest_is : (bytes : List ℕ) (h : Header) (rest out : List ℕ) → DecodesFile bytes h rest out → rest ≡ file_rest bytes
unfolding file_rest
file_rest_is bytes h rest out d =
    rest_is h.channels h (drop header_size bytes) rest out (own_image bytes h rest out d) ∙ ap (λ r. behind_header front_rest r (drop header_size bytes)) (sym d.header)

-- what is appended to a file is left, too
pub file_rest_then : (bytes more : List ℕ) (h : Header) (rest out : List ℕ) → DecodesFile bytes h rest out → file_rest (bytes ++ more) ≡ file_rest bytes ++ more
file_rest_then bytes more h rest out f =
    sym (file_rest_is (bytes ++ more) h (rest ++ more) out (decodes_more bytes more h rest out f)) ∙ ap (λ z. z ++ more) (file_rest_is bytes h rest out f)

-- after a header that was read stand the file's image and what follows the file
pub image_after : (channels : Channels) (h : Header) (bytes : List ℕ) → header_of bytes ≡ Ok h → channels ≡ h.channels
    → (front_image channels h (drop header_size bytes) ≡ file_image bytes) × (front_rest h (drop header_size bytes) ≡ file_rest bytes)
unfolding file_image file_rest
image_after channels h bytes read own =
    let after = drop header_size bytes in (
      ap (λ c. front_image c h after) own ∙ ap (λ r. behind_header (λ h. front_image h.channels h) r after) (sym read),
      ap (λ r. behind_header front_rest r after) (sym read),
    )

-- after a header stands the file's image, in any channels
pub image_in_after : (channels : Channels) (h : Header) (bytes : List ℕ) → header_of bytes ≡ Ok h
    → front_image channels h (drop header_size bytes) ≡ file_image_in channels bytes
unfolding file_image_in
image_in_after channels h bytes read = ap (λ r. behind_header (front_image channels) r (drop header_size bytes)) (sym read)

-- in its own channels it is the one that `file_image` gives
pub image_in_own : (h : Header) (bytes : List ℕ) → header_of bytes ≡ Ok h → file_image_in h.channels bytes ≡ file_image bytes
unfolding file_image
image_in_own h bytes read = sym (image_in_after h.channels h bytes read) ∙ ap (λ r. behind_header (λ h. front_image h.channels h) r (drop header_size bytes)) (sym read)

-- in three channels it is the image in four without each fourth byte
pub three_of_front : (h : Header) (bytes : List ℕ) → front_image OfChannels.Rgb h bytes ≡ without_fourth (front_image OfChannels.Rgba h bytes)
unfolding front_image
three_of_front h bytes = rgb_is_without_fourth (channels_number h.channels) (take (pixel_count h) (meaning (front_chunks h bytes)))

-- so it is of a file
pub three_of_file : (h : Header) (bytes : List ℕ) → header_of bytes ≡ Ok h
    → file_image_in OfChannels.Rgb bytes ≡ without_fourth (file_image_in OfChannels.Rgba bytes)
three_of_file h bytes read =
    sym (image_in_after OfChannels.Rgb h bytes read) ∙ three_of_front h (drop header_size bytes) ∙ ap without_fourth (image_in_after OfChannels.Rgba h bytes read)

-- an image that has a byte has a pixel
pub some_pixels : (n k : ℕ) → 3 ≤ n * k → 1 ≤ n
some_pixels zero k h = absurd (omega arith)
some_pixels (suc n) k h = omega arith
