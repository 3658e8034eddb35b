-- A store of frames: one is put or found behind the others, the last is cut off, and each is read.
use Rattle.std.proofs.Common.{◌≡◌, ◌+◌, ◌-◌, ◌<◌, ◌≤◌, ℕ, zero, suc, inl, inr, Option, Some, List, [], ◌∷◌, ◌++◌, length, take, drop, Ok, get_or, slice_index, slice_index_or, refl, arith, ap, sym, subst, ◌∙◌, append_assoc}
use Rattle.std.proofs.lemmas.Bool.{cases_lt}
use Rattle.std.proofs.lemmas.List.{append-nil, length-append, length-drop, length-take-le, take-append-drop, get_or_append_left, append_cancel_right, same_from_push}
use Rattle.std.proofs.Math.Seq.{get_or-append_seam, take-append_seam, take-append-add}
use Rattle.qoi.specs.EncoderState.{EncoderState}
use Rattle.qoi.specs.Qoi.{Header, Chunk, channels_number, default_header, file, file_pixels, header_of, IsFile}
use Rattle.qoi.specs.Sent.{SendsFile}
use Rattle.qoi.specs.Raw.{output}
use Rattle.qoi.specs.Decoding.{DecodesFile}
use Rattle.qoi.specs.Images.{file_image, file_rest, BeginsWithFile}
use Rattle.qoi.specs.Tiles.{HasPicture, AreFrames, none, more, ArePictures, no_picture, one_more}
use Rattle.qoi.proofs.decoding.Ahead.{file_ahead}
use Rattle.qoi.proofs.decoding.FrontImage.{file_image_is, file_rest_is, decodes_file}
use Rattle.qoi.proofs.decoding.Tiles.{file_in_front, picture_file, picture_kept, sent_known, tile_within}

-- pictures are frames
pub pictures_are_frames : (bytes offsets : List ℕ) (headers : List Header) (images : List (List ℕ)) → ArePictures bytes offsets headers images
    → AreFrames bytes offsets images
pictures_are_frames _ _ _ _ no_picture = none
pictures_are_frames _ _ _ _ (one_more bytes offsets headers images h cs pictures f) =
    more bytes offsets images h cs (pictures_are_frames bytes offsets headers images pictures) f

-- and frames have headers
pub frames_have_headers : (bytes offsets : List ℕ) (images : List (List ℕ)) → AreFrames bytes offsets images
    → (headers : List Header) × ArePictures bytes offsets headers images
frames_have_headers _ _ _ none = ([], no_picture)
frames_have_headers _ _ _ (more bytes offsets images h cs frames f) =
    let before = frames_have_headers bytes offsets images frames in (before.0 ++ h ∷ [], one_more bytes offsets before.0 images h cs before.1 f)

-- a file is decoded, whatever follows it
decodes_own : (h : Header) (cs : List Chunk) (rest : List ℕ) → IsFile h cs
    → DecodesFile (file h cs ++ rest) h rest (output (channels_number h.channels) (channels_number h.channels) (file_pixels h cs))
decodes_own h cs rest f = decodes_file h cs (file h cs ++ rest) rest _ f refl refl

-- its image is the same, whatever follows it
image_alone : (h : Header) (cs : List Chunk) (rest : List ℕ) → IsFile h cs → file_image (file h cs ++ rest) ≡ file_image (file h cs)
image_alone h cs rest f =
    sym (file_image_is (file h cs ++ rest) h rest _ (decodes_own h cs rest f))
    ∙ file_image_is (file h cs) h [] _ (rw append-nil at (decodes_own h cs [] f))

-- what follows a file
rest_after : (h : Header) (cs : List Chunk) (rest : List ℕ) → IsFile h cs → file_rest (file h cs ++ rest) ≡ rest
rest_after h cs rest f = sym (file_rest_is (file h cs ++ rest) h rest _ (decodes_own h cs rest f))

-- the file of an image is sent behind the pictures
pub picture_sent : (e : EncoderState) (n : ℕ) (before after : Option (List ℕ)) (raw old new offsets next : List ℕ) (headers : List Header)
    (images : List (List ℕ)) → SendsFile e before after n → before ≡ Some old → after ≡ Some new → ArePictures old offsets headers images → raw ≡ e.raw
    → next ≡ offsets ++ length old ∷ [] → ArePictures new next (headers ++ e.header ∷ []) (images ++ raw ∷ [])
picture_sent e n before after raw old new offsets next headers images sends was is pictures own grown =
    let d : DecodesFile sends.bytes e.header [] e.raw = file_ahead e.style e.header e.raw sends.bytes [] sends.bytes sends.file (sym (append-nil sends.bytes)) in
    let whole : sends.bytes ≡ file e.header d.cs = d.split ∙ append-nil (file e.header d.cs) in
    let sent : new ≡ old ++ sends.bytes = sent_known sends.bytes before after sends.sent old new was is in
    rw (sent ∙ ap (λ z. old ++ z) whole, grown, own ∙ file_image_is sends.bytes e.header [] e.raw d ∙ ap file_image whole)
    (one_more old offsets headers images e.header d.cs pictures d.is_file)

-- so it is a frame more
pub frame_put : (e : EncoderState) (n : ℕ) (before after : Option (List ℕ)) (raw old new offsets next : List ℕ) (images : List (List ℕ))
    → SendsFile e before after n → before ≡ Some old → after ≡ Some new → AreFrames old offsets images → raw ≡ e.raw → next ≡ offsets ++ length old ∷ []
    → AreFrames new next (images ++ raw ∷ [])
frame_put e n before after raw old new offsets next images sends was is frames own grown =
    let have = frames_have_headers old offsets images frames in
    pictures_are_frames new next (have.0 ++ e.header ∷ []) (images ++ raw ∷ [])
    (picture_sent e n before after raw old new offsets next have.0 images sends was is have.1 own grown)

-- a file is found behind the frames
pub frame_found : (bytes offsets next : List ℕ) (images : List (List ℕ)) (at end : ℕ) → AreFrames (take at bytes) offsets images
    → BeginsWithFile (drop at bytes) → at ≤ length bytes → end ≡ length bytes - length (file_rest (drop at bytes)) → next ≡ offsets ++ at ∷ []
    → AreFrames (take end bytes) next (images ++ file_image (drop at bytes) ∷ [])
frame_found bytes offsets next images at end frames f within size grown =
    let own = file f.header f.cs in
    let rest = file_rest (drop at bytes) in
    let front : length (take at bytes) ≡ at = length-take-le at bytes within in
    let all : bytes ≡ take at bytes ++ (own ++ rest) = sym (take-append-drop at bytes) ∙ ap (λ z. take at bytes ++ z) f.split in
    let ends : end ≡ length (take at bytes) + length own = omega (arith, front, f.size, size, length-drop at bytes, within) in
    let is : take end bytes ≡ take at bytes ++ own =
    ap (λ n. take n bytes) ends ∙ ap (take (length (take at bytes) + length own)) all
    ∙ take-append-add (take at bytes) (own ++ rest) (length own) ∙ ap (λ z. take at bytes ++ z) (take-append_seam own rest) in
    rw (is, grown ∙ ap (λ n. offsets ++ n ∷ []) (sym front), ap file_image f.split ∙ image_alone f.header f.cs rest f.is_file)
    (more (take at bytes) offsets images f.header f.cs frames f.is_file)

-- there are as many images as offsets
pub frame_count : (bytes offsets : List ℕ) (images : List (List ℕ)) → AreFrames bytes offsets images → length images ≡ length offsets
frame_count _ _ _ none = refl
frame_count _ _ _ (more bytes offsets images h cs frames f) =
    length-append images _ ∙ ap (λ n. n + 1) (frame_count bytes offsets images frames) ∙ sym (length-append offsets _)

-- and as many headers
pub header_count : (bytes offsets : List ℕ) (headers : List Header) (images : List (List ℕ)) → ArePictures bytes offsets headers images
    → length headers ≡ length offsets
header_count _ _ _ _ no_picture = refl
header_count _ _ _ _ (one_more bytes offsets headers images h cs pictures f) =
    length-append headers _ ∙ ap (λ n. n + 1) (header_count bytes offsets headers images pictures) ∙ sym (length-append offsets _)

-- a file behind other bytes is a picture
picture_alone : (h : Header) (cs : List Chunk) (bytes : List ℕ) → IsFile h cs
    → HasPicture (bytes ++ file h cs) (length bytes) h (file_image (file h cs))
picture_alone h cs bytes f =
    let own = file h cs in
    let d = rw append-nil at (decodes_own h cs [] f) in
    subst (λ z. HasPicture (bytes ++ own) (length bytes) h z) (file_image_is own h [] _ d) (picture_file own h [] _ bytes (bytes ++ own) d refl)

-- each of them stands at its offset
pub picture_at : (bytes offsets : List ℕ) (headers : List Header) (images : List (List ℕ)) (k : ℕ) → ArePictures bytes offsets headers images
    → k < length offsets → HasPicture bytes (slice_index offsets k) (slice_index_or headers k default_header) (slice_index_or images k [])
picture_at _ _ _ _ k no_picture below = absurd (omega (arith, below))
picture_at _ _ _ _ k (one_more bytes offsets headers images h cs pictures f) below =
    let own = file h cs in
    let count = frame_count bytes offsets images (pictures_are_frames bytes offsets headers images pictures) in
    let heads = header_count bytes offsets headers images pictures in
    elim (cases_lt k (length offsets)) [
      | inl less ↦
          rw (
            get_or_append_left offsets (length bytes ∷ []) 0 k less,
            get_or_append_left headers (h ∷ []) default_header k (omega (arith, less, heads)),
            get_or_append_left images (file_image own ∷ []) [] k (omega (arith, less, count)),
          )
          (picture_kept (slice_index_or images k []) bytes (bytes ++ own) own (slice_index offsets k) (slice_index_or headers k default_header) refl
          (picture_at bytes offsets headers images k pictures less))
      | inr least ↦
          let last : k ≡ length offsets = omega (arith, least, below, length-append offsets (length bytes ∷ [])) in
          let at : get_or (offsets ++ length bytes ∷ []) k 0 ≡ length bytes =
          ap (λ n. get_or (offsets ++ length bytes ∷ []) n 0) last ∙ get_or-append_seam offsets (length bytes) [] 0 in
          let head : get_or (headers ++ h ∷ []) k default_header ≡ h =
          ap (λ n. get_or (headers ++ h ∷ []) n default_header) (last ∙ sym heads) ∙ get_or-append_seam headers h [] default_header in
          let image : get_or (images ++ file_image own ∷ []) k [] ≡ file_image own =
          ap (λ n. get_or (images ++ file_image own ∷ []) n []) (last ∙ sym count) ∙ get_or-append_seam images (file_image own) [] [] in
          rw (at, head, image) (picture_alone h cs bytes f)
    ]

-- So each frame's image is read at its offset, which lies within the bytes, and its file stands there.
module _ (bytes offsets : List ℕ) (images : List (List ℕ)) (k : ℕ) (frames : AreFrames bytes offsets images) (below : k < length offsets) where
  frame_at : (h : Header) × HasPicture bytes (slice_index offsets k) h (slice_index_or images k [])
  frame_at = let (headers, pictures) = frames_have_headers bytes offsets images frames in (_, picture_at bytes offsets headers images k pictures below)

  pub frame_read : file_image (drop (slice_index offsets k) bytes) ≡ slice_index_or images k []
  frame_read = frame_at.1.image

  pub frame_within : slice_index offsets k ≤ length bytes
  frame_within = tile_within bytes (slice_index_or images k []) (slice_index offsets k) frame_at.1.tile

  pub frame_stands : BeginsWithFile (drop (slice_index offsets k) bytes)
  frame_stands = frame_at.1.stands

-- The same of pictures, whose headers are read there, too.
module _ (bytes offsets : List ℕ) (headers : List Header) (images : List (List ℕ)) (k : ℕ) (pictures : ArePictures bytes offsets headers images) (below : k < length offsets) where
  here : HasPicture bytes (slice_index offsets k) (slice_index_or headers k default_header) (slice_index_or images k [])
  here = picture_at bytes offsets headers images k pictures below

  pub picture_header : header_of (drop (slice_index offsets k) bytes) ≡ Ok (slice_index_or headers k default_header)
  picture_header = here.header

  pub picture_read : file_image (drop (slice_index offsets k) bytes) ≡ slice_index_or images k []
  picture_read = here.image

  pub picture_within : slice_index offsets k ≤ length bytes
  picture_within = tile_within bytes (slice_index_or images k []) (slice_index offsets k) here.tile

  pub picture_stands : BeginsWithFile (drop (slice_index offsets k) bytes)
  picture_stands = here.stands

-- there are as many images as offsets
pub picture_count : (bytes offsets : List ℕ) (headers : List Header) (images : List (List ℕ)) → ArePictures bytes offsets headers images
    → length images ≡ length offsets
picture_count bytes offsets headers images pictures = frame_count bytes offsets images (pictures_are_frames bytes offsets headers images pictures)

-- pictures that are given by equations, without the last one
without_last : (bytes offsets fewer last : List ℕ) (all : List Header) (images before : List (List ℕ)) (at : ℕ)
    → ArePictures bytes offsets all images → images ≡ before ++ last ∷ [] → offsets ≡ fewer ++ at ∷ []
    → (headers : List Header) × (h : Header) × (all ≡ headers ++ h ∷ []) × ArePictures (take at bytes) fewer headers before
without_last _ _ fewer last _ _ before at no_picture images_are are = absurd (omega (arith, ap length are, length-append fewer (at ∷ [])))
without_last _ _ fewer last _ _ before at (one_more bytes offsets headers images h cs pictures f) images_are are =
    let (fewer_are, at_is) = same_from_push offsets fewer (length bytes) at are in
    let whole : take at (bytes ++ file h cs) ≡ bytes = ap (λ n. take n (bytes ++ file h cs)) (sym at_is) ∙ take-append_seam bytes (file h cs) in
    (headers, h, refl, rw (whole, sym fewer_are, sym (same_from_push images before (file_image (file h cs)) last images_are).0) pictures)

-- the last picture is cut off
pub last_picture : (bytes offsets fewer new last : List ℕ) (headers : List Header) (h : Header) (images : List (List ℕ)) (at : ℕ)
    → ArePictures bytes offsets (headers ++ h ∷ []) (images ++ last ∷ []) → offsets ≡ fewer ++ at ∷ [] → new ≡ take at bytes
    → ArePictures new fewer headers images
last_picture bytes offsets fewer new last headers h images at pictures is cut =
    let (others, k, same, left) = without_last bytes offsets fewer last (headers ++ h ∷ []) (images ++ last ∷ []) images at pictures refl is in
    rw (cut, (same_from_push headers others h k same).0) left

-- so is the last frame
pub last_cut : (bytes offsets fewer new last : List ℕ) (images : List (List ℕ)) (at : ℕ) → AreFrames bytes offsets (images ++ last ∷ [])
    → offsets ≡ fewer ++ at ∷ [] → new ≡ take at bytes → AreFrames new fewer images
last_cut bytes offsets fewer new last images at frames is cut =
    let (all, pictures) = frames_have_headers bytes offsets (images ++ last ∷ []) frames in
    let (headers, h, same, left) = without_last bytes offsets fewer last all (images ++ last ∷ []) images at pictures refl is in
    rw cut (pictures_are_frames (take at bytes) fewer headers images left)

-- what follows the first k files
abbrev behind : ℕ → List ℕ → List ℕ
behind zero bytes = bytes
behind (suc k) bytes = file_rest (behind k bytes)

-- what follows as many files as there are frames
behind_frames : (bytes offsets rest : List ℕ) (images : List (List ℕ)) → AreFrames bytes offsets images → behind (length offsets) (bytes ++ rest) ≡ rest
behind_frames _ _ rest _ none = refl
behind_frames _ _ rest _ (more bytes offsets images h cs frames f) =
    let count : length (offsets ++ length bytes ∷ []) ≡ suc (length offsets) = omega (arith, length-append offsets (length bytes ∷ [])) in
    ap (λ n. behind n ((bytes ++ file h cs) ++ rest)) count ∙ ap (λ z. file_rest (behind (length offsets) z)) (append_assoc bytes (file h cs) rest)
    ∙ ap file_rest (behind_frames bytes offsets (file h cs ++ rest) images frames) ∙ rest_after h cs rest f

-- and behind fewer a file stands
frames_begin : (bytes offsets rest : List ℕ) (images : List (List ℕ)) (k : ℕ) → AreFrames bytes offsets images → k < length offsets
    → BeginsWithFile (behind k (bytes ++ rest))
frames_begin _ _ rest _ k none below = absurd (omega (arith, below))
frames_begin _ _ rest _ k (more bytes offsets images h cs frames f) below =
    elim (cases_lt k (length offsets)) [
      | inl less ↦
          subst (λ z. BeginsWithFile (behind k z)) (sym (append_assoc bytes (file h cs) rest)) (frames_begin bytes offsets (file h cs ++ rest) images k frames less)
      | inr least ↦
          let last : k ≡ length offsets = omega (arith, least, below, length-append offsets (length bytes ∷ [])) in
          let is : behind k ((bytes ++ file h cs) ++ rest) ≡ file h cs ++ rest =
          ap (λ n. behind n ((bytes ++ file h cs) ++ rest)) last ∙ ap (behind (length offsets)) (append_assoc bytes (file h cs) rest)
          ∙ behind_frames bytes offsets (file h cs ++ rest) images frames in
          subst BeginsWithFile (sym is) (file_in_front (file h cs ++ rest) h rest _ (decodes_own h cs rest f))
    ]

-- frames that no file follows are as many as others in front of the same bytes
no_fewer : (front back offsets ends rest other : List ℕ) (images found : List (List ℕ)) → AreFrames front offsets images → AreFrames back ends found
    → front ++ rest ≡ back ++ other → (BeginsWithFile rest → ⊥) → length ends ≤ length offsets
no_fewer front back offsets ends rest other images found frames others is last =
    elim (cases_lt (length offsets) (length ends)) [
      | inl less ↦
          let left : behind (length offsets) (back ++ other) ≡ rest = ap (behind (length offsets)) (sym is) ∙ behind_frames front offsets rest images frames in
          absurd (last (subst BeginsWithFile left (frames_begin back ends other found (length offsets) others less)))
      | inr least ↦ least
    ]

-- as many frames of the same bytes have the same offsets and images
same_offsets : (bytes others offsets ends : List ℕ) (images found : List (List ℕ)) → AreFrames bytes offsets images → AreFrames others ends found
    → bytes ≡ others → length offsets ≡ length ends → (offsets ≡ ends) × (images ≡ found)
same_offsets _ _ _ _ _ _ none none is count = (refl, refl)
same_offsets _ _ _ _ _ _ none (more others ends found k ds frames g) is count = absurd (omega (arith, count, length-append ends (length others ∷ [])))
same_offsets _ _ _ _ _ _ (more bytes offsets images h cs frames f) none is count = absurd (omega (arith, count, length-append offsets (length bytes ∷ [])))
same_offsets _ _ _ _ _ _ (more bytes offsets images h cs frames f) (more others ends found k ds frames' g) is count =
    let fewer : length offsets ≡ length ends = omega (arith, count, length-append offsets (length bytes ∷ []), length-append ends (length others ∷ [])) in
    let last : file h cs ≡ file k ds =
    sym (behind_frames bytes offsets (file h cs) images frames) ∙ ap (behind (length offsets)) is ∙ ap (λ n. behind n (others ++ file k ds)) fewer
    ∙ behind_frames others ends (file k ds) found frames' in
    let before : bytes ≡ others = append_cancel_right bytes others (file h cs) (is ∙ ap (λ z. others ++ z) (sym last)) in
    let same = same_offsets bytes others offsets ends images found frames frames' before fewer in (
      ap (λ z. z ++ length bytes ∷ []) same.0 ∙ ap (λ z. ends ++ length z ∷ []) before,
      ap (λ z. z ++ file_image (file h cs) ∷ []) same.1 ∙ ap (λ z. found ++ file_image z ∷ []) last,
    )

-- the frames in front of bytes, behind which no file stands, are those that were found: the same bytes, offsets and images
pub frames_are_same : (bytes front rest new offsets ends : List ℕ) (at : ℕ) (images found : List (List ℕ)) → AreFrames front offsets images
    → bytes ≡ front ++ rest → (BeginsWithFile rest → ⊥) → AreFrames (take at bytes) ends found → (BeginsWithFile (drop at bytes) → ⊥) → new ≡ take at bytes
    → (new ≡ front) × (ends ≡ offsets) × (found ≡ images)
frames_are_same bytes front rest new offsets ends at images found frames split last others end cut =
    let back = take at bytes in
    let is : front ++ rest ≡ back ++ drop at bytes = sym split ∙ sym (take-append-drop at bytes) in
    let less = no_fewer front back offsets ends rest (drop at bytes) images found frames others is last in
    let more = no_fewer back front ends offsets (drop at bytes) rest found images others frames (sym is) end in
    let count : length offsets ≡ length ends = omega (arith, less, more) in
    let left : rest ≡ drop at bytes =
    sym (behind_frames front offsets rest images frames) ∙ ap (behind (length offsets)) is ∙ ap (λ n. behind n (back ++ drop at bytes)) count
    ∙ behind_frames back ends (drop at bytes) found others in
    let whole : front ≡ back = append_cancel_right front back rest (is ∙ ap (λ z. back ++ z) (sym left)) in
    let same = same_offsets front back offsets ends images found frames others whole count in (cut ∙ sym whole, sym same.0, sym same.1)

-- so they are frames of these images
pub frames_are_one : (bytes front rest new offsets ends : List ℕ) (at : ℕ) (images found : List (List ℕ)) → AreFrames front offsets images
    → bytes ≡ front ++ rest → (BeginsWithFile rest → ⊥) → AreFrames (take at bytes) ends found → (BeginsWithFile (drop at bytes) → ⊥) → new ≡ take at bytes
    → AreFrames new ends images
frames_are_one bytes front rest new offsets ends at images found frames split last others end cut =
    let same = frames_are_same bytes front rest new offsets ends at images found frames split last others end cut in rw (same.0, same.1) frames

-- pictures are read
pub ruleset picture_laws = (picture_header, picture_read, picture_within, picture_stands, picture_count, header_count)

-- frames are read, and found
pub ruleset frame_laws = (frame_read, frame_within, frame_stands, frame_count, frame_found, frames_are_one)
