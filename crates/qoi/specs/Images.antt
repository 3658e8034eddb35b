-- The image and the file at the front of bytes, as functions of them. If none stands there, the value
-- says nothing.
use Rattle.std.specs.Prelude.{◌≡◌, ℕ, zero, suc, ◌+◌, ◌-◌, List, [], ◌∷◌, ◌++◌, length, take, drop, slice_index, nat_lt, nat_le, if◌then◌else◌, Result, Ok, Err}
use Rattle.qoi.specs.Qoi.{Error, Channels, Header, Chunk, Place, Diff, Luma, Run, Rgb, Rgba, positions, luma_tag, run_tag, rgb_tag, rgba_tag, Past, bytes_of, chunk_bytes, then_chunk, meaning, marker_size, header_size, header_of, channels_number, pixel_count, IsFile, file}
use Rattle.qoi.specs.Raw.{output}

-- the chunk that the bytes begin with
abbrev pub front_chunk : List ℕ → Chunk
front_chunk bytes =
    let at = slice_index bytes in
    let b = at 0 in
    if nat_lt b positions then Place b
    else if nat_lt b luma_tag then Diff b
    else if nat_lt b run_tag then Luma b (at 1)
    else if nat_lt b rgb_tag then Run (b - (run_tag - 1))
    else if nat_lt b rgba_tag then Rgb (at 1) (at 2) (at 3)
    else Rgba (at 1) (at 2) (at 3) (at 4)

-- the chunks after the pixels `past` until there are n pixels, but no more than `left` chunks
unfoldable pub chunks_after : ℕ → ℕ → Past → List ℕ → List Chunk
chunks_after zero n past bytes = []
chunks_after (suc left) n past bytes =
    if nat_le n (length past) then []
    else front_chunk bytes ∷ chunks_after left n (then_chunk past (front_chunk bytes)) (drop (length (bytes_of (front_chunk bytes))) bytes)

-- the chunks at the front that reach the header's pixels; each gives a pixel at least
unfoldable pub front_chunks : Header → List ℕ → List Chunk
front_chunks h bytes = chunks_after (pixel_count h) (pixel_count h) [] bytes

-- the raw bytes, in these channels, of the image that the bytes begin with, by this header
unfoldable pub front_image : Channels → Header → List ℕ → List ℕ
front_image channels h bytes = output (channels_number h.channels) (channels_number channels) (take (pixel_count h) (meaning (front_chunks h bytes)))

-- what follows that image and the end marker
unfoldable pub front_rest : Header → List ℕ → List ℕ
front_rest h bytes = drop marker_size (drop (length (chunk_bytes (front_chunks h bytes))) bytes)

-- what a function gives for a header and the bytes behind it; nothing if the header was refused
abbrev pub behind_header : (Header → List ℕ → List ℕ) → Result Header Error → List ℕ → List ℕ
behind_header f (Err e) bytes = []
behind_header f (Ok h) bytes = f h bytes

-- the raw bytes, in the file's own channels, of the file that the bytes begin with
unfoldable pub file_image : List ℕ → List ℕ
file_image bytes = behind_header (λ h. front_image h.channels h) (header_of bytes) (drop header_size bytes)

-- what follows that file
unfoldable pub file_rest : List ℕ → List ℕ
file_rest bytes = behind_header front_rest (header_of bytes) (drop header_size bytes)

-- the raw bytes, in these channels, of the file that the bytes begin with
unfoldable pub file_image_in : Channels → List ℕ → List ℕ
file_image_in channels bytes = behind_header (front_image channels) (header_of bytes) (drop header_size bytes)

-- A file stands at the front of the bytes, and `file_rest` follows it.
pub record BeginsWithFile (bytes : List ℕ) : Type 0 where
  pub header : Header
  pub cs : List Chunk
  pub is_file : IsFile header cs
  pub split : bytes ≡ file header cs ++ file_rest bytes
  pub size : length (file header cs) + length (file_rest bytes) ≡ length bytes

-- A file with this header stands at the front of the bytes, and n bytes follow it. It is no
-- abbreviation, so that the prover passes it on whole.
unfoldable pub HasFrontFile : Header → ℕ → List ℕ → Type 0
HasFrontFile h n bytes = (cs : List Chunk) × (rest : List ℕ) × IsFile h cs × (bytes ≡ file h cs ++ rest) × (length rest ≡ n)
