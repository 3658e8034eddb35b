-- Files one after the other, taken from the front.
use Rattle.std.proofs.Common.{◌≡◌, ◌+◌, ◌<◌, ℕ, List, [], ◌∷◌, ◌++◌, length, map, arith, ap, sym, ◌∙◌, refl, subst}
use Rattle.std.proofs.lemmas.List.{map-append, append_assoc, length-append}
use Rattle.qoi.specs.declared.header.Header.{Header}
use Rattle.qoi.specs.declared.chunk.Chunk.{Chunk}
use Rattle.qoi.specs.Qoi.{channels_number, header_bytes, chunk_bytes, end_marker, file, file_pixels}
use Rattle.qoi.specs.Raw.{output}
use Rattle.qoi.specs.Decoding.{DecodesFile}
use Rattle.qoi_tool.specs.Files.{AreFiles}

-- what follows a file is shorter than the file with it
pub rest_is_shorter : (bytes : List ℕ) (h : Header) (rest raw : List ℕ) → DecodesFile bytes h rest raw → length rest < length bytes
rest_is_shorter bytes h rest raw d =
    let all : length bytes ≡ length (file h d.cs) + length rest = ap length d.split ∙ length-append (file h d.cs) rest in
    let front : length (file h d.cs) ≡ length (header_bytes h) + length (chunk_bytes d.cs ++ end_marker) =
    length-append (header_bytes h) (chunk_bytes d.cs ++ end_marker) in
    let marked : length (chunk_bytes d.cs ++ end_marker) ≡ length (chunk_bytes d.cs) + 8 = length-append (chunk_bytes d.cs) end_marker in
    omega (arith, all, front, marked)

-- an image more at the end of the list, or at the front of those that follow
pub map_of_more : {V : Type 0} (f : V → List ℕ) (old new : List V) (v : V) (all : List (List ℕ)) → new ≡ old ++ (v ∷ [])
    → map f new ++ all ≡ map f old ++ (f v ∷ all)
map_of_more f old new v all e =
    ap (λ z. map f z ++ all) e ∙ (ap (λ z. z ++ all) (map-append f old (v ∷ [])) ∙ append_assoc (map f old) (f v ∷ []) all)

-- `[]` is no file
pub nothing_is_no_file : (bytes : List ℕ) (h : Header) (rest raw : List ℕ) → DecodesFile bytes h rest raw → bytes ≡ [] → ⊥
nothing_is_no_file bytes h rest raw d e =
    let shorter = rest_is_shorter bytes h rest raw d in
    let none : length bytes ≡ 0 = ap length e in
    omega (arith, shorter, none)

-- bytes are files in one way at most
pub images_are_one : (bytes : List ℕ) (images others : List (List ℕ)) → AreFiles bytes images → AreFiles bytes others → images ≡ others
images_are_one bytes [] [] e f = refl
images_are_one bytes [] (y ∷ ys) e f = absurd (nothing_is_no_file bytes f.0 f.1 y f.2 e)
images_are_one bytes (x ∷ xs) [] e f = absurd (nothing_is_no_file bytes e.0 e.1 x e.2 f)
images_are_one bytes (x ∷ xs) (y ∷ ys) e f =
    let one = e.2.only f.0 f.2.cs f.1 f.2.is_file f.2.split in
    let P : Header → List Chunk → List ℕ = λ h cs. output (channels_number h.channels) (channels_number h.channels) (file_pixels h cs) in
    let first : y ≡ x = f.2.out_is ∙ ap (λ h. P h f.2.cs) one.0 ∙ ap (P e.0) one.1 ∙ sym e.2.out_is in
    let others : xs ≡ ys = images_are_one e.1 xs ys e.3 (subst (λ (z : List ℕ). AreFiles z ys) one.2 f.3) in
    cc
