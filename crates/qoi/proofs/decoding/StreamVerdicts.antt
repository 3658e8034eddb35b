-- What a stream's answers say of the bytes that stood ahead.
use Rattle.std.proofs.Common.{◌≡◌, ℕ, zero, suc, ◌+◌, ◌*◌, ◌<◌, List, [], ◌∷◌, ◌++◌, length, take, Option, Some, None, false, arith, refl, ap, ◌∙◌, append_assoc, append-nil, slice_index}
use Rattle.std.specs.Io.KnownBytes.{Consumes}
use Rattle.qoi.specs.Qoi.{Error, InvalidPadding, IoError, Chunk, RgbaPixel, chunk_bytes, meaning, end_marker}
use Rattle.qoi.specs.Raw.{output, without_fourth}
use Rattle.qoi.specs.Verdicts.{HasChunks, IsWhole, IsCut, IsWrong, AreWrongThen}
use Rattle.qoi.specs.Decoding.{ReadsImage, RefusesImage, RefusesTaken}
use Rattle.qoi.specs.Errors.{IsIoError}
use Rattle.qoi.proofs.format.OneVerdict.{whole_not_wrong, cut_not_wrong}

-- what was read was whole
pub read_is_whole : (f c n : ℕ) (bytes : List ℕ) (left : Option (List ℕ)) (out : List ℕ) → ReadsImage f c n (Some bytes) left out
    → (cs : List Chunk) × (rest : List ℕ) × IsWhole n bytes cs rest × (left ≡ Some rest) × (out ≡ output f c (take n (meaning cs)))
read_is_whole f c n bytes None out r = absurd r.taken
read_is_whole f c n bytes (Some rest) out r =
    let split : bytes ≡ chunk_bytes r.cs ++ (end_marker ++ rest) = r.taken ∙ append_assoc (chunk_bytes r.cs) end_marker rest in
    let whole : IsWhole n bytes r.cs rest = record { has = record { chunks = r.chunks; stays_below = r.reaches.stays_below; split = split }; enough = r.reaches.enough } in
    (r.cs, rest, whole, refl, r.out_is)

-- what was refused for its padding was wrong
pub padding_is_wrong : (n : ℕ) (bytes : List ℕ) (left : Option (List ℕ)) (taken : List ℕ) → Consumes (Some bytes) left taken → AreWrongThen n taken []
    → (cs : List Chunk) × (eight : List ℕ) × (rest : List ℕ) × IsWrong n bytes cs eight rest × (left ≡ Some rest)
padding_is_wrong n bytes None taken took wrong = absurd took
padding_is_wrong n bytes (Some rest) taken took (cs, eight, w) =
    let split : bytes ≡ chunk_bytes cs ++ (eight ++ rest) = took ∙ rw (w.has.split, append_assoc, append-nil) in
    let has : HasChunks n bytes cs (eight ++ rest) = record { chunks = w.has.chunks; stays_below = w.has.stays_below; split = split } in
    (cs, eight, rest, record { has = has; enough = w.enough; length_is = w.length_is; other = w.other }, refl)

-- if the bytes are not wrong, a refusal is an i/o error
only_io_error : (n : ℕ) (bytes : List ℕ) (left : Option (List ℕ)) (taken : List ℕ) (e : Error)
    → ((cs : List Chunk) (eight rest : List ℕ) → IsWrong n bytes cs eight rest → ⊥) → Consumes (Some bytes) left taken
    → RefusesTaken n taken e → IsIoError e
only_io_error n bytes left taken (IoError x) not_wrong took why = tt
only_io_error n bytes left taken InvalidPadding not_wrong took why = let w = padding_is_wrong n bytes left taken took why in not_wrong w.0 w.1 w.2 w.3
only_io_error n bytes left taken _ not_wrong took none = none

-- cut bytes are refused with an i/o error
pub cut_is_io_error : (n : ℕ) (bytes : List ℕ) (cs : List Chunk) (part : List ℕ) (left : Option (List ℕ)) (e : Error) → IsCut n bytes cs part
    → RefusesImage false n (Some bytes) left e → IsIoError e
cut_is_io_error n bytes cs part left e cut (taken, took, why) =
    only_io_error n bytes left taken e (λ ds eight rest wrong. cut_not_wrong n bytes cs ds part eight rest cut wrong) took why

-- whole bytes are refused with an i/o error alone
pub whole_is_io_error : (n : ℕ) (bytes : List ℕ) (cs : List Chunk) (rest : List ℕ) (left : Option (List ℕ)) (e : Error) → IsWhole n bytes cs rest
    → RefusesImage false n (Some bytes) left e → IsIoError e
whole_is_io_error n bytes cs rest left e whole (taken, took, why) =
    only_io_error n bytes left taken e (λ ds eight after wrong. whole_not_wrong n bytes cs ds rest eight after whole wrong) took why

-- three channels are four without each fourth byte
pub rgb_is_without_fourth : (file : ℕ) (pixels : List RgbaPixel) → output file 3 pixels ≡ without_fourth (output file 4 pixels)
rgb_is_without_fourth file [] = refl
rgb_is_without_fourth file (p ∷ pixels) = ap (λ z. p.r ∷ p.g ∷ p.b ∷ z) (rgb_is_without_fourth file pixels)

-- each fourth byte of an image of three channels is 255
pub fourth_is_opaque : (pixels : List RgbaPixel) (i : ℕ) → i < length pixels → slice_index (output 3 4 pixels) (4 * i + 3) ≡ 255
fourth_is_opaque [] i h = absurd (omega arith)
fourth_is_opaque (p ∷ pixels) zero h = refl
fourth_is_opaque (p ∷ pixels) (suc i) h =
    let e : 4 * suc i + 3 ≡ suc (suc (suc (suc (4 * i + 3)))) = omega arith in
    ap (λ k. slice_index (output 3 4 (p ∷ pixels)) k) e ∙ fourth_is_opaque pixels i (omega arith)
