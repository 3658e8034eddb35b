-- Sixteen bytes at a time.
use Rattle.std.proofs.Common.{◌≡◌, [], ◌∷◌, ℕ, ◌+◌, ◌-◌, ◌*◌, ◌/◌, ◌≤◌, List, ◌++◌, length, take, drop, set, get_or, replicate, arith, refl, sym, ap, ◌∙◌, append-nil, append_assoc}
use Rattle.std.proofs.lemmas.List.{take-take, length-take-le, length-set, length-replicate, take-replicate, replicate-append-replicate}
use Rattle.std.proofs.lemmas.Grind.{flat_map-append, take-set_at}
use Rattle.std.proofs.Math.Seq.{take-append-add}
use borrow.Rule.Slice.PartMut.{put_mid}
use lib.Lanes.{put_chunk}
use Rattle.qoi.specs.Qoi.{RgbaPixel}
use Rattle.qoi.specs.Raw.{IsChannels, pixel_bytes, output}
use Rattle.qoi.specs.inner.Filling.{HasWritten, HasCopies}
use Rattle.qoi.specs.inner.Hashed.{pixel_of_lanes}
use Rattle.qoi.proofs.format.LaneBytes.{bytes_put}
use Rattle.qoi.proofs.format.WholePixels.{by_channels, take-output}

-- the whole pixels of a vector
whole_of : (f c : ℕ) (p : RgbaPixel) (bytes : List ℕ) → IsChannels c → bytes ≡ take 16 (output f c (replicate 6 p))
    → (take (c * (16 / c)) bytes ≡ output f c (replicate (16 / c) p)) × (c * (16 / c) ≤ 16) × (length bytes ≡ 16)
whole_of f c p bytes is = by_channels (λ d. bytes ≡ take 16 (output f d (replicate 6 p))
    → (take (d * (16 / d)) bytes ≡ output f d (replicate (16 / d) p)) × (d * (16 / d) ≤ 16) × (length bytes ≡ 16)) is (λ e. rw e (refl, omega arith, refl))
    (λ e. rw e (refl, omega arith, refl))

-- the whole pixels of a vector stand after what was written before
whole_written : (f c : ℕ) (p : RgbaPixel) (out bytes : List ℕ) (at : ℕ) → IsChannels c → at + 16 ≤ length out → bytes ≡ take 16 (output f c (replicate 6 p))
    → take (at + c * (16 / c)) (put_mid at (at + 16 - at) out (put_chunk 0 (take (at + 16 - at) (drop at out)) bytes)) ≡ take at out ++ output f c
    (replicate (16 / c) p)
whole_written f c p out bytes at is room e =
    let whole = whole_of f c p bytes is e in
    bytes_put 16 at (c * (16 / c)) out bytes room whole.2 whole.1 ∙ ap (λ z. take at out ++ z) whole.0

-- copies of a pixel were written, and then more of them
pub written_copies : {f c : ℕ} {old mid new : List ℕ} (px at j k n : ℕ) → IsChannels c → n ≡ j + k → HasCopies f c at j px old mid → HasCopies f c (at + c * j) k px mid new
    → HasCopies f c at n px old new
written_copies {f} {c} {old} {mid} {new} px at j k n is sum first more =
    let p = pixel_of_lanes px in
    let end : at + c * j + c * k ≡ at + c * n = grind (arith, is, sum) in
    let bytes : output f c (replicate j p) ++ output f c (replicate k p) ≡ output f c (replicate n p) =
    sym (flat_map-append (pixel_bytes f c) (replicate j p) (replicate k p)) ∙ ap (output f c) (replicate-append-replicate j k p ∙ ap (λ m. replicate m p) (sym sum)) in
    record {
      at_is = ap (λ m. at + c * m) (sym (length-replicate n p));
      same = ap (λ m. take m new) (sym end) ∙ more.same ∙ ap (λ z. z ++ output f c (replicate k p)) first.same
          ∙ append_assoc (take at old) (output f c (replicate j p)) (output f c (replicate k p)) ∙ ap (λ z. take at old ++ z) bytes;
    }

-- fewer of the copies were written too
pub written_fewer : {f c : ℕ} {old new : List ℕ} (px at most count : ℕ) → IsChannels c → count ≤ most → at ≤ length old → HasCopies f c at most px old new
    → HasCopies f c at count px old new
written_fewer {f} {c} {old} {new} px at most count is le within all =
    let p = pixel_of_lanes px in
    let bytes = output f c (replicate most p) in
    let front : length (take at old) ≡ at = length-take-le at old within in
    let ends : at + c * count ≤ at + c * most = grind (arith, is, le) in
    record {
      at_is = ap (λ m. at + c * m) (sym (length-replicate count p));
      same = sym (take-take (at + c * count) (at + c * most) new ends) ∙ ap (take (at + c * count)) all.same
          ∙ ap (λ n. take (n + c * count) (take at old ++ bytes)) (sym front) ∙ take-append-add (take at old) bytes (c * count)
          ∙ ap (λ z. take at old ++ z) (take-output f c count (replicate most p) is (omega (arith, le, length-replicate most p))
          ∙ ap (output f c) (take-replicate count most p le));
    }

-- copies of a pixel, as many as a vector has room for
pub vector_written : (f c px : ℕ) (out bytes : List ℕ) (at count : ℕ) → IsChannels c → at + 16 ≤ length out
    → bytes ≡ take 16 (output f c (replicate 6 (pixel_of_lanes px))) → count ≤ 16 / c
    → HasCopies f c at count px out (put_mid at (at + 16 - at) out (put_chunk 0 (take (at + 16 - at) (drop at out)) bytes))
vector_written f c px out bytes at count is room e le =
    written_fewer px at (16 / c) count is le (omega arith) (record {
      at_is = ap (λ m. at + c * m) (sym (length-replicate (16 / c) (pixel_of_lanes px)));
      same = whole_written f c (pixel_of_lanes px) out bytes at is room e;
    })

-- a pixel of three bytes alone
pub three_bytes_written : (f c : ℕ) (p : RgbaPixel) (out bytes : List ℕ) (at : ℕ) → c ≡ 3 → at + c ≤ length out
    → bytes ≡ take 16 (output f c (replicate 6 p))
    → HasWritten f c out at (set (set (set out at (get_or bytes 0 0)) (at + 1) (get_or bytes 1 0)) (at + 2) (get_or bytes 2 0)) (at + c) (p ∷ [])
three_bytes_written f c p out bytes at e room is = rw (is, e) (record { at_is = omega arith; same = grind (arith, take-set_at, length-set, append_assoc) })

-- a pixel of four bytes alone, from the front of a vector
pub four_bytes_written : (f c : ℕ) (p : RgbaPixel) (out bytes : List ℕ) (at : ℕ) → c ≡ 4 → at + c ≤ length out
    → bytes ≡ take 16 (output f c (replicate 6 p)) → (let both = bytes ++ bytes in
    HasWritten f c out at (put_mid at (at + 4 - at) out (put_chunk 0 (take (at + 4 - at) (drop at out))
    (get_or both 0 0 ∷ get_or both 1 0 ∷ get_or both 2 0 ∷ get_or both 3 0 ∷ []))) (at + c) (p ∷ []))
four_bytes_written f c p out bytes at e room is = rw (is, e) (record { at_is = omega arith; same = bytes_put 4 at 4 out _ (omega (arith, e, room)) refl (omega arith) })

-- a pixel once, by four bytes that begin with its own
pub read_bytes_written : (f c px : ℕ) (out bytes : List ℕ) (at : ℕ) → IsChannels c → at + 4 ≤ length out → length bytes ≡ 4
    → take c bytes ≡ output f c (pixel_of_lanes px ∷ [])
    → HasCopies f c at 1 px out (put_mid at (at + 4 - at) out (put_chunk 0 (take (at + 4 - at) (drop at out)) bytes))
read_bytes_written f c px out bytes at is room size e = record {
  at_is = refl;
  same = by_channels (λ d. take (at + d * 1) (put_mid at (at + 4 - at) out (put_chunk 0 (take (at + 4 - at) (drop at out)) bytes)) ≡ take at out ++ take d bytes) is
      (bytes_put 4 at 3 out bytes room size (omega arith)) (bytes_put 4 at 4 out bytes room size (omega arith)) ∙ ap (λ z. take at out ++ z) e;
}

-- no copies
pub written_none : (f c : ℕ) (old : List ℕ) (at px : ℕ) → HasCopies f c at 0 px old old
written_none f c old at px = record { at_is = refl; same = let none : at + c * 0 ≡ at = omega arith in rw none (sym (append-nil (take at old))) }

-- one of them
pub written_one : {f c : ℕ} {old new : List ℕ} (px at : ℕ) → HasWritten f c old at new (at + c) (pixel_of_lanes px ∷ []) → HasCopies f c at 1 px old new
written_one {c = c} px at w = let one : at + c * 1 ≡ at + c = omega arith in rw one w

-- k copies were written twice; so any number up to both
pub two_written : {f c : ℕ} {o0 o1 o2 : List ℕ} (px at k count : ℕ) → IsChannels c → at ≤ length o0 → count ≤ 2 * k → HasCopies f c at k px o0 o1
    → HasCopies f c (at + c * k) k px o1 o2 → HasCopies f c at count px o0 o2
two_written px at k count is within le w1 w2 = written_fewer px at (2 * k) count is le within (written_copies px at k k (2 * k) is (omega arith) w1 w2)

-- k copies were written from the front, and k up to the end
pub ends_written : {f c : ℕ} {o0 o1 o2 : List ℕ} (px at k count : ℕ) → IsChannels c → at ≤ length o0 → k ≤ count → count ≤ 2 * k → HasCopies f c at k px o0 o1
    → HasCopies f c (at + c * (count - k)) k px o1 o2 → HasCopies f c at count px o0 o2
ends_written px at k count is within most le w1 w2 =
    written_copies px at (count - k) k count is (omega (arith, most)) (written_fewer px at k (count - k) is (omega (arith, le)) within w1) w2

-- eight vectors and eight more have room for the longest run
pub most_by_eight : (c count : ℕ) → IsChannels c → count ≤ 62 → count ≤ 2 * (8 * (16 / c))
most_by_eight c count is le = grind (arith, is)
