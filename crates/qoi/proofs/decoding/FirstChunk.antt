-- The chunk that bytes begin with.
use Rattle.std.proofs.Common.{◌≡◌, ℕ, ◌+◌, ◌<◌, ◌≤◌, inl, inr, List, [], ◌∷◌, ◌++◌, length, map, take, get_or, replicate, arith, refl, sym, ap, ◌∙◌, Bool, nat_le, nat_lt, ◌&&◌}
use Rattle.std.specs.List.{range_with_len}
use Rattle.std.proofs.lemmas.Bool.{cases_lt}
use Rattle.std.proofs.lemmas.Bool.Decides.{nat_tests}
use Rattle.std.proofs.lemmas.Simd.{pick_l-range_with_len}
use mir.Val.{bool_byte}
use Rattle.qoi.specs.Qoi.{Chunk, Place, Diff, Luma, Run, Rgb, Rgba, RgbaPixel, Past, AreBytes, IsChunk, bytes_of, pixel, after_diff, after_luma, times, pixel_after}
use Rattle.qoi.specs.inner.Filling.{Filling, HasFilled, DecodesChunk}
use Rattle.qoi.specs.inner.Hashed.{pixel_of_lanes, HoldsSeen, HasSeen, IsAfterShort, IsAfterFull}
use Rattle.qoi.proofs.format.ChunkSteps.{times_some}
use Rattle.qoi.proofs.format.SeenTable.{holds_seen_copies, previous_copies}

-- the first n bytes, one by one
pub front : (n : ℕ) (bytes : List ℕ) → n ≤ length bytes → take n bytes ≡ map (λ k. get_or bytes k 0) (range_with_len 0 n)
front n bytes l = sym (pick_l-range_with_len 0 bytes 0 n (omega (arith, l)))

-- a pixel was put at its index position, and written `count` times
pub record PutsCopies (f c : ℕ) (p : RgbaPixel) (count : ℕ) (old new : Filling) : Type 0 where
  pub last_is : pixel_of_lanes new.last ≡ p
  pub table : (past : Past) → HoldsSeen old.table past → HoldsSeen new.table (p ∷ past)
  pub filled : (n : ℕ) (past : Past) → HasFilled f c n old.out old.at past → HasFilled f c n new.out new.at (replicate count p ++ past)

-- the pixels of a chunk
decodes_copies : {f c count : ℕ} {p : RgbaPixel} {old new : Filling} {bytes : List ℕ} (chunk : Chunk) → IsChunk chunk → bytes ≡ bytes_of chunk → times chunk ≡ count
    → ((past : Past) → HasSeen old.table old.last past → p ≡ pixel_after past chunk) → PutsCopies f c p count old new → DecodesChunk f c bytes old new
decodes_copies {f} {c} {count} {p} {old} {new} chunk is bytes_are many same g = record {
  chunk = chunk;
  is_chunk = is;
  bytes_are = bytes_are;
  has_seen = λ past h. rw (← same past h) (record {
    table_is = holds_seen_copies new.table p past (times chunk) (times_some chunk is) (g.table past h.table_is);
    last_is = g.last_is ∙ sym (previous_copies (times chunk) p past (times_some chunk is));
  });
  filled = λ n past h. rw (many, g.last_is) (g.filled n past h);
}

-- how many bytes a short chunk has, by its first byte
pub record HasSize (b taken : ℕ) : Type 0 where
  pub one : b < 128 → taken ≡ 1
  pub luma : 128 ≤ b → b < 192 → taken ≡ 2
  pub run : 192 ≤ b → taken ≡ 1

-- one byte, and one more if it is a luma
pub size_of : (b taken more : ℕ) (luma : Bool) → luma ≡ (nat_le 128 b && nat_lt b 192) → more ≡ bool_byte luma → taken ≡ more + 1 → HasSize b taken
size_of b taken more luma is by sum = record { one = λ l. grind (arith, nat_tests); luma = λ l h. grind (arith, nat_tests); run = λ l. grind (arith, nat_tests) }

-- a run
pub decodes_run : {f c : ℕ} {old new : Filling} (bytes : List ℕ) (count : ℕ) → 1 ≤ length bytes → get_or bytes 0 0 ≡ count + 191 → 0 < count → count ≤ 62
    → PutsCopies f c (pixel_of_lanes old.last) count old new → DecodesChunk f c (take 1 bytes) old new
decodes_run bytes count long first some most g =
    decodes_copies (Run count) (some, most) (front 1 bytes long ∙ ap (λ x. x ∷ []) (first ∙ omega arith)) refl (λ past h. h.last_is) g

-- an index position, a difference, a luma or a run, of which a luma alone has a second byte
pub decodes_short : {f c : ℕ} {p : RgbaPixel} {old new : Filling} (bytes : List ℕ) (b e taken count : ℕ) → 2 ≤ length bytes → b ≡ get_or bytes 0 0
    → e ≡ get_or bytes 1 0 → b < 254 → e < 256 → HasSize b taken → (b < 192 → count ≡ 1) → (192 ≤ b → count + 191 ≡ b)
    → IsAfterShort b e old.table (pixel_of_lanes old.last) p → PutsCopies f c p count old new → DecodesChunk f c (take taken bytes) old new
decodes_short bytes b e taken count long first second low byte size once often px g =
    elim (cases_lt b 64) [
      | inl place ↦ decodes_copies (Place b) place (rw (size.one (omega arith), first) (front 1 bytes (omega arith))) (sym (once (omega arith)))
          (λ past h. px.place place past h.table_is) g
      | inr other ↦ elim (cases_lt b 128) [
        | inl diff ↦ decodes_copies (Diff b) (other, diff) (rw (size.one (omega arith), first) (front 1 bytes (omega arith))) (sym (once (omega arith)))
            (λ past h. px.diff other diff ∙ ap (λ q. after_diff q b) h.last_is) g
        | inr high ↦ elim (cases_lt b 192) [
          | inl luma ↦ decodes_copies (Luma b e) (high, luma, byte) (rw (size.luma high luma, first, second) (front 2 bytes long)) (sym (once luma))
              (λ past h. px.luma high luma ∙ ap (λ q. after_luma q b e) h.last_is) g
          | inr run ↦
              let n = often run in
              rw (size.run run) (decodes_run bytes count (omega arith) (sym first ∙ sym n) (omega (arith, n)) (omega (arith, n))
              (record { last_is = g.last_is ∙ px.run run; table = λ past h. rw (← px.run run) (g.table past h); filled = λ m past h. rw (← px.run run) (g.filled m past h) }))
        ]
      ]
    ]

-- an RGB or RGBA chunk, of four or five bytes
pub decodes_full : {f c : ℕ} {p : RgbaPixel} {old new : Filling} (bytes : List ℕ) (b size : ℕ) → 5 ≤ length bytes → AreBytes bytes → b ≡ get_or bytes 0 0 → 254 ≤ b
    → (b ≡ 254 → size ≡ 4) → (b ≡ 255 → size ≡ 5) → IsAfterFull b bytes (pixel_of_lanes old.last) p → PutsCopies f c p 1 old new → DecodesChunk f c (take size bytes) old new
decodes_full {old = old} bytes b size long fits first full four five px g =
    let rgb = Rgb (get_or bytes 1 0) (get_or bytes 2 0) (get_or bytes 3 0) in
    let rgba = Rgba (get_or bytes 1 0) (get_or bytes 2 0) (get_or bytes 3 0) (get_or bytes 4 0) in
    elim (cases_lt b 255) [
      | inl less ↦
          let is : b ≡ 254 = omega (arith, less, full) in
          let is_chunk : IsChunk rgb = (fits 1, fits 2, fits 3) in
          decodes_copies rgb is_chunk
          (rw (four is) (front 4 bytes (omega (arith, long)) ∙ ap (λ x. x ∷ get_or bytes 1 0 ∷ get_or bytes 2 0 ∷ get_or bytes 3 0 ∷ []) (sym first ∙ is))) refl
          (λ past h. px.rgb is ∙ ap (λ (q : RgbaPixel). pixel (get_or bytes 1 0) (get_or bytes 2 0) (get_or bytes 3 0) q.a) h.last_is) g
      | inr more ↦
          let is : b ≡ 255 = omega (arith, more, first, fits 0) in
          let is_chunk : IsChunk rgba = (fits 1, fits 2, fits 3, fits 4) in
          decodes_copies rgba is_chunk
          (rw (five is) (front 5 bytes long ∙ ap (λ x. x ∷ get_or bytes 1 0 ∷ get_or bytes 2 0 ∷ get_or bytes 3 0 ∷ get_or bytes 4 0 ∷ []) (sym first ∙ is))) refl
          (λ past h. px.rgba is) g
    ]
