-- What the lists that are written in each style have in common.
use Rattle.std.specs.List.{AllByRecursion}
use Rattle.std.proofs.Common.{◌≡◌, ◌≢◌, ℕ, List, [], ◌∷◌, ◌++◌, length, reverse, None, refl, sym, ap, ◌∙◌, subst, arith, ◌+◌, ◌*◌, ◌≤◌}
use Rattle.std.proofs.lemmas.List.{length-reverse}
use Rattle.qoi.specs.Raw.{HasChannels}
use Rattle.qoi.specs.Shortest.{floor, slack}
use Rattle.qoi.specs.Tight.{floor0}
use Rattle.qoi.specs.Qoi.{Chunk, Place, RgbaPixel, IsPixel, AreChunks, chunk_bytes, Reaches, meaning, then_chunks}
use Rattle.qoi.specs.Written.{IsChoice, WrittenBy, Written}
use Rattle.qoi.specs.Regular.{Regular}
use Rattle.qoi.specs.Styles.{Style, Reference, Places, Tight, choice_in, in_style, placed_after, WrittenIn}
use Rattle.qoi.specs.WrittenList.{chosen, list_after, written_list}
use Rattle.qoi.proofs.encoding.styles.PlacedLists.{placed_chunks, placed_then, placed_length, placed_regular, placed_apart}
use Rattle.qoi.proofs.encoding.styles.TightChoice.{tight_chooses}
use Rattle.qoi.proofs.encoding.lists.WrittenOnce.{unique_by}
use Rattle.qoi.proofs.encoding.lists.WrittenShape.{stay_below, apart_by, fits_by}
use Rattle.qoi.proofs.encoding.lists.WrittenExists.{Chooses, chooses, image_written}
use Rattle.qoi.proofs.shortness.Upper.{upper}
use Rattle.qoi.proofs.shortness.Lower.{tight_exact, floor0_high}
use Rattle.qoi.proofs.shortness.RegularLists.{written_regular}

-- each style's choice has what a choice has to offer
pub chooses_in : (style : Style) → Chooses (choice_in style) (chosen style)
chooses_in Tight = tight_chooses
chooses_in style = chooses

-- what holds of the list of each style holds of each list that is written
by_style : (P : List Chunk → Type 0) (style : Style) (image : List RgbaPixel) (cs : List Chunk) → (w : WrittenIn style image cs) → P w.list
    → P (placed_after [] None w.list) → P cs
by_style P Places image cs w one two = subst P (sym w.is) two
by_style P style image cs w one two = subst P (sym w.is) one

-- the chunks are chunks
pub style_chunks : (style : Style) (image : List RgbaPixel) (cs : List Chunk) → WrittenIn style image cs → AreChunks cs
style_chunks style image cs w = by_style AreChunks style image cs w w.written.chunks (placed_chunks [] None w.list w.written.chunks)

-- they mean the image
pub style_means : (style : Style) (image : List RgbaPixel) (cs : List Chunk) → WrittenIn style image cs → meaning cs ≡ image
style_means style image cs w = by_style (λ x. meaning x ≡ image) style image cs w w.written.means (ap reverse (placed_then [] None w.list) ∙ w.written.means)

-- in as many bytes as before the style
pub style_length : (style : Style) (image : List RgbaPixel) (cs : List Chunk) (w : WrittenIn style image cs)
    → length (chunk_bytes cs) ≡ length (chunk_bytes w.list)
style_length style image cs w = by_style (λ x. length (chunk_bytes x) ≡ length (chunk_bytes w.list)) style image cs w refl (placed_length [] None w.list)

-- in style Tight that is the least
pub style_exact : (image : List RgbaPixel) (cs : List Chunk) → WrittenIn Tight image cs → length (chunk_bytes cs) ≡ floor0 image
style_exact image cs w = style_length Tight image cs w ∙ tight_exact image w.list w.written

-- there is one list
pub style_unique : (style : Style) (image : List RgbaPixel) (cs ds : List Chunk) → WrittenIn style image cs → WrittenIn style image ds → cs ≡ ds
style_unique style image cs ds w v = w.is ∙ ap (in_style style) (unique_by (choice_in style) (chooses_in style).only image w.list v.list w.written v.written)
    ∙ sym v.is

-- it reaches its pixels
pub style_reaches : (style : Style) (image : List RgbaPixel) (n : ℕ) (cs : List Chunk) → WrittenIn style image cs → length image ≡ n → Reaches n cs
style_reaches style image n cs w e =
    let m : length (meaning cs) ≡ n = ap length (style_means style image cs w) ∙ e in
    record { stays_below = stay_below [] cs n (style_chunks style image cs w) (sym (length-reverse (then_chunks [] cs)) ∙ m); enough = rw m (omega arith) }

-- two neighbours never name one index position
pub style_apart : (style : Style) (image : List RgbaPixel) (cs front rest : List Chunk) (i : ℕ) → WrittenIn style image cs
    → cs ≡ front ++ Place i ∷ Place i ∷ rest → ⊥
style_apart style image cs front rest i w e = by_style (λ x. x ≡ front ++ Place i ∷ Place i ∷ rest → ⊥) style image cs w
    (apart_by (choice_in style) image w.list front rest i w.written)
    (placed_apart (choice_in style) [] None w.list front rest i w.written.allowed)
    e

-- it is regular, except in style Tight
pub style_regular : (style : Style) (image : List RgbaPixel) (cs : List Chunk) → style ≢ Tight → WrittenIn style image cs → Regular cs
style_regular Reference image cs other w = subst Regular (sym w.is) (written_regular image w.list w.written)
style_regular Places image cs other w = subst Regular (sym w.is) (placed_regular [] None w.list (written_regular image w.list w.written))
style_regular Tight image cs other w = absurd (other refl)

-- it has at most a byte a pixel more than the raw bytes
pub style_fits : (style : Style) (image : List RgbaPixel) (channels n : ℕ) (cs : List Chunk) → HasChannels image channels → length image ≡ n
    → WrittenIn style image cs → length (chunk_bytes cs) ≤ n * channels + n
style_fits style image channels n cs has e w = subst (λ k. k ≤ n * channels + n) (sym (style_length style image cs w))
    (fits_by (choice_in style) (chooses_in style).is image channels n w.list has e w.written)

-- and at most the bytes of the floor and the slack
pub style_upper : (style : Style) (image : List RgbaPixel) (channels : ℕ) (cs : List Chunk) → HasChannels image channels → WrittenIn style image cs
    → length (chunk_bytes cs) ≤ floor image + slack image channels
style_upper style image channels cs has w = subst (λ k. k ≤ floor image + slack image channels) (sym (style_length style image cs w))
    (go style w.list w.written)
  where
    go : (style : Style) (list : List Chunk) → WrittenBy (choice_in style) image list → length (chunk_bytes list) ≤ floor image + slack image channels
    go Tight list v = omega (arith, tight_exact image list v, floor0_high image)
    go style list v = upper image channels list has v

-- the list of an image is written for it
pub list_written : (style : Style) (image : List RgbaPixel) → AllByRecursion IsPixel image → WrittenIn style image (written_list style image)
list_written style image are =
    record { list = list_after (chosen style) [] 0 image; written = image_written (choice_in style) (chosen style) (chooses_in style) image are; is = refl }

-- in style Places it is as long as each list of `Written`
pub places_as_long : (image : List RgbaPixel) (cs ds : List Chunk) → Written image cs → WrittenIn Places image ds
    → length (chunk_bytes ds) ≡ length (chunk_bytes cs)
places_as_long image cs ds w v = style_length Places image ds v
    ∙ ap (λ (x : List Chunk). length (chunk_bytes x)) (unique_by IsChoice chooses.only image v.list cs v.written w)
