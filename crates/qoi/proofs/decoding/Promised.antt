-- What a success and a refusal promise follows from what they mean, also which errors refuse known
-- bytes ahead of a decoder.
use Rattle.std.proofs.Common.{◌/◌, ◌≡◌, ℕ, List, Bool, true, false, Option, Some, inl, inr, refl, subst, ◌≤◌, ◌<◌, ◌+◌, ◌*◌, [], take, length, None, IfSome, Ok, ◌-◌, ◌^◌, min, ◌++◌, drop, sym, ◌∙◌, ap, arith, Err, mul_comm, append-nil, append_assoc, length-append, length-drop, take-append-drop, take_at}
use Rattle.qoi.specs.Styles.{Style}
use Rattle.qoi.specs.Decoding.{RefusesBytes, RefusesImage, RefusesTaken, DecodesFile, ReadsImage, ReadsHeader, TakesHeader, RefusesFile}
use Rattle.qoi.specs.Verdicts.{AreWrong, AreCut, IsWhole}
use Rattle.qoi.specs.Errors.{IsErrorOfCut, IsErrorOfWrong, IsIoError}
use Rattle.qoi.proofs.decoding.StreamVerdicts.{cut_is_io_error, padding_is_wrong}
use Rattle.qoi.proofs.format.OneVerdict.{cut_not_wrong, whole_not_cut, whole_not_wrong}
use Rattle.qoi.specs.declared.types.Channels.TheVariants.{Rgb, Rgba}
use Rattle.qoi.specs.Qoi.{Error, UnexpectedBufferEnd, InvalidPadding, IoError, Chunk, Header, Channels, channels_number, pixel_count, header_size, header_of, IsFile, IsValid, AreBytes, file}
use Rattle.qoi.specs.Raw.{HasImageLength, capped_byte_count, image_byte_count, byte_count}
use Rattle.qoi.specs.DecoderState.{DecoderState, output_byte_count}
use Rattle.qoi.specs.inner.Chunks.{Conversion, conversion_of, ReadsIn}
use Rattle.qoi.specs.Images.{front_image, file_rest}
use Rattle.qoi.specs.Reading.{IsImage}
use Rattle.qoi.specs.Decoded.{HasHeader, HasRefusedHeader, HasDecoded, HasRefused, HasDecodedFile, HasRefusedFile}
use Rattle.qoi.specs.Encoded.{IsFileOf}
use Rattle.qoi.proofs.decoding.Ahead.{decoder_of, fault_ahead, file_ahead, header_front, header_read, file_from_image, fourth_of_image, image_read, image_stands}
use Rattle.qoi.proofs.decoding.TakenBytes.{whole_holds, read_within, refused_within}
use Rattle.qoi.proofs.decoding.FrontImage.{file_image_is, file_rest_then, image_after, image_in_after, image_is, rest_is, some_pixels, three_of_front, decodes_after, decodes_more, file_has_header, file_is_whole, header_is_one}
use Rattle.qoi.proofs.decoding.ImageSize.{bounded_by, channels_are, image_length, pixels_of_size}
use Rattle.qoi.proofs.format.HeaderBytes.{header_front as header_at_front}
use Rattle.qoi.proofs.decoding.Refusals.{whole_not_refused, whole_not_refused_in}
use Rattle.qoi.proofs.decoding.Tiles.{file_in_front, file_put, picture_file}

-- cut bytes in memory are refused for their end
pub cut_in_memory : (n : ℕ) (bytes : List ℕ) (e : Error) → AreCut n bytes → RefusesBytes n bytes e → e ≡ UnexpectedBufferEnd
cut_in_memory n bytes UnexpectedBufferEnd cut why = refl
cut_in_memory n bytes InvalidPadding (cs, part, cut) (rest, (ds, eight, wrong)) = absurd (cut_not_wrong n bytes cs ds part eight rest cut wrong)
cut_in_memory n bytes _ cut none = absurd none

-- wrong bytes in memory are refused for their padding
pub wrong_in_memory : (n : ℕ) (bytes : List ℕ) (e : Error) → AreWrong n bytes → RefusesBytes n bytes e → e ≡ InvalidPadding
wrong_in_memory n bytes InvalidPadding wrong why = refl
wrong_in_memory n bytes UnexpectedBufferEnd (rest, (ds, eight, wrong)) (cs, part, cut) = absurd (cut_not_wrong n bytes cs ds part eight rest cut wrong)
wrong_in_memory n bytes _ wrong none = absurd none

-- a stream is refused for its padding or with an i/o error
padding_or_io : (n : ℕ) (taken : List ℕ) (e : Error) → RefusesTaken n taken e → IsErrorOfWrong false e
padding_or_io n taken (IoError x) why = inr tt
padding_or_io n taken InvalidPadding why = inl refl
padding_or_io n taken _ none = absurd none

-- what refuses cut bytes, and wrong ones; and which bytes are refused for their end, and which for their padding
says_of : (in_memory : Bool) (n : ℕ) (bytes : List ℕ) (new : Option (List ℕ)) (e : Error) → RefusesImage in_memory n (Some bytes) new e
    → (AreCut n bytes → IsErrorOfCut in_memory e) × (AreWrong n bytes → IsErrorOfWrong in_memory e)
    × (e ≡ UnexpectedBufferEnd → AreCut n bytes) × (e ≡ InvalidPadding → AreWrong n bytes)
says_of true n bytes new e (kept, why) =
    (λ cut. cut_in_memory n bytes e cut why, λ wrong. wrong_in_memory n bytes e wrong why, λ is. rw is at why, λ is. rw is at why)
says_of false n bytes new e (taken, took, why) = (
  λ (cs, part, cut). cut_is_io_error n bytes cs part new e cut (taken, took, why),
  λ wrong. padding_or_io n taken e why,
  λ is. absurd (rw is at why),
  λ is. let w = padding_is_wrong n bytes new taken took (rw is at why) in (w.2, (w.0, w.1, w.3)),
)

-- what holds of known bytes
pub if_known : (old : Option (List ℕ)) (P : List ℕ → Type 0) → ((bytes : List ℕ) → old ≡ Some bytes → P bytes) → IfSome old P
if_known None P is = tt
if_known (Some bytes) P is = is bytes refl

-- what a decoder that was made promises
pub has_header : {R : Type 0} (d : DecoderState R) (old new : Option (List ℕ)) → TakesHeader old new d.header → d.channels ≡ d.header.channels
    → HasHeader d old new
has_header d old new takes own =
    let front : (bytes : List ℕ) → old ≡ Some bytes → (header_of bytes ≡ Ok d.header) × (new ≡ Some (drop header_size bytes)) =
    (λ bytes told. header_read old new bytes d.header takes told) in
    record {
      takes = takes;
      channels = own;
      header = if_known old _ (λ bytes told. (front bytes told).0);
      after = if_known old _ (λ bytes told. (front bytes told).1);
      image = if_known old _ (λ bytes told.
          let (read, left) = front bytes told in rw left (image_after d.channels d.header bytes read own));
      image_in = if_known old _ (λ bytes told.
          let (read, left) = front bytes told in rw left (λ channels. image_in_after channels d.header bytes read));
      made = if_known old _ (λ bytes told.
          let parts = header_front old new bytes d.header takes told in decoder_of d bytes (drop header_size bytes) parts.0 parts.1 own);
    }

-- a valid header is refused only for a fault of the reader
header_fault : (bytes : List ℕ) (new : Option (List ℕ)) (e : Error) (h : Header) → ReadsHeader false (Some bytes) new (Err e) → header_of bytes ≡ Ok h → IsIoError e
header_fault bytes new (IoError x) h r read = tt
header_fault bytes None e h (taken, none, why) read = absurd none
header_fault bytes (Some rest) e h (taken, split, why) read =
    let front = header_at_front bytes h read in
    let same : take 14 bytes ≡ taken = ap (take 14) split ∙ take_at taken rest 14 why.0 in
    let refused = why.1 in
    let found = front.1 in
    absurd cc

-- what a refused header of a stream promises
pub has_refused_header : (old new : Option (List ℕ)) (e : Error) → ReadsHeader false old new (Err e) → HasRefusedHeader old e
has_refused_header old new e r = record {
  why = (new, r);
  fault = if_known old _ (λ bytes told h read. header_fault bytes new e h (subst (λ z. ReadsHeader false z new (Err e)) told r) read);
}

-- what a success promises
pub has_decoded : {R : Type 0} (d : DecoderState R) (old new : Option (List ℕ)) (out : List ℕ) → HasImageLength (output_byte_count d) out
    → ReadsImage (channels_number d.header.channels) (channels_number d.channels) (pixel_count d.header) old new out → HasDecoded d old new out
has_decoded d old new out size r =
    let stands : (bytes : List ℕ) → old ≡ Some bytes → (rest : List ℕ) × (new ≡ Some rest) × IsImage d.channels bytes d.header rest out =
    (λ bytes told. image_read d.channels d.header bytes new out (rw told at r)) in
    let many : 3 ≤ pixel_count d.header * channels_number d.channels = omega (arith, size.0, size.1) in
    record {
      reads = r;
      image = if_known old _ (λ bytes told. let s = stands bytes told in (image_is d.channels d.header bytes s.0 out s.2, s.1 ∙ ap Some (rest_is d.channels d.header bytes s.0 out s.2)));
      took = if_known old _ (λ bytes told. let s = stands bytes told in
          subst (λ o. IfSome o (λ rest. length rest + 9 ≤ length bytes)) (sym s.1) ((whole_holds _ bytes s.2.cs s.0 s.2.whole).1 (some_pixels _ _ many)));
      rest = stands;
      stands = if_known old _ (λ bytes told. let s = stands bytes told in image_stands d.header bytes s.0 out s.2);
      file = λ source ahead made told. file_from_image d source ahead new out made (stands ahead told);
      rgb = λ three. if_known old _ (λ bytes told. let s = stands bytes told in
          image_is d.channels d.header bytes s.0 out s.2 ∙ ap (λ c. front_image c d.header bytes) three ∙ three_of_front d.header bytes);
      opaque = λ four three i below. fourth_of_image _ _ _ old new out r (ap channels_number three) (ap channels_number four) i below;
      first_opaque = λ four three. fourth_of_image _ _ _ old new out r (ap channels_number three) (ap channels_number four) 0 (some_pixels _ _ many);
      size = size;
      within = read_within _ _ _ old new out r;
      enough = if_known old _ (λ bytes told. let s = stands bytes told in (whole_holds _ bytes s.2.cs s.0 s.2.whole).0);
      not_cut = λ bytes told (cs, part, cut). let s = stands bytes told in whole_not_cut _ bytes s.2.cs cs s.0 part s.2.whole cut;
      not_wrong = λ bytes told (more, (cs, eight, wrong)). let s = stands bytes told in whole_not_wrong _ bytes s.2.cs cs s.0 eight more s.2.whole wrong;
    }

pub has_refused : {R : Type 0} (in_memory : Bool) (d : DecoderState R) (old new : Option (List ℕ)) (e : Error)
    → RefusesImage in_memory (pixel_count d.header) old new e → HasRefused in_memory d old new e
has_refused in_memory d old new e r = record {
  why = r;
  not_whole = λ memory bytes rest cs told whole. whole_not_refused_in in_memory _ bytes new e cs rest memory whole (rw told at r);
  fault = if_known old _ (λ bytes told stands. fault_ahead in_memory d.header old new e bytes stands told r);
  cut = λ bytes told. (says_of in_memory _ bytes new e (rw told at r)).0;
  wrong = λ bytes told. (says_of in_memory _ bytes new e (rw told at r)).1;
  only_cut = λ bytes told. (says_of in_memory _ bytes new e (rw told at r)).2;
  only_wrong = λ bytes told. (says_of in_memory _ bytes new e (rw told at r)).3;
  within = refused_within in_memory _ old new e r;
}

-- what a refusal in a decoder's channels promises
pub refused_in : {R : Type 0} {in_memory : Bool} {k : Conversion} {size : ℕ} {start old new : Option (List ℕ)} {e : Error} (d : DecoderState R) → k ≡ conversion_of d
    → size ≡ output_byte_count d → start ≡ old → RefusesImage in_memory (size / channels_number k.channels) start new e → HasRefused in_memory d old new e
refused_in {in_memory = in_memory} {k} {size} {old = old} {new} {e} d own all ahead why =
    let pixels = pixels_of_size d.header d.channels size (channels_number k.channels) all (ap (λ j. channels_number j.channels) own) in
    has_refused in_memory d old new e (subst (λ z. RefusesImage in_memory (pixel_count d.header) z new e) ahead (rw pixels at why))

-- and a success
pub decoded_in : {R : Type 0} {k : Conversion} {size : ℕ} {start old new : Option (List ℕ)} {out : List ℕ} (d : DecoderState R) → k ≡ conversion_of d
    → size ≡ output_byte_count d → 3 ≤ size → start ≡ old → ReadsIn k size start new out → HasDecoded d old new out
decoded_in {k = k} {size} {old = old} {new} {out} d own all some ahead read =
    let n = pixel_count d.header in
    let c = channels_number d.channels in
    let f = channels_number d.header.channels in
    let channels = ap (λ j. channels_number j.channels) own in
    let file = ap (λ j. channels_number j.file_channels) own in
    let pixels = pixels_of_size d.header d.channels size (channels_number k.channels) all channels in
    let is : ReadsImage f c n old new out = subst (λ z. ReadsImage f c n z new out) ahead (rw (pixels, file, channels) at read) in
    let long = image_length f c n old new out (channels_are d.channels c refl) is ∙ mul_comm c n in
    has_decoded d old new out (long, omega (arith, long, some, all)) is

-- the number of an image's bytes is exact for a valid header
pub capped_is : (h : Header) → IsValid h → capped_byte_count h ≡ image_byte_count h
capped_is h valid = exact h.channels (pixel_count h) valid.1
  where
    exact : (c : Channels) (n : ℕ) → n ≤ 400000000 → min (n * channels_number c) (2 ^ 64 - 1) ≡ n * channels_number c
    exact Rgb n l = omega arith
    exact Rgba n l = omega arith

-- bytes that begin with a file aren't a part of an image's file that lacks its end
not_part : (bytes : List ℕ) (h : Header) (rest out : List ℕ) → DecodesFile bytes h rest out
    → (style : Style) (other : Header) (raw whole : List ℕ) (n : ℕ) → IsFileOf style other raw whole → bytes ≡ take n whole → n < length whole → ⊥
not_part bytes h rest out f style other raw whole n g part below =
    let d = file_ahead style other raw whole [] whole g (sym (append-nil whole)) in
    let split : whole ≡ file h f.cs ++ (rest ++ drop n whole) =
    sym (take-append-drop n whole) ∙ ap (λ z. z ++ drop n whole) (sym part ∙ f.split) ∙ append_assoc (file h f.cs) rest (drop n whole) in
    let same : rest ++ drop n whole ≡ [] = (d.only h f.cs (rest ++ drop n whole) f.is_file split).2 in
    let size : length rest + length (drop n whole) ≡ 0 = sym (length-append rest (drop n whole)) ∙ ap length same in
    omega (arith, size, length-drop n whole)

-- what a decoder made of the bytes decodes is the file at their front
pub has_decoded_file : (bytes : List ℕ) (d : DecoderState (List ℕ)) (left out : List ℕ) → AreBytes bytes → header_of bytes ≡ Ok d.header
    → d.channels ≡ d.header.channels → d.reader ≡ drop header_size bytes → HasDecoded d (Some d.reader) (Some left) out → HasDecodedFile bytes d.header out
has_decoded_file bytes d left out fits read own after decoded =
    let h = d.header in
    let f : DecodesFile bytes h left out = decodes_after bytes d left out fits read own after decoded.reads in
    let size : length out ≡ image_byte_count h = decoded.size.0 ∙ ap (λ k. byte_count h (channels_number k)) own in
    record {
      decodes = (left, f);
      begins = file_in_front bytes h left out f;
      header = read;
      image = file_image_is bytes h left out f;
      header_then = λ more. (decodes_more bytes more h left out f).header;
      image_then = λ more. sym (file_image_is (bytes ++ more) h (left ++ more) out (decodes_more bytes more h left out f));
      rest_then = λ more. file_rest_then bytes more h left out f;
      put = λ before after is. file_put bytes h left out before after f is;
      picture = λ before after is. picture_file bytes h left out before after f is;
      size = (size ∙ sym (capped_is h f.is_file.valid), decoded.size.1);
      per_byte = bounded_by (pixel_count h) (length out) h.channels d.reader bytes decoded.enough
          (omega (arith, ap length after, length-drop header_size bytes)) (omega (arith, size));
      not_cut = λ (cs, part, cut). whole_not_cut (pixel_count h) (drop header_size bytes) f.cs cs left part f.whole cut;
      not_wrong = λ (more, (cs, eight, wrong)). whole_not_wrong (pixel_count h) (drop header_size bytes) f.cs cs left eight more f.whole wrong;
      not_without_last = λ e whole m part.
          not_part bytes h left out f e.style e.header e.raw whole (length whole - 1) m.file part (omega (arith, m.file.is_file.long));
      not_part = λ e whole n m part below. not_part bytes h left out f e.style e.header e.raw whole n m.file part below;
    }

-- a file isn't refused
not_refused : (bytes : List ℕ) (e : Error) → RefusesFile bytes e → (h : Header) (cs : List Chunk) (rest : List ℕ) → header_of bytes ≡ Ok h
    → IsWhole (pixel_count h) (drop header_size bytes) cs rest → ⊥
not_refused bytes e (inl refused) h cs rest read whole = cc
not_refused bytes e (inr (k, found, why)) h cs rest read whole =
    whole_not_refused (pixel_count k) (drop header_size bytes) cs rest e
    (subst (λ j. IsWhole (pixel_count j) (drop header_size bytes) cs rest) (header_is_one bytes h k read found) whole) why

-- why the bytes after a header that was read are refused
pub why_after : (bytes : List ℕ) (e : Error) → RefusesFile bytes e → (h : Header) → header_of bytes ≡ Ok h → RefusesBytes (pixel_count h) (drop header_size bytes) e
why_after bytes e (inl refused) h read = absurd cc
why_after bytes e (inr (k, found, why)) h read =
    subst (λ j. RefusesBytes (pixel_count j) (drop header_size bytes) e) (header_is_one bytes k h found read) why

-- what a refused file promises
pub has_refused_file : (bytes : List ℕ) (e : Error) → RefusesFile bytes e → HasRefusedFile bytes e
has_refused_file bytes e why =
    let not_front : (style : Style) (h : Header) (raw front rest : List ℕ) → IsFileOf style h raw front → bytes ≡ front ++ rest → ⊥ =
    (λ style h raw front rest f split.
    let d = file_ahead style h raw front rest bytes f split in
    not_refused bytes e why h d.cs rest d.header d.whole) in
    let not_file : (h : Header) (cs : List Chunk) (rest : List ℕ) → IsFile h cs → bytes ≡ file h cs ++ rest → ⊥ =
    (λ h cs rest f split. not_refused bytes e why h cs rest (file_has_header h cs bytes rest f split) (file_is_whole h cs bytes rest f split)) in
    record {
      why = why;
      not_file = not_file;
      not_begins = λ begins. not_file begins.header begins.cs (file_rest bytes) begins.is_file begins.split;
      not_whole = λ style h raw f. not_front style h raw bytes [] f (sym (append-nil bytes));
      not_front = not_front;
      cut = λ h read cut. cut_in_memory (pixel_count h) (drop header_size bytes) e cut (why_after bytes e why h read);
      wrong = λ h read wrong. wrong_in_memory (pixel_count h) (drop header_size bytes) e wrong (why_after bytes e why h read);
    }
