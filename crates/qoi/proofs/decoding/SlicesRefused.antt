-- What a refusal says of bytes in memory.
use Rattle.std.proofs.Common.{◌≡◌, ℕ, List, drop, Bool, true, false, IsTrue, Option, Some, Ok, inl, inr, refl, sym, subst}
use Rattle.qoi.specs.Qoi.{Error, UnexpectedBufferEnd, InvalidPadding, Header, pixel_count, header_of, header_size}
use Rattle.qoi.specs.Decoding.{RefusesBytes, IsNoFile}
use Rattle.qoi.specs.DecoderState.{DecoderState}
use Rattle.qoi.specs.Decoded.{HasHeader, HasDecoded, HasRefused}
use Rattle.qoi.specs.Reading.{IsCutAhead, IsWrongAhead, SaysWhy}
use Rattle.qoi.proofs.decoding.Promised.{why_after}

-- bytes are refused for one of two reasons
two_reasons : (h : Header) (bytes : List ℕ) (e : Error) → RefusesBytes (pixel_count h) bytes e → SaysWhy h bytes e
unfolding IsCutAhead IsWrongAhead
two_reasons h bytes UnexpectedBufferEnd cut = inl (refl, cut)
two_reasons h bytes InvalidPadding wrong = inr (refl, wrong)
two_reasons h bytes _ none = absurd none

-- why a decoder refuses bytes in memory, and the error of those that are cut, and of those that are wrong
pub why_refused : {R : Type 0} {in_memory : Bool} (d : DecoderState R) {old new : Option (List ℕ)} (start : List ℕ) {e : Error} → IsTrue in_memory
    → old ≡ Some start → HasRefused in_memory d old new e
    → SaysWhy d.header start e × (IsCutAhead d.header start → e ≡ UnexpectedBufferEnd) × (IsWrongAhead d.header start → e ≡ InvalidPadding)
unfolding IsCutAhead IsWrongAhead
why_refused {in_memory = true} d {new = new} start {e} held told h =
    (two_reasons d.header start e (subst (λ z. HasRefused true d z new e) told h).why.1, h.cut start told, h.wrong start told)
why_refused {in_memory = false} d start held told h = absurd (cc)

-- those that are decoded are neither
pub decoded_whole : {R : Type 0} (d : DecoderState R) {old new : Option (List ℕ)} (start : List ℕ) {out : List ℕ} → old ≡ Some start
    → HasDecoded d old new out → (IsCutAhead d.header start → ⊥) × (IsWrongAhead d.header start → ⊥)
unfolding IsCutAhead IsWrongAhead
decoded_whole d start told h = (h.not_cut start told, h.not_wrong start told)

-- one of two reasons refuses bytes
refuses : (h : Header) (bytes : List ℕ) (e : Error) → SaysWhy h bytes e → RefusesBytes (pixel_count h) bytes e
unfolding IsCutAhead IsWrongAhead
refuses h bytes e (inl (is, cut)) = subst (RefusesBytes (pixel_count h) bytes) (sym is) cut
refuses h bytes e (inr (is, wrong)) = subst (RefusesBytes (pixel_count h) bytes) (sym is) wrong

-- bytes behind whose header a decoder refuses what is ahead
pub file_refused : (d : DecoderState (List ℕ)) (bytes : List ℕ) (e : Error) → HasHeader d (Some bytes) (Some d.reader) → SaysWhy d.header d.reader e
    → IsNoFile bytes e
unfolding IsNoFile
file_refused d bytes e made why =
    inr (d.header, made.header, subst (λ z. RefusesBytes (pixel_count d.header) z e) (cc made.after) (refuses d.header d.reader e why))

-- why bytes behind a header are refused
pub why_no_file : (bytes : List ℕ) (e : Error) (h : Header) → IsNoFile bytes e → header_of bytes ≡ Ok h → SaysWhy h (drop header_size bytes) e
unfolding IsNoFile
why_no_file bytes e h refused read = two_reasons h (drop header_size bytes) e (why_after bytes e refused h read)
