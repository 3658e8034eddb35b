-- A buffer that bytes were written to from the front.
use Rattle.std.proofs.Common.{◌≡◌, ℕ, ◌≤◌, List, [], ◌++◌, length, drop, Result, IfOk, sym, ap, ◌∙◌, arith, take-append-drop}
use Rattle.std.proofs.lemmas.Result.{MatchResult-weaker}
use Rattle.qoi.specs.Qoi.{Error}
use Rattle.qoi.specs.Encoded.{max_file_len}
use Rattle.qoi.specs.EncoderState.{EncoderState}
use Rattle.qoi.specs.Sent.{PutsFile}
use Rattle.qoi.specs.Writers.{BytesMut, BufferWrote, buffer_name, written_bytes, bytes_left}
use Rattle.qoi.specs.inner.Sending.{WritesImage}
use Rattle.qoi.proofs.FileOf.{puts_file}

-- the bytes stand at its front, and all later ones are as before
buffer_filled : (s t : BytesMut) (old bytes : List ℕ) (n : ℕ) → written_bytes s ≡ [] → bytes_left s ≡ old → BufferWrote s bytes t → n ≡ length bytes
    → t.buf.now ≡ bytes ++ drop n old
buffer_filled s t old bytes n none left w size =
    sym (take-append-drop t.written t.buf.now) ∙ ap (λ z. z ++ bytes_left t) (w.appended ∙ ap (λ z. z ++ bytes) none)
    ∙ ap (λ z. bytes ++ z) (w.later ∙ ap (drop (length bytes)) left ∙ ap (λ k. drop k old) (sym size))

-- so an image that a writer over it wrote is put into it: `new` is the buffer at last
pub image_put : (e : EncoderState) (s t : BytesMut) (old new : List ℕ) (result : Result ℕ Error) → written_bytes s ≡ [] → bytes_left s ≡ old → max_file_len e.header ≤ length old
    → (buffer_name t ≡ buffer_name s → new ≡ t.buf.now) → WritesImage BufferWrote (λ _. ⊥) e s t result → IfOk result (PutsFile e old new)
image_put e s t old new result none left room is w = MatchResult-weaker result w.2 (λ n r.
    puts_file e w.0 old new n w.1 r.0 (is r.1.same_writer ∙ buffer_filled s t old w.0 n none left r.1 r.0) (omega (arith, r.0, w.1.is_file.fits, room))) (λ _ _. tt)
