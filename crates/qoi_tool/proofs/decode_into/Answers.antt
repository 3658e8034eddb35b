-- The file is refused for the decoder's reason.
use Rattle.std.proofs.Common.{◌≡◌, refl, ℕ, List, drop, Ok, sym, ap, ◌∙◌, subst, inl, inr, ⊎_elim}
use Rattle.std.proofs.lemmas.Result.{err_from_is_err_and}
use Rattle.std.proofs.KnownBytes.{Keeps-refl}
use Rattle.std.specs.Io.KnownBytes.{Appends}
use Rattle.qoi.specs.declared.error.Error.{Error}
use Rattle.qoi.specs.declared.types.Channels.{Channels}
use Rattle.qoi.specs.declared.header.Header.{Header}
use Rattle.qoi.specs.Qoi.{header_of, pixel_count, header_size}
use Rattle.qoi.specs.DecoderState.{DecoderState}
use Rattle.qoi.specs.Decoding.{RefusesBytes, RefusesFile}
use Rattle.qoi.specs.Reading.{IsImage}
use Rattle.qoi.specs.Writers.{AppendsBeginning}
use Rattle.qoi_tool.specs.declared.command.Command.TheVariants.{DecodeInto}
use Rattle.qoi_tool.specs.Answers.{Writes}
use Rattle.qoi_tool.specs.Transfers.{IsIoOrMemory}
use Rattle.qoi_tool.proofs.decode_into.Goals as goal

-- a file is refused for the bytes after its header
refused_bytes : (input : List ℕ) (h k : Header) (bytes : List ℕ) (e : Error) → header_of input ≡ Ok h → k ≡ h → bytes ≡ drop header_size input
    → RefusesBytes (pixel_count k) bytes e → RefusesFile input e
refused_bytes input h k bytes e read same after r =
    inr (
      h,
      read,
      subst (λ (z : Header). RefusesBytes (pixel_count z) (drop header_size input) e) same
          (subst (λ (z : List ℕ). RefusesBytes (pixel_count k) z e) after r),
    )

pub returns-in_err-pixels-clause-refused : goal.returns-in_err-pixels-clause-refused
returns-in_err-pixels-clause-refused g c =
    let p = err_from_is_err_and c.from_residual-in_err-pixels.result c.from_residual-in_err-pixels.ensures.1 in
    let d = c.in_ok-new.field-0 in
    let accepted = c.in_ok-new.ensures.accepted in
    let chosen = c.with_channels-decoder.result in
    let same = c.with_channels-decoder.ensures in
    let read = subst (λ (z : List ℕ). header_of z ≡ Ok d.header) c.deref.ensures.value accepted.header in
    let after = ap (λ (z : DecoderState (List ℕ)). z.reader) same ∙ (cc accepted.after) ∙ ap (drop header_size) c.deref.ensures.value in
    let unwritten = Keeps-refl (g.W.Write.contents c.args.output.now) in
    rw (p.1, p.2) (⊎_elim (λ none. inr (inl (subst IsIoOrMemory (sym none.0) tt, unwritten)))
    (λ r. inl (
      c.in_ok-file.file.items,
      c.in_ok-file.ensures.read,
      refused_bytes c.in_ok-file.file.items d.header chosen.header chosen.reader c.in_err-pixels.field-0.0 read
          (ap (λ (z : DecoderState (List ℕ)). z.header) same) after r.why.1,
      unwritten,
    ))
    c.in_err-pixels.ensures.refused)

-- the image decoded after a header is the answer for these channels
answer_of : (input : List ℕ) (channels : Channels) (d chosen : DecoderState (List ℕ)) (bytes rest out : List ℕ) → bytes ≡ input
    → header_of bytes ≡ Ok d.header → d.reader ≡ drop header_size bytes → chosen ≡ record d { channels = channels }
    → IsImage chosen.channels chosen.reader chosen.header rest out → Writes (DecodeInto channels) input out
answer_of input channels d chosen bytes rest out same read after chosen_is image =
    let image_is = subst (λ (z : DecoderState (List ℕ)). IsImage z.channels z.reader z.header rest out) chosen_is image in (
      d.header,
      rest,
      subst (λ (z : List ℕ). header_of z ≡ Ok d.header) same read,
      subst (λ (z : List ℕ). IsImage channels z d.header rest out) (after ∙ ap (drop header_size) same) image_is,
    )

pub returns-clause-done : goal.returns-clause-done
returns-clause-done g c =
    let d = c.in_ok-new.field-0 in
    let chosen = c.with_channels-decoder.result in
    let accepted = c.in_ok-new.ensures.accepted in
    let input = c.in_ok-file.file.items in
    let out = c.in_ok-pixels.pixels.items in
    let r = c.in_ok-pixels.ensures.decoded.rest chosen.reader refl in (
      input,
      out,
      c.in_ok-file.ensures.read,
      answer_of input c.args.channels d chosen c.deref.result.now r.0 out c.deref.ensures.value accepted.header (cc accepted.after) c.with_channels-decoder.ensures r.2,
      subst (Appends _ _) c.deref-2.ensures.value c.in_ok-write_all.ensures.written,
    )

-- if writing failed, the image was decoded
pub returns-in_err-write_all-clause-refused : goal.returns-in_err-write_all-clause-refused
returns-in_err-write_all-clause-refused g c =
    let p = err_from_is_err_and c.from_residual-in_err-write_all.result c.from_residual-in_err-write_all.ensures.1 in
    let d = c.in_ok-new.field-0 in
    let chosen = c.with_channels-decoder.result in
    let accepted = c.in_ok-new.ensures.accepted in
    let input = c.in_ok-file.file.items in
    let out = c.in_ok-pixels.pixels.items in
    let r = c.in_ok-pixels.ensures.decoded.rest chosen.reader refl in
    let failed = c.in_err-write_all.ensures.failed in
    rw (p.1, p.2) (inr (inr (
      failed.0,
      (
        input,
        out,
        c.in_ok-file.ensures.read,
        answer_of input c.args.channels d chosen c.deref.result.now r.0 out c.deref.ensures.value accepted.header (cc accepted.after) c.with_channels-decoder.ensures r.2,
        subst (AppendsBeginning _ _) c.deref-2.ensures.value failed.1,
      ),
    )))
