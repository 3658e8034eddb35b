-- The file is refused for the library's reason, or its raw bytes are written.
use Rattle.std.proofs.Common.{◌≡◌, List, ℕ, sym, subst, inl, inr, ⊎_elim}
use Rattle.std.proofs.lemmas.Result.{err_from_is_err_and, on_ok_weaker, IfErr-weaker}
use Rattle.std.proofs.KnownBytes.{Keeps-refl}
use Rattle.std.specs.Io.KnownBytes.{Appends}
use Rattle.qoi.specs.declared.header.Header.{Header}
use Rattle.qoi.specs.Decoding.{DecodesFile, RefusesFile}
use Rattle.qoi.specs.Decoded.{HasDecodedFile}
use Rattle.qoi.specs.Writers.{AppendsBeginning}
use Rattle.qoi_tool.specs.Transfers.{IsIoOrMemory}
use Rattle.qoi_tool.proofs.decode.Goals as goal

pub returns-in_err-pixels-clause-refused : goal.returns-in_err-pixels-clause-refused
returns-in_err-pixels-clause-refused g c =
    let p = err_from_is_err_and c.from_residual-in_err-pixels.result c.from_residual-in_err-pixels.ensures.1 in
    let unwritten = Keeps-refl (g.W.Write.contents c.args.output.now) in
    let file = c.in_ok-file.file.items in
    rw (p.1, p.2) (⊎_elim
    (λ r. inl (file, c.in_ok-file.ensures.read, subst (λ (z : List ℕ). RefusesFile z c.in_err-pixels.field-0.0) c.deref.ensures.value r.why, unwritten))
    (λ none. inr (inl (subst IsIoOrMemory (sym none.0) tt, unwritten)))
    c.in_err-pixels.ensures.refused)

-- what was decoded is the file that was read
answers : {file input : List ℕ} {h : Header} {out : List ℕ} → file ≡ input → HasDecodedFile file h out
    → (k : Header) × (rest : List ℕ) × DecodesFile input k rest out
answers {h = h} {out = out} same d = (h, d.decodes.0, subst (λ (z : List ℕ). DecodesFile z h d.decodes.0 out) same d.decodes.1)

pub returns-clause-done : goal.returns-clause-done
returns-clause-done g c =
    let answer = answers c.deref.ensures.value c.in_ok-pixels.ensures.decoded in
    let out = c.in_ok-pixels.pixels.items in
    on_ok_weaker c.write_all.result
    (λ sent. (c.in_ok-file.file.items, out, c.in_ok-file.ensures.read, answer, subst (Appends _ _) c.deref-2.ensures.value sent)) c.write_all.ensures.written

pub returns-clause-refused : goal.returns-clause-refused
returns-clause-refused g c =
    let answer = answers c.deref.ensures.value c.in_ok-pixels.ensures.decoded in
    let out = c.in_ok-pixels.pixels.items in
    IfErr-weaker c.write_all.result _ _ (λ e failed. inr (inr (
      failed.0,
      (c.in_ok-file.file.items, out, c.in_ok-file.ensures.read, answer, subst (AppendsBeginning _ _) c.deref-2.ensures.value failed.1),
    ))) c.write_all.ensures.failed
