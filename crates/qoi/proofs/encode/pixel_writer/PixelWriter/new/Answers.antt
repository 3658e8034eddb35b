-- Before the first raw byte.
use Rattle.std.proofs.Common.{[], ◌++◌, ◌≡◌, length, refl, sym, ap, ◌∙◌, subst, arith, append-nil}
use Rattle.std.specs.Io.KnownBytes.{Appends}
use Rattle.qoi.specs.Qoi.{header_bytes, IsValid}
use Rattle.qoi.specs.Raw.{image_byte_count}
use Rattle.qoi.specs.declared.encode.pixel_writer.workspace.Workspace.{Workspace}
use Rattle.qoi.specs.inner.Sending.{appended, ImageBetween, IsNew}
use Rattle.qoi.specs.EncoderState.{EncoderState}
use Rattle.qoi.specs.pieces.PixelWriter.{HasTaken}
use Rattle.qoi.proofs.decoding.Promised.{capped_is}
use Rattle.qoi.proofs.format.HeaderBytes.{tried_says}
use Rattle.qoi.proofs.encoding.piece.ImagePieces.{image_starts, new_whole, new_opaque}
use Rattle.qoi.proofs.encode.pixel_writer.PixelWriter.new.Given.{Over}
use Rattle.qoi.proofs.encode.pixel_writer.PixelWriter.new.Goals.{After-n_bytes}
use Rattle.qoi.proofs.encode.pixel_writer.PixelWriter.new.Goals as goal

-- the header is valid
says : (g : Over) (c : After-n_bytes g) → (c.args.header ≡ c.in_ok-header.header) × IsValid c.in_ok-header.header
says g c = tried_says _ _ _ _ c.in_ok-header.header (sym c.try_new.ensures ∙ c.in_ok-header.was)

-- nothing came yet
nothing : (g : Over) (c : After-n_bytes g) → IsNew c.in_ok-header.header.channels c.args.style c.in_ok-workspace.workspace.value.state
nothing g c = rw c.in_ok-workspace.ensures.ok c.new.ensures

-- and nothing is held
none : (g : Over) (c : After-n_bytes g) → c.in_ok-workspace.workspace.value.held ≡ []
none g c = ap (λ (k : Workspace). k.held) c.in_ok-workspace.ensures.ok ∙ c.new-2.ensures

pub invariant_of-result : goal.invariant_of-result
invariant_of-result g c =
    let here = (goal.at.invariant_of-result g c).After-n_bytes in
    let h = c.in_ok-header.header in
    let count = c.n_bytes.ensures ∙ capped_is h (says g here).1 in (
      (says g here).1,
      omega (arith, count),
      λ _. (new_opaque (nothing g here), new_whole h (nothing g here) (omega (arith, count, ap length (none g here)))),
    )

pub returns-clause-made : goal.returns-clause-made
unfolding HasTaken
returns-clause-made g c =
    let here = (goal.at.returns-clause-made g c).After-n_bytes in
    let said = says g here in
    let before = g.W.Write.contents c.args.writer in
    let now = g.W.Write.contents c.send_bytes.new.writer in
    let state = c.in_ok-workspace.workspace.value.state in
    let is : IsNew c.args.header.channels c.args.style state = rw said.0 (nothing g here) in
    let sent : Appends before now (header_bytes c.args.header) = subst (Appends before now) (c.encode.ensures ∙ ap header_bytes (sym said.0)) c.in_ok-send_bytes.ensures.written in
    record {
      header_is = sym said.0;
      style_is = (nothing g here).style_is;
      works = refl;
      size = omega (arith, c.n_bytes.ensures ∙ capped_is c.in_ok-header.header said.1 ∙ ap image_byte_count (sym said.0));
      are = λ i. omega arith;
      writes = λ more size are.
          let e : EncoderState = record { raw = more; header = c.args.header; style = c.args.style } in
          subst (λ held. ImageBetween appended e before now state [] (held ++ more)) (sym (none g here))
          (image_starts e before now state (header_bytes c.args.header) [] are is (sym (append-nil (header_bytes c.args.header))) sent);
    }
