-- All raw bytes came, and the rest of the file, or a beginning of it, is sent.
use Rattle.std.proofs.Common.{◌≡◌, [], refl, sym, ap, ◌∙◌, subst, arith, append-nil, inr, rules}
use Rattle.std.proofs.lemmas.Result.{MatchResult-weaker}
use Rattle.std.proofs.KnownBytes.{Appends-trans}
use Rattle.qoi.specs.Encoded.{IsFileOf, image_file}
use Rattle.qoi.specs.Qoi.{IsValid}
use Rattle.qoi.specs.inner.Sending.{appended, ImageBetween}
use Rattle.qoi.specs.EncoderState.{EncoderState}
use Rattle.qoi.specs.pieces.PixelWriter.{HasTaken}
use Rattle.qoi.proofs.FileOf.{file_of_image, sends_file, sends_part}
use Rattle.qoi.proofs.encoding.piece.ImagePieces.{image_ends, begins_appended}
use Rattle.qoi.proofs.encoding.piece.WriterProgress.{begins_after}
use Rattle.qoi.proofs.encode.pixel_writer.PixelWriter.send_rest.Given.{Over}
use Rattle.qoi.proofs.encode.pixel_writer.PixelWriter.send_rest.Goals.{After-write_end}
use Rattle.qoi.proofs.encode.pixel_writer.PixelWriter.send_rest.Goals as goal

-- only the chunks of the bytes that are held are unsent, and the file is that of the image
starts : (g : Over) (c : After-write_end g) (e : EncoderState) (before : _) → c.self.inside.left ≡ 0 → HasTaken g.W.Write.contents e before c.args.self.now
    → ImageBetween appended e before (g.W.Write.contents c.self.inside.writer) c.deref_mut-workspace.result.now.state [] c.deref_mut-workspace.result.now.held
    × IsFileOf e.style e.header e.raw (image_file e.style e.header e.raw)
unfolding HasTaken
starts g c e before none taken =
    let t = subst (HasTaken g.W.Write.contents e before) (sym c.self.view_is) taken in
    let last = t.writes [] (sym none) (λ i. omega arith) in (
      rw c.deref_mut-workspace.ensures.value (rw (append-nil e.raw, append-nil c.self.inside.workspace.value.held) at last),
      file_of_image e.style e.header e.raw (subst IsValid t.header_is c.self.invariant.0) (omega (arith, t.size, none)) t.are,
    )

pub returns-clause-sent : goal.returns-clause-sent
returns-clause-sent g c = λ e before t.
    let none : c.self.inside.left ≡ 0 = omega (arith, c.if-self-gt0.false) in
    let here = starts g (goal.at.returns-clause-sent g c).After-write_end e before none t in
    MatchResult-weaker c.write_end.result c.write_end.ensures
    (λ _ ends. (_, sends_file e _ before (g.W.Write.contents c.write_end.new.writer) _ here.1 refl (image_ends Appends-trans here.0 ends)))
    (λ _ _. tt)

pub returns-clause-part : goal.returns-clause-part
returns-clause-part g c = λ e before t.
    let none : c.self.inside.left ≡ 0 = omega (arith, c.if-self-gt0.false) in
    let left = ap (λ s. s.left) c.self.view_is in
    let here = starts g (goal.at.returns-clause-part g c).After-write_end e before none t in
    MatchResult-weaker c.write_end.result c.write_end.ensures (λ _ _. tt)
    (λ error r is. (
      sym left ∙ none,
      sends_part e _ before (g.W.Write.contents c.write_end.new.writer) here.1 (begins_appended (image_ends (begins_after Appends-trans) here.0 r.1)),
    ))

pub returns-then-self-gt0-clause-missing : goal.returns-then-self-gt0-clause-missing
unfolding HasTaken
returns-then-self-gt0-clause-missing g c = inr (search rules, search rules, cc)
