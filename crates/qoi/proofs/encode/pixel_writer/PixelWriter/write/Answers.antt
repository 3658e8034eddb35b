-- Raw bytes more.
use Rattle.std.proofs.Common.{◌≡◌, ◌++◌, [], inl, length, refl, sym, ap, ◌∙◌, List, ℕ, subst, arith, append_assoc, length-append}
use Rattle.std.proofs.KnownBytes.{Appends-nil, Appends-trans}
use Rattle.qoi.specs.Qoi.{IsValid, AreBytes}
use Rattle.qoi.specs.declared.encode.pixel_writer.workspace.Workspace.{Workspace}
use Rattle.qoi.specs.inner.Sending.{appended, EndsOpaque, GoesOn, ImageBetween}
use Rattle.qoi.specs.EncoderState.{EncoderState}
use Rattle.qoi.specs.pieces.PixelWriter.{and_raw, HasTaken}
use Rattle.qoi.proofs.FileOf.{file_of_image, sends_part}
use Rattle.qoi.proofs.encoding.piece.ImagePieces.{image_on, image_off, begins_appended}
use Rattle.qoi.proofs.encoding.piece.BytesUnsent.{stays}
use Rattle.qoi.proofs.decoding.StreamReads.{bytes_append}
use Rattle.qoi.proofs.decoding.Refusals.{handed_on}
use Rattle.qoi.proofs.encode.pixel_writer.PixelWriter.write.Given.{Over}
use Rattle.qoi.proofs.encode.pixel_writer.PixelWriter.write.Goals.{After-deref_mut-workspace, Joined-takes, then-takes, else-takes+in_ok-take_raw}
use Rattle.qoi.proofs.encode.pixel_writer.PixelWriter.write.Goals as goal

-- the image with other bytes after these, before them
starts : (g : Over) (c : After-deref_mut-workspace g) (e : EncoderState) (before : _) (more : List ℕ)
    → ImageBetween appended (and_raw e (c.args.raw.now ++ more)) before (g.W.Write.contents c.self.inside.writer) c.self.inside.workspace.value.state []
    (c.self.inside.workspace.value.held ++ (c.args.raw.now ++ more))
    → ImageBetween appended (and_raw (and_raw e c.args.raw.now) more) before (g.W.Write.contents c.self.inside.writer) c.deref_mut-workspace.result.now.state []
    ((c.deref_mut-workspace.result.now.held ++ c.args.raw.now) ++ more)
starts g c e before more b =
    rw (c.deref_mut-workspace.ensures.value, append_assoc e.raw c.args.raw.now more, append_assoc c.self.inside.workspace.value.held c.args.raw.now more) b

pub returns-in_err-take_raw-clause-refused : goal.returns-in_err-take_raw-clause-refused
unfolding HasTaken
returns-in_err-take_raw-clause-refused g c = λ e before taken.
    let t = subst (HasTaken g.W.Write.contents e before) (sym c.self.view_is) taken in
    let raw = c.args.raw.now in
    let r = c.in_err-take_raw.ensures.written in
    let raw_are : AreBytes raw = λ i. omega (arith, c.type_inv.raw i) in
    handed_on _ _ _ c.from_residual.ensures.1 (inl (
      r.0,
      record {
        header_is = t.header_is;
        style_is = c.take_raw.ensures.stays.1 ∙ ap (λ (k : Workspace). k.state.style) c.deref_mut-workspace.ensures.value ∙ t.style_is;
        fails = refl;
        size = omega (arith, t.size, length-append e.raw raw);
        given = omega (arith, t.size, length-append e.raw raw);
        part = λ more size are.
            let left : length (raw ++ more) ≡ c.self.inside.left = omega (arith, size, length-append (e.raw ++ raw) more, length-append e.raw raw, length-append raw more, t.size) in
            let start = starts g (goal.at.returns-in_err-take_raw-clause-refused g c).After-deref_mut-workspace e before more (t.writes (raw ++ more) left (bytes_append raw more raw_are are)) in
            let all_are = bytes_append (e.raw ++ raw) more (bytes_append e.raw raw t.are raw_are) are in
            let file = file_of_image e.style e.header ((e.raw ++ raw) ++ more) (subst IsValid t.header_is c.self.invariant.0) size all_are in
            sends_part (and_raw (and_raw e raw) more) _ before (g.W.Write.contents c.take_raw.new.writer) file (begins_appended (image_off Appends-trans more start r.1));
      },
    ))

-- the bytes were held, or some written and the others held, and nothing else changed
went : (g : Over) (c : Joined-takes g) → (c.if-takes.self-inside.header ≡ c.self.inside.header) × (c.if-takes.self-inside.left ≡ c.self.inside.left)
    × (c.if-takes.self-inside.workspace.value.state.style ≡ c.deref_mut-workspace.result.now.state.style)
    × GoesOn appended (g.W.Write.contents c.self.inside.writer) c.deref_mut-workspace.result.now.state [] (c.deref_mut-workspace.result.now.held ++ c.args.raw.now)
    (g.W.Write.contents c.if-takes.self-inside.writer) c.if-takes.self-inside.workspace.value.state [] c.if-takes.self-inside.workspace.value.held
went g c =
    let opaque = subst (λ (k : Workspace). EndsOpaque k.state) (sym c.deref_mut-workspace.ensures.value) (c.self.invariant.2 c.if-self.false).0 in
    elim c.if-takes.branch [
      | then-takes w ↦ rw (w.self-inside-is, w.push.ensures) (refl, refl, refl, stays (Appends-nil _) opaque)
      | else-takes+in_ok-take_raw w ↦ rw w.self-inside-is (refl, refl, w.take_raw.ensures.stays.1, w.in_ok-take_raw.ensures.written)
    ]

pub returns-clause-taken : goal.returns-clause-taken
unfolding HasTaken
returns-clause-taken g c = λ e before taken.
    let t = subst (HasTaken g.W.Write.contents e before) (sym c.self.view_is) taken in
    let raw = c.args.raw.now in
    let raw_are : AreBytes raw = λ i. omega (arith, c.type_inv.raw i) in
    let w = went g (goal.at.returns-clause-taken g c).Joined-takes in
    record {
      header_is = w.0 ∙ t.header_is;
      style_is = w.2 ∙ ap (λ (k : Workspace). k.state.style) c.deref_mut-workspace.ensures.value ∙ t.style_is;
      works = refl;
      size = omega (arith, t.size, length-append e.raw raw, c.if-raw-self.false, w.1);
      are = bytes_append e.raw raw t.are raw_are;
      writes = λ more size are.
          let left : length (raw ++ more) ≡ c.self.inside.left = omega (arith, size, length-append raw more, c.if-raw-self.false, w.1) in
          let start = starts g (goal.at.returns-clause-taken g c).After-deref_mut-workspace e before more (t.writes (raw ++ more) left (bytes_append raw more raw_are are)) in
          image_on Appends-trans more start w.3;
    }
