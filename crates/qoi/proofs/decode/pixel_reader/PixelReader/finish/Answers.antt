-- More bytes of the image are read, until none are left.
use Rattle.std.proofs.Common.{List, ℕ, [], ◌++◌, Bool, true, false, Option, Some, refl, sym, subst, arith}
use Rattle.qoi.specs.Qoi.{Error}
use Rattle.qoi.specs.Decoded.{HasDecoded, HasRefused}
use Rattle.qoi.specs.DecoderState.{DecoderState}
use Rattle.qoi.specs.Reading.{StandsAhead}
use Rattle.qoi.specs.pieces.PixelReader.{as_decoder, HasGiven, RefusesPixels}
use Rattle.qoi.proofs.decoding.Promised.{if_known}
use Rattle.qoi.proofs.decoding.Refusals.{handed_on, handed_as}
use Rattle.qoi.proofs.decoding.SlicesRefused.{why_refused, decoded_whole}
use Rattle.qoi.proofs.decode.pixel_reader.PixelReader.finish.Given.{Over}
use Rattle.qoi.proofs.decode.pixel_reader.PixelReader.finish.Goals.{After-from_residual}
use Rattle.qoi.proofs.decode.pixel_reader.PixelReader.finish.Goals as goal

-- a refused image is refused by its decoder
by_decoder : {R : Type 0} (in_memory : Bool) (d : DecoderState R) (start new : Option (List ℕ)) (e : Error) → RefusesPixels in_memory d start new e
    → (last : Option (List ℕ)) × HasRefused in_memory d start last e
by_decoder true d start new e h = (start, h)
by_decoder false d start new e h = (new, h)

-- and so is the image that is read here
refused : (g : Over) (c : After-from_residual g) (d : DecoderState _) (start : Option (List ℕ)) (given : List ℕ) → HasGiven d start (g.R.Reader.ahead c.args.self.reader) given c.args.self
    → (last : Option (List ℕ)) × HasRefused g.R.Reader.in_memory d start last c.in_err-read.field-0.0
refused g c d start given h =
    let (rest, before) = c.loop-buf.invariant.read d start given h in
    by_decoder g.R.Reader.in_memory d start _ _ (c.in_err-read.ensures.refused d start (given ++ rest) before).why

pub returns-in_err-read-clause-why : goal.returns-in_err-read-clause-why
returns-in_err-read-clause-why g c d start given h held =
    let (last, why) = refused g (goal.at.returns-in_err-read-clause-why g c).After-from_residual d (Some start) given h in
    handed_on _ _ _ c.from_residual.ensures.1 (why_refused d start held refl why).0

pub returns-in_err-read-clause-cut : goal.returns-in_err-read-clause-cut
returns-in_err-read-clause-cut g c d start given h held cut =
    let (last, why) = refused g (goal.at.returns-in_err-read-clause-cut g c).After-from_residual d (Some start) given h in
    handed_as _ c.from_residual.ensures.1 ((why_refused d start held refl why).1 cut)

pub returns-in_err-read-clause-wrong : goal.returns-in_err-read-clause-wrong
returns-in_err-read-clause-wrong g c d start given h held wrong =
    let (last, why) = refused g (goal.at.returns-in_err-read-clause-wrong g c).After-from_residual d (Some start) given h in
    handed_as _ c.from_residual.ensures.1 ((why_refused d start held refl why).2 wrong)

pub returns-clause-finished : goal.returns-clause-finished
unfolding HasGiven
returns-clause-finished g c d start given h =
    let (rest, all) = c.loop-buf.invariant.read d start given h in
    (rest, subst (λ z. HasDecoded d start (g.R.Reader.ahead z.reader) (given ++ rest)) (sym c.into_decoder.ensures) (all.whole (omega (arith, c.left.ensures.left, c.loop-buf-test.false))))

pub returns-clause-passed : goal.returns-clause-passed
unfolding StandsAhead
returns-clause-passed g c fresh =
    let (rest, all) = returns-clause-finished g c (as_decoder c.args.self) _ [] fresh in
    if_known _ _ (λ bytes known. let (after, left, image) = all.rest bytes known in (image.cs, after, image.whole))

pub returns-clause-cut : goal.returns-clause-cut
returns-clause-cut g c d start given h held cut = absurd ((decoded_whole d start refl (returns-clause-finished g c d (Some start) given h).1).0 cut)

pub returns-clause-wrong : goal.returns-clause-wrong
returns-clause-wrong g c d start given h held wrong = absurd ((decoded_whole d start refl (returns-clause-finished g c d (Some start) given h).1).1 wrong)
