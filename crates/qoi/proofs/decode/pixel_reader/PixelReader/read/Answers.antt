-- A piece more is given, or the image is refused.
use Rattle.std.proofs.Common.{◌≡◌, ◌++◌, List, ℕ, ◌+◌, ◌≤◌, Bool, true, false, IsTrue, Option, Some, None, IfSome, MatchOption, take, drop, length, arith, refl, sym, ap, ◌∙◌, subst}
use Rattle.std.proofs.lemmas.List.{length-append, length-drop, length-take, length-take-le, take_all}
use Rattle.std.proofs.Math.Nat.{mul-add}
use lib.Seq.{take-append_seam}
use Rattle.qoi.specs.Images.{front_image}
use Rattle.qoi.specs.Qoi.{Error, Header, IsValid, channels_number, pixel_count}
use Rattle.qoi.specs.Decoding.{RefusesBytes}
use Rattle.qoi.specs.DecoderState.{DecoderState}
use Rattle.qoi.specs.Reading.{StandsAhead}
use Rattle.qoi.specs.pieces.PixelReader.{PixelsState, HasGiven, HasRows, RefusesPixels}
use Rattle.qoi.specs.pieces.Unread.{OwesWholePixels, IsUnread, AreEnough}
use Rattle.qoi.specs.inner.Chunks.{RefusesChunks}
use Rattle.qoi.proofs.format.RectangleLaws.{picture_row}
use Rattle.qoi.proofs.decoding.PixelPieces.{byte_bounds, has_given, unread_of, refuses_pixels, piece_follows, rows_more, rows_next}
use Rattle.qoi.proofs.decode.pixel_reader.PixelReader.read.Given.{Over}
use Rattle.qoi.proofs.decode.pixel_reader.PixelReader.read.Goals.{After-take_fault}
use Rattle.qoi.proofs.decode.pixel_reader.PixelReader.read.Goals as goal

-- what holds of the error in `fault`, holds of the one that is returned
fault_is : (Why : Error → Type 0) (fault : Option Error) (e : Error) → IfSome fault (λ f. e ≡ f) → MatchOption fault ⊥ Why → Why e
fault_is Why (Some f) e is why = subst Why (sym is) why
fault_is Why None e is why = absurd why

-- an image that stands whole in memory isn't refused
stays_whole : {R : Type 0} (in_memory : Bool) (d : DecoderState R) (start new : Option (List ℕ)) (e : Error) → RefusesPixels in_memory d start new e
    → IsTrue in_memory → (bytes : List ℕ) → start ≡ Some bytes → StandsAhead d.header bytes → ⊥
stays_whole true d start new e refused held bytes is = rw is at refused.fault
stays_whole false d start new e refused held bytes is = absurd (cc)

-- bytes in memory say why
in_bytes : (in_memory : Bool) (n : ℕ) (start new : Option (List ℕ)) (e : Error) → RefusesChunks in_memory n start new e → IsTrue in_memory
    → (bytes : List ℕ) → start ≡ Some bytes → RefusesBytes n bytes e
in_bytes true n start new e why held bytes is = rw is at why
in_bytes false n start new e why held bytes is = absurd (cc)

pub returns-in-Ok-clause-read : goal.returns-in-Ok-clause-read
unfolding HasGiven
returns-in-Ok-clause-read g c d start given h =
    let header = ap (λ s. s.header) c.self.view_is ∙ h.header in
    let chosen = ap (λ s. s.channels) c.self.view_is ∙ h.channels in
    let ahead = ap (λ s. g.R.Reader.ahead s.reader) c.self.view_is in
    let unread = ap (λ s. s.unread) c.self.view_is in
    let going = ap (λ s. s.refused) c.self.view_is ∙ h.going in
    let after = unread_of (sym header) (sym chosen) refl refl (c.in-Ok.ensures.step.read _ start given (unread_of header chosen ahead unread h.unread)) in
    let out = c.next_piece.new.out in
    let whole = take_all (length out) out (omega arith) in
    let size : c.min-size.result ≡ length out = omega (arith, c.next_piece.auto.out, length-take-le c.min-size.result c.args.buf.now (omega (arith, c.min-size.ensures))) in
    let front = ap (λ k. take k (out ++ drop c.min-size.result c.args.buf.now)) size ∙ take-append_seam out (drop c.min-size.result c.args.buf.now) in
    let valid : IsValid d.header = subst IsValid header c.self.invariant.0 in
    let same = c.next_piece.ensures.unchanged in
    let e = c.next_piece.new.self in
    let then : PixelsState _ = record { reader = e.reader; header = e.header; channels = e.channels; unread = c.next_piece.new.unread; refused = c.self.inside.refused } in
    subst (λ z. HasGiven d start (g.R.Reader.ahead e.reader) (given ++ z) then) (sym front)
    (has_given d start _ (given ++ out) then (subst (λ z. IsUnread (channels_number d.header.channels) (channels_number d.channels) (pixel_count d.header) start (g.R.Reader.ahead e.reader) (given ++ z) then.unread) whole after) (subst (λ k. OwesWholePixels (channels_number k) then.unread) chosen c.in-Ok.ensures.step.pixels) (ap (λ s. s.header) same ∙ header) (ap (λ s. s.channels) same ∙ chosen) going (byte_bounds d.header d.channels valid).0)

pub returns-in-Ok-clause-follows : goal.returns-in-Ok-clause-follows
unfolding HasGiven
returns-in-Ok-clause-follows g c d bytes given h =
    let size = c.min-size.result in
    let piece = take size (c.next_piece.new.out ++ drop size c.args.buf.now) in
    let many : length piece ≡ size =
    omega (arith, c.next_piece.auto.out, length-take size c.args.buf.now, length-take size (c.next_piece.new.out ++ drop size c.args.buf.now), length-append c.next_piece.new.out (drop size c.args.buf.now), c.min-size.ensures) in
    let after = returns-in-Ok-clause-read g c d (Some bytes) given h in
    rw many at (piece_follows d.channels d.header bytes given piece after.front)

pub returns-then-size-eq0-clause-strip : goal.returns-then-size-eq0-clause-strip
unfolding HasRows
returns-then-size-eq0-clause-strip g c d start stride k n (given, many, h) long none = (given, omega (arith, many, none, long, mul-add stride k n), h)

pub returns-then-size-eq0-clause-strip_rows : goal.returns-then-size-eq0-clause-strip_rows
unfolding HasRows
returns-then-size-eq0-clause-strip_rows g c d bytes stride k n (given, many, h) long none =
    rows_next (front_image d.channels d.header bytes) given c.args.buf.now stride k n 0 refl many long (omega (arith, long, none))

pub returns-in-Ok-clause-strip : goal.returns-in-Ok-clause-strip
unfolding HasRows
returns-in-Ok-clause-strip g c d start stride k n (given, many, h) long fills =
    let size = c.min-size.result in
    let rows = c.next_piece.new.out ++ drop size c.args.buf.now in
    rows_more d start _ stride k n size given rows _ (returns-in-Ok-clause-read g c d start given h) many
    (omega (arith, c.next_piece.auto.out, length-take size c.args.buf.now, length-append c.next_piece.new.out (drop size c.args.buf.now), length-drop size c.args.buf.now, c.min-size.ensures, long)) (omega (arith, fills, long))

pub returns-in-Ok-clause-strip_rows : goal.returns-in-Ok-clause-strip_rows
unfolding HasRows
returns-in-Ok-clause-strip_rows g c d bytes stride k n (given, many, h) long fills =
    let size = c.min-size.result in
    let rows = c.next_piece.new.out ++ drop size c.args.buf.now in
    rows_next (front_image d.channels d.header bytes) given rows stride k n size (returns-in-Ok-clause-follows g c d bytes given h) many
    (omega (arith, c.next_piece.auto.out, length-take size c.args.buf.now, length-append c.next_piece.new.out (drop size c.args.buf.now), length-drop size c.args.buf.now, c.min-size.ensures, long))
    (omega (arith, fills, c.min-size.ensures, long))

pub returns-then-size-eq0-clause-rows : goal.returns-then-size-eq0-clause-rows
returns-then-size-eq0-clause-rows g c d start stride k rows long none =
    returns-then-size-eq0-clause-strip g c d start stride k 1 rows (omega (arith, long)) (omega (arith, long, none))

pub returns-in-Ok-clause-rows : goal.returns-in-Ok-clause-rows
returns-in-Ok-clause-rows g c d start stride k rows long fills =
    returns-in-Ok-clause-strip g c d start stride k 1 rows (omega (arith, long)) (omega (arith, long, fills))

pub returns-in-Ok-clause-row : goal.returns-in-Ok-clause-row
returns-in-Ok-clause-row g c d bytes stride k rows long fills =
    returns-in-Ok-clause-strip_rows g c d bytes stride k 1 rows (omega (arith, long)) (omega (arith, long, fills))
    ∙ picture_row stride k (front_image d.channels d.header bytes)

pub returns-then-self-clause-refused : goal.returns-then-self-clause-refused
unfolding HasGiven
returns-then-self-clause-refused g c d start given h = let going = ap (λ s. s.refused) c.self.view_is ∙ h.going in absurd (cc)

-- chunks of pixels that are enough were refused
refused_as : (g : Over) (c : After-take_fault g) (d : DecoderState _) (start : Option (List ℕ)) (given : List ℕ) → HasGiven d start (g.R.Reader.ahead c.args.self.now.reader) given c.args.self.now
    → (all : ℕ) → AreEnough (channels_number d.channels) (pixel_count d.header) (length given + length c.next_piece.new.out) all
    → RefusesChunks g.R.Reader.in_memory all start (g.R.Reader.ahead c.next_piece.new.self.reader) c.take_fault.result
unfolding HasGiven
refused_as g c d start given h all enough =
    let header = ap (λ s. s.header) c.self.view_is ∙ h.header in
    let chosen = ap (λ s. s.channels) c.self.view_is ∙ h.channels in
    let ahead = ap (λ s. g.R.Reader.ahead s.reader) c.self.view_is in
    let unread = ap (λ s. s.unread) c.self.view_is in
    fault_is _ c.next_piece.new.unread.fault c.take_fault.result c.take_fault.ensures.error
    (c.in-Err.ensures.step.refused _ start given (unread_of header chosen ahead unread h.unread) all
    (subst (λ k. AreEnough (channels_number k) (pixel_count c.self.inside.decoder.header) (length given + length c.next_piece.new.out) all) (sym chosen)
    (subst (λ (k : Header). AreEnough (channels_number d.channels) (pixel_count k) (length given + length c.next_piece.new.out) all) (sym header) enough)))

pub returns-in-Err-clause-refused : goal.returns-in-Err-clause-refused
returns-in-Err-clause-refused g c d start given h =
    let refused = refused_as g (goal.at.returns-in-Err-clause-refused g c).After-take_fault d start given h in
    let why = refuses_pixels g.R.Reader.in_memory d start _ c.take_fault.result (refused (pixel_count d.header) (omega arith, omega arith)) in
    let size : length c.next_piece.new.out ≤ length c.args.buf.now = omega (arith, c.next_piece.auto.out, length-take c.min-size.result c.args.buf.now) in
    record {
      why = why;
      early = λ held bytes k is fits enough. in_bytes g.R.Reader.in_memory k start _ c.take_fault.result (refused k (fits, omega (arith, enough, size))) held bytes is;
      missing = stays_whole g.R.Reader.in_memory d start _ c.take_fault.result why;
    }
