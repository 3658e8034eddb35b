-- What was read before the mark.
use Rattle.std.proofs.Common.{rules, List, ℕ, ◌≡◌, false, subst}
use Rattle.qoi.specs.Qoi.{channels_number, IsValid}
use Rattle.qoi.specs.pieces.Mark.{MarksRows}
use Rattle.qoi.specs.pieces.PixelReader.{PixelsState, HasRows}
use Rattle.qoi.specs.pieces.Unread.{OwesWholePixels}
use Rattle.qoi.proofs.decoding.Marks.{marks_given, marks_then}
use Rattle.qoi.proofs.decode.pixel_reader.mark.PixelReader+Bytes.mark.Goals.{After-copied}
use Rattle.qoi.proofs.decode.pixel_reader.mark.PixelReader+Bytes.mark.Goals as goal

-- the header is valid
valid : (c : After-copied) → IsValid c.args.self.now.header
valid c = subst (λ (s : PixelsState (List ℕ)). IsValid s.header) c.self.view_is c.self.invariant.0

-- whole pixels are unread
keeps : (c : After-copied) → c.args.self.now.refused ≡ false → OwesWholePixels (channels_number c.args.self.now.channels) c.args.self.now.unread
keeps c =
    subst (λ (s : PixelsState (List ℕ)). s.refused ≡ false → OwesWholePixels (channels_number s.channels) s.unread) c.self.view_is
    c.self.invariant.3

pub returns-clause-state : goal.returns-clause-state
returns-clause-state c = search rules

pub returns-clause-given : goal.returns-clause-given
returns-clause-given c d e bytes given made h = marks_given d e _ bytes given _ _ (returns-clause-state c) made h

pub returns-clause-rows : goal.returns-clause-rows
unfolding HasRows MarksRows
returns-clause-rows c d e bytes stride k made (given, many, h) = (given, many, returns-clause-given c d e bytes given made h)

pub returns-clause-given_then : goal.returns-clause-given_then
returns-clause-given_then c d e bytes given more made h = marks_then d e _ bytes given more _ _ (returns-clause-state c) (valid c) (keeps c) made h

pub returns-clause-rows_then : goal.returns-clause-rows_then
unfolding HasRows MarksRows
returns-clause-rows_then c d e bytes more stride k made (given, many, h) = (given, many, returns-clause-given_then c d e bytes given more made h)
