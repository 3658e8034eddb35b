-- Frames in front of the same bytes are the same.
use Rattle.std.proofs.Common.{refl}
use Rattle.qoi.proofs.decoding.Frames.{frames_are_same}
use Rattle.qoi.proofs.laws.reading.frames_are_found.Goals as goal

pub returns-clause-same_bytes : goal.returns-clause-same_bytes
returns-clause-same_bytes c bytes front rest offsets ends at images found frames split last others end =
    (frames_are_same bytes front rest _ offsets ends at images found frames split last others end refl).0

pub returns-clause-same_offsets : goal.returns-clause-same_offsets
returns-clause-same_offsets c bytes front rest offsets ends at images found frames split last others end =
    (frames_are_same bytes front rest _ offsets ends at images found frames split last others end refl).1

pub returns-clause-same_images : goal.returns-clause-same_images
returns-clause-same_images c bytes front rest offsets ends at images found frames split last others end =
    (frames_are_same bytes front rest _ offsets ends at images found frames split last others end refl).2
