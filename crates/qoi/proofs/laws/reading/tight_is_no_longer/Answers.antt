-- By the chunks of any file of the image.
use Rattle.qoi.proofs.FileOf.{tight_no_longer}
use Rattle.qoi.proofs.laws.reading.tight_is_no_longer.Goals as goal

pub returns : goal.returns
returns c = tight_no_longer
