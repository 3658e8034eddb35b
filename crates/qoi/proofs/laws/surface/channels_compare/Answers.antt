-- The numbers of channels that a hasher is fed are apart.
use Rattle.std.proofs.Common.{refl}
use Rattle.qoi.specs.declared.types.Channels.TheVariants.{Rgb, Rgba}
use Rattle.std.specs.Hash.{le_bytes}
use Rattle.qoi.proofs.laws.surface.channels_compare.Goals as goal

pub returns-clause-apart : goal.returns-clause-apart
unfolding le_bytes
returns-clause-apart c Rgb Rgb same = refl
returns-clause-apart c Rgb Rgba same = cc
returns-clause-apart c Rgba Rgb same = cc
returns-clause-apart c Rgba Rgba same = refl
