-- The numbers of color spaces that a hasher is fed are apart.
use Rattle.std.proofs.Common.{refl}
use Rattle.qoi.specs.Qoi.{Srgb, Linear}
use Rattle.std.specs.Hash.{le_bytes}
use Rattle.qoi.proofs.laws.surface.colorspace_compare.Goals as goal

pub returns-clause-apart : goal.returns-clause-apart
unfolding le_bytes
returns-clause-apart c Srgb Srgb same = refl
returns-clause-apart c Srgb Linear same = cc
returns-clause-apart c Linear Srgb same = cc
returns-clause-apart c Linear Linear same = refl
