-- Lane by lane.
use Rattle.std.proofs.Common.{refl}
use Rattle.qoi.proofs.encoding.lanes.Lanewise.{two, flat, each}
use Rattle.qoi.proofs.encode.block.spelling.diff_steps.Goals as goal

pub returns : goal.returns
returns c = λ ls s. record {
  r_is = each _ (two _ s.r_is (flat 2 s.r_is)) (λ l is. refl);
  g_is = each _ (two _ s.g_is (flat 2 s.r_is)) (λ l is. refl);
  b_is = each _ (two _ s.b_is (flat 2 s.r_is)) (λ l is. refl);
  a_is = s.a_is;
}
