-- Lane by lane.
use Rattle.std.proofs.Common.{refl, arith}
use Rattle.qoi.proofs.encoding.lanes.Lanewise.{two, flat, each}
use Rattle.qoi.proofs.encode.block.spelling.luma_steps.Goals as goal

pub returns : goal.returns
returns c = λ ls s. record {
  r_is = each _ (two _ (two _ s.r_is s.g_is) (flat 8 s.r_is)) (λ l is. omega arith);
  g_is = each _ (two _ s.g_is (flat 32 s.r_is)) (λ l is. refl);
  b_is = each _ (two _ (two _ s.b_is s.g_is) (flat 8 s.r_is)) (λ l is. omega arith);
  a_is = s.a_is;
}
