-- Each is computed, pixel by pixel.
use Rattle.std.proofs.Common.{refl}
use Rattle.qoi.specs.Qoi.{pixel_eq, start, blank, hash, after_diff, after_luma}
use Rattle.qoi.specs.Shortest.{some_diff, some_luma, least, cost, slack}
use Rattle.qoi.specs.Tight.{least_unseen, least0}
use Rattle.qoi_tool.proofs.tests.library.written_lists.shortest_examples.Goals as goal

pub returns : goal.returns
unfolding pixel_eq start blank hash after_diff after_luma some_diff some_luma least cost slack least_unseen least0
returns c = record {
  black_again_rgb = λ P is. rw is (refl, refl, refl);
  black_again_rgba = λ P is. rw is (refl, refl, refl);
  black_overwritten = λ P is. rw is (refl, refl, refl);
  black_back_and_forth = refl;
  black_twice = refl;
  black_many = refl;
  blank_without_place = λ P is. rw is (refl, refl);
  opens_with_color = refl;
  first_unseen = refl;
  next_unseen = refl;
  none_unseen = refl;
}
