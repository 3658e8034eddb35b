-- By the lemmas on two verdicts of the same bytes.
use Rattle.qoi.proofs.format.OneVerdict.{whole_is_one, cut_is_one, wrong_is_one, whole_not_cut, whole_not_wrong, cut_not_wrong}
use Rattle.qoi.proofs.laws.reading.verdict_is_one.Goals as goal

pub returns : goal.returns
returns c = record {
  whole = whole_is_one;
  cut = cut_is_one;
  wrong = wrong_is_one;
  whole_not_cut = whole_not_cut;
  whole_not_wrong = whole_not_wrong;
  cut_not_wrong = cut_not_wrong;
}
