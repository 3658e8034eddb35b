-- Each is put together from its chunks.
use Rattle.std.proofs.Common.{[], ◌∷◌, replicate, refl, arith, rules, inl}
use Rattle.qoi.specs.declared.error.Error.TheVariants.{IoError}
use Rattle.qoi.specs.declared.chunk.Chunk.TheVariants.{Run, Rgb}
use Rattle.qoi.specs.Qoi.{end_marker}
use Rattle.qoi.specs.Verdicts.{IsWhole, IsCut, IsWrong}
use Rattle.qoi.proofs.format.OneVerdict.{wrong_is_one, whole_not_cut, cut_not_wrong}
use Rattle.qoi_tool.proofs.tests.library.definitions.verdict_examples.Goals as goal

-- `[]` is cut before the first pixel
nothing : IsCut 1 [] [] []
nothing = record {
  has = record { chunks = tt; stays_below = tt; split = refl };
  ends = inl (omega arith, (Run 1, 0xc0, [], (omega arith, omega arith), refl));
}

-- eight zeros after the first pixel are wrong
eight : IsWrong 1 (0xc0 ∷ replicate 8 0) (Run 1 ∷ []) (replicate 8 0) []
eight = search rules

-- eight zeros after no pixel are wrong
alone : IsWrong 0 (replicate 8 0) [] (replicate 8 0) []
alone = search rules

-- of nine zeros after the first pixel, one is left
nine : IsWrong 1 (0xc0 ∷ replicate 9 0) (Run 1 ∷ []) (replicate 8 0) (0 ∷ [])
nine = search rules

-- the end marker after the first pixel
marked : IsWhole 1 (0xc0 ∷ end_marker) (Run 1 ∷ []) []
marked = search rules

pub returns-clause-cut_in_chunk : goal.returns-clause-cut_in_chunk
returns-clause-cut_in_chunk c = record {
  has = record { chunks = ((omega arith, omega arith), tt); stays_below = (omega arith, tt); split = refl };
  ends = inl (omega arith, (Rgb 1 2 3, 3, [], (omega arith, omega arith, omega arith), refl));
}

pub returns-clause-refuses_cut : goal.returns-clause-refuses_cut
returns-clause-refuses_cut c = ([], [], nothing)

pub returns-clause-refuses_wrong : goal.returns-clause-refuses_wrong
returns-clause-refuses_wrong c = ([], (Run 1 ∷ [], replicate 8 0, eight))

pub returns-clause-taken_cut : goal.returns-clause-taken_cut
returns-clause-taken_cut c (IoError i) is = ([], [], nothing)
returns-clause-taken_cut c _ is = absurd is

pub returns-clause-taken_wrong : goal.returns-clause-taken_wrong
returns-clause-taken_wrong c = (Run 1 ∷ [], replicate 8 0, eight)

pub returns-clause-marker_not_cut : goal.returns-clause-marker_not_cut
returns-clause-marker_not_cut c (cs, part, cut) = cut_not_wrong 0 (replicate 8 0) cs [] part (replicate 8 0) [] cut alone

pub returns-clause-taken_marker_wrong : goal.returns-clause-taken_marker_wrong
returns-clause-taken_marker_wrong c = ([], replicate 8 0, alone)

pub returns-clause-marker_wrong : goal.returns-clause-marker_wrong
returns-clause-marker_wrong c = (7 ∷ [], ([], replicate 8 0, search rules))

pub returns-clause-taken_whole : goal.returns-clause-taken_whole
returns-clause-taken_whole c (IoError i) is cut = whole_not_cut 1 _ _ cut.0 [] cut.1 marked cut.2
returns-clause-taken_whole c _ is refused = absurd is

pub returns-clause-taken_past_wrong : goal.returns-clause-taken_past_wrong
returns-clause-taken_past_wrong c wrong = let same = wrong_is_one 1 _ wrong.0 (Run 1 ∷ []) wrong.1 (replicate 8 0) [] (0 ∷ []) wrong.2 nine in cc

pub returns-clause-taken_header_whole : goal.returns-clause-taken_header_whole
returns-clause-taken_header_whole c (IoError i) is few = absurd (omega (arith, few))
returns-clause-taken_header_whole c _ is refused = absurd is
