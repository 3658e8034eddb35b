-- The vectors, lane by lane.
use Rattle.std.proofs.Common.{◌≡◌, ◌==◌, ◌∷◌, List, map, take, sym, ap, ◌∙◌, ℕ, zero, suc, Bool, [], length, bit_and, bit_or, if◌then◌else◌, refl, arith}
use Rattle.std.specs.Prelude.{min}
use lib.Lanes.{zip2}
use Rattle.qoi.specs.Qoi.{hash}
use Rattle.qoi.specs.inner.block.Lanes.{Lane, mask, lanes_of, is_rep}
use Rattle.qoi.specs.inner.block.Vectors.{counts, first_in, firsts_in}
use Rattle.qoi.specs.Styles.{Reference, Places}
use Rattle.qoi.proofs.encoding.lanes.LaneTests.{themselves}
use Rattle.qoi.proofs.encoding.blocks.SpelledBlock.{lanes_long, stands_lanes}
use Rattle.qoi.proofs.encoding.lanes.Lanewise.{not_8}
use Rattle.qoi.proofs.encode.block.single_repeats.name_single.Goals as goal

-- whether the pixel before each lane stood at its position, from whether the one before the first did
abbrev stoods : Bool → List Lane → List ℕ
stoods q [] = []
stoods q (l ∷ ls) = mask q ∷ stoods l.stands ls

-- the masks, one lane later
stoods_are : (n : ℕ) (q : Bool) (ls : List Lane) → length ls ≡ suc n → mask q ∷ take n (map (λ (l : Lane). mask l.stands) ls) ≡ stoods q ls
stoods_are n q [] e = absurd (omega arith)
stoods_are zero q (l ∷ []) e = refl
stoods_are zero q (l ∷ k ∷ ls) e = absurd (omega arith)
stoods_are (suc n) q (l ∷ ls) e = ap (λ z. mask q ∷ z) (stoods_are n l.stands ls (omega arith))

-- the first bytes, with index positions for the single repeats that are given by them
abbrev named : List ℕ → List ℕ → List ℕ → List ℕ → List ℕ → List ℕ
named fs hs rs ones qs = zip2 min fs (zip2 bit_or hs (map not_8 (zip2 bit_and (zip2 bit_and rs ones) (map not_8 qs))))

-- lane by lane
named_are : (q : Bool) (c : ℕ) (ls : List Lane)
    → named (firsts_in Reference q c ls) (map (λ l. hash l.px) ls) (map (λ l. mask (is_rep l)) ls) (map (λ n. mask (n == 1)) (counts c (map is_rep ls))) (stoods q ls)
    ≡ firsts_in Places q c ls
named_are q c [] = refl
named_are q c (l ∷ ls) =
    let n = if is_rep l then suc c else 0 in
    ap (λ z. first_in Places (is_rep l) q l n ∷ z) (named_are l.stands n ls)

pub returns : goal.returns
returns c = λ s ps sixteen placed stands indices h.
    let ls : List Lane = lanes_of s.held s.last ps in
    let at : c.args.indices ≡ map (λ l. hash l.px) ls = indices ∙ sym (themselves hash s.held s.last ps) in
    let ones : c.where_is.result ≡ map (λ n. mask (n == 1)) (counts s.carry (map is_rep ls)) = c.where_is.ensures ∙ ap (map (λ n. mask (n == 1))) h.count_is in
    let before : c.shift_in-stood.result ≡ stoods s.named ls =
    c.shift_in-stood.ensures ∙ ap (λ m. m ∷ take 15 c.args.stands) c.pick.ensures ∙ (λ i. mask (sym placed i) ∷ take 15 ((stands ∙ sym (stands_lanes s.held s.last ps)) i))
    ∙ stoods_are 15 s.named ls (lanes_long s.held s.last ps ∙ sixteen.long) in
    record {
      rep_is = h.rep_is;
      first_is = c.lesser.ensures ∙ (λ i. named (h.first_is i) (at i) (h.rep_is i) (ones i) (before i)) ∙ named_are s.named s.carry ls;
      second_is = h.second_is;
      size_is = h.size_is;
      count_is = h.count_is;
      rgba_is = h.rgba_is;
    }
