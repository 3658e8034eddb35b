-- Repeats' bytes and sizes.
use Rattle.std.proofs.Common.{◌≡◌, ℕ, zero, suc, ◌+◌, ◌%◌, Bool, true, false, ◌-◌, ◌≤◌, ◌<◌, List, [], ◌∷◌, ◌++◌, length, map, drop, replicate, bit_and, if◌then◌else◌, refl, ap, ◌∙◌, arith}
use Rattle.std.specs.Prelude.{max, min}
use lib.Lanes.{zip2}
use Rattle.std.proofs.lemmas.Nat.{and_comm, and_mask}
use Rattle.std.specs.List.{AllByRecursion}
use Rattle.qoi.specs.inner.block.Lanes.{Lane, mask, first_of, size_of, is_rep, goes_on, IsLane}
use Rattle.qoi.specs.inner.block.Vectors.{AreBy, counts, firsts_in, sizes}
use Rattle.qoi.specs.Styles.{Reference}
use Rattle.qoi.proofs.encoding.blocks.LaneBytes.{repeat_byte}
use Rattle.qoi.proofs.encoding.lanes.LaneChunk.{parts_of}
use Rattle.qoi.proofs.encoding.lanes.Lanewise.{sum_8, not_8}

-- whether the lane repeats, as a byte
abbrev rep_mask : Lane → ℕ
rep_mask l = mask (is_rep l)

-- the lesser of a mask and a byte is what the mask leaves of it
least_masked : (b : Bool) (x : ℕ) → x < 256 → min (mask b) x ≡ bit_and (mask b) x
least_masked true x lt = omega (arith, and_comm 255 x, and_mask x 8)
least_masked false x lt = omega (arith, and_comm 0 x, and_mask x 0)

-- the bytes of runs over first bytes
abbrev laid : List ℕ → List ℕ → List ℕ → ℕ → List ℕ
laid fs rs cs n = zip2 max fs (zip2 min rs (zip2 sum_8 cs (replicate n 191)))

-- lane by lane
firsts_laid : (n c : ℕ) (q : Bool) (ls : List Lane) → length ls ≡ n → laid (map first_of ls) (map rep_mask ls) (counts c (map is_rep ls)) n ≡ firsts_in Reference q c ls
firsts_laid zero c q [] e = refl
firsts_laid (suc n) c q (l ∷ ls) e =
    let k = if is_rep l then suc c else 0 in
    (λ i. max (first_of l) (least_masked (is_rep l) ((k + 191) % 256) (omega arith) i) ∷ firsts_laid n k l.stands ls (omega arith) i)
firsts_laid n c q ls e = absurd (omega arith)

-- first bytes with those of runs
pub firsts_are : (ls : List Lane) (c : ℕ) (q : Bool) (fs rs cs : List ℕ) → AreBy ls first_of fs → AreBy ls rep_mask rs → cs ≡ counts c (map is_rep ls)
    → laid fs rs cs 16 ≡ firsts_in Reference q c ls
firsts_are ls c q fs rs cs f r e = (λ i. laid (f.is i) (r.is i) (e i) 16) ∙ firsts_laid 16 c q ls f.long

-- whether the lane after each repeats, or there is none
abbrev mores : List Lane → List ℕ
mores [] = []
mores (l ∷ ls) = mask (goes_on ls) ∷ mores ls

-- the masks, one lane sooner
mores_are : (l : Lane) (ls : List Lane) → drop 1 (map rep_mask (l ∷ ls)) ++ 255 ∷ [] ≡ mores (l ∷ ls)
mores_are l [] = refl
mores_are l (k ∷ ls) = ap (λ z. rep_mask k ∷ z) (mores_are k ls)

-- a size, or none if both masks are set
none_if : (r m : Bool) (s : ℕ) → s ≤ 5 → (r ≡ true → s ≡ 1) → min s (255 - min (mask r) (mask m)) ≡ (s + bit_and (mask r) (mask m)) % 256
none_if r m s few one = grind arith

-- lane by lane
sizes_laid : (ls : List Lane) → AllByRecursion IsLane ls → zip2 min (map size_of ls) (map not_8 (zip2 min (map rep_mask ls) (mores ls))) ≡ sizes ls
sizes_laid [] are = refl
sizes_laid (l ∷ ls) are = λ i.
    none_if (is_rep l) (goes_on ls) (size_of l) (parts_of l).few (λ e. (repeat_byte l are.0.px_is e).0) i ∷ sizes_laid ls are.1 i

-- of sixteen lanes
all_mores : (ls : List Lane) → length ls ≡ 16 → drop 1 (map rep_mask ls) ++ 255 ∷ [] ≡ mores ls
all_mores [] e = absurd (omega arith)
all_mores (l ∷ ls) e = mores_are l ls

-- the sizes, with none for repeats that go on
pub sizes_are : (ls : List Lane) (ss rs ms : List ℕ) → AreBy ls size_of ss → AreBy ls rep_mask rs → ms ≡ drop 1 rs ++ 255 ∷ []
    → zip2 min ss (map not_8 (zip2 min rs ms)) ≡ sizes ls
sizes_are ls ss rs ms s r e =
    let m : ms ≡ mores ls = e ∙ ap (λ z. drop 1 z ++ 255 ∷ []) r.is ∙ all_mores ls s.long in
    (λ i. zip2 min (s.is i) (map not_8 (zip2 min (r.is i) (m i)))) ∙ sizes_laid ls s.are
