-- The bytes of a block's vectors in each style.
use Rattle.std.proofs.Common.{◌≡◌, ℕ, zero, suc, ◌+◌, ◌-◌, ◌%◌, ◌<◌, Bool, true, false, ◌==◌, List, [], ◌∷◌, ◌++◌, length, bit_and, bit_or, refl, sym, ap, ◌∙◌, arith, if◌then◌else◌}
use Rattle.std.specs.Prelude.{max, min}
use Rattle.std.specs.List.{AllByRecursion}
use Rattle.std.proofs.lemmas.Nat.{and_le_l}
use Rattle.std.proofs.lemmas.Bool.{true≢false}
use Rattle.qoi.specs.Styles.{Style, Places}
use Rattle.qoi.specs.Qoi.{Run, RgbaPixel, IsPixel, pixel_eq, hash, seen, bytes_of}
use Rattle.qoi.proofs.format.SamePixels.{hash_below}
use Rattle.qoi.proofs.encoding.lists.GroupRuns.{not_one}
use Rattle.qoi.specs.inner.block.Lanes.{Lane, mask, first_of, size_of, State, lane_of, lanes_of, is_rep, goes_on, group_bytes, next_by, step_by, block_bytes, IsLane}
use Rattle.qoi.specs.inner.block.Vectors.{named_in, first_in, firsts_in, sizes}
use Rattle.qoi.specs.inner.Coder.{single_chunk}
use Rattle.qoi.proofs.encoding.lanes.LaneBits.{or_mask}
use Rattle.qoi.proofs.encoding.blocks.LaneBytes.{chunk_of, chunks_of, repeat_byte, run_byte, none_and, carry_few}
use Rattle.qoi.proofs.encoding.lanes.LaneChunk.{parts_of}
use Rattle.qoi.proofs.encoding.stores.StoredBlock.{chunk_pixels, second_small, over_small}

-- a fresh lane's byte stays
pub fresh_stays : (style : Style) (q : Bool) (h f : ℕ) → h < 64 → f < 256 → named_in style false q h 0 f ≡ f
fresh_stays Places true h f lh lf = (let o : bit_or h 255 ≡ 255 = or_mask h false (omega arith) in omega arith)
fresh_stays Places false h f lh lf = (let o : bit_or h 255 ≡ 255 = or_mask h false (omega arith) in omega arith)
fresh_stays style q h f lh lf = refl

-- the byte of a group of repeats in style Places
group_byte : (h c f : ℕ) (q : Bool) (p : RgbaPixel) → h ≡ hash p → f ≡ suc c + 191 → suc c < 62
    → min f (bit_or h (255 - bit_and (bit_and 255 (mask (suc c == 1))) (255 - mask q))) ∷ [] ≡ group_bytes Places q p (suc c)
group_byte h zero f true p e is few =
    let l = hash_below p in
    let o : bit_or h 255 ≡ 255 = or_mask h false (omega arith) in
    let byte : min f (bit_or h 255) ≡ 192 = omega arith in λ i. byte i ∷ []
group_byte h zero f false p e is few =
    let l = hash_below p in
    let o : bit_or h 0 ≡ h = or_mask h true (omega arith) in
    let byte : min f (bit_or h 0) ≡ hash p = omega arith in λ i. byte i ∷ []
group_byte h (suc c) f q p e is few =
    let l = hash_below p in
    let o : bit_or h 255 ≡ 255 = or_mask h false (omega arith) in
    let byte : min f (bit_or h 255) ≡ 192 + suc (suc c) - 1 = omega arith in
    ap (λ b. min f (bit_or h (255 - bit_and (bit_and 255 (mask b)) (255 - mask q))) ∷ []) (not_one c)
    ∙ none q byte
    ∙ sym (ap (λ b. bytes_of (if b then single_chunk Places true q (hash p) 1 else Run (suc (suc c)))) (not_one c))
  where
    none : (q : Bool) → min f (bit_or h 255) ≡ 192 + suc (suc c) - 1 → min f (bit_or h (255 - bit_and (bit_and 255 0) (255 - mask q))) ∷ [] ≡ bytes_of (Run (suc (suc c)))
    none true byte = ap (λ z. z ∷ []) (byte ∙ omega arith)
    none false byte = ap (λ z. z ∷ []) (byte ∙ omega arith)

-- in the others it is a run's
run_first : (c f : ℕ) → f ≡ suc c + 191 → f ∷ [] ≡ bytes_of (if suc c == 1 then Run 1 else Run (suc c))
run_first zero f is = λ i. is i ∷ []
run_first (suc c) f is = run (suc c) is ∙ sym (ap (λ b. bytes_of (if b then Run 1 else Run (suc (suc c)))) (not_one c))
  where
    run : (n : ℕ) → f ≡ suc n + 191 → f ∷ [] ≡ bytes_of (Run (suc n))
    run n is = ap (λ z. z ∷ []) (is ∙ omega arith)

-- in each style
group_first : (style : Style) (c f : ℕ) (q : Bool) (p : RgbaPixel) → f ≡ suc c + 191 → suc c < 62 → named_in style true q (hash p) (suc c) f ∷ [] ≡ group_bytes style q p (suc c)
group_first Places c f q p is few = group_byte (hash p) c f q p refl is few
group_first style c f q p is few = run_first c f is

-- only for a single repeat it matters what the chunk before names
same_group : (style : Style) (c : ℕ) (q placed : Bool) (p : RgbaPixel) → (c ≡ 0 → q ≡ placed) → group_bytes style q p (suc c) ≡ group_bytes style placed p (suc c)
same_group style zero q placed p e = ap (λ b. group_bytes style b p 1) (e refl)
same_group style (suc c) q placed p e =
    ap (λ b. bytes_of (if b then single_chunk style true q (hash p) 1 else Run (suc (suc c)))) (not_one c)
    ∙ sym (ap (λ b. bytes_of (if b then single_chunk style true placed (hash p) 1 else Run (suc (suc c)))) (not_one c))

-- a lane's first byte, if it is no repeat's, or that of a run, is one
over_byte : (l : Lane) (m x : ℕ) → max (first_of l) (bit_and m (x % 256)) < 256
over_byte l m x = over_small (first_of l) m x (parts_of l).first

-- a lane's bytes, by whether it repeats and the next one does
step_is : (style : Style) (s : State) (p : RgbaPixel) → IsPixel p → suc s.carry < 62 → (q b m : Bool) → pixel_eq p s.last ≡ b → (b ≡ true → s.carry ≡ 0 → q ≡ s.named)
    → (let l = lane_of s.held s.last p in chunk_of l (first_in style b q l (if b then suc s.carry else 0)) ((size_of l + bit_and (mask b) (mask m)) % 256)) ≡ step_by b m style s p
step_is style s p i few q true true e k =
    let l = lane_of s.held s.last p in
    ap (λ n. chunk_of l (first_in style true q l (suc s.carry)) ((n + 255) % 256)) (repeat_byte l i e).0
step_is style s p i few q true false e k =
    let l = lane_of s.held s.last p in
    let byte = run_byte (first_of l) (suc s.carry) (repeat_byte l i e).1 (omega arith) few in
    ap (λ n. chunk_of l (first_in style true q l (suc s.carry)) ((n + 0) % 256)) (repeat_byte l i e).0
    ∙ group_first style s.carry (max (first_of l) (bit_and 255 ((suc s.carry + 191) % 256))) q p byte few ∙ same_group style s.carry q s.named p (k refl)
step_is style s p i few q false m e k =
    let l = lane_of s.held s.last p in
    let size : (size_of l + bit_and 0 (mask m)) % 256 ≡ size_of l = omega (arith, and_le_l 0 (mask m), (parts_of l).few) in
    let first = fresh_stays style q (hash p) _ (hash_below p) (over_byte l 0 191) ∙ none_and (first_of l) (191 % 256) in
    (λ j. chunk_of l (first j) (size j)) ∙ (parts_of l).are

-- before a fresh lane it doesn't matter what was counted and what the chunk before names
pub firsts_anew : (style : Style) (q r : Bool) (c : ℕ) (ls : List Lane) → goes_on ls ≡ false → firsts_in style q c ls ≡ firsts_in style r 0 ls
firsts_anew style q r c [] e = absurd (true≢false e)
firsts_anew style q r c (l ∷ ls) e =
    let stays = λ (q : Bool). fresh_stays style q (hash l.px) _ (hash_below l.px) (over_byte l 0 191) in
    ap (λ b. first_in style b q l (if b then suc c else 0) ∷ firsts_in style l.stands (if b then suc c else 0) ls) e
    ∙ ap (λ f. f ∷ firsts_in style l.stands 0 ls) (stays q ∙ sym (stays r))
    ∙ sym (ap (λ b. first_in style b r l (if b then 1 else 0) ∷ firsts_in style l.stands (if b then 1 else 0) ls) e)

-- the first bytes after a lane, from the state after it
firsts_next : (style : Style) (s : State) (p : RgbaPixel) (q b m : Bool) (ls : List Lane) → goes_on ls ≡ m
    → firsts_in style q (if b then suc s.carry else 0) ls ≡ firsts_in style q (next_by b m s p).carry ls
firsts_next style s p q true false ls e = firsts_anew style q q (suc s.carry) ls e
firsts_next style s p q b m ls e = refl

-- whether the chunk before names the position, after a lane
still_placed : (s : State) (p : RgbaPixel) (b m : Bool) (ls : List Lane) → goes_on ls ≡ m → (next_by b m s p).carry ≡ 0 → goes_on ls ≡ true
    → pixel_eq (seen s.held (hash p)) p ≡ (next_by b m s p).named
still_placed s p true true ls e z g = absurd (omega arith)
still_placed s p true false ls e z g = absurd (true≢false (sym g ∙ e))
still_placed s p false m ls e z g = refl

-- all lanes
out_from : (style : Style) (s : State) (q : Bool) (ps : List RgbaPixel) → AllByRecursion IsPixel ps → s.carry + length ps < 62
    → (s.carry ≡ 0 → goes_on (lanes_of s.held s.last ps) ≡ true → q ≡ s.named)
    → (let ls = lanes_of s.held s.last ps in chunks_of ls (firsts_in style q s.carry ls) (sizes ls)) ≡ block_bytes style s ps
out_from style s q [] are few k = refl
out_from style s q (p ∷ ps) are few k =
    let b = pixel_eq p s.last in
    let l = lane_of s.held s.last p in
    let ls = lanes_of (p ∷ s.held) p ps in
    let m = goes_on ls in
    let one = step_is style s p are.0 (omega arith) q b m refl (λ rep zero. k zero rep) in
    let rest = ap (λ fs. chunks_of ls fs (sizes ls)) (firsts_next style s p l.stands b m ls refl)
    ∙ out_from style (next_by b m s p) l.stands ps are.1 (omega (arith, carry_few b m s p)) (still_placed s p b m ls refl) in
    λ i. one i ++ rest i

-- the bytes are those that are to be written
pub out_in : (style : Style) (s : State) (ps : List RgbaPixel) → AllByRecursion IsPixel ps → s.carry + length ps < 62
    → (let ls = lanes_of s.held s.last ps in chunks_of ls (firsts_in style s.named s.carry ls) (sizes ls)) ≡ block_bytes style s ps
out_in style s ps are few = out_from style s s.named ps are few (λ _ _. refl)

-- there are as many first bytes as lanes
pub firsts_long : (style : Style) (q : Bool) (c : ℕ) (ls : List Lane) → length (firsts_in style q c ls) ≡ length ls
firsts_long style q c [] = refl
firsts_long style q c (l ∷ ls) = ap (λ n. suc n) (firsts_long style l.stands (if is_rep l then suc c else 0) ls)

-- each is a byte
first_below : (style : Style) (b q : Bool) (l : Lane) (n : ℕ) → first_in style b q l n < 256
first_below Places b q l n = omega (arith, over_byte l (mask b) (n + 191))
first_below style b q l n = over_byte l (mask b) (n + 191)

-- so first bytes and lanes make pixels
pub pixels_in : (style : Style) (q : Bool) (c : ℕ) (ls : List Lane) → AllByRecursion IsLane ls → AllByRecursion IsPixel (chunk_pixels ls (firsts_in style q c ls))
pixels_in style q c [] a = tt
pixels_in style q c (l ∷ ls) a =
    let n = if is_rep l then suc c else 0 in
    let i = a.0.px_is in
    (record { r = first_below style (is_rep l) q l n; g = second_small l i; b = i.g; a = i.b }, pixels_in style l.stands n ls a.1)
