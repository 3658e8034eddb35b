-- Each of the 256 orders is right, and what a shuffle by it gives.
use Rattle.std.proofs.Common.{◌≡◌, ℕ, ◌<◌, ◌&&◌, Bool, true, eqb, eqb-true, List, [], ◌∷◌, ◌++◌, length, take, map, get_or, w8, w32, Fits, refl, sym, ap, ◌∙◌, arith}
use Rattle.std.specs.Cmp.Lexicographic.{same_text}
use Rattle.std.specs.Str.{bytes_eq}
use Rattle.std.proofs.lemmas.Bool.{and_parts}
use Rattle.std.proofs.lemmas.List.{take-map}
use Rattle.std.proofs.lemmas.Simd.{swz_l}
use lib.Lanes.{all_below, digits_l, number_l, Each1}
use Rattle.qoi.specs.declared.encode.block.storing.shuffled.TheConstants.{ORDERS, TOTALS}
use Rattle.qoi.specs.inner.block.Storing.{total, order_of, size_at, close_bytes}
use Rattle.qoi.proofs.format.Entries.{entry}
use Rattle.qoi.proofs.encoding.stores.Shuffles.{are_positions, at, shuffled, four_bytes, part_of}

-- the positions of an entry, of which the first has the lowest byte
abbrev places : ℕ → List ℕ
places i = digits_l 256 16 (get_or ORDERS i 0)

-- positions in a vector, of which the first are the order that four codes mean
abbrev is_order : ℕ → List ℕ → Bool
is_order i js = bytes_eq (take (total i) js) (order_of i) && are_positions js

-- each entry of the table is
entry_is : (i : ℕ) → i < 256 → is_order i (places i) ≡ true
entry_is i lt = entry ORDERS (λ j n. is_order j (digits_l 256 16 n)) 0 0 256 i i (omega arith) refl (omega arith) lt (omega arith)

-- it is the order
pub entry_order : (i : ℕ) → i < 256 → take (total i) (places i) ≡ order_of i
entry_order i lt = same_text _ _ (sym (and_parts _ (are_positions (places i)) (entry_is i lt)).0)

-- and has positions alone
entry_positions : (i : ℕ) → i < 256 → are_positions (places i) ≡ true
entry_positions i lt = (and_parts (bytes_eq (take (total i) (places i)) (order_of i)) _ (entry_is i lt)).1

-- each is in a vector
pub entry_below : (i : ℕ) → i < 256 → all_below 16 (places i) ≡ true
entry_below i lt = (and_parts _ (eqb (length (places i)) 16) (entry_positions i lt)).0

-- each total is right
pub entry_total : (i : ℕ) → i < 256 → get_or TOTALS i 0 ≡ total i
entry_total i lt = eqb-true _ _ (entry TOTALS (λ b x. eqb x (total b)) 0 0 256 i i (omega arith) refl (omega arith) lt (omega arith))

-- what stands at the positions of an order
parts_of : (v : List ℕ) (i : ℕ) (ws xs ys zs : List ℕ) → map (at v) (0 ∷ 1 ∷ 2 ∷ 3 ∷ []) ≡ ws → map (at v) (4 ∷ 5 ∷ 6 ∷ 7 ∷ []) ≡ xs → map (at v) (8 ∷ 9 ∷ 10 ∷ 11 ∷ []) ≡ ys
    → map (at v) (12 ∷ 13 ∷ 14 ∷ 15 ∷ []) ≡ zs
    → map (at v) (order_of i) ≡ take (size_at i 0) ws ++ (take (size_at i 1) xs ++ (take (size_at i 2) ys ++ take (size_at i 3) zs))
parts_of v i ws xs ys zs first second third fourth =
    part_of v (size_at i 0) (0 ∷ 1 ∷ 2 ∷ 3 ∷ []) _ ws _ first
    (part_of v (size_at i 1) (4 ∷ 5 ∷ 6 ∷ 7 ∷ []) _ xs _ second
    (part_of v (size_at i 2) (8 ∷ 9 ∷ 10 ∷ 11 ∷ []) _ ys _ third
    (sym (take-map (at v) (size_at i 3) (12 ∷ 13 ∷ 14 ∷ 15 ∷ [])) ∙ ap (take (size_at i 3)) fourth)))

-- in their order, the lowest bytes of four numbers
in_order : (ns : List ℕ) (i : ℕ) → length ns ≡ 4 → Each1 (Fits w32) ns → map (at (digits_l 256 16 (number_l 4294967296 ns))) (order_of i) ≡ close_bytes i ns
in_order (a ∷ b ∷ c ∷ d ∷ []) i e f =
    let same = four_bytes a b c d f.0.fits f.1.0.fits f.1.1.0.fits f.1.1.1.0.fits in
    parts_of (digits_l 256 16 (number_l 4294967296 (a ∷ b ∷ c ∷ d ∷ []))) i (digits_l 256 4 a) (digits_l 256 4 b) (digits_l 256 4 c) (digits_l 256 4 d)
    (ap (λ z. map (at z) (0 ∷ 1 ∷ 2 ∷ 3 ∷ [])) same) (ap (λ z. map (at z) (4 ∷ 5 ∷ 6 ∷ 7 ∷ [])) same)
    (ap (λ z. map (at z) (8 ∷ 9 ∷ 10 ∷ 11 ∷ [])) same) (ap (λ z. map (at z) (12 ∷ 13 ∷ 14 ∷ 15 ∷ [])) same)
in_order ns i e f = absurd (omega arith)

-- a shuffle by the order gives them
pub order_moves : (ns js : List ℕ) (i : ℕ) → length ns ≡ 4 → Each1 (Fits w32) ns → length js ≡ 16 → take (total i) js ≡ order_of i → all_below 16 js ≡ true
    → take (total i) (swz_l w8 16 (digits_l 256 16 (number_l 4294967296 ns)) 0 js) ≡ close_bytes i ns
order_moves ns js i ln f lj e b =
    let v = digits_l 256 16 (number_l 4294967296 ns) in
    ap (take (total i)) (shuffled v 0 js (omega arith) b) ∙ take-map (at v) (total i) js ∙ ap (map (at v)) e ∙ in_order ns i ln f
