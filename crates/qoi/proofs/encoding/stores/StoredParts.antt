-- Parts that are stored one after the other, and sixteen bytes at the end.
use lib.Lanes.{sum_l, put_chunk}
use Rattle.std.proofs.Common.{◌≡◌, ℕ, zero, suc, ◌+◌, ◌-◌, ◌<◌, ◌≤◌, List, [], ◌∷◌, ◌++◌, length, take, drop, slice_index, append_assoc, ap, ◌∙◌, arith, take_at, drop_at}
use Rattle.std.proofs.lemmas.List.{length-take-le, length-drop, append-nil}
use Rattle.std.proofs.Math.ListN.{drop_of_length-le}
use Rattle.std.proofs.lemmas.Simd.{put_chunk_is}

-- four parts
pub four_stored : (at e0 e1 e2 e3 : ℕ) (b0 b1 b2 b3 b4 c0 c1 c2 c3 : List ℕ)
    → take e0 b1 ≡ take at b0 ++ c0 → take e1 b2 ≡ take e0 b1 ++ c1 → take e2 b3 ≡ take e1 b2 ++ c2 → take e3 b4 ≡ take e2 b3 ++ c3
    → take e3 b4 ≡ take at b0 ++ (c0 ++ (c1 ++ (c2 ++ c3)))
four_stored at e0 e1 e2 e3 b0 b1 b2 b3 b4 c0 c1 c2 c3 first second third fourth =
    let t = take at b0 in
    fourth ∙ ap (λ z. z ++ c3) third ∙ ap (λ z. (z ++ c2) ++ c3) second ∙ ap (λ z. ((z ++ c1) ++ c2) ++ c3) first
    ∙ append_assoc ((t ++ c0) ++ c1) c2 c3 ∙ append_assoc (t ++ c0) c1 (c2 ++ c3) ∙ append_assoc t c0 (c1 ++ (c2 ++ c3))

-- one more of the first sums
sum_next : (n : ℕ) (ss : List ℕ) → sum_l (take (suc n) ss) ≡ sum_l (take n ss) + slice_index ss n
sum_next zero [] = omega arith
sum_next (suc n) [] = omega arith
sum_next zero (s ∷ ss) = omega arith
sum_next (suc n) (s ∷ ss) = omega (arith, sum_next n ss)

-- one part after others, from the start of the n-th on
next : (at n m start : ℕ) (ss old new part : List ℕ) → start ≡ sum_l (take n ss) → m ≡ suc n → take (at + start + slice_index ss n) new ≡ take (at + start) old ++ part
    → take (at + sum_l (take m ss)) new ≡ take (at + sum_l (take n ss)) old ++ part
next at n m start ss old new part is more e =
    ap (λ z. take z new) (omega (arith, sum_next n ss, is, ap (λ j. sum_l (take j ss)) more)) ∙ e ∙ ap (λ z. take (at + z) old ++ part) is

-- four parts, each from its start on
pub chained : (at n : ℕ) (ss starts b0 b1 b2 b3 b4 c0 c1 c2 c3 : List ℕ) → ((k : ℕ) → k < 4 → slice_index starts k ≡ sum_l (take (n + k) ss))
    → take (at + slice_index starts 0 + slice_index ss (n + 0)) b1 ≡ take (at + slice_index starts 0) b0 ++ c0
    → take (at + slice_index starts 1 + slice_index ss (n + 1)) b2 ≡ take (at + slice_index starts 1) b1 ++ c1
    → take (at + slice_index starts 2 + slice_index ss (n + 2)) b3 ≡ take (at + slice_index starts 2) b2 ++ c2
    → take (at + slice_index starts 3 + slice_index ss (n + 3)) b4 ≡ take (at + slice_index starts 3) b3 ++ c3
    → take (at + sum_l (take (n + 4) ss)) b4 ≡ take (at + sum_l (take n ss)) b0 ++ (c0 ++ (c1 ++ (c2 ++ c3)))
chained at n ss starts b0 b1 b2 b3 b4 c0 c1 c2 c3 are e0 e1 e2 e3 =
    four_stored (at + sum_l (take (n + 0) ss)) (at + sum_l (take (n + 1) ss)) (at + sum_l (take (n + 2) ss)) (at + sum_l (take (n + 3) ss)) (at + sum_l (take (n + 4) ss))
    b0 b1 b2 b3 b4 c0 c1 c2 c3 (next at (n + 0) (n + 1) _ ss b0 b1 c0 (are 0 (omega arith)) (omega arith) e0) (next at (n + 1) (n + 2) _ ss b1 b2 c1 (are 1 (omega arith)) (omega arith) e1)
    (next at (n + 2) (n + 3) _ ss b2 b3 c2 (are 2 (omega arith)) (omega arith) e2) (next at (n + 3) (n + 4) _ ss b3 b4 c3 (are 3 (omega arith)) (omega arith) e3)
    ∙ ap (λ m. take (at + sum_l (take m ss)) b0 ++ (c0 ++ (c1 ++ (c2 ++ c3)))) (omega arith)

-- twice four
pub two_fours : (at r b t : ℕ) (o0 o1 o2 c d : List ℕ) → take (at + b) o1 ≡ take (at + 0) o0 ++ c → take (at + t) o2 ≡ take (at + b) o1 ++ d → r ≡ t
    → take (at + r) o2 ≡ take at o0 ++ (c ++ d)
two_fours at r b t o0 o1 o2 c d e f same =
    let zero : at + 0 ≡ at = omega arith in
    ap (λ z. take (at + z) o2) same ∙ f ∙ ap (λ z. z ++ d) (e ∙ ap (λ z. take z o0 ++ c) zero) ∙ append_assoc (take at o0) c d

-- the bytes before the sixteen stay
pub front_stays : (room : ℕ) (out v : List ℕ) → length out ≡ room → 16 ≤ room → length v ≡ 16
    → take (room - 16) (put_chunk (room - 16) out v) ≡ take (room - 16) out
front_stays room out v size few long =
    let end = room - 16 in
    ap (take end) (put_chunk_is end out v (omega arith)) ∙ take_at (take end out) (v ++ drop (length v) (drop end out)) end (length-take-le end out (omega arith))

-- the sixteen bytes
pub end_stored : (room : ℕ) (out v : List ℕ) → length out ≡ room → 16 ≤ room → length v ≡ 16
    → drop (room - 16) (put_chunk (room - 16) out v) ≡ v
end_stored room out v size few long =
    let end = room - 16 in
    let rest = drop (length v) (drop end out) in
    let none : rest ≡ [] = drop_of_length-le (drop end out) (omega (arith, length-drop end out)) in
    ap (drop end) (put_chunk_is end out v (omega arith))
    ∙ drop_at (take end out) (v ++ rest) end (length-take-le end out (omega arith)) ∙ ap (λ z. v ++ z) none ∙ append-nil v
