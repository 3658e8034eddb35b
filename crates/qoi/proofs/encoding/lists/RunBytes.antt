-- The bytes of a group's runs, after those written before.
use Rattle.std.proofs.Common.{nat_lt, lt-ltb, if◌then◌else◌, ◌==◌, append-nil, set, ◌≡◌, ℕ, zero, suc, ◌+◌, ◌-◌, ◌/◌, ◌%◌, ◌<◌, ◌≤◌, List, [], ◌∷◌, ◌++◌, length, take, drop, replicate, refl, sym, ap, ◌∙◌, arith, append_assoc}
use Rattle.std.proofs.lemmas.Grind.{flat_map-append}
use Rattle.std.proofs.lemmas.List.{take-set, take-replicate}
use Rattle.std.proofs.Math.Seq.{take-suc-set}
use borrow.Rule.Slice.PartMut.{put_mid}
use lib.Lanes.{put_chunk}
use mir.Val.{bool_byte}
use Rattle.qoi.specs.Qoi.{Chunk, Run, bytes_of, chunk_bytes}
use Rattle.qoi.specs.Runs.{last_by, runs_by}
use Rattle.qoi.proofs.format.LaneBytes.{bytes_put}
use Rattle.qoi.proofs.encoding.lists.GroupRuns.{not_one}

-- a group of fewer than 62 repeats has no full run
pub few_by : (c : Chunk) (n : ℕ) → n < 62 → runs_by c n ≡ last_by c n
unfolding runs_by
few_by c n few =
    let none : n / 62 ≡ 0 = omega arith in
    let all : n % 62 ≡ n = omega arith in
    rw (none, all) refl

-- the last run, after the bytes before
last_written : (c : Chunk) (one at count : ℕ) (out : List ℕ) → bytes_of c ≡ one ∷ [] → at < length out → count < 62
    → take (at + bool_byte (nat_lt 0 count)) (set out at (if count == 1 then one else 191 + count)) ≡ take at out ++ chunk_bytes (last_by c count)
last_written c one at zero out e l few =
    let same : at + 0 ≡ at = omega arith in
    ap (λ z. take z (set out at 191)) same ∙ take-set out at 191 ∙ sym (append-nil (take at out))
last_written c one at (suc zero) out e l few =
    let next : at + 1 ≡ suc at = omega arith in
    ap (λ z. take z (set out at one)) next ∙ take-suc-set out at one l ∙ ap (λ z. take at out ++ z) (sym e ∙ sym (append-nil (bytes_of c)))
last_written c one at (suc (suc n)) out e l few =
    let next : at + 1 ≡ suc at = omega arith in
    ap (λ b. take (at + bool_byte b) (set out at (if suc (suc n) == 1 then one else 191 + suc (suc n)))) (lt-ltb 0 (suc (suc n)) (omega arith))
    ∙ ap (λ z. take z (set out at (if suc (suc n) == 1 then one else 191 + suc (suc n)))) next
    ∙ ap (λ t. take (suc at) (set out at (if t then one else 191 + suc (suc n)))) (not_one n)
    ∙ take-suc-set out at (191 + suc (suc n)) l

-- a group of few repeats, after the bytes before
pub run_written : (c : Chunk) (one at count : ℕ) (out : List ℕ) → bytes_of c ≡ one ∷ [] → at < length out → count < 62
    → take (at + bool_byte (nat_lt 0 count)) (set out at (if count == 1 then one else 191 + count)) ≡ take at out ++ chunk_bytes (runs_by c count)
run_written c one at count out e l few =
    last_written c one at count out e l few ∙ ap (λ cs. take at out ++ chunk_bytes cs) (sym (few_by c count few))

-- the bytes of full runs
pub full_text : (k : ℕ) → chunk_bytes (replicate k (Run 62)) ≡ replicate k 253
full_text zero = refl
full_text (suc k) = ap (λ z. 253 ∷ z) (full_text k)

-- the bytes of full runs and of the remainder
runs_text : (c : Chunk) (n : ℕ) → chunk_bytes (runs_by c n) ≡ replicate (n / 62) 253 ++ chunk_bytes (runs_by c (n % 62))
unfolding runs_by
runs_text c n =
    flat_map-append bytes_of (replicate (n / 62) (Run 62)) (last_by c (n % 62)) ∙ ap (λ z. z ++ chunk_bytes (last_by c (n % 62))) (full_text (n / 62))
    ∙ ap (λ cs. replicate (n / 62) 253 ++ chunk_bytes cs) (sym (few_by c (n % 62) (omega arith)))

-- the bytes once sixteen full runs are stored
abbrev filled : ℕ → List ℕ → List ℕ
filled at out = put_mid at (at + 16 - at) out (put_chunk 0 (take (at + 16 - at) (drop at out)) (replicate 16 253))

-- the first of them
pub filled_front : (at k : ℕ) (out : List ℕ) → at + 17 ≤ length out → k ≤ 16 → take (at + k) (filled at out) ≡ take at out ++ replicate k 253
filled_front at k out room few =
    bytes_put 16 at k out (replicate 16 253) (omega arith) refl few ∙ ap (λ z. take at out ++ z) (take-replicate k 16 253 few)

-- full runs and the rest of a group, after the bytes before
pub runs_written : (c : Chunk) (count : ℕ) (old full new : List ℕ) → full ≡ old ++ chunk_bytes (replicate (count / 62) (Run 62))
    → new ≡ full ++ chunk_bytes (runs_by c (count % 62)) → new ≡ old ++ chunk_bytes (runs_by c count)
runs_written c count old full new f e =
    let rest = chunk_bytes (runs_by c (count % 62)) in
    e ∙ ap (λ z. z ++ rest) f ∙ append_assoc old (chunk_bytes (replicate (count / 62) (Run 62))) rest
    ∙ ap (λ z. old ++ z) (ap (λ z. z ++ rest) (full_text (count / 62)) ∙ sym (runs_text c count))
