-- What the decoders' tables say of bytes, entry by entry.
use Rattle.std.proofs.Common.{◌≡◌, ℕ, ◌+◌, ◌-◌, ◌*◌, ◌/◌, ◌%◌, ◌<◌, ◌≤◌, ◌&&◌, true, cond, take, drop, get_or, eqb, nat_le, nat_lt, arith, refl}
use Rattle.std.proofs.lemmas.Bool.Decides.{nat_tests}
use Rattle.qoi.specs.inner.Filling.{IsAdvance}
use Rattle.qoi.specs.inner.Hashed.{step, IsAdded}
use Rattle.qoi.specs.declared.decode.deltas.TheConstants.{ADDED, BYTE_TABLES}
use Rattle.qoi.proofs.format.Entries.{pass, value_at}

-- first bytes of index positions add nothing
pub places_add_none : (b : ℕ) → b < 64 → get_or ADDED b 0 ≡ 0
places_add_none b high = value_at ADDED (λ b. 0) 0 0 64 b b (omega arith) refl (omega arith) high (omega arith)

-- the others
pub others_add : (b : ℕ) → b < 256 → IsAdded b (get_or ADDED b 0)
others_add b byte = record {
  diff = λ low high. value_at ADDED (λ b. step (b / 16 % 4 + 254) (b / 4 % 4 + 254) (b % 4 + 254)) 0 64 64 b b (omega arith) refl low high (omega arith);
  luma = λ low high. value_at ADDED (λ b. step (b % 64 + 216) (b % 64 + 224) (b % 64 + 216)) 0 128 64 b b (omega arith) refl low high (omega arith);
  run = λ low. value_at ADDED (λ b. 0) 0 192 64 b b (omega arith) refl low byte (omega arith);
}

-- an entry of the table that begins there
pub byte_value : (value : ℕ → ℕ) (begin from n b : ℕ) → pass (λ b x. eqb x (value b)) from (take n (drop (begin + from) BYTE_TABLES)) ≡ true
    → from ≤ b → b < from + n → begin + from + n ≤ 1280 → get_or BYTE_TABLES (begin + b) 0 ≡ value b
byte_value value begin from n b all low high within = value_at BYTE_TABLES value begin from n b (begin + b) refl all low high within

-- what the second byte of a luma adds
pub second_adds : (b : ℕ) → b < 256 → get_or BYTE_TABLES b 0 ≡ step (b / 16) 0 (b % 16)
second_adds b byte = value_at BYTE_TABLES (λ b. step (b / 16) 0 (b % 16)) 0 0 256 b b (omega arith) refl (omega arith) byte (omega arith)

-- how many pixels a chunk has, by its first byte
abbrev pub count_by : ℕ → ℕ
count_by b = cond (nat_le 192 b && nat_lt b 254) (b - 191) 1

-- so many bytes they have
pub advance_is : (c b x : ℕ) → x ≡ c * count_by b → IsAdvance c b x
advance_is c b x e =
    record { once = λ less. grind (arith, nat_tests); run = λ low high. grind (arith, nat_tests); full = λ more. grind (arith, nat_tests) }
