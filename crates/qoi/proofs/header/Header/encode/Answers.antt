-- A header's bytes.
use Rattle.std.proofs.Common.{◌∙◌, arith, ◌≡◌, ℕ, ◌+◌, ◌*◌, ◌/◌, ◌%◌, ◌<◌, List, [], ◌∷◌, take, map, ap}
use Rattle.std.specs.Int.{byte_at}
use lib.Lanes.{number_l, digits_l}
use Rattle.qoi.specs.Qoi.{Header, magic_number, channels_number, colorspace_number, header_bytes}
use Rattle.qoi.proofs.encoding.stores.Shuffles.{at, four_bytes}
use Rattle.qoi.proofs.header.Header.encode.Goals as goal

-- the second byte
byte_1 : (n : ℕ) → n / 256 % 256 ≡ byte_at 1 n
byte_1 n = omega arith

-- the third
byte_2 : (n : ℕ) → n / 256 / 256 % 256 ≡ byte_at 2 n
byte_2 n = omega arith

-- the highest
byte_3 : (n : ℕ) → n / 256 / 256 / 256 % 256 ≡ byte_at 3 n
byte_3 n = omega arith

-- the bytes in the order of a file
abbrev in_order : List ℕ → List ℕ
in_order v = take 14 (map (at v) (3 ∷ 2 ∷ 1 ∷ 0 ∷ 7 ∷ 6 ∷ 5 ∷ 4 ∷ 11 ∷ 10 ∷ 9 ∷ 8 ∷ 12 ∷ 13 ∷ 14 ∷ 15 ∷ []))

-- they are the header's
header_written : (h : Header) (c s : ℕ) → h.width < 4294967296 → h.height < 4294967296 → c < 256 → s < 256
    → c ≡ channels_number h.channels → s ≡ colorspace_number h.colorspace
    → in_order (digits_l 256 16 (number_l 4294967296 (magic_number ∷ h.width ∷ h.height ∷ (c + 256 * s) ∷ []))) ≡ header_bytes h
header_written h c s w g lc ls is_c is_s =
    let low : (c + 256 * s) % 256 ≡ c = omega arith in
    let next : (c + 256 * s) / 256 % 256 ≡ s = omega arith in
    ap in_order (four_bytes magic_number h.width h.height (c + 256 * s) (omega arith) w g (omega arith))
    ∙ (λ i. byte_at 3 magic_number ∷ byte_at 2 magic_number ∷ byte_at 1 magic_number ∷ byte_at 0 magic_number
    ∷ byte_3 h.width i ∷ byte_2 h.width i ∷ byte_1 h.width i ∷ byte_at 0 h.width
    ∷ byte_3 h.height i ∷ byte_2 h.height i ∷ byte_1 h.height i ∷ byte_at 0 h.height ∷ (low ∙ is_c) i ∷ (next ∙ is_s) i ∷ [])

pub returns : goal.returns
returns c =
    header_written c.args.self.now c.from-channels.result c.from-colorspace.result (omega (arith, c.fits-self)) (omega (arith, c.fits-self))
    (omega (arith, c.from-channels.ensures, c.as_u8.type_inv)) (omega (arith, c.from-colorspace.ensures, c.as_u8-2.type_inv))
    (c.from-channels.ensures ∙ c.as_u8.ensures) (c.from-colorspace.ensures ∙ c.as_u8-2.ensures)
