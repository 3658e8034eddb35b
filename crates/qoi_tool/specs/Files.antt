-- Files that stand one after the other.
use Rattle.std.specs.Prelude.{◌≡◌, ℕ, List, [], ◌∷◌}
use Rattle.qoi.specs.declared.header.Header.{Header}
use Rattle.qoi.specs.Decoding.{DecodesFile}

-- the bytes are files one after the other, to their end, and these are their images one by one
abbrev pub AreFiles : List ℕ → List (List ℕ) → Type 0
AreFiles bytes [] = bytes ≡ []
AreFiles bytes (raw ∷ images) = (h : Header) × (rest : List ℕ) × DecodesFile bytes h rest raw × AreFiles rest images
