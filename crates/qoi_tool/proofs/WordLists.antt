-- Lists of words, by their bytes.
use Rattle.std.proofs.Common.{◌≡◌, ℕ, ◌+◌, ◌<◌, List, ◌∷◌, length, drop, map, get_or, String, sym, ap, ◌∙◌}
use Rattle.std.proofs.lemmas.List.{at_drop_more}
use Rattle.std.specs.String.{string_bytes}

-- the words from i on: a word whose bytes are known, and the words after it
pub word_before : {Z : Type 0} (words : List (String Z)) (i : ℕ) (a : String Z) (xs : List ℕ) (rest : List (List ℕ)) → i < length words
    → a ≡ get_or words i a → string_bytes a ≡ xs → map string_bytes (drop (i + 1) words) ≡ rest → map string_bytes (drop i words) ≡ xs ∷ rest
word_before words i a xs rest within is_a e_a after =
    at_drop_more (map string_bytes) words i a within
    ∙ ap (λ z. string_bytes z ∷ map string_bytes (drop (i + 1) words)) (sym is_a)
    ∙ ap (λ z. z ∷ map string_bytes (drop (i + 1) words)) e_a ∙ ap (λ z. xs ∷ z) after
