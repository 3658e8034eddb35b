-- Kept bytes that are sent to a writer: a full piece, and then those after it.
use Rattle.std.proofs.Common.{◌≡◌, ℕ, ◌+◌, ◌-◌, ◌≤◌, List, ◌++◌, length, take, drop, sym, ap, ◌∙◌, take-append-drop, arith}
use Rattle.std.specs.List.{copy_within}
use Rattle.std.proofs.lemmas.List.{drop-take, length-drop, length-take-le, take-append-le, take-take}
use Rattle.std.proofs.lemmas.List.Edits.{paste_all}
use Rattle.qoi.specs.inner.Coder.{kept_bytes, Piece}
use Rattle.qoi.specs.Writers.{WroteBut, WroteBeginning}
use Rattle.qoi.proofs.encoding.piece.WriterProgress.{begins}

-- as many bytes are kept as the piece says
pub kept_length : {size : ℕ} (s : Piece size) → length (kept_bytes s) ≡ s.end
kept_length s = length-take-le s.end s.bytes.now (omega (arith, s.within, s.room))

-- the bytes after a full piece, copied to the front
pub moved_front : (xs : List ℕ) (piece room end : ℕ) → length xs ≡ room → piece ≤ end → end ≤ room
    → take (end - piece) (copy_within xs piece room 0) ≡ drop piece (take end xs)
moved_front xs piece room end size full within =
    let after : length (drop piece xs) ≡ room - piece = omega (arith, length-drop piece xs) in
    ap (take (end - piece)) (paste_all xs 0 (drop piece xs) (room - piece) (sym after))
    ∙ take-append-le (end - piece) (drop piece xs) (drop (0 + (room - piece)) xs) (omega arith)
    ∙ sym (drop-take piece (end - piece) xs) ∙ ap (λ n. drop piece (take n xs)) (omega arith)

module _ {W : Type 0} {wrote : W → List ℕ → W → Type 0} where
  -- the kept bytes were sent as far as a full piece
  pub sent_but : {size : ℕ} (a b : W) (old new : Piece size) (piece : ℕ) → wrote a (take piece (kept_bytes old)) b → kept_bytes new ≡ drop piece (kept_bytes old)
      → WroteBut wrote a (kept_bytes old) (kept_bytes new) b
  sent_but a b old new piece went kept = record {
    front = take piece (kept_bytes old);
    split = sym (take-append-drop piece (kept_bytes old)) ∙ ap (λ z. take piece (kept_bytes old) ++ z) (sym kept);
    went = went;
  }

  -- a beginning of the first ones is one of all
  pub part_of_all : {a b : W} (n : ℕ) (all : List ℕ) → WroteBeginning wrote a (take n all) b → WroteBeginning wrote a all b
  part_of_all n all = begins (drop n all) (sym (take-append-drop n all))

  -- a full piece was sent, and the bytes after it stand at the front
  pub front_sent : (a b : W) (old new : List ℕ) (piece size end : ℕ) → length old ≡ size → piece ≤ end → end ≤ size → wrote a (take piece old) b
      → new ≡ copy_within old piece size 0 → WroteBut wrote a (take end old) (take (end - piece) new) b
  front_sent a b old new piece size end long full within went moved = record {
    front = take piece old;
    split = sym (take-append-drop piece (take end old))
        ∙ (λ i. take-take piece end old full i ++ sym (ap (take (end - piece)) moved ∙ moved_front old piece size end long full within) i);
    went = went;
  }
