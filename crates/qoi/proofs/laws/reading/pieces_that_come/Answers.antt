-- A piece behind a front of a list.
use Rattle.std.proofs.Common.{◌≡◌, ◌<◌, ◌≤◌, ℕ, List, ◌++◌, length, take, drop, get_or, sym, ap, ◌∙◌, arith, get_or-drop, get_or-take, take-take, length-take, take-add}
use Rattle.qoi.proofs.laws.reading.pieces_that_come.Goals as goal

-- fewer bytes of a piece are as many behind what was read
piece_front : (image given buf : List ℕ) (size k : ℕ) → take size buf ≡ take size (drop (length given) image) → k ≤ size
    → take k (drop (length given) image) ≡ take k (take size buf)
piece_front image given buf size k is below = sym (take-take k size (drop (length given) image) below) ∙ ap (take k) (sym is)

pub returns-clause-byte : goal.returns-clause-byte
returns-clause-byte c = λ image given buf size k is below.
    let within : k < size = omega (arith, below, length-take size buf) in
    sym (get_or-drop (length given) image k 0) ∙ sym (get_or-take size (drop (length given) image) k 0 within)
    ∙ ap (λ l. get_or l k 0) (sym is)

pub returns-clause-before : goal.returns-clause-before
returns-clause-before c = λ one other given here there size k front same is are fronts below.
    let within : k ≤ size = omega (arith, below, length-take size here) in
    take-add (length given) k one
    ∙ (λ i. sym front i ++ piece_front one given here size k is within i)
    ∙ ap (λ l. given ++ l) fronts
    ∙ (λ i. same i ++ sym (piece_front other given there size k are within) i)
    ∙ sym (take-add (length given) k other)
