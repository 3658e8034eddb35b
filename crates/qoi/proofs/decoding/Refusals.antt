-- What refusals exclude, and what is handed on of them.
use Rattle.std.proofs.Common.{◌≡◌, ℕ, List, Bool, true, false, Option, Some, Result, Err, MatchResult, IsErrAnd, ◌∙◌, ap}
use Rattle.std.proofs.lemmas.Result.{err_from_is_err_and}
use Rattle.qoi.specs.Qoi.{Error, UnexpectedBufferEnd, InvalidPadding, Chunk}
use Rattle.qoi.specs.Verdicts.{IsWhole}
use Rattle.qoi.specs.Decoding.{RefusesBytes, RefusesImage}
use Rattle.qoi.proofs.format.OneVerdict.{whole_not_cut, whole_not_wrong}

-- bytes whose verdict is whole are not refused
pub whole_not_refused : (n : ℕ) (bytes : List ℕ) (cs : List Chunk) (rest : List ℕ) (e : Error) → IsWhole n bytes cs rest → RefusesBytes n bytes e → ⊥
whole_not_refused n bytes cs rest UnexpectedBufferEnd whole (ds, part, cut) = whole_not_cut n bytes cs ds rest part whole cut
whole_not_refused n bytes cs rest InvalidPadding whole (after, wrong) = whole_not_wrong n bytes cs wrong.0 rest wrong.1 after whole wrong.2
whole_not_refused n bytes cs rest _ whole no_reason = no_reason

-- the same for a refusal of a reader whose bytes stand in memory
pub whole_not_refused_in : (in_memory : Bool) (n : ℕ) (bytes : List ℕ) (new : Option (List ℕ)) (e : Error) (cs : List Chunk) (rest : List ℕ) → in_memory ≡ true
    → IsWhole n bytes cs rest → RefusesImage in_memory n (Some bytes) new e → ⊥
whole_not_refused_in true n bytes new e cs rest memory whole refused = whole_not_refused n bytes cs rest e whole refused.1
whole_not_refused_in false n bytes new e cs rest memory whole refused = cc

-- what holds of the error that a `?` hands on holds of what is returned
pub handed_on : {T E : Type 0} (P : T → Type 0) (Q : E → Type 0) {e : E} (r : Result T E) → IsErrAnd r (λ y. y ≡ e) → Q e → MatchResult r P Q
handed_on P Q {e} r on is =
    let (y, err, same) = err_from_is_err_and r on in
    rw (err, same) is

-- and that is this error
pub handed_as : {T E : Type 0} {e d : E} (r : Result T E) → IsErrAnd r (λ y. y ≡ e) → e ≡ d → r ≡ Err d
handed_as r on is =
    let (y, err, same) = err_from_is_err_and r on in
    err ∙ ap Err (same ∙ is)
