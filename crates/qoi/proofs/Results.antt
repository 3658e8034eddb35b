-- Facts on results.
use Rattle.std.proofs.Common.{Result, Ok, Err, IfErr, OnErr, MatchResult}

-- what holds, holds if a result is an error
pub on_err : {T E P : Type 0} (r : Result T E) → P → OnErr r P
on_err (Ok x) p = tt
on_err (Err e) p = p

-- the same of each error
pub if_err : {T E : Type 0} {P : E → Type 0} (r : Result T E) → ((e : E) → P e) → IfErr r P
if_err (Ok x) p = tt
if_err (Err e) p = p e

-- what two facts of a result give
pub from_both : {T E : Type 0} {P P' P'' : T → Type 0} {Q Q' Q'' : E → Type 0} (r : Result T E) → MatchResult r P Q → MatchResult r P' Q'
    → ((x : T) → P x → P' x → P'' x) → ((e : E) → Q e → Q' e → Q'' e) → MatchResult r P'' Q''
from_both (Ok x) p q ok err = ok x p q
from_both (Err e) p q ok err = err e p q
