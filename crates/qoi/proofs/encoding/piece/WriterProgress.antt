-- A writer that writes the next part of what is left.
use Rattle.std.proofs.Common.{◌≡◌, ℕ, List, [], ◌++◌, refl, sym, ap, ◌∙◌, subst, append_assoc}
use Rattle.qoi.specs.Writers.{WroteBut, WroteBeginning}

-- two writings compose, the second by a relation of its own
abbrev pub Follows : {W : Type 0} → (W → List ℕ → W → Type 0) → (W → List ℕ → W → Type 0) → Type 0
Follows {W} wrote later = (a b c : W) (xs ys : List ℕ) → wrote a xs b → later b ys c → later a (xs ++ ys) c

module _ {W : Type 0} {wrote : W → List ℕ → W → Type 0} where
  -- nothing was written yet
  pub none_but : {a : W} {all : List ℕ} → wrote a [] a → WroteBut wrote a all all a
  none_but nothing = record { front = []; split = refl; went = nothing }

  -- and others follow
  pub but_more : {a b : W} {all rest : List ℕ} (ys : List ℕ) → WroteBut wrote a all rest b → WroteBut wrote a (all ++ ys) (rest ++ ys) b
  but_more {rest = rest} ys w = record { front = w.front; split = ap (λ z. z ++ ys) w.split ∙ append_assoc w.front rest ys; went = w.went }

  -- a beginning of the first of these bytes was written
  pub begins : {a b : W} {all front : List ℕ} (later : List ℕ) → all ≡ front ++ later → WroteBeginning wrote a front b → WroteBeginning wrote a all b
  begins {a} {b} later is some = (some.0 ++ later, subst (λ z. WroteBut wrote a z (some.0 ++ later) b) (sym is) (but_more later some.1))

  -- all that was left was written
  pub but_all : {later : W → List ℕ → W → Type 0} {a b c : W} {all rest : List ℕ} → Follows wrote later → WroteBut wrote a all rest b → later b rest c → later a all c
  but_all {later} {a} {b} {c} {rest = rest} follows w went = subst (λ z. later a z c) (sym w.split) (follows a b c w.front rest w.went went)

  module _ (both : Follows wrote wrote) where
    -- the next bytes were written
    pub but_on : {a b c : W} {all rest more : List ℕ} → WroteBut wrote a all rest b → WroteBut wrote b rest more c → WroteBut wrote a all more c
    but_on {a} {b} {c} {more = more} w v = record {
      front = w.front ++ v.front;
      split = w.split ∙ ap (λ z. w.front ++ z) v.split ∙ sym (append_assoc w.front v.front more);
      went = both a b c w.front v.front w.went v.went;
    }

    -- a beginning of bytes follows
    pub begins_after : Follows wrote (WroteBeginning wrote)
    begins_after a b c xs ys went some = (some.0, but_on (record { front = xs; split = refl; went = went }) some.1)
