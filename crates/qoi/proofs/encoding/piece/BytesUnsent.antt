-- The bytes that a coder hasn't sent, as they go through a piece to a writer.
use Rattle.std.proofs.Common.{◌≡◌, inl, inr, ℕ, ◌+◌, ◌%◌, ◌<◌, ◌≤◌, List, [], ◌++◌, length, refl, sym, ap, ◌∙◌, subst, arith, length-append, append_assoc, append-nil}
use Rattle.qoi.specs.Qoi.{channels_number, marker_size, end_marker}
use Rattle.qoi.specs.Writers.{WroteBut, WroteBeginning}
use Rattle.qoi.specs.inner.Sending.{pixel_size, EndsOpaque, Between, CoderGoes, AreNextPixels, GoesOn, BreaksOff, Ends, IsReady, ImageState}
use Rattle.qoi.proofs.format.WholePixels.{by_channels}
use Rattle.qoi.proofs.decoding.ImageSize.{channels_are}
use Rattle.qoi.proofs.encoding.coder.CoderLink.{coder_sent}
use Rattle.qoi.proofs.encoding.piece.WriterProgress.{Follows, none_but, but_on, but_all, but_more, begins}

-- if no raw bytes follow
pub none_follow : (p : ImageState) (raw : List ℕ) {unsent kept : List ℕ} → Between unsent p kept raw → Between unsent p kept (raw ++ [])
none_follow p raw {unsent} {kept} s = subst (Between unsent p kept) (sym (append-nil raw)) s

module _ {W : Type 0} {wrote : W → List ℕ → W → Type 0} {a b : W} {p q : ImageState} {kept kept' raw raw' : List ℕ}
    (both : Follows wrote wrote) (g : GoesOn wrote a p kept raw b q kept' raw') where
  -- it went on, and goes on
  pub then_on : {c : W} {r : ImageState} {kept'' raw'' : List ℕ} → GoesOn wrote b q kept' raw' c r kept'' raw'' → GoesOn wrote a p kept raw c r kept'' raw''
  then_on h = record {
    opaque = h.opaque;
    part = h.part ∙ g.part;
    on = λ unsent more s. (let u = g.on unsent more s in let v = h.on u.0 more u.2 in (v.0, but_on both u.1 v.1, v.2));
  }

  -- or breaks off
  pub then_breaks : {c : W} → BreaksOff wrote b q kept' raw' c → BreaksOff wrote a p kept raw c
  then_breaks h = record { off = λ unsent more s. (let u = g.on unsent more s in let v = h.off u.0 more u.2 in (v.0, but_on both u.1 v.1)) }

  -- or ends
  pub then_ends : {R : W → List ℕ → W → Type 0} {c : W} → Follows wrote R → Ends R b q kept' raw' c → Ends R a p kept raw c
  then_ends {R} {c} follows h = record {
    all = λ unsent s.
        (let u = g.on unsent [] (none_follow p raw s) in
        but_all follows (but_more end_marker u.1) (h.all u.0 (subst (Between u.0 q kept') (append-nil raw') u.2)));
  }

-- the coder stands still
pub stands : {p : ImageState} {kept raw : List ℕ} → CoderGoes p kept raw p kept raw
stands = record { on = λ unsent more s. s }

-- nothing came
pub stays : {W : Type 0} {wrote : W → List ℕ → W → Type 0} {a : W} {p : ImageState} {kept raw : List ℕ} → wrote a [] a → EndsOpaque p → GoesOn wrote a p kept raw a p kept raw
stays nothing opaque = record { opaque = opaque; part = refl; on = λ unsent more s. (unsent, none_but nothing, s) }

module _ {W : Type 0} {wrote : W → List ℕ → W → Type 0} {a b : W} {p : ImageState} {kept raw : List ℕ} where
  -- to break off is to end early
  pub ends_early : BreaksOff wrote a p kept raw b → Ends (WroteBeginning wrote) a p kept raw b
  ends_early h = record { all = λ unsent s. (let u = h.off unsent [] (none_follow p raw s) in (u.0 ++ end_marker, but_more end_marker u.1)) }

  module _ {q : ImageState} {kept1 raw' : List ℕ} (goes : CoderGoes p kept raw q kept1 raw') where
    -- the first bytes that are kept were sent
    pub sent_on : {kept2 : List ℕ} → EndsOpaque q → length raw' % pixel_size q ≡ length raw % pixel_size p → WroteBut wrote a kept1 kept2 b
        → GoesOn wrote a p kept raw b q kept2 raw'
    sent_on {kept2} opaque part w = record {
      opaque = opaque;
      part = part;
      on = λ unsent more s.
          (let t = coder_sent (goes.on unsent more s) w.front kept2 w.split in (t.0, record { front = w.front; split = t.1; went = w.went }, t.2));
    }

    -- a beginning of them was
    pub sent_part : WroteBeginning wrote a kept1 b → BreaksOff wrote a p kept raw b
    sent_part some = record {
      off = λ unsent more s.
          (let t = coder_sent (goes.on unsent more s) kept1 [] (sym (append-nil kept1)) in begins t.0 t.1 some);
    }

  -- at the end all that is unsent is kept
  pub all_sent : {all : List ℕ} → ((unsent : List ℕ) → Between unsent p kept raw → unsent ≡ all) → wrote a (all ++ end_marker) b → Ends wrote a p kept raw b
  all_sent ends went = record { all = λ unsent s. subst (λ z. wrote a (z ++ end_marker) b) (sym (ends unsent s)) went }

-- bytes that follow both
with_after : (p q : ImageState) (front left after : List ℕ) → q.channels ≡ p.channels → length left % pixel_size q ≡ length front % pixel_size p
    → length (left ++ after) % pixel_size q ≡ length (front ++ after) % pixel_size p
with_after p q front left after same e =
    let m = length front in
    let n = length left in
    let k = length after in
    let sum = by_channels (λ c. n % c ≡ m % c → (n + k) % c ≡ (m + k) % c) (channels_are p.channels (pixel_size p) refl)
    (λ h. omega arith) (λ h. omega arith) (ap (λ c. n % channels_number c) (sym same) ∙ e) in
    (λ i. length-append left after i % channels_number (same i)) ∙ sum ∙ ap (λ z. z % pixel_size p) (sym (length-append front after))

-- those that stand in front of others
in_front : (p : ImageState) (front after all more : List ℕ) {unsent kept : List ℕ} → all ≡ front ++ after → Between unsent p kept (all ++ more)
    → Between unsent p kept (front ++ (after ++ more))
in_front p front after all more {unsent} {kept} is s = subst (Between unsent p kept) (ap (λ z. z ++ more) is ∙ append_assoc front after more) s

module _ {W : Type 0} {wrote : W → List ℕ → W → Type 0} {a b : W} {p : ImageState} {kept front all : List ℕ} (after : List ℕ) where
  -- if other raw bytes follow at once
  pub goes_within : {q : ImageState} {kept' left all' : List ℕ} → q.channels ≡ p.channels → GoesOn wrote a p kept front b q kept' left
      → all ≡ front ++ after → all' ≡ left ++ after → GoesOn wrote a p kept all b q kept' all'
  goes_within {q} {kept'} {left} same g is left_is = record {
    opaque = g.opaque;
    part = rw (is, left_is) (with_after p q front left after same g.part);
    on = λ unsent more s.
        (let u = g.on unsent (after ++ more) (in_front p front after all more is s) in
        (u.0, u.1, subst (Between u.0 q kept') (sym (ap (λ z. z ++ more) left_is ∙ append_assoc left after more)) u.2));
  }

  -- and for a fault
  pub breaks_within : BreaksOff wrote a p kept front b → all ≡ front ++ after → BreaksOff wrote a p kept all b
  breaks_within h is = record { off = λ unsent more s. h.off unsent (after ++ more) (in_front p front after all more is s) }

-- what is unsent after the coder went on
pub goes_to : {p q : ImageState} {kept kept' raw raw' : List ℕ} → CoderGoes p kept raw q kept' raw' → (unsent : List ℕ) → Between unsent p kept raw
    → Between unsent q kept' raw'
goes_to {p} {q} {kept} {kept'} {raw} {raw'} goes unsent s = subst (Between unsent q kept') (append-nil raw') (goes.on unsent [] (none_follow p raw s))

module _ {free size : ℕ} {p : ImageState} {kept raw : List ℕ} (has : IsReady free size p kept raw) where
  -- there is room for the bytes that are kept after the coder went on
  pub room_kept : {q : ImageState} {kept' raw' : List ℕ} → CoderGoes p kept raw q kept' raw' → length kept' ≤ size → length kept' ≤ free
  room_kept {q} {kept'} {raw'} goes within = elim has.enough [
    | inl some ↦ (let t = coder_sent (goes_to goes some.0 some.1) kept' [] (sym (append-nil kept')) in
        omega (arith, ap length t.1, length-append kept' t.0, some.2))
    | inr many ↦ omega (arith, within, many.0, many.1)
  ]

  -- the others can be written, once some are sent
  pub still_ready : {q : ImageState} {kept1 kept2 raw' : List ℕ} {left : ℕ} (front : List ℕ) → CoderGoes p kept raw q kept1 raw' → length kept1 ≤ size
      → kept1 ≡ front ++ kept2 → left + length front ≡ free → length raw' < length raw → AreNextPixels q raw' → IsReady left size q kept2 raw'
  still_ready {q} {kept1} {kept2} {raw'} {left} front goes within split counted less whole = record {
    whole = whole;
    large = has.large;
    enough = elim has.enough [
      | inl some ↦ (let t = coder_sent (goes_to goes some.0 some.1) front kept2 split in
          inl (t.0, t.2, omega (arith, ap length t.1, length-append front t.0, some.2, counted)))
      | inr many ↦ inr (many.0, omega (arith, within, ap length split, length-append front kept2, counted, less, many.0, many.1))
    ];
  }

  -- at the end there is room for the end marker
  pub room_end : {all : List ℕ} → ((unsent : List ℕ) → Between unsent p kept raw → unsent ≡ all) → length all + marker_size ≤ size
      → length all + marker_size ≤ free
  room_end ends within = elim has.enough [
    | inl some ↦ omega (arith, ap length (ends some.0 some.1), some.2)
    | inr many ↦ omega (arith, within, many.0, many.1)
  ]
