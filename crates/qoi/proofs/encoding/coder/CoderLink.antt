-- A coder between two calls, what is carried between two blocks, and a piece that is sent.
use Rattle.std.proofs.Common.{◌≡◌, ◌≢◌, ◌⊎◌, inl, inr, ◌<◌, ◌≤◌, length, ℕ, true, List, [], ◌∷◌, Some, ◌++◌, refl, sym, ap, ◌∙◌, arith}
use Rattle.std.proofs.lemmas.Bool.{true≢false, true_from_ne_false}
use Rattle.std.specs.List.{slice_get}
use Rattle.qoi.specs.Styles.{Style, Tight}
use Rattle.qoi.specs.Qoi.{RgbaPixel}
use Rattle.qoi.specs.inner.BlockLoop.{IsCarried, GoesByBlocks, InBlocks, Carry}
use Rattle.qoi.specs.inner.Coder.{kept_bytes, CoderBetween, CoderPasses, Coder, LastPixel, Piece}
use Rattle.qoi.specs.inner.block.Planes.{last_pixel}
use Rattle.qoi.proofs.encoding.coder.CoderSteps.{over_sent, repeats_joined}

-- what stands first doesn't depend on what follows
pub first_more : (ps more : List RgbaPixel) → ps ≢ [] → slice_get (ps ++ more) 0 ≡ slice_get ps 0
first_more [] more some = absurd (some refl)
first_more (p ∷ ps) more some = refl

-- nor is there nothing
pub more_some : (ps more : List RgbaPixel) → ps ≢ [] → ps ++ more ≢ []
more_some [] more some = absurd (some refl)
more_some (p ∷ ps) more some = λ e. (let no : ◌≡◌ {A = List RgbaPixel} (p ∷ (ps ++ more)) [] = e in cc)

-- one step after another
pub then_passes : {N size : ℕ} {a b c : Coder N} {ta tb tc : List RgbaPixel} {pa pb pc : Piece size} {xs ys zs : List RgbaPixel}
    → CoderPasses a ta pa xs b tb pb ys → CoderPasses b tb pb ys c tc pc zs → CoderPasses a ta pa xs c tc pc zs
then_passes p q = record { style = q.style ∙ p.style; on = λ unsent more b. q.on unsent more (p.on unsent more b) }

-- a coder with this style and last pixel stands ahead of these
pub of_coder : {unsent kept : List ℕ} {rest table : List RgbaPixel} {s t : Style} {q l : LastPixel} → t ≡ s → l ≡ q
    → CoderBetween s unsent rest table q kept → CoderBetween t unsent rest table l kept
of_coder style last b = rw (style, last) b

module _ {N size : ℕ} {style : Style} {unsent : List ℕ} {pixels rest table table' : List RgbaPixel} {c c' : Coder N} {piece piece' : Piece size} where
  -- a coder keeps its style
  pub in_style : CoderPasses c table piece pixels c' table' piece' rest → c.style ≡ style → {last : LastPixel} → c.last ≡ last → (more : List RgbaPixel)
      → CoderBetween style unsent (pixels ++ more) table last (kept_bytes piece) → CoderBetween style unsent (rest ++ more) table' c'.last (kept_bytes piece')
  in_style p is last_is more b = of_coder (sym (p.style ∙ is)) refl (p.on unsent more (of_coder is last_is b))

module _ {N : ℕ} {style : Style} {unsent : List ℕ} {n : ℕ} {pixels more : List RgbaPixel} {table : List RgbaPixel} {carry : Carry N} {kept : List ℕ} where
  -- a fresh pixel came if the next one repeats the last
  pub begun_by_repeat : (b : InBlocks style unsent n pixels more table carry kept) → slice_get pixels 0 ≡ Some (last_pixel carry.before) → b.last.begun ≡ true
  begun_by_repeat b first = true_from_ne_false b.last.begun (λ no. (b.goes.opens no).1 (first ∙ ap Some b.is.px_is))

  -- in style Tight, or if fewer than n pixels are left, one came, and a coder can go on
  pub still_between : {last : LastPixel} → IsCarried last carry → last.begun ≡ true → (style ≡ Tight) ⊎ (length pixels < n)
      → InBlocks style unsent n pixels more table carry kept → CoderBetween style unsent (pixels ++ more) table last kept
  still_between is begun ends b =
      let came = true_from_ne_false b.last.begun (λ no. elim ends [
        | inl tight ↦ (b.goes.opens no).3 tight
        | inr few ↦ omega (arith, (b.goes.opens no).2, few)
      ]) in
      repeats_joined b.between 0 (pixels ++ more) refl (sym is.px_is ∙ b.is.px_is) (begun ∙ sym came) (sym is.named_is ∙ b.is.named_is)
      (omega (arith, is.count_is, b.is.count_is))

-- a fresh pixel came, and few repeats are to be written
pub goes_on : {style : Style} {last : LastPixel} {n : ℕ} {rest : List RgbaPixel} → last.begun ≡ true → (slice_get rest 0 ≡ Some last.px → last.repeats ≤ 45)
    → GoesByBlocks style last n rest
goes_on begun few = record { opens = λ no. absurd (true≢false (sym begun ∙ no)); few = few }

-- once the first bytes that are kept are gone, the same holds of the others
pub coder_sent : {style : Style} {unsent : List ℕ} {pixels : List RgbaPixel} {table : List RgbaPixel} {last : LastPixel} {kept : List ℕ}
    → CoderBetween style unsent pixels table last kept → (gone left : List ℕ) → kept ≡ gone ++ left
    → (later : List ℕ) × (unsent ≡ gone ++ later) × CoderBetween style later pixels table last left
coder_sent b gone left split =
    let sent = over_sent gone left split b.to_write in
    (sent.0, sent.1, record { past = b.past; before = b.before; to_write = sent.2; state = b.state })
