-- The chunk is chosen by the table.
use Rattle.std.proofs.Common.{◌≡◌, inl, inr, ◌≢◌, ◌/◌, ◌^◌, refl, sym, ap, ◌∙◌, arith, subst, take, ◌++◌, [], ◌∷◌, if◌then◌else◌, true}
use lib.Lanes.{digits_l}
use Rattle.std.specs.List.{list_any}
use Rattle.qoi.specs.Qoi.{IsPixel, hash, seen}
use Rattle.qoi.specs.Styles.{Reference, Places, Tight}
use Rattle.qoi.specs.inner.Coder.{put_in, kept_bytes}
use Rattle.qoi.proofs.encoding.coder.CoderTable.{fresh_chosen, fresh_held}
use Rattle.qoi.proofs.encoding.coder.CoderSteps.{fresh_written}
use Rattle.qoi.proofs.encoding.lists.NotedPixels.{fresh_more}
use Rattle.qoi.proofs.encode.coder.Coder.write_fresh_pixel.Goals as goal
use Rattle.qoi.proofs.encode.coder.Coder.write_fresh_pixel.Goals.{in-Reference, in-Places}

pub returns-clause-written : goal.returns-clause-written
returns-clause-written g c unsent rest differs none b =
    let p = c.args.next.px in
    let style = c.args.self.now.style in
    let past = b.past in
    let state = b.state in
    let last : IsPixel c.args.self.now.last.px = subst IsPixel (sym state.last_is) b.to_write.before_is in
    let spells = c.spell_pixel-spelled.ensures.spelled last in
    let chunk = spells.0 in
    let spelled = spells.1 in
    let i = c.hash_index-index.result in
    let at_place : i ≡ hash p = c.hash_index-index.ensures.position in
    let same = c.is_same-stands.result in
    let held : c.at.result ≡ seen (put_in style past) i = c.at.ensures (put_in style past) state.table_is in
    let other = λ (n : seen (put_in style past) (hash p) ≢ p).
    c.chunk_if_absent-number.ensures.choice past p.a chunk state.table_is spelled.chunk spelled.bytes (spelled.first past (sym state.last_is)) n in
    let d = fresh_chosen style past p c.at.result i at_place held same p.a
    c.chunk_if_absent-number.result.0 c.chunk_if_absent-number.result.1 c.is_same-stands.ensures other in
    let new = λ (e : _). differs (e ∙ sym state.last_is) in
    let number_is = c.pick-number.ensures ∙ ap (λ n. if same then n else c.chunk_if_absent-number.result.0) c.from.ensures in
    let is : IsPixel p = c.number.ensures.bytes in
    let alpha : c.number.result / 2 ^ 24 ≡ p.a = omega (arith, is.r, is.g, is.b, is.a, c.number.ensures.number) in
    let kept = kept_bytes c.args.piece.now in
    let bytes = c.append_chunk.ensures.kept ∙ (λ j. kept ++ take (c.pick.ensures j) (digits_l 256 4 (number_is j) ++ alpha j ∷ []))
    ∙ ap (λ z. kept ++ z) d.2 in
    fresh_written b d.0 differs none d.1 d.3 bytes refl
    (record {
      table_is = fresh_held style past c.args.table.now c.put.new.self p new state.table_is c.put.ensures;
      last_is = refl;
      begun_is = sym (ap (list_any (λ p. true)) (fresh_more past p new));
      named_is = λ indices. elim c.match-self.branch [
        | in-Places w ↦ w.self-is ∙ d.4
        | in-Reference w ↦ absurd (elim w.in-Reference.is [
          | inl is ↦ (let no : Reference ≡ Places = sym is ∙ indices in cc)
          | inr is ↦ (let no : Tight ≡ Places = sym is ∙ indices in cc)
        ])
      ];
    })
