-- They begin after twelve pixels.
use Rattle.std.proofs.Common.{◌≡◌, ℕ, ◌*◌, ◌+◌, ◌≤◌, List, map, take, drop, get_or, length, ap, ◌∙◌, arith, rules}
use Rattle.std.proofs.lemmas.List.{length-drop, drop-drop, get_or-drop}
use Rattle.qoi.specs.Raw.{pixels_of}
use Rattle.qoi.specs.inner.Packed.{word}
use Rattle.qoi.proofs.format.LaneWords.{late_four_of_3}
use Rattle.qoi.proofs.encode.block.reading.read_last_four.Goals as goal

pub bounds-late-0 : goal.bounds-late-0
bounds-late-0 g c =
    let enough : 16 ≤ length c.skip-late.result.now = omega (arith, ap length c.skip-late.ensures, length-drop 32 c.args.bytes.now, c.requires.channels, c.if-this-eq4.false, c.requires.enough) in
    search rules

pub returns : goal.returns
returns g c =
    let raw = c.args.bytes.now in
    let three : g.row.N ≡ 3 = omega (arith, c.requires.channels, c.if-this-eq4.false) in
    let index : 32 + 4 ≡ 12 * g.row.N = omega (arith, three) in
    let late = c.skip-late in
    record {
      lanes = late_four_of_3 g.row.N late.result.now three (λ i. omega (arith, c.type_inv.bytes (32 + i), get_or-drop 32 raw i 0, ap (λ z. get_or z i 0) late.ensures))
          (omega (arith, ap length late.ensures, length-drop 32 raw, three, c.requires.enough))
          ∙ ap (λ (x : List ℕ). map word (take 4 (pixels_of g.row.N x))) (ap (drop 4) late.ensures ∙ drop-drop 4 32 raw ∙ ap (λ k. drop k raw) index);
    }
