-- Each kind of chunk, by its first byte.
use Rattle.std.proofs.Common.{◌≡◌, ◌+◌, ◌<◌, ◌≤◌, get_or, arith, rules, refl, subst, nat_le, nat_lt, ◌&&◌}
use Rattle.std.proofs.lemmas.Bool.Decides.{nat_tests}
use Rattle.qoi.specs.Qoi.{AreBytes}
use Rattle.qoi.specs.inner.Hashed.{pixel_of_lanes}
use Rattle.qoi.specs.inner.Filling.{reached, filling}
use Rattle.qoi.proofs.decoding.FirstChunk.{PutsCopies, size_of, decodes_short, decodes_full}
use Rattle.qoi.proofs.decode.one_chunk.decode_chunk.Goals.{then-b1-lt-QOI_OP_RGB, else-b1-lt-QOI_OP_RGB, in-192-to-253, in_default, in_default-2}
use Rattle.qoi.proofs.decode.one_chunk.decode_chunk.Goals as goal

pub returns-clause-decodes : goal.returns-clause-decodes
returns-clause-decodes g c =
    let bytes = c.args.bytes.now in
    let old = filling c.args.table.now c.args.from c.args.out.now in
    let new = filling c.put.new.self (reached c.if-b1-lt-QOI_OP_RGB.last.0 c.fill-at.result) c.fill-at.new.out in
    let first = get_or bytes 0 0 in
    let count = c.if-b1-lt192.count in
    let times : (first < 192 → count ≡ 1) × (192 ≤ first → first < 254 → count + 191 ≡ first) × (254 ≤ first → count ≡ 1) = elim c.if-b1-lt192.branch [
      | in-192-to-253 w ↦ (λ l. omega arith, λ l h. omega arith, λ l. omega arith)
      | in_default w ↦ (λ l. omega arith, λ l h. omega arith, λ l. omega arith)
      | in_default-2 w ↦ (λ l. omega arith, λ l h. omega arith, λ l. omega arith)
    ] in
    let fits : AreBytes bytes = λ i. omega (arith, c.type_inv.bytes i) in
    let copies : PutsCopies g.row.F g.row.N _ count old new = record { last_is = refl; table = c.put.ensures; filled = c.fill-at.ensures.filled } in
    elim c.if-b1-lt-QOI_OP_RGB.branch [
      | then-b1-lt-QOI_OP_RGB w ↦
          let taken : c.if-b1-lt-QOI_OP_RGB.last.1 ≡ w.from-size.result + 1 = search rules in
          let px : c.if-b1-lt-QOI_OP_RGB.last.0 ≡ w.after_short.result = search rules in
          let luma : w.is_luma.result ≡ (nat_le 128 first && nat_lt first 192) = w.is_luma.ensures in
          let below : first < 254 = search rules in
          decodes_short {old = old} {new = new} bytes first (get_or bytes 1 0) c.if-b1-lt-QOI_OP_RGB.last.1 count (omega (arith, c.requires.long)) refl refl below (fits 1)
          (size_of first _ w.from-size.result w.is_luma.result luma w.from-size.ensures taken) times.0 (λ l. times.1 l below) (rw px w.after_short.ensures) copies
      | else-b1-lt-QOI_OP_RGB w ↦
          let px : c.if-b1-lt-QOI_OP_RGB.last.0 ≡ w.after_full.result = search rules in
          let full : 254 ≤ first = omega (arith, w.if-b1-lt-QOI_OP_RGB.false) in
          let one = subst (λ k. PutsCopies g.row.F g.row.N (pixel_of_lanes c.if-b1-lt-QOI_OP_RGB.last.0) k old new) (times.2 full) copies in
          decodes_full {old = old} {new = new} bytes first c.if-b1-lt-QOI_OP_RGB.last.1 (omega (arith, c.requires.long)) fits refl full (λ is. grind (arith, nat_tests)) (λ is. grind (arith, nat_tests))
          (rw px w.after_full.ensures) one
    ]
