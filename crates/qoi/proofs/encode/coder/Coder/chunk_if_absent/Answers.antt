-- Transparent black by the first position that holds it, or else as it is spelled out.
use Rattle.std.proofs.Common.{◌≢◌, sym, ◌∙◌}
use Rattle.std.proofs.lemmas.Bool.{true≢false}
use Rattle.qoi.specs.Qoi.{Place, seen, hash, blank}
use Rattle.qoi.proofs.encoding.coder.CoderTable.{place_bytes, spelled_out}
use Rattle.qoi.proofs.encoding.styles.TightChoice.{blank_chosen, spelled_chosen}
use Rattle.qoi.proofs.encode.coder.Coder.chunk_if_absent.Goals as goal

pub returns-in-Reference-clause-choice : goal.returns-in-Reference-clause-choice
returns-in-Reference-clause-choice g c = λ past alpha chunk holds is bytes first differs.
    (chunk, is, bytes, spelled_out c.args.self.now.style past c.args.px chunk c.in-Reference.is first differs)

pub returns-in-Some-clause-choice : goal.returns-in-Some-clause-choice
returns-in-Some-clause-choice g c = λ past alpha chunk holds is bytes first differs.
    let is_blank = c.is_same.ensures.0 c.if-is_same.true ∙ c.blank.ensures in
    let held = rw c.in-Tight.is at holds in
    let other : seen past (hash c.args.px) ≢ c.args.px = rw c.in-Tight.is at differs in
    let chosen = blank_chosen past c.args.px c.in-Some.index is_blank other (sym c.in-Some.is ∙ c.first_blank.ensures.first past held) in
    let below = c.in-Some.ensures.below in
    rw (c.in-Tight.is, c.from.ensures) (Place c.in-Some.index, below, place_bytes c.in-Some.index alpha below, chosen)

pub returns-in_default-clause-choice : goal.returns-in_default-clause-choice
returns-in_default-clause-choice g c = λ past alpha chunk holds is bytes first differs.
    let held = rw c.in-Tight.is at holds in
    let other : seen past (hash c.args.px) ≢ c.args.px = rw c.in-Tight.is at differs in
    rw c.in-Tight.is (chunk, is, bytes, spelled_chosen past c.args.px chunk other (λ b. sym c.in_default.is ∙ c.first_blank.ensures.first past held) first)

pub returns-else-is_same-clause-choice : goal.returns-else-is_same-clause-choice
returns-else-is_same-clause-choice g c = λ past alpha chunk holds is bytes first differs.
    let other : seen past (hash c.args.px) ≢ c.args.px = rw c.in-Tight.is at differs in
    let no : c.args.px ≢ blank = λ b. true≢false (sym (c.is_same.ensures.1 (b ∙ sym c.blank.ensures)) ∙ c.if-is_same.false) in
    rw c.in-Tight.is (chunk, is, bytes, spelled_chosen past c.args.px chunk other (λ b. absurd (no b)) first)
