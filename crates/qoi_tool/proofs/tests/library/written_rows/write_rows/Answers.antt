-- A row further.
use Rattle.std.proofs.Common.{◌≡◌, ◌++◌, [], length, sym, ap, ◌∙◌, append_assoc, append-nil, take-append-drop}
use Rattle.std.proofs.lemmas.Bool.{eqb-true}
use Rattle.std.proofs.lemmas.List.{nil_from_length}
use Rattle.qoi.specs.Encoded.{image_file}
use Rattle.qoi_tool.proofs.tests.library.written_rows.write_rows.Goals as goal

pub loop-rest-preserved : goal.loop-rest-preserved
loop-rest-preserved c =
    let i = c.loop-rest.invariant.taken in
    let rest = c.loop-rest.rest.now in
    let next = c.split_at.result.0.now in
    let after = c.split_at.result.1.now in
    let split : rest ≡ next ++ after = sym (take-append-drop c.min.result rest) ∙ (λ j. sym c.split_at.ensures.front j ++ sym c.split_at.ensures.back j) in
    record {
      taken = (i.0 ++ next, i.1 ∙ ap (λ z. i.0 ++ z) split ∙ sym (append_assoc i.0 next after), c.in_ok-write.ensures.taken _ _ i.2);
    }

pub returns : goal.returns
returns c =
    let i = c.loop-rest.invariant.taken in
    let rest = c.loop-rest.rest.now in
    let none : rest ≡ [] = nil_from_length rest (eqb-true (length rest) 0 (sym c.is_empty.ensures ∙ c.loop-rest-test.false)) in
    c.in_ok-file.ensures.file _ _ _ _ i.2 ∙ ap (image_file c.args.style c.args.header) (sym (i.1 ∙ ap (λ z. i.0 ++ z) none ∙ append-nil i.0))
