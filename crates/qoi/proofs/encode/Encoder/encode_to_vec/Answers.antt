-- The vector is the one file of the image.
use Rattle.std.proofs.Common.{rules, ◌≡◌, ◌++◌, ap, ◌∙◌}
use Rattle.qoi.proofs.FileOf.{makes_file}
use Rattle.qoi.proofs.encode.Encoder.encode_to_vec.Goals as goal

pub returns-clause-encoded : goal.returns-clause-encoded
returns-clause-encoded c =
    let w = c.in_ok-write_image.ensures in
    let named = w.2.1.same_writer in
    let empty = c.new-writer.ensures.bytes ∙ c.in_ok-file.ensures.items in
    let appended = w.2.1.appended ∙ ap (λ z. z ++ w.0) empty in
    let all : c.shrink_to_fit.new.self.items ≡ w.0 = c.shrink_to_fit.ensures.items ∙ search rules in
    makes_file _ _ (rw all w.1)
