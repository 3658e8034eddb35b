-- What was sent is the file.
use Rattle.std.proofs.Common.{rules}
use Rattle.std.proofs.lemmas.Result.{MatchResult-weaker}
use Rattle.qoi.proofs.FileOf.{sends_file}
use Rattle.qoi.proofs.encoding.piece.StreamSent.{all_sent_to}
use Rattle.qoi.proofs.encode.Encoder.encode_to_stream.Goals as goal

pub returns-clause-sent : goal.returns-clause-sent
returns-clause-sent g c = let w = c.write_image.ensures in MatchResult-weaker c.write_image.result w.2 (λ n r.
    sends_file _ w.0 _ _ _ w.1 r.0 (all_sent_to g.W.Write.contents c.new-writer.ensures.value (λ same. search rules) r.1)) (λ _ _. tt)
