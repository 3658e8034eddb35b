-- More of the file's image is read, or it is refused.
use Rattle.std.proofs.Common.{Some}
use Rattle.qoi.proofs.decoding.RowIndexes.{reads_more, refused_file, never_refused}
use Rattle.qoi.proofs.decode.pixel_reader.row_index.skip_to.Goals as goal

pub returns-clause-file : goal.returns-clause-file
returns-clause-file c channels h file reads = reads_more channels h file _ _ _ c.skip_bytes.result reads c.skip_bytes.ensures.skipped

pub returns-clause-refused : goal.returns-clause-refused
returns-clause-refused c channels h file reads = refused_file channels h file _ _ (Some c.skip_bytes.new.self.reader) c.skip_bytes.result c.skip_bytes.ensures.refused reads

pub returns-clause-accepts : goal.returns-clause-accepts
returns-clause-accepts c channels h file reads whole =
    never_refused channels h file _ _ (Some c.skip_bytes.new.self.reader) c.skip_bytes.result c.skip_bytes.ensures.refused reads whole
