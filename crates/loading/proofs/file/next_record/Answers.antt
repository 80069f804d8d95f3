use Rattle.loading.proofs.Reading.{read_more, with_error}
use Rattle.loading.proofs.file.next_record.Goals as goal

pub returns-clause-more : goal.returns-clause-more
returns-clause-more c =
    with_error c.read_byte_record.result c.map_err.result _ _ c.map_err.ensures.cases (read_more c.read_byte_record.result _ _ _ c.read_byte_record.ensures.reads c.read_byte_record.ensures.ready)
