use Rattle.std.proofs.Common.{◌∙◌, inr}
use Rattle.loading.proofs.Reading.{fresh}
use Rattle.loading.proofs.file.reader_of.Goals as goal

pub returns : goal.returns
returns c =
    let made = c.from_reader.ensures in
    let built = c.flexible.ensures in
    let named = c.has_headers.ensures in
    fresh c.args.bytes.now c.from_reader.result (rw (built, named) at made.trim ∙ c.new.ensures.trim) (inr (inr (rw (built, named) at made.has_headers, made.headers))) (rw (built, named) at made.config ∙ c.new.ensures.config) made.source
    made.state
