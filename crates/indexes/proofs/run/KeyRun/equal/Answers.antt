use Rattle.std.proofs.Common.{◌∙◌, sym, map}
use Rattle.definitions.specs.IndexRun.{begins_with}
use Rattle.sqlvalue.specs.Meaning.{value_of}
use Rattle.indexes.proofs.Parts.{part_is}
use Rattle.indexes.proofs.run.KeyRun.equal.Goals as goal

pub returns : goal.returns
returns c =
    let s = c.stretch.ensures in
    c.part.ensures ∙ sym (part_is (begins_with (map value_of c.args.values.now)) c.args.self.now.entries c.stretch.result.from c.stretch.result.to s.forward s.inside s.exact)
