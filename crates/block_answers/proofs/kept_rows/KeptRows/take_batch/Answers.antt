use Rattle.std.proofs.Common.{◌∙◌, sym, map}
use Rattle.std.proofs.lemmas.Result.{on_ok_weaker}
use Rattle.definitions_execution.specs.OfBlock.{combination_of}
use Rattle.filters.specs.Sources.{block_in}
use Rattle.block_answers.proofs.KeptTaking.{stays_raised}
use Rattle.block_answers.proofs.NoLate.{more_taken}
use Rattle.block_answers.proofs.kept_rows.KeptRows.take_batch.Goals as goal

pub returns-then-is_some-clause-told : goal.returns-then-is_some-clause-told
returns-then-is_some-clause-told g c inner cs typed told =
    let s = c.args.source.now in
    let outer = g.A.OuterRows.combinations c.args.around.now in
    stays_raised s outer inner cs c.args.self.now.late c.args.self.now.rows (map (combination_of s.database (block_in s)) c.args.batch.now.items) (sym c.is_some.ensures ∙ c.if-is_some.true) told

pub returns-clause-told : goal.returns-clause-told
returns-clause-told g c =
    let s = c.args.source.now in
    let outer = g.A.OuterRows.combinations c.args.around.now in
    let quiet = sym c.is_some.ensures ∙ c.if-is_some.false in
    on_ok_weaker c.add_batch.result (λ grows inner cs typed told.
    more_taken s outer inner c.requires.none c.args.self.now.late c.args.self.now.rows c.add_batch.new.self cs (map (combination_of s.database (block_in s)) c.args.batch.now.items) quiet (grows cs typed) told) c.add_batch.ensures.told
