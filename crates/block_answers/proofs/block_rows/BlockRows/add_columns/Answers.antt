use Rattle.std.proofs.Common.{◌≡◌, ◌∙◌, ◌++◌, sym, ap, subst}
use Rattle.std.specs.List.{AllByRecursion}
use Rattle.std.proofs.lemmas.Result.{IfOk-weaker}
use Rattle.query_tree.specs.Bound.{block_of}
use Rattle.filters.specs.Sources.{block_in}
use Rattle.result_lines.specs.Batches.{GivesColumnOf}
use Rattle.result_lines.specs.RowAt.{items_of}
use Rattle.block_answers.specs.BlockRows.{TellsOf}
use Rattle.block_answers.specs.Runs.{between, combinations_at}
use Rattle.block_answers.specs.declared.block_rows.BlockRows.TheVariants as rows
use Rattle.block_answers.proofs.PlainBatch.{plain_batch, whole}
use Rattle.block_answers.proofs.block_rows.BlockRows.add_columns.Goals as goal

pub returns-in-Plain-clause-told : goal.returns-in-Plain-clause-told
returns-in-Plain-clause-told g c =
    let s = c.args.source.now in
    let outer = g.A.OuterRows.combinations c.args.around.now in
    let items = c.deref-in-Plain.result.now in
    let width = c.width.result in
    let own : items_of items ≡ (block_in s).items = ap items_of c.deref-in-Plain.ensures.value ∙ ap (λ b. (block_of b).items) c.requires.block in
    let columns : AllByRecursion (GivesColumnOf width) (items_of items) =
    subst (λ is. AllByRecursion (GivesColumnOf width) (items_of is)) (c.deref.ensures.value ∙ sym c.deref-in-Plain.ensures.value) (c.are_columns_of.ensures c.if-are_columns_of.true) in
    let all = ap (combinations_at s outer) (whole c.len.result c.args.batch.now.items c.len.ensures.exact) in
    let more = combinations_at s outer (between 0 c.len.result c.args.batch.now.items) in
    IfOk-weaker c.add_batch.result _ _
    (λ taken told is cs before.
    subst (λ ds. TellsOf s outer (cs ++ ds) (rows.Plain c.add_batch.new.self)) all
    (plain_batch s outer width (items_of items) own columns more c.in-Plain.rows c.add_batch.new.self (told is) cs (rw c.in-Plain.is at before)))
    c.add_batch.ensures.told
