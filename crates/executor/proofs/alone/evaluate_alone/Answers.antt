use Rattle.std.proofs.Common.{◌≡◌, ◌∙◌, sym, ap, subst, List, map}
use Rattle.definitions.specs.Queries.Answer.{block_answer}
use Rattle.definitions_answers.specs.Told.{Tells}
use Rattle.definitions_execution.specs.OfBlock.{combination_of}
use Rattle.definitions_execution.specs.Stored.{Composite}
use Rattle.filters.specs.Sources.{block_in}
use Rattle.operators.specs.Running.{left_of}
use Rattle.result_rows.specs.Stores.{StoreKind}
use Rattle.subqueries.specs.Telling.{told_in}
use Rattle.block_answers.specs.KeptRows.{asks_existence, TellsKept}
use Rattle.block_answers.specs.Ready as before
use Rattle.block_answers.specs.Telling.{context_with}
use Rattle.executor.proofs.alone.evaluate_alone.Goals as goal

pub keep_batches-requires-clause-well : goal.keep_batches-requires-clause-well
keep_batches-requires-clause-well g c =
    let (blocks, number, ready) = c.requires.ready in
    c.in_ok-rows.ensures.well c.args.ready.now.source (g.A.OuterRows.combinations c.args.around.now) (sym ready.block)

pub returns-clause-told : goal.returns-clause-told
returns-clause-told g c = λ inner.
    let (blocks, number, ready) = c.requires.ready in
    let r = c.args.ready.now in
    let outer = g.A.OuterRows.combinations c.args.around.now in
    let rows = c.keep_batches.new.rows in
    let all : List Composite = left_of c.in_ok-pipeline.pipeline outer in
    let given : before.AreReady r.source outer all =
    record { answerable = ready.answerable; valid = ready.valid; surrounded = c.requires.surrounded; arranged = c.in_ok-pipeline.ensures.arranged; ordered = c.in_ok-pipeline.ensures.required ready.required } in
    let kept : TellsKept r.source outer inner (map (combination_of r.source.database (block_in r.source)) all) rows = c.in_ok-keep_batches.ensures.told inner (c.in_ok-rows.ensures.told r.source outer inner (sym ready.block)) in
    let asks : asks_existence rows ≡ c.args.existence = ap (λ (k : StoreKind). k.existence) (c.keep_batches.ensures.kind ∙ c.in_ok-rows.ensures.kind) in
    subst (λ e. Tells e (block_answer (context_with r.source outer inner) (block_in r.source)) (told_in c.in_ok-told.told)) asks (c.in_ok-told.ensures inner all given kept)
