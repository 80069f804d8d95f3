use Rattle.std.proofs.Common.{◌∙◌, refl, ap, subst, [], ◌++◌, List, map}
use Rattle.definitions_execution.specs.OfBlock.{combination_of}
use Rattle.definitions_execution.specs.Stored.{Composite}
use Rattle.operators.specs.Running.{left_of}
use Rattle.scans.specs.Batches.{CompositeBatch}
use Rattle.filters.specs.Sources.{block_in}
use Rattle.block_answers.specs.KeptRows.{TellsKept}
use Rattle.block_answers.proofs.Taking.{all_typed}
use Rattle.executor.proofs.Batched.{batch_behind, last_split, next_split, none_left, none_there}
use Rattle.executor.proofs.alone.keep_batches.Goals as goal

pub batches-init : goal.batches-init
batches-init g c =
    let outer = g.A.OuterRows.combinations c.args.around.now in
    let next = c.next_batch in
    record {
      taken = ([], next.ensures.taken.0, λ inner before. before);
      none = none_left (left_of c.args.pipeline.now outer) next.new.batch.items (left_of next.new.self outer) next.ensures.taken;
      wide = next.ensures.wide ∙ ap (λ (b : CompositeBatch). b.width) c.in_ok-batch.ensures ∙ c.table_count.ensures.exact;
      well = c.requires.well;
      kind = refl;
      pipeline = next.ensures.well;
      width = next.ensures.width;
      opened = next.ensures.work;
      spent = next.ensures.spent;
    }

pub batches-preserved : goal.batches-preserved
batches-preserved g c =
    let source = c.args.ready.now.source in
    let outer = g.A.OuterRows.combinations c.args.around.now in
    let (done, split, told) = c.batches.invariant.taken in
    let given = c.batches.batch.items in
    let left = left_of c.batches.pipeline outer in
    let next = c.next_batch-in-batches in
    record {
      taken = (
        done ++ given,
        next_split (left_of c.args.pipeline.now outer) done given left next.new.batch.items (left_of next.new.self outer) split next.ensures.taken.0,
        λ inner before. subst (λ ds. TellsKept source outer inner ds c.take_batch.new.self) (batch_behind source outer [] done given)
            (c.in_ok-take_batch.ensures.told inner (map (combination_of source.database (block_in source)) done) (all_typed source outer c.requires.can.valid done) (told inner before)),
      );
      none = none_left left next.new.batch.items (left_of next.new.self outer) next.ensures.taken;
      wide = next.ensures.wide ∙ c.batches.invariant.wide;
      well = c.in_ok-take_batch.ensures.well;
      kind = c.take_batch.ensures.kind ∙ c.batches.invariant.kind;
      pipeline = next.ensures.well;
      width = next.ensures.width ∙ c.batches.invariant.width;
      opened = next.ensures.work ∙ c.batches.invariant.opened;
      spent = next.ensures.spent;
    }

pub returns-clause-told : goal.returns-clause-told
returns-clause-told g c = λ inner before.
    let source = c.args.ready.now.source in
    let outer = g.A.OuterRows.combinations c.args.around.now in
    let (done, split, told) = c.batches.invariant.taken in
    let given = c.batches.batch.items in
    let left = left_of c.batches.pipeline outer in
    let none = none_there given c.len.result c.len.ensures.exact c.batches-test.false in
    subst (λ (all : List Composite). TellsKept source outer inner (map (combination_of source.database (block_in source)) all) c.batches.rows)
    (last_split (left_of c.args.pipeline.now outer) done given left split none (c.batches.invariant.none none)) (told inner before)
